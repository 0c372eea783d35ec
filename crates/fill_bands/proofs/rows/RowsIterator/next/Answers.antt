use Rattle.std.proofs.Common.{◌≡◌, ◌<ℤ◌, rules}
use Rattle.std.specs.Int.{int_min}
use Rattle.fill_base.proofs.Signed.{read_is}
use Rattle.fill_bands.specs.Bands.{next_bottom}
use Rattle.fill_bands.proofs.RowSteps.{IsRowEnd, still_below, not_below, next_line, row_end, row_passed, row_squares, nothing_left, no_lines_left}
use Rattle.fill_bands.proofs.rows.RowsIterator.next.Goals as goal
use Rattle.fill_bands.proofs.rows.RowsIterator.next.Goals.{then-self-via-then-self, then-self-via-else-self+then-self-2}

pub returns-then-self-clause-steps : goal.returns-then-self-clause-steps
returns-then-self-clause-steps c = elim c.then-self.branch [
  | then-self-via-then-self w ↦ rw (← c.self.view_is) (record { empty = no_lines_left c.self.inside.bands.now c.self.inside.from c.self.inside.top (not_below c.self.inside.bands.now _ _ c.self.inside.next c.self.invariant w.if-self.true); stays = search rules })
  | then-self-via-else-self+then-self-2 w ↦ rw (← c.self.view_is) (record { empty = nothing_left c.self.inside.bands.now c.self.inside.from c.self.inside.top c.self.inside.next c.self.invariant (still_below c.self.inside.bands.now _ _ c.self.inside.next c.self.invariant w.if-self.false) w.if-self-2.true; stays = search rules })
]

line : (c : goal.After-self-2-1) → c.min-top.result ≡ int_min c.self.inside.top (next_bottom c.self.inside.bands.now c.self.inside.next)
line c = next_line c.self.inside.bands.now c.self.inside.from c.self.inside.top c.bottom_at.result c.from.result c.min-top.result c.self.inside.next c.self.invariant c.bottom_at.ensures c.from.ensures c.min-top.ensures.value

below : (c : goal.After-self-2-1) → c.self.inside.from <ℤ c.self.inside.top
below c = still_below c.self.inside.bands.now _ _ c.self.inside.next c.self.invariant c.if-self.false

end : (c : goal.After-self-2-1) → IsRowEnd c.self.inside.from c.self.inside.top c.min-top.result
end c = row_end c.self.inside.bands.now _ _ _ c.self.inside.next c.self.invariant (below c) c.if-self-2.false (line c)

pub invariant_of-self : goal.invariant_of-self
invariant_of-self c = rw (read_is _ (end c).fits) (row_passed c.self.inside.bands.now _ _ _ c.self.inside.next c.self.invariant (below c) c.if-self-2.false (line c))

pub returns-clause-steps : goal.returns-clause-steps
returns-clause-steps c = rw (← c.self.view_is) (rw (read_is _ (end c).fits, read_is _ c.self.invariant.from_fits) (record {
  begins = search rules;
  tall = (end c).above;
  within = (end c).within;
  squares = rw c.spans-spans.ensures (row_squares c.self.inside.bands.now _ _ _ c.self.inside.next c.index-self-self.result c.self.invariant (below c) c.if-self-2.false (line c));
  goes_on = search rules;
}))

pub returns-clause-goes : goal.returns-clause-goes
returns-clause-goes c = rw (← c.self.view_is) (rw (read_is _ (end c).fits, read_is _ c.self.invariant.from_fits) (record {
  on = λ f. (search rules, search rules, (end c).fewer);
  rests = λ f. search rules;
  keeps = search rules;
}))
