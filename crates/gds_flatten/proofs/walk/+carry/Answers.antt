use Rattle.std.proofs.Common.{subst, sym, ap, arith, refl, ℕ, ◌+◌, ◌-◌, ◌*◌, ◌<◌, ◌≤◌, ◌≡◌, ◌∙◌, length, get_or}
use Rattle.std.specs.List.{flat_map}
use Rattle.std.specs.Vec.{vec_items}
use Rattle.std.proofs.lemmas.Result.{err_from_is_err_and}
use Rattle.gds_cells.specs.Placements.{composed}
use Rattle.gds_cells.specs.Copies.{copies, AllStayInRange}
use Rattle.gds_cells.specs.steps.Counting.{IsCapped}
use Rattle.gds_cells.specs.steps.Ranges.{IsWithin}
use Rattle.gds_cells.specs.steps.Walks.{hierarchy, shape_copies, single_copies, link_copies, part, IsDrawn, IsRefusal}
use Rattle.gds_flatten.specs.steps.Roots.{turn_copies}
use Rattle.gds_cells.specs.Links.{single}
use Rattle.gds_cells.proofs.Capping.{count_of, counts_below}
use Rattle.gds_flatten.proofs.Chained.{chain_carries, chain_near, chain_within, within_more}
use Rattle.gds_flatten.proofs.Drawing.{link_of_cell_leaves, turn_leaves, refused_more, deeper}
use Rattle.gds_flatten.proofs.Sharing.{none_shared, next_shared, rest_shared, all_shared, cell_shared, own_leave, single_long, shifted, turns_passed, turns_begun, turn_shared, turns_done}
use Rattle.gds_flatten.proofs.walk.+carry.Goals as goal

pub carry_cell-returns-in_err-rest-clause-refused : goal.carry_cell-returns-in_err-rest-clause-refused
carry_cell-returns-in_err-rest-clause-refused t c =
    let p = err_from_is_err_and c.from_residual.result c.from_residual.ensures.1 in
    let some = c.in-Some.ensures.some in
    rw (p.1, p.2) (refused_more c.in_err-rest.field-0.0
    (own_leave c.args.cells.now c.args.depth c.args.index c.in-Some.cell.now c.args.at.now some.0 some.1)
    (subst (λ rs. IsRefusal (flat_map (shape_copies c.args.at.now) (flat_map vec_items rs)) c.in_err-rest.field-0.0) c.as_slice.ensures.value c.in_err-rest.ensures.refused))

pub carry_cell-links-init : goal.carry_cell-links-init
carry_cell-links-init t c =
    none_shared (link_copies c.args.at.now (copies (hierarchy c.args.cells.now) (c.args.depth - 1))) c.as_slice-links.result.now
    c.in_ok-rest.rest.from c.in_ok-rest.rest.to c.in_ok-rest.rest.from c.in_ok-rest.rest.to c.carry_own.new.out.items refl refl

pub carry_cell-returns-then-rest-eq0-clause-drawn :
    goal.carry_cell-returns-then-rest-eq0-clause-drawn
carry_cell-returns-then-rest-eq0-clause-drawn t c =
    let some = c.in-Some.ensures.some in
    let told = c.in_ok-rest.ensures in
    let shapes = ap (λ rs. flat_map vec_items rs) c.as_slice.ensures.value in
    cell_shared c.args.cells.now c.args.depth c.args.index c.in-Some.cell.now c.args.at.now c.args.stretch.from c.args.stretch.to c.in_ok-rest.rest.from c.in_ok-rest.rest.to
    c.args.out.now.items c.carry_own.new.out.items c.links.out.items some.0 some.1
    (subst (λ ss. IsDrawn (part c.args.stretch.from c.args.stretch.to (flat_map (shape_copies c.args.at.now) ss)) c.args.out.now.items c.carry_own.new.out.items) shapes told.drawn)
    (told.from ∙ ap (λ ss. c.args.stretch.from - length ss) shapes) (told.to ∙ ap (λ ss. c.args.stretch.to - length ss) shapes)
    (rest_shared (link_copies c.args.at.now (copies (hierarchy c.args.cells.now) (c.args.depth - 1))) c.as_slice-links.result.now c.in-Some.cell.now.links.items c.links.link-index
    c.in_ok-rest.rest.from c.in_ok-rest.rest.to c.links.rest.from c.links.rest.to c.carry_own.new.out.items c.links.out.items
    c.as_slice-links.ensures.value c.if-rest-eq0.true c.links.invariant)

pub carry_cell-turns_of-turns-requires-clause-within : goal.carry_cell-turns_of-turns-requires-clause-within
carry_cell-turns_of-turns-requires-clause-within t c =
    let some = c.in-Some.ensures.some in
    let less : 256 - (c.args.depth - 1) ≡ 257 - c.args.depth = omega (arith, some.0, c.requires.deep) in
    subst (λ n. IsWithin n c.args.at.now) (sym less) c.requires.within

pub carry_cell-carry_turns-requires : goal.carry_cell-carry_turns-requires
carry_cell-carry_turns-requires t c =
    let some = c.in-Some.ensures.some in
    let made = c.turns_of-turns.ensures in (
      omega (arith, c.decreases, some.0, made.depth),
      rw (made.depth, made.cell) (counts_below c.args.cells.now c.args.counts.now c.args.depth c.args.index c.links.link-index c.in-Some.cell.now c.link-item.result some.0 some.1
          (subst (λ xs. c.links.link-index < length xs) c.as_slice-links.ensures.value c.links-test.true)
          (subst (λ xs. c.link-item.result ≡ get_or xs c.links.link-index c.link-item.result) c.as_slice-links.ensures.value c.link-item.is)
          c.requires.counted),
    )

pub carry_cell-returns-in_err-carry_turns-clause-refused : goal.carry_cell-returns-in_err-carry_turns-clause-refused
carry_cell-returns-in_err-carry_turns-clause-refused t c =
    let p = err_from_is_err_and c.from_residual-in_err-carry_turns.result c.from_residual-in_err-carry_turns.ensures.1 in
    let some = c.in-Some.ensures.some in
    rw (p.1, p.2) (refused_more c.in_err-carry_turns.field-0.0
    (link_of_cell_leaves c.args.cells.now c.args.depth c.args.index c.in-Some.cell.now c.args.at.now c.links.link-index c.link-item.result some.0 some.1
    (subst (λ xs. c.links.link-index < length xs) c.as_slice-links.ensures.value c.links-test.true)
    (subst (λ xs. c.link-item.result ≡ get_or xs c.links.link-index c.link-item.result) c.as_slice-links.ensures.value c.link-item.is))
    (subst (λ cs. IsRefusal cs c.in_err-carry_turns.field-0.0) (c.turns_of-turns.ensures.copies c.args.cells.now) c.in_err-carry_turns.ensures.refused))

pub carry_cell-count-requires : goal.carry_cell-count-requires
carry_cell-count-requires t c =
    let some = c.in-Some.ensures.some in
    let right = count_of c.args.cells.now c.args.counts.now (c.args.depth - 1) c.link-item.result.cell
    (counts_below c.args.cells.now c.args.counts.now c.args.depth c.args.index c.links.link-index c.in-Some.cell.now c.link-item.result some.0 some.1
    (subst (λ xs. c.links.link-index < length xs) c.as_slice-links.ensures.value c.links-test.true)
    (subst (λ xs. c.link-item.result ≡ get_or xs c.links.link-index c.link-item.result) c.as_slice-links.ensures.value c.link-item.is)
    c.requires.counted) in
    rw c.number_at.ensures right.most

pub carry_cell-links-preserved : goal.carry_cell-links-preserved
carry_cell-links-preserved t c =
    let some = c.in-Some.ensures.some in
    let below = copies (hierarchy c.args.cells.now) (c.args.depth - 1) in
    let l = c.link-item.result in
    let right = subst (λ n. IsCapped (length (below l.cell)) n) (sym c.number_at.ensures) (count_of c.args.cells.now c.args.counts.now (c.args.depth - 1) l.cell
    (counts_below c.args.cells.now c.args.counts.now c.args.depth c.args.index c.links.link-index c.in-Some.cell.now l some.0 some.1
    (subst (λ xs. c.links.link-index < length xs) c.as_slice-links.ensures.value c.links-test.true)
    (subst (λ xs. l ≡ get_or xs c.links.link-index l) c.as_slice-links.ensures.value c.link-item.is)
    c.requires.counted)) in
    let rest = c.links.rest in
    let first_few : rest.from ≤ 4000000 = omega (arith, rest.ordered, rest.few) in
    let made = c.turns_of-turns.ensures in
    let left = turns_passed (single_copies c.args.at.now below l) (length (below l.cell)) (single_long c.args.at.now below l) c.number_at.result right rest.from rest.to first_few rest.few
    (l.columns * l.rows) c.count.result c.behind-rest.result.from c.behind-rest.result.to (c.count.ensures.value ∙ ap (λ n. n * c.number_at.result) made.number) c.behind-rest.ensures.from c.behind-rest.ensures.to in
    next_shared (link_copies c.args.at.now below) c.as_slice-links.result.now c.links.link-index l
    c.in_ok-rest.rest.from c.in_ok-rest.rest.to rest.from rest.to c.behind-rest.result.from c.behind-rest.result.to
    c.carry_own.new.out.items c.links.out.items c.carry_turns.new.out.items c.links-test.true c.links.invariant
    (subst (λ m. IsDrawn (part rest.from rest.to (link_copies c.args.at.now below m)) c.links.out.items c.carry_turns.new.out.items) c.link-item.is
    (subst (λ cs. IsDrawn (part rest.from rest.to cs) c.links.out.items c.carry_turns.new.out.items) (made.copies c.args.cells.now) c.in_ok-carry_turns.ensures.drawn))
    (subst (λ m. c.behind-rest.result.from ≡ rest.from - length (link_copies c.args.at.now below m)) c.link-item.is left.0)
    (subst (λ m. c.behind-rest.result.to ≡ rest.to - length (link_copies c.args.at.now below m)) c.link-item.is left.1)

pub carry_cell-returns-clause-drawn : goal.carry_cell-returns-clause-drawn
carry_cell-returns-clause-drawn t c =
    let some = c.in-Some.ensures.some in
    let told = c.in_ok-rest.ensures in
    let shapes = ap (λ rs. flat_map vec_items rs) c.as_slice.ensures.value in
    cell_shared c.args.cells.now c.args.depth c.args.index c.in-Some.cell.now c.args.at.now c.args.stretch.from c.args.stretch.to c.in_ok-rest.rest.from c.in_ok-rest.rest.to
    c.args.out.now.items c.carry_own.new.out.items c.links.out.items some.0 some.1
    (subst (λ ss. IsDrawn (part c.args.stretch.from c.args.stretch.to (flat_map (shape_copies c.args.at.now) ss)) c.args.out.now.items c.carry_own.new.out.items) shapes told.drawn)
    (told.from ∙ ap (λ ss. c.args.stretch.from - length ss) shapes) (told.to ∙ ap (λ ss. c.args.stretch.to - length ss) shapes)
    (all_shared (link_copies c.args.at.now (copies (hierarchy c.args.cells.now) (c.args.depth - 1))) c.as_slice-links.result.now c.in-Some.cell.now.links.items c.links.link-index
    c.in_ok-rest.rest.from c.in_ok-rest.rest.to c.links.rest.from c.links.rest.to c.carry_own.new.out.items c.links.out.items
    c.as_slice-links.ensures.value (omega (arith, c.links-test.false)) c.links.invariant)

-- ---- single references

pub carry_turns-count-requires : goal.carry_turns-count-requires
carry_turns-count-requires t c =
    let turns = c.args.turns.now in
    rw c.number_at-each.ensures (count_of c.args.cells.now c.args.counts.now turns.depth turns.link.cell c.requires.counted).most

pub carry_turns-returns-then-count-stretch-clause-drawn : goal.carry_turns-returns-then-count-stretch-clause-drawn
carry_turns-returns-then-count-stretch-clause-drawn t c =
    let turns = c.args.turns.now in
    let below = copies (hierarchy c.args.cells.now) turns.depth in
    let one = turn_copies c.args.cells.now turns in
    let right = subst (λ n. IsCapped (length (below turns.link.cell)) n) (sym c.number_at-each.ensures) (count_of c.args.cells.now c.args.counts.now turns.depth turns.link.cell c.requires.counted) in
    let stretch = c.args.stretch in
    let first_few : stretch.from ≤ 4000000 = omega (arith, stretch.ordered, stretch.few) in
    rw (shifted one turns.first turns.number)
    (turns_begun (λ k. one (turns.first + k)) (length (below turns.link.cell)) (λ k. single_long turns.placement below turns.link (turns.first + k)) c.number_at-each.result right stretch.from stretch.to first_few stretch.few
    turns.number (let told = c.count.ensures.value in omega (arith, told, c.if-count-stretch.true)) c.args.out.now.items)

pub carry_turns-turns-init : goal.carry_turns-turns-init
carry_turns-turns-init t c =
    let turns = c.args.turns.now in
    let below = copies (hierarchy c.args.cells.now) turns.depth in
    let right = subst (λ n. IsCapped (length (below turns.link.cell)) n) (sym c.number_at-each.ensures) (count_of c.args.cells.now c.args.counts.now turns.depth turns.link.cell c.requires.counted) in
    let stretch = c.args.stretch in
    let first_few : stretch.from ≤ 4000000 = omega (arith, stretch.ordered, stretch.few) in
    record {
      within = c.begin-begin.ensures.few;
      drawn = turns_begun (λ k. turn_copies c.args.cells.now turns (turns.first + k)) (length (below turns.link.cell)) (λ k. single_long turns.placement below turns.link (turns.first + k)) c.number_at-each.result right
          stretch.from stretch.to first_few stretch.few c.begin-begin.result c.begin-begin.ensures.before c.args.out.now.items;
    }

pub carry_turns-after-inner-requires-clause-outer : goal.carry_turns-after-inner-requires-clause-outer
carry_turns-after-inner-requires-clause-outer t c =
    let turns = c.args.turns.now in
    within_more (257 - turns.depth) 257 c.after-single.result (less turns.depth)
    (deeper turns.depth turns.placement c.single.result c.after-single.result turns.deep turns.near c.single.ensures.near c.after-single.ensures)
  where
    less : (n : ℕ) → 257 - n ≤ 257
    less n = omega arith

pub carry_turns-after-inner-requires-clause-inner : goal.carry_turns-after-inner-requires-clause-inner
carry_turns-after-inner-requires-clause-inner t c =
    chain_near _ _ _ _ _ _ _ c.chain_from-chain.ensures.leads c.args.turns.now.deep

pub carry_turns-carry_cell-requires : goal.carry_turns-carry_cell-requires
carry_turns-carry_cell-requires t c =
    let turns = c.args.turns.now in
    let leads = c.chain_from-chain.ensures.leads in
    let shorter = leads.shorter in (
      omega (arith, c.decreases, shorter),
      (
        omega (arith, turns.deep, shorter),
        (
          chain_within _ _ _ _ _ _ _ leads c.after-single.result c.after-inner.result turns.deep
              (deeper turns.depth turns.placement c.single.result c.after-single.result turns.deep turns.near c.single.ensures.near c.after-single.ensures) c.after-inner.ensures,
          leads.counted,
        ),
      ),
    )

pub carry_turns-returns-in_err-carry_cell-clause-refused : goal.carry_turns-returns-in_err-carry_cell-clause-refused
carry_turns-returns-in_err-carry_cell-clause-refused t c =
    let p = err_from_is_err_and c.from_residual.result c.from_residual.ensures.1 in
    let turns = c.args.turns.now in
    let one = turn_copies c.args.cells.now turns in
    let k = c.turns.turn in
    let few = c.end-end.ensures.few in
    let leads = c.chain_from-chain.ensures.leads in
    let inner_is = c.after-inner.ensures ∙ ap (λ s. composed s c.chain_from-chain.result.placement) (c.after-single.ensures ∙ ap (composed turns.placement) c.single.ensures.is) in
    rw (p.1, p.2) (refused_more c.in_err-carry_cell.field-0.0
    (λ leaves all. turn_leaves (λ j. one (turns.first + j)) turns.number k (omega (arith, few, c.turns-test.true))
    (λ stays. leaves (subst AllStayInRange (sym (chain_carries _ _ _ _ _ _ _ leads (composed turns.placement (single turns.link (turns.first + k))) c.after-inner.result inner_is)) stays))
    (subst AllStayInRange (shifted one turns.first turns.number) all))
    c.in_err-carry_cell.ensures.refused)

pub carry_turns-turns-preserved : goal.carry_turns-turns-preserved
carry_turns-turns-preserved t c =
    let turns = c.args.turns.now in
    let below = copies (hierarchy c.args.cells.now) turns.depth in
    let right = subst (λ n. IsCapped (length (below turns.link.cell)) n) (sym c.number_at-each.ensures) (count_of c.args.cells.now c.args.counts.now turns.depth turns.link.cell c.requires.counted) in
    let stretch = c.args.stretch in
    let first_few : stretch.from ≤ 4000000 = omega (arith, stretch.ordered, stretch.few) in
    let few = c.end-end.ensures.few in
    let inner_is = c.after-inner.ensures ∙ ap (λ s. composed s c.chain_from-chain.result.placement) (c.after-single.ensures ∙ ap (composed turns.placement) c.single.ensures.is) in
    record {
      within = omega (arith, few, c.turns-test.true);
      drawn = turn_shared (λ k. turn_copies c.args.cells.now turns (turns.first + k)) (length (below turns.link.cell)) (λ k. single_long turns.placement below turns.link (turns.first + k)) c.number_at-each.result right
          stretch.from stretch.to first_few stretch.few c.turns.turn c.behind-rest.result.from c.behind-rest.result.to
          c.args.out.now.items c.turns.out.items c.carry_cell.new.out.items c.behind-rest.ensures.from c.behind-rest.ensures.to c.turns.invariant.drawn
          (subst (λ cs. IsDrawn (part c.behind-rest.result.from c.behind-rest.result.to cs) c.turns.out.items c.carry_cell.new.out.items)
          (chain_carries _ _ _ _ _ _ _ c.chain_from-chain.ensures.leads (composed turns.placement (single turns.link (turns.first + c.turns.turn))) c.after-inner.result inner_is) c.in_ok-carry_cell.ensures.drawn);
    }

pub carry_turns-returns-clause-drawn : goal.carry_turns-returns-clause-drawn
carry_turns-returns-clause-drawn t c =
    let turns = c.args.turns.now in
    let below = copies (hierarchy c.args.cells.now) turns.depth in
    let one = turn_copies c.args.cells.now turns in
    let right = subst (λ n. IsCapped (length (below turns.link.cell)) n) (sym c.number_at-each.ensures) (count_of c.args.cells.now c.args.counts.now turns.depth turns.link.cell c.requires.counted) in
    let stretch = c.args.stretch in
    let first_few : stretch.from ≤ 4000000 = omega (arith, stretch.ordered, stretch.few) in
    rw (shifted one turns.first turns.number)
    (turns_done (λ k. one (turns.first + k)) (length (below turns.link.cell)) (λ k. single_long turns.placement below turns.link (turns.first + k)) c.number_at-each.result right stretch.from stretch.to first_few stretch.few
    c.turns.turn c.end-end.result turns.number c.args.out.now.items c.turns.out.items c.turns.invariant.within (omega (arith, c.turns-test.false)) c.end-end.ensures.behind c.turns.invariant.drawn)
