-- Each stack is as long as can be.
use Rattle.std.proofs.Common.{◌≡◌, refl, ap, sym, subst, ◌∙◌, ℕ, zero, suc, ◌%◌, ◌<◌, min, ℤ, pos, ◌+ℤ◌, ◌-ℤ◌, ◌<ℤ◌, arith, Bool, true, false}
use Rattle.std.specs.Prelude.{if◌then◌else◌, filter}
use Rattle.std.proofs.lemmas.Bool.{eqb-true}
use Rattle.std.proofs.lemmas.Int.{ints, clamps}
use Rattle.fill_base.specs.Counts.{span_len}
use Rattle.fill_base.proofs.Between.{is_between_bounds}
use Rattle.fill_raster.specs.Axes.{first, past, extent}
use Rattle.fill_raster.specs.Lattice.{Lattice}
use Rattle.fill_stacks.specs.Laws.{IsLongest, StacksAreLongest}
use Rattle.fill_stacks.specs.Places.{PlaceSet, places_along, row_pieces}
use Rattle.fill_stacks.specs.Runs.{Run}
use Rattle.fill_stacks.specs.Stacks.{begins, depth, has_piece, height, row_stacks, rows_down, rows_up, stack_at}
use Rattle.fill_stacks.specs.declared.pieces.Stack.{Stack}
use Rattle.fill_stacks.proofs.Bounds.{of_flat, of_map, passed}
use Rattle.fill_stacks.proofs.Stacking.{along, down_has}
use Rattle.fill_stacks.proofs.Times.{one_of_numbers}

-- the row behind so many that pass doesn't
up_stops : (has : ℤ → Bool) (j : ℤ) (n : ℕ) → rows_up has j n < n → has (j +ℤ pos (rows_up has j n)) ≡ false
up_stops has j zero lt = absurd (omega (arith, lt))
up_stops has j (suc n) lt = by (has j) refl lt (up_stops has (j +ℤ pos 1) n)
  where
    here : (j : ℤ) → j ≡ j +ℤ pos 0
    here j = omega (arith, ints, clamps)

    further : (j : ℤ) (m : ℕ) → (j +ℤ pos 1) +ℤ pos m ≡ j +ℤ pos (suc m)
    further j m = omega (arith, ints, clamps)

    by : (b : Bool) → has j ≡ b → (if b then suc (rows_up has (j +ℤ pos 1) n) else 0) < suc n → (rows_up has (j +ℤ pos 1) n < n → has ((j +ℤ pos 1) +ℤ pos (rows_up has (j +ℤ pos 1) n)) ≡ false)
        → has (j +ℤ pos (if b then suc (rows_up has (j +ℤ pos 1) n) else 0)) ≡ false
    by true h lt later = ap has (sym (further j (rows_up has (j +ℤ pos 1) n))) ∙ later (omega (arith, lt))
    by false h lt later = ap has (sym (here j)) ∙ h

-- where the row right below passes, some do
down_some : (has : ℤ → Bool) (j : ℤ) (n : ℕ) → 0 < n → has (j -ℤ pos 1) ≡ true → 0 < rows_down has j n
down_some has j zero lt h = absurd (omega (arith, lt))
down_some has j (suc n) lt h = rw h (omega arith)

longest : (filled : PlaceSet) (r : Lattice) (j : ℤ) (p : Run) → j <ℤ past r.up → begins filled r j p ≡ true → IsLongest filled r (stack_at filled r j p)
longest filled r j p high whole = record {
  above = λ few under.
      let h : min (height filled r j p) 32767 ≡ height filled r j p = all (height filled r j p) few in
      let stops = up_stops (has_piece filled r p) j (span_len j (past r.up)) (within j (past r.up) (height filled r j p) (subst (λ n. (j +ℤ pos n) <ℤ past r.up) h under)) in
      subst (λ n. has_piece filled r p (j +ℤ pos n) ≡ false) (sym h) stops;
  below = λ low has k lt.
      let some = down_some (has_piece filled r p) j (span_len (first r.up) j) (more (first r.up) j low) has in
      let none = eqb-true (depth filled r j p % 32767) 0 whole in
      down_has (has_piece filled r p) j (span_len (first r.up) j) k (deep (depth filled r j p) k some none lt);
}
  where
    all : (h : ℕ) → min h 32767 < 32767 → min h 32767 ≡ h
    all h few = omega (arith, few)

    within : (j e : ℤ) (h : ℕ) → (j +ℤ pos h) <ℤ e → h < span_len j e
    within j e h lt = omega (arith, ints, clamps)

    more : (f j : ℤ) → f <ℤ j → 0 < span_len f j
    more f j lt = omega (arith, ints, clamps)

    deep : (d k : ℕ) → 0 < d → d % 32767 ≡ 0 → k < 32767 → k < d
    deep d k some none lt = omega (arith, some, none, lt)

pub longest_stacks : StacksAreLongest
longest_stacks filled r s is =
    let (j, row, in_row) = of_flat (row_stacks filled r) s (places_along r.up) is in
    let (p, one, same) = of_map (stack_at filled r j) s (filter (begins filled r j) (row_pieces filled r j)) in_row in
    let at = is_between_bounds (first r.up) (past r.up) j (sym (along r.up j) ∙ one_of_numbers (first r.up) j (extent r.up) row) in
    subst (λ (t : Stack). IsLongest filled r t) same (longest filled r j p at.1 (passed (begins filled r j) p (row_pieces filled r j) one))
