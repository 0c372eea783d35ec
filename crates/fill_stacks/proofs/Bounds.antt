-- Each stack lies on the raster: it is of a piece of its lowest row, and its rows are rows of the raster.
use Rattle.std.proofs.Common.{◌≡◌, refl, ap, sym, subst, ◌∙◌, ℕ, suc, ◌≤◌, ◌<◌, min, ℤ, pos, ◌+ℤ◌, ◌≤ℤ◌, ◌<ℤ◌, arith, inl, inr, ◌⊎◌, Bool, true, false, List, [], ◌∷◌, ◌++◌, map}
use Rattle.std.specs.Prelude.{if◌then◌else◌, filter}
use Rattle.std.specs.List.{flat_map}
use Rattle.std.proofs.lemmas.Int.{ints, clamps}
use Rattle.fill_base.specs.Counts.{span_len}
use Rattle.fill_base.proofs.Between.{is_between_bounds}
use Rattle.fill_raster.specs.Axes.{first, past, extent}
use Rattle.fill_raster.specs.Lattice.{Lattice}
use Rattle.fill_stacks.specs.Laws.{IsOnRaster, StacksAreOnTheRaster}
use Rattle.fill_stacks.specs.Runs.{Run}
use Rattle.fill_stacks.specs.Places.{PlaceSet, places_along, row_pieces}
use Rattle.fill_stacks.specs.Stacks.{begins, has_piece, height, rows_up, stack_at}
use Rattle.fill_stacks.specs.declared.pieces.Stack.{Stack}
use Rattle.fill_stacks.proofs.Lists.{all_one}
use Rattle.fill_stacks.proofs.RowPieces.{IsPieceOf, pieces_between}
use Rattle.fill_stacks.proofs.Stacking.{along, one_any, up_most}
use Rattle.fill_stacks.specs.Stacks.{IsOne}
use Rattle.fill_stacks.proofs.Times.{one_of_numbers}

of_both : {X : Type 0} (x : X) (xs ys : List X) → IsOne x (xs ++ ys) → (IsOne x xs) ⊎ (IsOne x ys)
of_both x [] ys is = inr is
of_both x (z ∷ xs) ys (inl e) = inl (inl e)
of_both x (z ∷ xs) ys (inr later) = elim (of_both x xs ys later) [ inl front ↦ inl (inr front) | inr behind ↦ inr behind ]

pub of_flat : {X Y : Type 0} (g : X → List Y) (y : Y) (xs : List X) → IsOne y (flat_map g xs) → (x : X) × IsOne x xs × IsOne y (g x)
of_flat g y [] is = absurd is
of_flat g y (x ∷ xs) is = elim (of_both y (g x) (flat_map g xs) is) [
  | inl here ↦ (x, inl refl, here)
  | inr later ↦ let (z, one, in_z) = of_flat g y xs later in (z, inr one, in_z)
]

pub of_map : {X Y : Type 0} (g : X → Y) (y : Y) (xs : List X) → IsOne y (map g xs) → (x : X) × IsOne x xs × (g x ≡ y)
of_map g y [] is = absurd is
of_map g y (x ∷ xs) (inl e) = (x, inl refl, e)
of_map g y (x ∷ xs) (inr later) = let (z, one, e) = of_map g y xs later in (z, inr one, e)

pub of_filter : {X : Type 0} (p : X → Bool) (x : X) (xs : List X) → IsOne x (filter p xs) → IsOne x xs
of_filter p x [] is = absurd is
of_filter p x (z ∷ xs) is = by (p z) is (of_filter p x xs)
  where
    by : (b : Bool) → IsOne x (if b then z ∷ filter p xs else filter p xs) → (IsOne x (filter p xs) → IsOne x xs) → IsOne x (z ∷ xs)
    by true (inl e) later = inl e
    by true (inr is) later = inr (later is)
    by false is later = inr (later is)

pub passed : {X : Type 0} (p : X → Bool) (x : X) (xs : List X) → IsOne x (filter p xs) → p x ≡ true
passed p x [] is = absurd is
passed p x (z ∷ xs) is = by (p z) refl is (passed p x xs)
  where
    by : (b : Bool) → p z ≡ b → IsOne x (if b then z ∷ filter p xs else filter p xs) → (IsOne x (filter p xs) → p x ≡ true) → p x ≡ true
    by true h (inl e) later = sym (ap p e) ∙ h
    by true h (inr is) later = later is
    by false h is later = later is

-- the stack of a piece of a row
pub bounds : (filled : PlaceSet) (r : Lattice) (j : ℤ) (p : Run) → first r.up ≤ℤ j → j <ℤ past r.up → IsOne p (row_pieces filled r j) → IsOnRaster filled r (stack_at filled r j p)
bounds filled r j p low high is =
    let has : has_piece filled r p j ≡ true = one_any p (row_pieces filled r j) is in
    let span : span_len j (past r.up) ≡ suc (span_len (j +ℤ pos 1) (past r.up)) = more j (past r.up) high in
    let tall : height filled r j p ≡ suc (rows_up (has_piece filled r p) (j +ℤ pos 1) (span_len (j +ℤ pos 1) (past r.up))) = rw (span, has) refl in
    let most = up_most (has_piece filled r p) j (span_len j (past r.up)) in
    let part = all_one (IsPieceOf (first r.across) (past r.across)) p (row_pieces filled r j) (pieces_between filled r j) is in
    record {
      piece = is;
      wide = part.some;
      narrow = part.few;
      left = part.from;
      right = part.to;
      some = least (height filled r j p) _ tall;
      few = few_rows (height filled r j p);
      from = low;
      to = within j (past r.up) (height filled r j p) most high;
    }
  where
    more : (j e : ℤ) → j <ℤ e → span_len j e ≡ suc (span_len (j +ℤ pos 1) e)
    more j e lt = omega (arith, ints, clamps)

    least : (h n : ℕ) → h ≡ suc n → 0 < min h 32767
    least h n e = omega (arith, e)

    few_rows : (h : ℕ) → min h 32767 ≤ 32767
    few_rows h = omega arith

    within : (j e : ℤ) (h : ℕ) → h ≤ span_len j e → j <ℤ e → (j +ℤ pos (min h 32767)) ≤ℤ e
    within j e h most lt = omega (arith, ints, clamps, most)

pub on_the_raster : StacksAreOnTheRaster
on_the_raster filled r s is =
    let (j, row, in_row) = of_flat (λ k. map (stack_at filled r k) (filter (begins filled r k) (row_pieces filled r k))) s (places_along r.up) is in
    let (p, passes, same) = of_map (stack_at filled r j) s (filter (begins filled r j) (row_pieces filled r j)) in_row in
    let at = is_between_bounds (first r.up) (past r.up) j (sym (along r.up j) ∙ one_of_numbers (first r.up) j (extent r.up) row) in
    subst (λ (t : Stack). IsOnRaster filled r t) same (bounds filled r j p at.0 at.1 (of_filter (begins filled r j) p (row_pieces filled r j) passes))
