-- Lists of numbers, with one of them changed or one more at the end.
use Rattle.std.proofs.Common.{◌≡◌, ℕ, ◌<◌, ◌⊎◌, List, [], ◌∷◌, ◌++◌, length, arith, inl, inr}
use Rattle.std.proofs.lemmas.Bool.{cases_eq}
use Rattle.std.proofs.lemmas.List.{get_or-set_same, get_or-set_other, get_or_past, get_or_append_left}
use Rattle.std.proofs.Math.Seq.{get_or-append_seam}
use Rattle.std.proofs.lemmas.Grind.{common_steps}
use Rattle.std.specs.List.{slice_set}
use Rattle.gds_cells.specs.Graphs.{item}
use Rattle.gds_cells.specs.steps.Searches.{IsIn}

-- what a changed list has at an index: the new number, or what it had
abbrev pub Changed : List ℕ → ℕ → ℕ → ℕ → Type 0
Changed xs i v j = ((j ≡ i) × (item (slice_set xs i v) j ≡ v)) ⊎ ((j ≡ i → ⊥) × (item (slice_set xs i v) j ≡ item xs j))

pub changed : (xs : List ℕ) (i v j : ℕ) → i < length xs → Changed xs i v j
changed xs i v j within = cases (cases_eq j i) where
  cases : ((j ≡ i) ⊎ (j ≡ i → ⊥)) → Changed xs i v j
  cases (inl e) = inl (e, rw e (get_or-set_same xs i v 0 within))
  cases (inr other) = inr (other, get_or-set_other xs i j v 0 other)

-- one more at the end
abbrev pub More : List ℕ → ℕ → ℕ → Type 0
More xs c p = ((p < length xs) × (item (xs ++ c ∷ []) p ≡ item xs p)) ⊎ ((p ≡ length xs) × (item (xs ++ c ∷ []) p ≡ c))

pub more : (xs : List ℕ) (c p : ℕ) → p < length (xs ++ c ∷ []) → More xs c p
more xs c p within = cases (cases_eq p (length xs)) where
  cases : ((p ≡ length xs) ⊎ (p ≡ length xs → ⊥)) → More xs c p
  cases (inl e) = inr (e, rw e (get_or-append_seam xs c [] 0))
  cases (inr other) = let below : p < length xs = grind (arith, common_steps) in
      inl (below, get_or_append_left xs (c ∷ []) 0 p below)

pub has_more : (xs : List ℕ) (c d : ℕ) → IsIn xs d → IsIn (xs ++ c ∷ []) d
has_more xs c d (p, within, is) =
    let longer : p < length (xs ++ c ∷ []) = grind (arith, common_steps) in
    (p, longer, rw (get_or_append_left xs (c ∷ []) 0 p within) is)

pub has_last : (xs : List ℕ) (c : ℕ) → IsIn (xs ++ c ∷ []) c
has_last xs c =
    let longer : length xs < length (xs ++ c ∷ []) = grind (arith, common_steps) in
    (length xs, longer, get_or-append_seam xs c [] 0)

pub item_within : (xs : List ℕ) (i : ℕ) → 0 < item xs i → i < length xs
item_within xs i some = grind (arith, common_steps, get_or_past)
