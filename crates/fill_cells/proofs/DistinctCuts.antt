-- The cuts at coordinates, each once.
use Rattle.std.proofs.Common.{◌≡◌, ◌≤◌, ◌<◌, ℤ, ◌<ℤ◌, ◌↔◌, List, [], true, length, get_or, refl, arith, ap, ◌∙◌, sym, Less}
use Rattle.std.specs.List.{All, Contains, dedup}
use Rattle.std.specs.List.Sorted.{IsSorted, IsPermutation}
use Rattle.std.specs.List.Retain.{IsFiltered, DiffersFromLast}
use Rattle.std.specs.Ordering.{int_cmp, int_eq, eq_by_cmp}
use Rattle.std.proofs.lemmas.Int.{ints}
use Rattle.std.proofs.lemmas.Bool.Decides.{Decides-int_eq}
use Rattle.std.proofs.lemmas.Cmp.{int_cmp_total, int_eq_equiv}
use Rattle.std.proofs.lemmas.List.{get_or_default}
use Rattle.std.proofs.lemmas.List.Filters.{All-dedup, dedup_is}
use Rattle.std.proofs.lemmas.List.Kept.{Contains-dedup, Contains-from_dedup, IsStrictlySortedBy-dedup}
use Rattle.std.proofs.lemmas.List.Sorted.{All-permutation, Contains-permutation, IsPermutation-sym}
use Rattle.std.proofs.lemmas.Map.Keys.{Less-from_sorted}
use Rattle.fill_base.specs.Coordinates.{IsCoordinate}
use Rattle.fill_area.proofs.Begun.{by_lt}
use Rattle.fill_cells.specs.Mesh.{AreCuts}

less_lt : (x y : ℤ) → int_cmp x y ≡ Less → x <ℤ y
less_lt x y h = grind (arith, ints)

eq_is : (x y : ℤ) → int_eq x y ≡ true → x ≡ y
eq_is x y h = (Decides-int_eq x y).0 h

ties : (x y : ℤ) → int_eq x y ≡ eq_by_cmp int_cmp x y
ties x y = refl

-- two numbers in a list of less than two are one
one_number : (cuts : List ℤ) (x y : ℤ) → Contains cuts x → Contains cuts y → x <ℤ y → 2 ≤ length cuts
one_number cuts x y has_x has_y lt = by_lt (length cuts) 2
    (λ short. absurd (apart x y lt (sym (at x has_x short) ∙ (get_or_default cuts 0 x y (omega (arith, has_x.1)) ∙ at y has_y short))))
    (λ long. long)
  where
    at : (z : ℤ) → Contains cuts z → length cuts < 2 → get_or cuts 0 z ≡ z
    at z has short = let first : has.0 ≡ 0 = omega (arith, has.1, short) in ap (λ k. get_or cuts k z) (sym first) ∙ has.2

    apart : (x y : ℤ) → x <ℤ y → x ≡ y → ⊥
    apart x y lt e = omega (arith, ints)

-- the numbers of the list, each once
pub same_cuts : (numbers sorted cuts : List ℤ) → IsPermutation numbers sorted → IsFiltered (DiffersFromLast int_eq) [] sorted cuts → (z : ℤ) → Contains numbers z ↔ Contains cuts z
same_cuts numbers sorted cuts moved kept z = (to, from)
  where
    is : cuts ≡ dedup int_eq sorted
    is = dedup_is int_eq sorted cuts kept

    to : Contains numbers z → Contains cuts z
    to has = rw is (Contains-dedup int_eq_equiv eq_is sorted z (Contains-permutation numbers sorted z moved has))

    from : Contains cuts z → Contains numbers z
    from has = Contains-permutation sorted numbers z (IsPermutation-sym numbers sorted moved) (Contains-from_dedup int_eq sorted z (rw is at has))

-- two or more coordinates in order and each once
pub are_cuts : (numbers sorted cuts : List ℤ) → All IsCoordinate numbers → IsPermutation numbers sorted → IsSorted int_cmp sorted → IsFiltered (DiffersFromLast int_eq) [] sorted cuts
    → (x y : ℤ) → Contains numbers x → Contains numbers y → x <ℤ y → AreCuts cuts
are_cuts numbers sorted cuts coordinates moved rises kept x y has_x has_y lt =
    let is : cuts ≡ dedup int_eq sorted = dedup_is int_eq sorted cuts kept in
    let coordinates' : All IsCoordinate cuts = rw is (All-dedup int_eq IsCoordinate sorted (All-permutation IsCoordinate numbers sorted moved coordinates)) in
    record {
      some = one_number cuts x y ((same_cuts numbers sorted cuts moved kept x).0 has_x) ((same_cuts numbers sorted cuts moved kept y).0 has_y) lt;
      coordinates = λ i d lt. coordinates' i d lt;
      rising = λ i j d below inside. less_lt _ _ (Less-from_sorted int_cmp cuts i j d (rw is (IsStrictlySortedBy-dedup int_cmp_total ties sorted rises)) below inside);
    }
