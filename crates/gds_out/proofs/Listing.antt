-- A filled place stands in the list of filled places once.
use Rattle.std.proofs.Common.{◌≡◌, refl, ap, sym, ◌∙◌, ℕ, zero, suc, ℤ, pos, ◌+ℤ◌, ◌≤ℤ◌, arith, Bool, true, false, cond, ◌&&◌, List, [], ◌∷◌, ◌++◌, map}
use Rattle.std.specs.Prelude.{if◌then◌else◌}
use Rattle.std.specs.List.{flat_map, filter}
use Rattle.std.proofs.lemmas.Bool.Decides.{Decides-int_eq}
use Rattle.std.specs.Ordering.{int_eq}
use Rattle.std.proofs.lemmas.Int.{ints, clamps}
use Rattle.std.proofs.lemmas.List.{append-nil}
use Rattle.std.proofs.lemmas.List.Elements.{filter-append}
use Rattle.fill_base.specs.Counts.{is_between, span_len}
use Rattle.fill_raster.specs.Axes.{first, past, extent, is_on}
use Rattle.fill_raster.specs.Lattice.{Lattice}
use Rattle.fill_raster.specs.declared.axis.Axis.{Axis}
use Rattle.fill_raster.proofs.Ranges.{first_past, on_range}
use Rattle.gds_out.specs.Laws.{is_place, raster_in, EachPlaceStandsOnce}
use Rattle.fill_stacks.specs.Places.{PlaceSet, places_along, filled_columns}
use Rattle.fill_stacks.specs.Runs.{numbers_from}
use Rattle.gds_out.proofs.RuleAxes.{across_is, up_is}

same : (i : ℤ) → int_eq i i ≡ true
same i = grind (arith, ints)

none_left : (z i : ℤ) → is_between z (z +ℤ pos 0) i ≡ false
none_left z i = grind (arith, ints)

passed : (z i : ℤ) (n : ℕ) → int_eq z i ≡ true → is_between (z +ℤ pos 1) ((z +ℤ pos 1) +ℤ pos n) i ≡ false
passed z i n is = grind (arith, ints)

here : (z i : ℤ) (n : ℕ) → int_eq z i ≡ true → is_between z (z +ℤ pos (suc n)) i ≡ true
here z i n is = grind (arith, ints)

later : (z i : ℤ) (n : ℕ) → int_eq z i ≡ false → is_between (z +ℤ pos 1) ((z +ℤ pos 1) +ℤ pos n) i ≡ is_between z (z +ℤ pos (suc n)) i
later z i n is = grind (arith, ints)

-- of lists that are empty but at one number, one is left
picked : {A : Type 0} (f : ℤ → List A) (i z : ℤ) (n : ℕ) → ((k : ℤ) → int_eq k i ≡ false → f k ≡ [])
    → flat_map f (numbers_from z n) ≡ cond (is_between z (z +ℤ pos n) i) (f i) []
picked f i z zero other = rw (none_left z i) refl
picked f i z (suc n) other = by (int_eq z i) refl (picked f i (z +ℤ pos 1) n other)
  where
    by : (b : Bool) → int_eq z i ≡ b → flat_map f (numbers_from (z +ℤ pos 1) n) ≡ cond (is_between (z +ℤ pos 1) ((z +ℤ pos 1) +ℤ pos n) i) (f i) []
        → f z ++ flat_map f (numbers_from (z +ℤ pos 1) n) ≡ cond (is_between z (z +ℤ pos (suc n)) i) (f i) []
    by true is rest = rw (rest, passed z i n is, here z i n is) (append-nil (f z) ∙ ap f ((Decides-int_eq z i).0 is))
    by false is rest = rw (other z is, rest, later z i n is) refl

along_axis : {A : Type 0} (f : ℤ → List A) (i : ℤ) (a : Axis) → pos 1 ≤ℤ a.step → ((k : ℤ) → int_eq k i ≡ false → f k ≡ []) → flat_map f (places_along a) ≡ cond (is_on a i) (f i) []
along_axis f i a step other =
    picked f i (first a) (extent a) other
    ∙ (ap (λ e. cond (is_between (first a) e i) (f i) []) (whole (first a) (past a) (first_past a)) ∙ ap (λ b. cond b (f i) []) (sym (on_range a i step)))
  where
    whole : (f p : ℤ) → f ≤ℤ p → f +ℤ pos (span_len f p) ≡ p
    whole f p h = omega (arith, ints, clamps)

kept : (test : ℤ × ℤ → Bool) (g : ℤ → ℤ × ℤ) (k : ℤ) (ks : List ℤ) (more : List (ℤ × ℤ)) (b : Bool) → filter test (map g ks) ≡ more
    → filter test (map g (cond b (k ∷ ks) ks)) ≡ cond b (cond (test (g k)) (g k ∷ []) []) [] ++ more
kept test g k ks more true is = on (test (g k))
  where
    on : (c : Bool) → cond c (g k ∷ filter test (map g ks)) (filter test (map g ks)) ≡ cond c (g k ∷ []) [] ++ more
    on true = ap (λ t. g k ∷ t) is
    on false = is
kept test g k ks more false is = is

both : {A : Type 0} (xs : List A) (a b c : Bool) → cond b (cond a (cond c xs []) []) [] ≡ (if (a && b) && c then xs else [])
both xs true true c = refl
both xs true false c = refl
both xs false true c = refl
both xs false false c = refl

module _ (filled : PlaceSet) (i j : ℤ) where
  -- the place (k, l), where it is filled and the one that is looked for
  abbrev one : ℤ → ℤ → List (ℤ × ℤ)
  one l k = cond (filled k l) (cond (is_place i j (k, l)) ((k, l) ∷ []) []) []

  row : (l : ℤ) (ks : List ℤ) → filter (is_place i j) (map (λ k. (k, l)) (filter (λ k. filled k l) ks)) ≡ flat_map (one l) ks
  row l [] = refl
  row l (k ∷ ks) = kept (is_place i j) (λ m. (m, l)) k (filter (λ m. filled m l) ks) (flat_map (one l) ks) (filled k l) (row l ks)

  rows : (r : Lattice) (ls : List ℤ) → filter (is_place i j) (flat_map (λ l. map (λ k. (k, l)) (filled_columns filled r l)) ls) ≡ flat_map (λ l. flat_map (one l) (places_along r.across)) ls
  rows r [] = refl
  rows r (l ∷ ls) =
      filter-append (is_place i j) (map (λ k. (k, l)) (filled_columns filled r l)) (flat_map (λ m. map (λ k. (k, m)) (filled_columns filled r m)) ls)
      ∙ (ap (λ t. t ++ filter (is_place i j) (flat_map (λ m. map (λ k. (k, m)) (filled_columns filled r m)) ls)) (row l (places_along r.across))
      ∙ ap (λ t. flat_map (one l) (places_along r.across) ++ t) (rows r ls))

  nothing : (b : Bool) → cond {A = List (ℤ × ℤ)} b [] [] ≡ []
  nothing true = refl
  nothing false = refl

  and_false : (b : Bool) → (b && false) ≡ false
  and_false true = refl
  and_false false = refl

  -- another row, and another column of the row
  other_row : (l : ℤ) (ks : List ℤ) → int_eq l j ≡ false → flat_map (one l) ks ≡ []
  other_row l [] is = refl
  other_row l (k ∷ ks) is = rw (is, and_false (int_eq k i), nothing (filled k l)) (other_row l ks is)

  other_column : (k : ℤ) → int_eq k i ≡ false → one j k ≡ []
  other_column k is = rw is (nothing (filled k j))

pub each_place_once : EachPlaceStandsOnce
each_place_once rules filled i j =
    let r = raster_in rules in
    rows filled i j r (places_along r.up)
    ∙ (along_axis (λ l. flat_map (one filled i j l) (places_along r.across)) j r.up (up_is rules).step_is.least (λ l apart. other_row filled i j l (places_along r.across) apart)
    ∙ (ap (λ t. cond (is_on r.up j) t []) (along_axis (one filled i j j) i r.across (across_is rules).step_is.least (λ k apart. other_column filled i j k apart))
    ∙ rw (same i, same j) (both ((i, j) ∷ []) (is_on r.across i) (is_on r.up j) (filled i j))))
