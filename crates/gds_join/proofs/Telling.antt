-- A fill library tells its places.
use Rattle.std.proofs.Common.{◌≡◌, refl, ap, sym, ◌∙◌, ℕ, ◌*◌, ◌/◌, ◌%◌, ◌<◌, ◌≤◌, ℤ, pos, ◌+ℤ◌, ◌*ℤ◌, ◌≤ℤ◌, ◌<ℤ◌, arith, Bool, true, false, not, ◌&&◌, ◌||◌, List, [], ◌∷◌, length, map}
use Rattle.std.specs.Prelude.{◌==◌, if◌then◌else◌}
use Rattle.std.specs.List.{filter, flat_map, list_any, range_with_len}
use Rattle.std.specs.Ordering.{int_eq}
use Rattle.std.proofs.Math.Path.{fun_ext}
use Rattle.std.proofs.lemmas.Bool.Decides.{Decides-int_eq, nat_tests}
use Rattle.std.proofs.lemmas.Int.{ints, by_lt_z}
use Rattle.std.proofs.lemmas.List.{append-nil, length-map}
use Rattle.std.proofs.lemmas.List.Sorted.{length_permutation, list_any-IsPermutation}
use Rattle.fill_raster.specs.Axes.{box_begin}
use Rattle.fill_raster.specs.Lattice.{Lattice, IsLattice, in_raster}
use Rattle.fill_raster.specs.declared.axis.Axis.{Axis}
use Rattle.fill_raster.proofs.Floors.{product_lt}
use Rattle.fill_raster.proofs.Ranges.{both}
use Rattle.fill_text.specs.ValuesOfRules.{values_of}
use Rattle.fill_text.specs.declared.rules.Rules.{Rules}
use Rattle.gds_cells.specs.References.{grid_point, has_steps, is_bad_array, is_count}
use Rattle.gds_cells.proofs.Wholes.{steps_are_whole_lem}
use Rattle.gds_grammar.specs.Grammar.{all_rules}
use Rattle.gds_grammar.specs.Outcomes.{Spells}
use Rattle.gds_grammar.specs.Values.{Contents, reference, array}
use Rattle.gds_grammar.proofs.Back.{library_runs}
use Rattle.gds_grammar.proofs.Unique.{one_value}
use Rattle.gds_out.specs.FillContents.{corner_of, fill_contents, plain, stack_points, stack_shapes}
use Rattle.gds_out.specs.FillText.{fill_records, fill_text}
use Rattle.gds_out.specs.Laws.{is_place, raster_in, stack_corners}
use Rattle.fill_stacks.specs.Laws.{IsOnRaster}
use Rattle.fill_stacks.specs.Places.{PlaceSet, filled_places}
use Rattle.fill_stacks.specs.Stacks.{stack_places, stacks}
use Rattle.fill_stacks.specs.declared.pieces.Stack.{Stack}
use Rattle.fill_stacks.proofs.Stacking.{hold_each_once}
use Rattle.gds_out.proofs.ByStacks.{all_on, stacks_same}
use Rattle.gds_out.proofs.Grammatical.{is_a_library}
use Rattle.gds_out.proofs.Listing.{each_place_once}
use Rattle.gds_out.proofs.RuleAxes.{across_is, up_is}
use Rattle.gds_out.proofs.Standing.{corners_of as stack_corners_of, times_zero}
use Rattle.gds_join.specs.Laws.{OneTextOneFill, ReadingIsExact, TextTellsItsFill}
use Rattle.gds_join.proofs.Numbering.{places_few}
use Rattle.gds_join.specs.Reading.{IsFillText, corners_in, corners_of, is_point, places_in}

-- ---- the references of a fill library

-- the steps of a stack's array are whole
whole_columns : (x y s : ℤ) (n : ℕ) → 0 < n → has_steps (record { x = x; y = y }) (record { x = x +ℤ (pos n *ℤ s); y = y }) n ≡ true
whole_columns x y s n some = ((steps_are_whole_lem (record { x = x; y = y }) (record { x = x +ℤ (pos n *ℤ s); y = y }) (record { x = s; y = pos 0 }) n some).1 (refl, no_more y n)).0
  where
    no_more : (y : ℤ) (n : ℕ) → y ≡ y +ℤ (pos n *ℤ pos 0)
    no_more y n = rw (times_zero n) (same y)
      where
        same : (y : ℤ) → y ≡ y +ℤ pos 0
        same y = omega (arith, ints)

whole_rows : (x y t : ℤ) (n : ℕ) → 0 < n → has_steps (record { x = x; y = y }) (record { x = x; y = y +ℤ (pos n *ℤ t) }) n ≡ true
whole_rows x y t n some = ((steps_are_whole_lem (record { x = x; y = y }) (record { x = x; y = y +ℤ (pos n *ℤ t) }) (record { x = pos 0; y = t }) n some).1 (no_more x n, refl)).0
  where
    no_more : (x : ℤ) (n : ℕ) → x ≡ x +ℤ (pos n *ℤ pos 0)
    no_more x n = rw (times_zero n) (same x)
      where
        same : (x : ℤ) → x ≡ x +ℤ pos 0
        same x = omega (arith, ints)

counted : (n : ℕ) → 0 < n → n ≤ 32767 → is_count n ≡ true
counted n some few = grind (arith, nat_tests)

fine_array : (a b c d : Bool) → a ≡ true → b ≡ true → c ≡ true → d ≡ true → not (a && b) || not (c && d) ≡ false
fine_array a b c d h i j k = rw (h, i, j, k) refl

stack_fine : (filled : PlaceSet) (r : Lattice) (s : Stack) → IsOnRaster filled r s → is_bad_array s.columns s.rows (stack_points r s) ≡ false
stack_fine filled r s is =
    fine_array (is_count s.columns) (is_count s.rows) _ _ (counted s.columns is.wide is.narrow) (counted s.rows is.some is.few)
    (whole_columns (box_begin r.across s.column) (box_begin r.up s.row) r.across.step s.columns is.wide) (whole_rows (box_begin r.across s.column) (box_begin r.up s.row) r.up.step s.rows is.some)

stack_tells : (cell : List ℕ) (filled : PlaceSet) (r : Lattice) (s : Stack) → IsOnRaster filled r s → flat_map corners_of (stack_shapes cell r s) ≡ stack_corners r s
stack_tells cell filled r s is = by ((s.columns == 1) && (s.rows == 1))
  where
    by : (b : Bool) → flat_map corners_of (if b then reference cell plain (corner_of r s.column s.row) ∷ [] else array cell plain s.columns s.rows (stack_points r s) ∷ [])
        ≡ (if b then corner_of r s.column s.row ∷ [] else map (λ k. grid_point (stack_points r s) s.columns s.rows (k % s.columns) (k / s.columns)) (range_with_len 0 (s.columns * s.rows)))
    by true = refl
    by false = rw (stack_fine filled r s is) (append-nil _)

-- the references stand at the corners of the places of the stacks
pub corners_stand : (rules : Rules) (units dates : List ℕ) (filled : PlaceSet)
    → corners_in (fill_contents units dates (values_of rules) filled) ≡ map (λ (p : ℤ × ℤ). corner_of (raster_in rules) p.0 p.1) (flat_map stack_places (stacks filled (raster_in rules)))
corners_stand rules units dates filled =
    let v = values_of rules in let r = raster_in rules in
    ap (flat_map corners_of) (append-nil (flat_map (stack_shapes v.fill_cell r) (stacks filled r)))
    ∙ (stacks_same r filled corners_of (stack_shapes v.fill_cell r) (stack_corners r) (λ s is. stack_tells v.fill_cell filled r s is)
    ∙ stack_corners_of filled r (stacks filled r) (all_on filled r))

-- ---- a corner is that of one place

pub same_begin : (a : Axis) (k i : ℤ) → pos 1 ≤ℤ a.step → int_eq (box_begin a k) (box_begin a i) ≡ int_eq k i
same_begin a k i one = both _ _
    (λ h. (Decides-int_eq k i).1 (equal ((Decides-int_eq (box_begin a k) (box_begin a i)).0 h)))
    (λ h. (Decides-int_eq (box_begin a k) (box_begin a i)).1 (ap (box_begin a) ((Decides-int_eq k i).0 h)))
  where
    further : (o s m n : ℤ) → pos 1 ≤ℤ s → (m +ℤ s) ≤ℤ n → o +ℤ m ≡ o +ℤ n → ⊥
    further o s m n h k e = omega (arith, ints)

    turned : (k i : ℤ) → i ≤ℤ k → (i <ℤ k → ⊥) → k ≡ i
    turned k i le never = by_lt_z i k (λ lt. absurd (never lt)) (λ ge. two k i le ge)
      where
        two : (k i : ℤ) → i ≤ℤ k → k ≤ℤ i → k ≡ i
        two k i h g = omega (arith, ints)

    equal : box_begin a k ≡ box_begin a i → k ≡ i
    equal e = by_lt_z k i
        (λ lt. absurd (further a.origin a.step (k *ℤ a.step) (i *ℤ a.step) one (product_lt k i a.step one lt) e))
        (λ le. turned k i le (λ lt. further a.origin a.step (i *ℤ a.step) (k *ℤ a.step) one (product_lt i k a.step one lt) (sym e)))

any_map : {X Y : Type 0} (p : Y → Bool) (q : X → Bool) (f : X → Y) (xs : List X) → ((x : X) → p (f x) ≡ q x) → list_any p (map f xs) ≡ list_any q xs
any_map p q f [] each = refl
any_map p q f (x ∷ xs) each = ap (λ b. b || list_any p (map f xs)) (each x) ∙ ap (λ b. q x || b) (any_map p q f xs each)

abbrev some_of : {X : Type 0} → List X → Bool
some_of [] = false
some_of (x ∷ xs) = true

any_filter : {X : Type 0} (p : X → Bool) (xs : List X) → list_any p xs ≡ some_of (filter p xs)
any_filter p [] = refl
any_filter p (x ∷ xs) = by (p x) (any_filter p xs)
  where
    by : (b : Bool) → list_any p xs ≡ some_of (filter p xs) → b || list_any p xs ≡ some_of (if b then x ∷ filter p xs else filter p xs)
    by true h = refl
    by false h = h

twice : (a b : Bool) (q : ℤ × ℤ) → a && some_of (if a && b then q ∷ [] else []) ≡ a && b
twice true true q = refl
twice true false q = refl
twice false b q = refl

on_raster_alone : (a f : Bool) → (f ≡ true → a ≡ true) → a && f ≡ f
on_raster_alone true f h = refl
on_raster_alone false true h = h refl
on_raster_alone false false h = refl

pub places_tell : (rules : Rules) (units dates : List ℕ) (filled : PlaceSet) → ((i j : ℤ) → filled i j ≡ true → in_raster (raster_in rules) i j ≡ true)
    → places_in (raster_in rules) (fill_contents units dates (values_of rules) filled) ≡ filled
places_tell rules units dates filled on = fun_ext (λ i. fun_ext (λ j.
    let r = raster_in rules in
    let found : list_any (is_point (corner_of r i j)) (corners_in (fill_contents units dates (values_of rules) filled)) ≡ some_of (if in_raster r i j && filled i j then (i, j) ∷ [] else []) =
    ap (list_any (is_point (corner_of r i j))) (corners_stand rules units dates filled)
    ∙ (any_map (is_point (corner_of r i j)) (is_place i j) (λ p. corner_of r p.0 p.1) (flat_map stack_places (stacks filled r))
    (λ p. rw (same_begin r.across p.0 i (across_is rules).step_is.least, same_begin r.up p.1 j (up_is rules).step_is.least) refl)
    ∙ (list_any-IsPermutation (is_place i j) (flat_map stack_places (stacks filled r)) (filled_places filled r) (hold_each_once filled r)
    ∙ (any_filter (is_place i j) (filled_places filled r) ∙ ap some_of (each_place_once rules filled i j)))) in
    ap (λ b. in_raster r i j && b) found ∙ (twice (in_raster r i j) (filled i j) (i, j) ∙ on_raster_alone (in_raster r i j) (filled i j) (on i j))))

-- ---- one text, one reading

pub spelled : (rules : Rules) (units dates : List ℕ) (filled : PlaceSet) → length units ≡ 16 → length dates ≡ 24 → Spells (fill_text units dates (values_of rules) filled) (fill_contents units dates (values_of rules) filled)
spelled rules units dates filled size len = record {
  records = fill_records units dates (values_of rules) filled;
  rest = [];
  parts = sym (append-nil _);
  library = is_a_library rules units dates filled size len;
}

one_reading : (bytes : List ℕ) (v w : Contents) → Spells bytes v → Spells bytes w → v ≡ w
one_reading bytes v w s t = one_value bytes s.rest v w (record { taken = s.records; parts = s.parts; fit = s.library.well.fit; runs = library_runs all_rules s.records v s.library }) t

read_as : (rules : Rules) (bytes units dates : List ℕ) (filled : PlaceSet) (contents : Contents) → IsFillText rules bytes units dates filled → Spells bytes contents → contents ≡ fill_contents units dates (values_of rules) filled
read_as rules bytes units dates filled contents is s =
    one_reading bytes contents (fill_contents units dates (values_of rules) filled) s (rw is.text (spelled rules units dates filled is.units_size is.dates_size))

pub tells_fill : TextTellsItsFill
tells_fill rules bytes units dates filled contents is s =
    let e = read_as rules bytes units dates filled contents is s in
    record {
      units_are = ap (λ (c : Contents). c.units) e;
      dates_are = ap (λ (c : Contents). c.dates) e;
      places_are = ap (places_in (raster_in rules)) e ∙ places_tell rules units dates filled is.on_raster;
    }

pub one_fill : OneTextOneFill
one_fill rules bytes units dates other others filled changed is was =
    let s : Spells bytes (fill_contents units dates (values_of rules) filled) = rw is.text (spelled rules units dates filled is.units_size is.dates_size) in
    let a = tells_fill rules bytes units dates filled (fill_contents units dates (values_of rules) filled) is s in
    let b = tells_fill rules bytes other others changed (fill_contents units dates (values_of rules) filled) was s in
    record { units_are = b.units_are; dates_are = b.dates_are; places_are = sym a.places_are ∙ b.places_are }

pub first_holds : (a b : Bool) → a && b ≡ true → a ≡ true
first_holds true b h = refl
first_holds false b h = h

-- a fill text is what its reading says, written again
pub read_again : (rules : Rules) (bytes units dates : List ℕ) (filled : PlaceSet) (contents : Contents) → IsFillText rules bytes units dates filled → Spells bytes contents
    → bytes ≡ fill_text contents.units contents.dates (values_of rules) (places_in (raster_in rules) contents)
read_again rules bytes units dates filled contents is s =
    let t = tells_fill rules bytes units dates filled contents is s in
    is.text
    ∙ (ap (λ u. fill_text u dates (values_of rules) filled) (sym t.units_are)
    ∙ (ap (λ d. fill_text contents.units d (values_of rules) filled) (sym t.dates_are) ∙ ap (fill_text contents.units contents.dates (values_of rules)) (sym t.places_are)))

pub exact : ReadingIsExact
exact rules bytes contents s units_size dates_size = (
  (λ e. (contents.units, contents.dates, places_in (raster_in rules) contents, record { units_size = units_size; dates_size = dates_size; on_raster = λ i j h. first_holds _ _ h; text = e })),
  (λ is. read_again rules bytes is.0 is.1 is.2 contents is.3 s),
)

-- and has no more references than there are places
pub few_corners : (rules : Rules) (bytes units dates : List ℕ) (filled : PlaceSet) (contents : Contents) → IsLattice (raster_in rules) → IsFillText rules bytes units dates filled → Spells bytes contents → length (corners_in contents) ≤ 16777216
few_corners rules bytes units dates filled contents lattice is s =
    let r = raster_in rules in let places = flat_map stack_places (stacks filled r) in
    let same : length (corners_in contents) ≡ length (filled_places filled r) =
    ap (λ (c : Contents). length (corners_in c)) (read_as rules bytes units dates filled contents is s)
    ∙ (ap length (corners_stand rules units dates filled) ∙ (length-map places (λ (p : ℤ × ℤ). corner_of r p.0 p.1) ∙ sym (length_permutation places (filled_places filled r) (hold_each_once filled r)))) in
    rw same (places_few r filled lattice)
