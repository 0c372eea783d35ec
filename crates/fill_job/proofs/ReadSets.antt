-- The wanted places of a tile depend on its read set alone.
use Rattle.std.proofs.Common.{◌≡◌, refl, ap, sym, subst, ◌∙◌, ℕ, ◌<◌, ℤ, pos, ◌+ℤ◌, ◌-ℤ◌, ◌≤ℤ◌, ◌<ℤ◌, arith, Bool, true, false, ◌&&◌, not}
use Rattle.std.specs.Prelude.{int_lt, int_le, nat_lt, ◌==◌}
use Rattle.std.proofs.Math.Path.{fun_ext}
use Rattle.std.proofs.lemmas.Bool.{and_from, and_parts}
use Rattle.std.proofs.lemmas.Bool.Decides.{nat_tests}
use Rattle.std.proofs.lemmas.Int.{ints}
use Rattle.fill_base.specs.Limits.{IsLength, IsSpacing}
use Rattle.fill_base.proofs.Between.{is_between_true}
use Rattle.fill_area.specs.Grid.{window_left, window_right, window_bottom, window_top}
use Rattle.fill_raster.specs.Axes.{box_begin, box_end}
use Rattle.fill_raster.specs.Lattice.{in_raster, in_tile, in_halo, tile_of, tiles, tile_left, tile_right, tile_bottom, tile_top}
use Rattle.fill_raster.specs.Laws.{IsBounded}
use Rattle.fill_raster.proofs.RasterLaws.{edges_bound, place_has_a_tile}
use Rattle.fill_job.specs.Plans.{Plan, IsPlan, Layers, PointSet, WindowSet, is_taken, meets_box, plan_of, holds_box, in_window_of}
use Rattle.fill_job.specs.ReadSets.{ReadSet, layers_near, touches, wanted_of}
use Rattle.fill_job.specs.Laws.{WantedIsOfTheReadSet, EqualReadSetsWantTheSame}
use Rattle.fill_job.proofs.Conflicts.{no_spacing}
use Rattle.fill_job.proofs.Searching.{some_pair_same, some_within_same}

-- ---- tests

and_true : (a b : Bool) → b ≡ true → a && b ≡ a
and_true true b h = h
and_true false b h = refl

-- a condition that follows from another one may be left out beside it
left_out : (a b c : Bool) → (c ≡ true → b ≡ true) → (a && b) && c ≡ a && c
left_out false b c follows = refl
left_out true true c follows = refl
left_out true false true follows = absurd (let e : false ≡ true = follows refl in cc)
left_out true false false follows = refl

pub wanted_same : (t a b c d : Bool) → (t ≡ true → a ≡ c) → (t ≡ true → b ≡ d) → t && (not a && b) ≡ t && (not c && d)
wanted_same true a b c d x y = rw (x refl, y refl) refl
wanted_same false a b c d x y = refl

lt_is : (a b : ℤ) → a <ℤ b → int_lt a b ≡ true
lt_is a b h = grind (arith, ints)

is_le : (a b : ℤ) → int_le a b ≡ true → a ≤ℤ b
is_le a b h = grind (arith, ints)

nat_lt_is : (a b : ℕ) → a < b → nat_lt a b ≡ true
nat_lt_is a b h = grind (arith, nat_tests)

nat_eq_is : (a b : ℕ) → (a == b) ≡ true → a ≡ b
nat_eq_is a b h = grind (arith, nat_tests)

-- ---- a place of a tile

-- a box that lies between the edges of its tile
pub bounded : (plan : Plan) (tile : ℕ) (i j : ℤ) → IsPlan plan → in_tile plan.raster tile i j ≡ true → IsBounded plan.raster tile i j
bounded plan tile i j is h =
    let parts = and_parts (in_raster plan.raster i j) (tile_of plan.raster i j == tile) h in
    let lt : tile_of plan.raster i j < tiles plan.raster = place_has_a_tile plan.raster is.raster i j parts.0 in
    let e : tile_of plan.raster i j ≡ tile = nat_eq_is (tile_of plan.raster i j) tile parts.1 in
    edges_bound plan.raster is.raster tile (rw e at lt) i j h

pub grown_ordered : (b n s : ℤ) → IsLength n → IsSpacing s → (b -ℤ s) ≤ℤ ((b +ℤ n) +ℤ s)
grown_ordered b n s long spacing = let l : pos 1 ≤ℤ n = long.least in let k : pos 0 ≤ℤ s = spacing.least in omega (arith, ints)

in_grown : (lo hi b e s x : ℤ) → lo ≤ℤ b → e ≤ℤ hi → (b -ℤ s) ≤ℤ x → x <ℤ (e +ℤ s) → ((lo -ℤ s) ≤ℤ x) × (x <ℤ (hi +ℤ s))
in_grown lo hi b e s x low high from to = (omega (arith, ints), omega (arith, ints))

pub same_met : (plan : Plan) (s : ℤ) (p : PointSet) (tile : ℕ) (i j : ℤ) → IsPlan plan → IsSpacing s → in_tile plan.raster tile i j ≡ true
    → meets_box plan.raster s (λ x y. p x y && in_halo plan.raster tile s x y) i j ≡ meets_box plan.raster s p i j
unfolding meets_box
same_met plan s p tile i j is spacing h =
    let b = bounded plan tile i j is h in
    let r = plan.raster in
    some_within_same (λ x y. p x y && in_halo r tile s x y) p (box_begin r.across i -ℤ s) (box_begin r.up j -ℤ s) (box_end r.across i +ℤ s) (box_end r.up j +ℤ s)
    (grown_ordered (box_begin r.across i) r.across.length s is.raster.across.length_is spacing)
    (grown_ordered (box_begin r.up j) r.up.length s is.raster.up.length_is spacing)
    (λ x y left right bottom top.
    let across = in_grown (tile_left r tile) (tile_right r tile) (box_begin r.across i) (box_end r.across i) s x b.left b.right left right in
    let up = in_grown (tile_bottom r tile) (tile_top r tile) (box_begin r.up j) (box_end r.up j) s y b.bottom b.top bottom top in
    and_true (p x y) (in_halo r tile s x y) (and_from _ _ (is_between_true _ _ x across.0 across.1) (is_between_true _ _ y up.0 up.1)))

-- what of the layers is near to a tile takes the same places of it
pub same_taken : (plan : Plan) (layers : Layers) (tile : ℕ) (i j : ℤ) → IsPlan plan → in_tile plan.raster tile i j ≡ true → is_taken plan (layers_near plan layers tile) i j ≡ is_taken plan layers i j
same_taken plan layers tile i j is h =
    rw (same_met plan plan.spacing layers.metal tile i j is is.spacing h, same_met plan plan.fill_spacing layers.fill tile i j is is.fill_spacing h, same_met plan (pos 0) layers.keep tile i j is no_spacing h) refl

-- a window that holds the box on an axis begins before the tile ends, and ends after it begins
overlaps : (lo hi b n left right : ℤ) → IsLength n → lo ≤ℤ b → (b +ℤ n) ≤ℤ hi → int_le left b && int_le (b +ℤ n) right ≡ true → int_lt left hi && int_lt lo right ≡ true
overlaps lo hi b n left right long low high h =
    let parts = and_parts (int_le left b) (int_le (b +ℤ n) right) h in
    let p = is_le left b parts.0 in let q = is_le (b +ℤ n) right parts.1 in
    let l : pos 1 ≤ℤ n = long.least in
    and_from _ _ (lt_is left hi (omega (arith, ints))) (lt_is lo right (omega (arith, ints)))

pub holding_touches : (plan : Plan) (tile : ℕ) (i j : ℤ) (a b : ℕ) → IsPlan plan → in_tile plan.raster tile i j ≡ true
    → a < plan.windows.across.count → b < plan.windows.up.count → holds_box plan a b i j ≡ true → touches plan tile a b ≡ true
holding_touches plan tile i j a b is h columns rows holds =
    let at = bounded plan tile i j is h in
    let r = plan.raster in let w = plan.windows in
    let parts = and_parts _ _ holds in
    and_from _ _
    (and_from _ _ (nat_lt_is a w.across.count columns) (overlaps (tile_left r tile) (tile_right r tile) (box_begin r.across i) r.across.length (window_left w a) (window_right w a) is.raster.across.length_is at.left at.right parts.0))
    (and_from _ _ (nat_lt_is b w.up.count rows) (overlaps (tile_bottom r tile) (tile_top r tile) (box_begin r.up j) r.up.length (window_bottom w b) (window_top w b) is.raster.up.length_is at.bottom at.top parts.1))

pub same_windows : (plan : Plan) (low : WindowSet) (tile : ℕ) (i j : ℤ) → IsPlan plan → in_tile plan.raster tile i j ≡ true
    → in_window_of plan (λ a b. low a b && touches plan tile a b) i j ≡ in_window_of plan low i j
unfolding in_window_of
same_windows plan low tile i j is h =
    some_pair_same (λ a b. (low a b && touches plan tile a b) && holds_box plan a b i j) (λ a b. low a b && holds_box plan a b i j) plan.windows.across.count plan.windows.up.count
    (λ a b columns rows. left_out (low a b) (touches plan tile a b) (holds_box plan a b i j) (holding_touches plan tile i j a b is h columns rows))

-- ---- the laws

pub same_wanted : WantedIsOfTheReadSet
same_wanted rules layers low tile is = let plan = plan_of rules in fun_ext (λ i. fun_ext (λ j.
    wanted_same (in_tile plan.raster tile i j)
    (is_taken plan (layers_near plan layers tile) i j) (in_window_of plan (λ a b. low a b && touches plan tile a b) i j)
    (is_taken plan layers i j) (in_window_of plan low i j)
    (same_taken plan layers tile i j is) (same_windows plan low tile i j is)))

pub equal_wanted : EqualReadSetsWantTheSame
equal_wanted rules other layers changed low risen tile is e =
    let is_other : IsPlan (plan_of other) = subst (λ (r : ReadSet). IsPlan (plan_of r.rules)) e is in
    sym (same_wanted rules layers low tile is) ∙ (ap (λ (r : ReadSet). wanted_of r tile) e ∙ same_wanted other changed risen tile is_other)
