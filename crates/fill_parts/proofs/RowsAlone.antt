-- The places of some rows of tiles, and what is asked of them, in a chip of these rows alone.
use Rattle.std.proofs.Common.{◌≡◌, ◌==◌, refl, sym, ap, subst, ◌∙◌, ℕ, zero, suc, ◌+◌, ◌-◌, ◌*◌, ◌≤◌, ◌<◌, ℤ, pos, ◌+ℤ◌, ◌*ℤ◌, ◌≤ℤ◌, arith, Bool, true, false, ◌&&◌, inl, inr}
use Rattle.std.specs.Prelude.{not, nat_lt}
use Rattle.std.proofs.Math.Nat.{add-mul, mul-le-mul}
use Rattle.std.proofs.Math.IntN.{zero-*ℤ}
use Rattle.std.proofs.Math.Path.{fun_ext}
use Rattle.std.proofs.lemmas.Bool.{and_from, and_parts, cases_lt, eqb-true, eq-eqb}
use Rattle.std.proofs.lemmas.Bool.Decides.{nat_tests}
use Rattle.std.proofs.lemmas.Int.{ints}
use Rattle.fill_area.specs.Density.{window_area}
use Rattle.fill_area.specs.Grid.{counted_size, window_bottom, window_top}
use Rattle.fill_area.specs.declared.axis.Axis as spans
use Rattle.fill_raster.specs.Axes.{IsAxis, bands, band_of, is_on}
use Rattle.fill_raster.specs.Lattice.{Lattice, in_raster, in_tile, tile_of}
use Rattle.fill_raster.specs.declared.axis.Axis.{Axis}
use Rattle.fill_raster.proofs.Bands.{band_below}
use Rattle.fill_raster.proofs.Floors.{one_more}
use Rattle.fill_raster.proofs.Ranges.{both, in_on, on_in, on_within, within_on}
use Rattle.fill_job.specs.Plans.{Plan, Layers, PointSet, drawn_squares, holds_box, in_window_of, is_taken, low_windows, meets_box}
use Rattle.fill_job.specs.Searches.{some_below, some_pair}
use Rattle.fill_job.proofs.Searching.{some_below_finds, some_below_has, some_below_same}
use Rattle.fill_parts.specs.Laws.{SmallerChipWantsTheSame}
use Rattle.fill_parts.specs.Needs.{is_level}
use Rattle.fill_parts.specs.Smaller.{Rows, AreSome, IsSmaller, bands_alone}
use Rattle.fill_parts.proofs.Leveling.{level_holding}
use Rattle.fill_parts.proofs.BandsAlone.{in_alone, back_alone}

-- ---- places by rows of tiles

-- an axis of steps and bands
pub record IsBanded (a : Axis) : Type 0 where
  pub step : pos 1 ≤ℤ a.step
  pub band : 1 ≤ a.band

-- the raster with some rows of tiles alone
abbrev pub rows_alone : Lattice → Rows → Lattice
rows_alone r rows = record { across = r.across; up = bands_alone r.up rows }

pub on_alone : (a : Axis) (rows : Rows) (j : ℤ) → IsBanded a → AreSome rows (bands a) → is_on (bands_alone a rows) j ≡ true → is_on a j ≡ true
on_alone a rows j is are on = within_on a j (in_on a j is.step (in_alone a rows j is.step is.band are (on_in (bands_alone a rows) j is.step (on_within (bands_alone a rows) j on))).there)

pub band_alone : (a : Axis) (rows : Rows) (j : ℤ) → IsBanded a → AreSome rows (bands a) → is_on (bands_alone a rows) j ≡ true → band_of a j ≡ rows.from + band_of (bands_alone a rows) j
band_alone a rows j is are on = (in_alone a rows j is.step is.band are (on_in (bands_alone a rows) j is.step (on_within (bands_alone a rows) j on))).band

-- a place has in the chip of those rows the number of its tile that is left when the tiles below are taken off
tile_moved : (r : Lattice) (rows : Rows) (i j : ℤ) → IsBanded r.up → AreSome rows (bands r.up) → is_on (bands_alone r.up rows) j ≡ true
    → tile_of r i j ≡ rows.from * bands r.across + tile_of (rows_alone r rows) i j
tile_moved r rows i j is are on =
    ap (λ n. n * bands r.across + band_of r.across i) (band_alone r.up rows j is are on) ∙ split rows.from (band_of (bands_alone r.up rows) j) (bands r.across) (band_of r.across i)
  where
    split : (f g c k : ℕ) → (f + g) * c + k ≡ f * c + (g * c + k)
    split f g c k = rw (add-mul f g c) (omega arith)

-- a tile that comes so many rows after others is in one of these rows
row_between : (f t c n row column : ℕ) → f ≤ t → n < (t - f) * c → row * c + column ≡ f * c + n → column < c → (f ≤ row) × (row < t)
row_between f t c n row column ordered lt is below = (
  elim (cases_lt row f) [
    | inl under ↦ absurd (let m = mul-le-mul under (same c) in let e = next row c in omega (arith, m, is, below, e))
    | inr le ↦ le
  ],
  elim (cases_lt row t) [
    | inl less ↦ less
    | inr over ↦ absurd (let m = mul-le-mul over (same c) in let s = sub t f c ordered in omega (arith, m, s, is, lt))
  ],
)
  where
    same : (n : ℕ) → n ≤ n
    same n = omega arith

    next : (n c : ℕ) → suc n * c ≡ n * c + c
    next n c = omega arith

    sub : (t f c : ℕ) → f ≤ t → (t - f) * c + f * c ≡ t * c
    sub t f c le = sym (add-mul (t - f) f c) ∙ ap (λ n. n * c) (whole t f le)
      where
        whole : (t f : ℕ) → f ≤ t → (t - f) + f ≡ t
        whole t f le = omega (arith, le)

-- the tiles of those rows have the same places in both
pub tile_alone : (r : Lattice) (rows : Rows) (tile : ℕ) → IsBanded r.across → IsBanded r.up → AreSome rows (bands r.up) → tile < (rows.to - rows.from) * bands r.across
    → (i j : ℤ) → in_tile (rows_alone r rows) tile i j ≡ in_tile r (rows.from * bands r.across + tile) i j
tile_alone r rows tile across up are lt i j = both _ _ into back
  where
    into : in_tile (rows_alone r rows) tile i j ≡ true → in_tile r (rows.from * bands r.across + tile) i j ≡ true
    into is =
        let p = and_parts (in_raster (rows_alone r rows) i j) _ is in
        let on = and_parts (is_on r.across i) _ p.0 in
        and_from _ _ (and_from _ _ on.0 (on_alone r.up rows j up are on.1))
        (eq-eqb _ _ (tile_moved r rows i j up are on.1 ∙ ap (λ n. rows.from * bands r.across + n) (eqb-true _ _ p.1)))

    back : in_tile r (rows.from * bands r.across + tile) i j ≡ true → in_tile (rows_alone r rows) tile i j ≡ true
    back is =
        let p = and_parts (in_raster r i j) _ is in
        let on = and_parts (is_on r.across i) _ p.0 in
        let at = eqb-true _ _ p.1 in
        let column = band_below r.across i across.band (on_in r.across i across.step (on_within r.across i on.0)) in
        let row = row_between rows.from rows.to (bands r.across) tile (band_of r.up j) (band_of r.across i) (ordered rows.from rows.to are.some) lt at column in
        let here = within_on (bands_alone r.up rows) j (in_on (bands_alone r.up rows) j up.step (back_alone r.up rows j up.step up.band are (on_in r.up j up.step (on_within r.up j on.1)) row.0 row.1)) in
        and_from _ _ (and_from _ _ on.0 here) (eq-eqb _ _ (same_rest (rows.from * bands r.across) _ tile (sym (tile_moved r rows i j up are here) ∙ at)))
      where
        ordered : (f t : ℕ) → f < t → f ≤ t
        ordered f t lt = omega (arith, lt)

        same_rest : (m a b : ℕ) → m + a ≡ m + b → a ≡ b
        same_rest m a b is = omega (arith, is)

-- ---- windows

lt_true : (a b : ℕ) → a < b → nat_lt a b ≡ true
lt_true a b lt = grind (arith, nat_tests)

-- a window counts as much in both, and has the same edges
pub area_alone : (whole small : Plan) (tiles windows : Rows) (p : PointSet) → IsSmaller whole small tiles windows → (a b : ℕ) → b < small.windows.up.count
    → window_area p small.windows a b ≡ window_area p whole.windows a (windows.from + b)
area_alone whole small tiles windows p is a b lt = rw (is.begins b lt, is.ends b lt, is.columns, is.left, is.right) refl

pub size_alone : (whole small : Plan) (tiles windows : Rows) → IsSmaller whole small tiles windows → (a b : ℕ) → b < small.windows.up.count
    → counted_size small.windows a b ≡ counted_size whole.windows a (windows.from + b)
size_alone whole small tiles windows is a b lt = rw (is.begins b lt, is.ends b lt, is.columns, is.left, is.right) refl

-- so many spans further
pub further : (z : ℤ) (m n : ℕ) (s : ℤ) → (z +ℤ (pos m *ℤ s)) +ℤ (pos n *ℤ s) ≡ z +ℤ (pos (m + n) *ℤ s)
further z m n s = rw (product m n s) (moved z (pos m *ℤ s) (pos n *ℤ s))
  where
    product : (m n : ℕ) (s : ℤ) → pos (m + n) *ℤ s ≡ (pos m *ℤ s) +ℤ (pos n *ℤ s)
    product zero n s = ap (λ k. pos k *ℤ s) (same n) ∙ rw (zero-*ℤ s) (none (pos n *ℤ s))
      where
        same : (n : ℕ) → 0 + n ≡ n
        same n = omega arith

        none : (z : ℤ) → z ≡ pos 0 +ℤ z
        none z = omega (arith, ints)
    product (suc m) n s =
        ap (λ z. z *ℤ s) (next m n) ∙ (one_more (pos (m + n)) s ∙ (ap (λ z. z +ℤ s) (product m n s) ∙ (turned (pos m *ℤ s) (pos n *ℤ s) s ∙ ap (λ z. z +ℤ (pos n *ℤ s)) (sym (ap (λ z. z *ℤ s) (next_one m) ∙ one_more (pos m) s)))))
      where
        next : (m n : ℕ) → pos (suc m + n) ≡ pos (m + n) +ℤ pos 1
        next m n = omega (arith, ints)

        next_one : (m : ℕ) → pos (suc m) ≡ pos m +ℤ pos 1
        next_one m = omega (arith, ints)

        turned : (a b s : ℤ) → ((a +ℤ b) +ℤ s) ≡ ((a +ℤ s) +ℤ b)
        turned a b s = omega (arith, ints)

    moved : (z a b : ℤ) → (z +ℤ a) +ℤ b ≡ z +ℤ (a +ℤ b)
    moved z a b = omega (arith, ints)

pub bottom_alone : (whole small : Plan) (tiles windows : Rows) → IsSmaller whole small tiles windows → (b : ℕ) → window_bottom small.windows b ≡ window_bottom whole.windows (windows.from + b)
bottom_alone whole small tiles windows is b = rw is.rows (further whole.windows.up.first windows.from b whole.windows.up.step)

pub top_alone : (whole small : Plan) (tiles windows : Rows) → IsSmaller whole small tiles windows → (b : ℕ) → window_top small.windows b ≡ window_top whole.windows (windows.from + b)
top_alone whole small tiles windows is b = ap (λ z. z +ℤ small.windows.up.length) (bottom_alone whole small tiles windows is b) ∙ ap (λ z. window_bottom whole.windows (windows.from + b) +ℤ z) (rw is.rows refl)

low_alone : (whole small : Plan) (tiles windows : Rows) (p : PointSet) → IsSmaller whole small tiles windows → windows.to ≤ whole.windows.up.count → (a b : ℕ) → b < small.windows.up.count
    → low_windows small p a b ≡ low_windows whole p a (windows.from + b)
low_alone whole small tiles windows p is within a b lt =
    rw (area_alone whole small tiles windows p is a b lt, size_alone whole small tiles windows is a b lt, is.columns, is.least, here, there) refl
  where
    rows : small.windows.up.count ≡ windows.to - windows.from
    rows = rw is.rows refl

    here : nat_lt b small.windows.up.count ≡ true
    here = lt_true b small.windows.up.count lt

    there : nat_lt (windows.from + b) whole.windows.up.count ≡ true
    there = lt_true (windows.from + b) whole.windows.up.count (inside b (rw rows at lt))
      where
        inside : (b : ℕ) → b < windows.to - windows.from → windows.from + b < whole.windows.up.count
        inside b less = omega (arith, less, within)

-- ---- a place

pub taken_alone : (whole small : Plan) (tiles windows : Rows) (layers : Layers) → IsSmaller whole small tiles windows → (i j : ℤ) → is_taken small layers i j ≡ is_taken whole layers i j
unfolding meets_box
taken_alone whole small tiles windows layers is i j = rw (is.across, is.up, is.spacing, is.fill_spacing) refl

pub holds_alone : (whole small : Plan) (tiles windows : Rows) → IsSmaller whole small tiles windows → (a b : ℕ) (i j : ℤ) → holds_box small a b i j ≡ holds_box whole a (windows.from + b) i j
holds_alone whole small tiles windows is a b i j = rw (bottom_alone whole small tiles windows is b, length, is.columns, is.across, is.up) refl
  where
    length : small.windows.up.length ≡ whole.windows.up.length
    length = rw is.rows refl

-- the windows that hold the box of a place are among those rows
pub in_low_alone : (whole small : Plan) (tiles windows : Rows) (p : PointSet) → IsSmaller whole small tiles windows → windows.to ≤ whole.windows.up.count → (i j : ℤ)
    → ((a b : ℕ) → a < whole.windows.across.count → b < whole.windows.up.count → holds_box whole a b i j ≡ true → (windows.from ≤ b) × (b < windows.to))
    → in_window_of small (low_windows small p) i j ≡ in_window_of whole (low_windows whole p) i j
unfolding in_window_of some_pair
in_low_alone whole small tiles windows p is within i j among =
    ap (λ (q : spans.Axis). some_below (column small) q.count) is.columns ∙ some_below_same (column small) (column whole) whole.windows.across.count (λ a lt. both _ _ (up a) (down a lt))
  where
    column : Plan → ℕ → Bool
    column plan a = some_below (λ b. low_windows plan p a b && holds_box plan a b i j) plan.windows.up.count

    rows : small.windows.up.count ≡ windows.to - windows.from
    rows = rw is.rows refl

    up : (a : ℕ) → column small a ≡ true → column whole a ≡ true
    up a some =
        let found = some_below_finds (λ b. low_windows small p a b && holds_box small a b i j) small.windows.up.count some in
        let parts = and_parts (low_windows small p a found.0) (holds_box small a found.0 i j) found.2 in
        some_below_has (λ b. low_windows whole p a b && holds_box whole a b i j) whole.windows.up.count (windows.from + found.0) (inside found.0 (subst (λ (n : ℕ). found.0 < n) rows found.1))
        (and_from _ _ (sym (low_alone whole small tiles windows p is within a found.0 found.1) ∙ parts.0) (sym (holds_alone whole small tiles windows is a found.0 i j) ∙ parts.1))
      where
        inside : (b : ℕ) → b < windows.to - windows.from → windows.from + b < whole.windows.up.count
        inside b less = omega (arith, less, within)

    down : (a : ℕ) → a < whole.windows.across.count → column whole a ≡ true → column small a ≡ true
    down a lt some =
        let found = some_below_finds (λ b. low_windows whole p a b && holds_box whole a b i j) whole.windows.up.count some in
        let parts = and_parts (low_windows whole p a found.0) (holds_box whole a found.0 i j) found.2 in
        let row = among a found.0 lt found.1 parts.1 in
        let b = found.0 - windows.from in
        let less : b < small.windows.up.count = subst (λ (n : ℕ). b < n) (sym rows) (less_than found.0 row.0 row.1) in
        let same : windows.from + b ≡ found.0 = back found.0 row.0 in
        some_below_has (λ b. low_windows small p a b && holds_box small a b i j) small.windows.up.count b less
        (and_from _ _ (low_alone whole small tiles windows p is within a b less ∙ (ap (λ n. low_windows whole p a n) same ∙ parts.0)) (holds_alone whole small tiles windows is a b i j ∙ (ap (λ n. holds_box whole a n i j) same ∙ parts.1)))
      where
        less_than : (b : ℕ) → windows.from ≤ b → b < windows.to → b - windows.from < windows.to - windows.from
        less_than b from to = omega (arith, from, to)

        back : (b : ℕ) → windows.from ≤ b → windows.from + (b - windows.from) ≡ b
        back b from = omega (arith, from)

both_same : (t u a b c d : Bool) → t ≡ u → (u ≡ true → a ≡ c) → (u ≡ true → b ≡ d) → t && (not a && b) ≡ u && (not c && d)
both_same t true a b c d is x y = rw (is, x refl, y refl) refl
both_same t false a b c d is x y = rw is refl

pub banded : (a : Axis) → IsAxis a → IsBanded a
banded a is = record { step = is.step_is.least; band = is.band_is.least }

pub wants_same : SmallerChipWantsTheSame
wants_same whole small rows windows layers axes are within is tile lt level = fun_ext (λ i. fun_ext (λ j.
    let there = rows.from * bands whole.raster.across + tile in
    both_same (in_tile small.raster tile i j) (in_tile whole.raster there i j) (is_taken small layers i j) (in_window_of small (low_windows small (drawn_squares layers)) i j)
    (is_taken whole layers i j) (in_window_of whole (low_windows whole (drawn_squares layers)) i j)
    (rw (is.across, is.up) (tile_alone whole.raster rows tile (banded whole.raster.across axes.places_across) (banded whole.raster.up axes.places_up) are lt i j))
    (λ here. taken_alone whole small rows windows layers is i j)
    (λ here. in_low_alone whole small rows windows (drawn_squares layers) is within i j (λ a b column row holds.
    let parts = and_parts (in_raster whole.raster i j) (tile_of whole.raster i j == there) here in
    level b row (subst (λ (t : ℕ). is_level whole t b ≡ true) (eqb-true _ _ parts.1) (level_holding whole a b i j axes parts.0 holds))))))
