-- The areas of windows: a difference of numbers at crossings, and a list of them.
use Rattle.std.proofs.Common.{◌≡◌, ℕ, ◌+◌, ◌*◌, ◌/◌, ◌%◌, ◌≤◌, ◌<◌, ℤ, pos, ◌+ℤ◌, ◌-ℤ◌, ◌≤ℤ◌, ◌<ℤ◌, Bool, List, [], ◌∷◌, ◌++◌, All, map, length, get_or, refl, arith, ap, ◌∙◌, sym, subst, w64, FitsSigned}
use Rattle.std.specs.List.{range_with_len, AllZip}
use Rattle.std.proofs.Math.Logic.{∥∥₁_elim}
use Rattle.std.proofs.Props.{props}
use Rattle.std.proofs.lemmas.List.FromFn.{get_or-map-range_with_len, length-map-range_with_len, map-range_with_len_more}
use Rattle.std.proofs.lemmas.Slice.Zip.{AllZip-map}
use Rattle.std.proofs.lemmas.Int.{ints, clamps}
use Rattle.fill_base.specs.Coordinates.{lowest, highest}
use Rattle.fill_base.specs.Squares.{area_between}
use Rattle.fill_base.proofs.Signed.{read, le_trans}
use Rattle.fill_base.proofs.Covering.{area_split_across, area_split_up}
use Rattle.fill_area.proofs.Measuring.{area_at, bounded, measured}
use Rattle.fill_area.specs.Density.{window_area, AreMeasured, IsArea}
use Rattle.fill_area.specs.Grid.{Grid, IsGrid, parts_across, parts_up}
use Rattle.fill_cells.specs.Mesh.{AreCuts}
use Rattle.fill_measure.proofs.Amid.{area_small, side_low, side_high}
use Rattle.fill_measure.proofs.SumsAbove.{count_read, difference_of}
use Rattle.fill_measure.specs.Sums.{AreSumsOf, areas_from}
use Rattle.fill_measure.specs.declared.sides.Side.{Side}
use Rattle.fill_measure.specs.declared.sides.Sides.{Sides}
use Rattle.fill_measure.specs.declared.sums.WindowSums.{WindowSums}
use Rattle.fill_measure.specs.steps.Sides.{IsAt, IsBetween, IsSide, coordinate_of}
use Rattle.fill_measure.specs.steps.Uniform.{IsUniform, IsUniformAbout, turned}

-- what lies below and left of two sides
abbrev pub corner : (ℤ → ℤ → Bool) → List ℤ → List ℤ → Side → Side → ℕ
corner p across up s t = area_between p (get_or across 0 (pos 0)) (get_or up 0 (pos 0)) (coordinate_of across s (pos 0)) (coordinate_of up t (pos 0))

-- the area of a window, as the code finds it: the difference of what its sides across cut off from the rows at which it ends and begins
pub window_of : (p : ℤ → ℤ → Bool) (g : Grid) (across up : List ℤ) (a b : ℕ) (s t : Sides) (x1 x0 y1 y0 : ℤ) → AreCuts across → AreCuts up → IsBetween (parts_across g) across a s → IsBetween (parts_up g) up b t
    → x1 ≡ pos (corner p across up s.end t.end) → x0 ≡ pos (corner p across up s.begin t.end) → y1 ≡ pos (corner p across up s.end t.begin) → y0 ≡ pos (corner p across up s.begin t.begin)
    → (FitsSigned w64 (read x1 -ℤ read x0) × FitsSigned w64 (read y1 -ℤ read y0)) × (FitsSigned w64 (read (read x1 -ℤ read x0) -ℤ read (read y1 -ℤ read y0)) × (read (read (read x1 -ℤ read x0) -ℤ read (read y1 -ℤ read y0)) ≡ pos (window_area p g a b)))
window_of p g across up a b s t x1 x0 y1 y0 x_are y_are column row x1_is x0_is y1_is y0_is =
    let high = strip (coordinate_of up t.end d) (read x1) (read x0) (below t.end row.ends.is) (side_high up t.end d y_are row.ends.is) (number s.end t.end x1 column.ends.is row.ends.is x1_is) (number s.begin t.end x0 column.begins.is row.ends.is x0_is) in
    let low = strip (coordinate_of up t.begin d) (read y1) (read y0) (below t.begin row.begins.is) (side_high up t.begin d y_are row.begins.is) (number s.end t.begin y1 column.ends.is row.begins.is y1_is) (number s.begin t.begin y0 column.begins.is row.begins.is y0_is) in
    let whole = difference_of _ _ _ _ _ high.1 low.1 (area_split_up p left right bottom (coordinate_of up t.begin d) (coordinate_of up t.end d) (below t.begin row.begins.is) rows)
    (area_small p left bottom right (coordinate_of up t.end d) left_least columns right_most (y_are.coordinates 0 d y_some).least (below t.end row.ends.is) (side_high up t.end d y_are row.ends.is)) in
    ((high.0, low.0), (whole.0, whole.1 ∙ rw (column.begins.at d, column.ends.at d, row.begins.at d, row.ends.at d) refl))
  where
    d : ℤ
    d = pos 0

    x_some : 0 < length across
    x_some = omega (arith, x_are.some)

    y_some : 0 < length up
    y_some = omega (arith, y_are.some)

    left : ℤ
    left = coordinate_of across s.begin d

    right : ℤ
    right = coordinate_of across s.end d

    bottom : ℤ
    bottom = get_or up 0 d

    left_low : get_or across 0 d ≤ℤ left
    left_low = side_low across s.begin d x_are column.begins.is

    left_least : lowest ≤ℤ left
    left_least = le_trans _ _ _ (x_are.coordinates 0 d x_some).least left_low

    right_most : right ≤ℤ highest
    right_most = side_high across s.end d x_are column.ends.is

    columns : left ≤ℤ right
    columns = rw (column.begins.at d, column.ends.at d) column.ordered

    rows : coordinate_of up t.begin d ≤ℤ coordinate_of up t.end d
    rows = rw (row.begins.at d, row.ends.at d) row.ordered

    below : (side : Side) → IsSide up side → bottom ≤ℤ coordinate_of up side d
    below side is = side_low up side d y_are is

    number : (u v : Side) (z : ℤ) → IsSide across u → IsSide up v → z ≡ pos (corner p across up u v) → read z ≡ pos (corner p across up u v)
    number u v z u_is v_is is = count_read z _ is (area_small p _ _ _ _ (x_are.coordinates 0 d x_some).least (side_low across u d x_are u_is) (side_high across u d x_are u_is) (y_are.coordinates 0 d y_some).least (side_low up v d y_are v_is) (side_high up v d y_are v_is))

    strip : (top x y : ℤ) → bottom ≤ℤ top → top ≤ℤ highest → x ≡ pos (area_between p (get_or across 0 d) bottom right top) → y ≡ pos (area_between p (get_or across 0 d) bottom left top)
        → FitsSigned w64 (x -ℤ y) × (read (x -ℤ y) ≡ pos (area_between p left bottom right top))
    strip top x y above most x_is y_is = difference_of _ _ _ _ _ x_is y_is (area_split_across p (get_or across 0 d) left right bottom top left_low columns)
        (area_small p (get_or across 0 d) bottom right top (x_are.coordinates 0 d x_some).least (le_trans _ _ _ left_low columns) right_most (y_are.coordinates 0 d y_some).least above most)

-- the sides of a column and of a row of the sums' own windows
pub column_of : (sums : WindowSums) (a : ℕ) (s : Sides) → a < sums.windows.across.count → s ≡ get_or sums.columns.items a s → IsBetween (parts_across sums.windows) sums.across.items a s
column_of sums a s a_in s_is = subst (IsBetween (parts_across sums.windows) sums.across.items a) (sym s_is) (sums.columns_are.each a s a_in)

pub row_of : (sums : WindowSums) (b : ℕ) (t : Sides) → b < sums.windows.up.count → t ≡ get_or sums.rows.items b t → IsBetween (parts_up sums.windows) sums.up.items b t
row_of sums b t b_in t_is = subst (IsBetween (parts_up sums.windows) sums.up.items b) (sym t_is) (sums.rows_are.each b t b_in)

pub window_at : (p : ℤ → ℤ → Bool) (sums : WindowSums) (a b : ℕ) (s t : Sides) (x1 x0 y1 y0 : ℤ) → a < sums.windows.across.count → b < sums.windows.up.count → s ≡ get_or sums.columns.items a s → t ≡ get_or sums.rows.items b t
    → x1 ≡ pos (corner p sums.across.items sums.up.items s.end t.end) → x0 ≡ pos (corner p sums.across.items sums.up.items s.begin t.end)
    → y1 ≡ pos (corner p sums.across.items sums.up.items s.end t.begin) → y0 ≡ pos (corner p sums.across.items sums.up.items s.begin t.begin)
    → (FitsSigned w64 (read x1 -ℤ read x0) × FitsSigned w64 (read y1 -ℤ read y0)) × (FitsSigned w64 (read (read x1 -ℤ read x0) -ℤ read (read y1 -ℤ read y0)) × (read (read (read x1 -ℤ read x0) -ℤ read (read y1 -ℤ read y0)) ≡ pos (window_area p sums.windows a b)))
window_at p sums a b s t x1 x0 y1 y0 a_in b_in s_is t_is =
    window_of p sums.windows sums.across.items sums.up.items a b s t x1 x0 y1 y0 sums.across_cuts sums.up_cuts (column_of sums a s a_in s_is) (row_of sums b t b_in t_is)

pub above_fits : (p : ℤ → ℤ → Bool) (sums : WindowSums) (a b : ℕ) (s t : Sides) (x1 x0 : ℤ) → a < sums.windows.across.count → b < sums.windows.up.count → s ≡ get_or sums.columns.items a s → t ≡ get_or sums.rows.items b t
    → x1 ≡ pos (corner p sums.across.items sums.up.items s.end t.end) → x0 ≡ pos (corner p sums.across.items sums.up.items s.begin t.end) → FitsSigned w64 (read x1 -ℤ read x0)
above_fits p sums a b s t x1 x0 a_in b_in s_is t_is x1_is x0_is = (window_at p sums a b s t x1 x0 _ _ a_in b_in s_is t_is x1_is x0_is refl refl).0.0

-- the set is uniform about a side at which a span begins or ends
uniform_at : (p : ℤ → ℤ → Bool) (cuts : List ℤ) (z : ℤ) (side : Side) → IsAt cuts z side → IsUniformAbout p cuts z → 0 < side.past → IsUniform p cuts side.cut
uniform_at p cuts z side at about some =
    about side.cut (pos 0) (at.is.next some) (rw (← at.at (pos 0)) (past (get_or cuts side.cut (pos 0)) side.past some)) (rw (← at.at (pos 0)) (at.is.amid some (pos 0)))
  where
    past : (b : ℤ) (n : ℕ) → 0 < n → b <ℤ (b +ℤ pos n)
    past b n some = omega (arith, ints, clamps)

pub left_uniform : (sums : WindowSums) (a : ℕ) (s : Sides) → a < sums.windows.across.count → s ≡ get_or sums.columns.items a s → 0 < s.begin.past → (p : ℤ → ℤ → Bool) → AreSumsOf p sums → IsUniform p sums.across.items s.begin.cut
left_uniform sums a s a_in s_is some p are = uniform_at p sums.across.items _ s.begin (column_of sums a s a_in s_is).begins (are.columns.begins a a_in) some

pub right_uniform : (sums : WindowSums) (a : ℕ) (s : Sides) → a < sums.windows.across.count → s ≡ get_or sums.columns.items a s → 0 < s.end.past → (p : ℤ → ℤ → Bool) → AreSumsOf p sums → IsUniform p sums.across.items s.end.cut
right_uniform sums a s a_in s_is some p are = uniform_at p sums.across.items _ s.end (column_of sums a s a_in s_is).ends (are.columns.ends a a_in) some

pub lower_uniform : (sums : WindowSums) (b : ℕ) (t : Sides) → b < sums.windows.up.count → t ≡ get_or sums.rows.items b t → 0 < t.begin.past → (p : ℤ → ℤ → Bool) → AreSumsOf p sums → IsUniform (turned p) sums.up.items t.begin.cut
lower_uniform sums b t b_in t_is some p are = uniform_at (turned p) sums.up.items _ t.begin (row_of sums b t b_in t_is).begins (are.rows.begins b b_in) some

pub upper_uniform : (sums : WindowSums) (b : ℕ) (t : Sides) → b < sums.windows.up.count → t ≡ get_or sums.rows.items b t → 0 < t.end.past → (p : ℤ → ℤ → Bool) → AreSumsOf p sums → IsUniform (turned p) sums.up.items t.end.cut
upper_uniform sums b t b_in t_is some p are = uniform_at (turned p) sums.up.items _ t.end (row_of sums b t b_in t_is).ends (are.rows.ends b b_in) some

-- the areas of all windows are what is asked for
all_at : (p : ℤ → ℤ → Bool) (g : Grid) (k : ℕ) (d : ℤ) → k < g.across.count * g.up.count → get_or (areas_from p g 0 (g.across.count * g.up.count)) k d ≡ area_at p g k
all_at p g k d lt = get_or-map-range_with_len (area_at p g) 0 (g.across.count * g.up.count) k k d lt (omega arith)

pub all_measured : (p : ℤ → ℤ → Bool) (g : Grid) (areas : List ℤ) (n : ℕ) → IsGrid g → n ≡ g.across.count * g.up.count → areas ≡ areas_from p g 0 n → AreMeasured p g areas
all_measured p g areas n grid all is = rw (is, all) (measured p g _ grid (length-map-range_with_len (area_at p g) 0 (g.across.count * g.up.count)) (all_at p g))

pub all_bounded : (p : ℤ → ℤ → Bool) (g : Grid) (areas : List ℤ) (n : ℕ) → IsGrid g → n ≡ g.across.count * g.up.count → areas ≡ areas_from p g 0 n → All IsArea areas
all_bounded p g areas n grid all is = rw (is, all) (bounded p g _ grid (length-map-range_with_len (area_at p g) 0 (g.across.count * g.up.count)) (all_at p g))

-- one window more
pub areas_more : (p : ℤ → ℤ → Bool) (g : Grid) (old new : List ℤ) (from n k a b : ℕ) (value : ℤ) → old ≡ areas_from p g from n → new ≡ old ++ value ∷ [] → from + n ≡ k → a ≡ k % g.across.count → b ≡ k / g.across.count
    → value ≡ pos (window_area p g a b) → new ≡ areas_from p g from (n + 1)
areas_more p g old new from n k a b value so_far new_is at a_is b_is value_is =
    new_is ∙ (ap (λ xs. xs ++ value ∷ []) so_far ∙ (ap (λ z. areas_from p g from n ++ z ∷ []) (value_is ∙ rw (a_is, b_is) refl) ∙ sym (map-range_with_len_more (area_at p g) from n k at)))

-- how many there are, and that each is an area
pub areas_bounded : (p : ℤ → ℤ → Bool) (g : Grid) (areas : List ℤ) (from n : ℕ) → IsGrid g → from + n ≤ g.across.count * g.up.count → areas ≡ areas_from p g from n → All IsArea areas
areas_bounded p g areas from n grid within is = rw is (λ k d lt.
    let k_in : k < n = rw (length-map-range_with_len (area_at p g) from n) at lt in
    rw (get_or-map-range_with_len (area_at p g) from n k (from + k) d k_in refl) (at (from + k) (omega (arith, k_in, within))))
  where
    at : (k : ℕ) → k < g.across.count * g.up.count → IsArea (area_at p g k)
    at k lt =
        let all = areas_from p g 0 (g.across.count * g.up.count) in
        let count = length-map-range_with_len (area_at p g) 0 (g.across.count * g.up.count) in
        rw (all_at p g k (pos 0) lt) at (bounded p g all grid count (all_at p g) k (pos 0) (rw count lt))

-- what follows from a fact that is merely there, where it is that a number is an area
pub merely_area : {A : Type 0} {z : ℤ} → ∥ A ∥₁ → (A → IsArea z) → IsArea z
merely_area there is = record { least = ∥∥₁_elim there (hlevel props) (λ x. (is x).least); most = ∥∥₁_elim there (hlevel props) (λ x. (is x).most) }

-- areas that were found window by window are those of all windows
pub found_in_order : (p : ℤ → ℤ → Bool) (g : Grid) (n : ℕ) (numbers : List ℕ) (areas : List ℤ) → numbers ≡ range_with_len 0 n → AllZip (λ k area. area ≡ area_at p g k) numbers areas → areas ≡ areas_from p g 0 n
found_in_order p g n numbers areas below each = AllZip-map (area_at p g) numbers areas each ∙ ap (map (area_at p g)) below
