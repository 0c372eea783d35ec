-- What a chip looks at is the same for metals that agree there.
use Rattle.std.proofs.Common.{◌≡◌, refl, ap, ◌∙◌, ℕ, ◌<◌, arith, inl, inr, ℤ, pos, ◌+ℤ◌, ◌-ℤ◌, ◌≤ℤ◌, ◌<ℤ◌, Bool, true, false, ◌&&◌, ◌||◌, not}
use Rattle.std.specs.Prelude.{◌==◌, nat_lt}
use Rattle.std.proofs.Math.Path.{fun_ext}
use Rattle.std.proofs.lemmas.Bool.{and_from, cases_Bool}
use Rattle.std.proofs.lemmas.Bool.Decides.{nat_tests}
use Rattle.std.proofs.lemmas.Int.{ints, clamps}
use Rattle.fill_base.specs.Counts.{is_between, count_between}
use Rattle.fill_base.specs.Limits.{IsLength, IsSpacing}
use Rattle.fill_base.specs.Sides.{Sides}
use Rattle.fill_base.specs.Squares.{area_between}
use Rattle.fill_base.proofs.Between.{is_between_true}
use Rattle.fill_base.proofs.Counting.{count_between_same, sum_between_same}
use Rattle.std.specs.Int.{int_max, int_min}
use Rattle.fill_area.specs.Parts.{part_begin, part_end}
use Rattle.fill_area.specs.Density.{window_area}
use Rattle.fill_area.specs.Grid.{Grid, parts_across, parts_up, window_left, window_right, window_bottom, window_top}
use Rattle.fill_raster.specs.Axes.{box_begin, box_end}
use Rattle.fill_raster.specs.Lattice.{in_raster, in_tile, tile_of, tiles, tile_left, tile_right, tile_bottom, tile_top}
use Rattle.fill_raster.proofs.RasterLaws.{place_has_a_tile}
use Rattle.fill_job.specs.Plans.{Plan, IsPlan, Layers, PointSet, WindowSet, blocked, conflicts, crowded, drawn_squares, is_taken, meets_box, in_window_of, low_windows}
use Rattle.fill_job.proofs.ReadSets.{bounded, grown_ordered}
use Rattle.fill_job.proofs.Searching.{some_within_same}
use Rattle.fill_parts.specs.Needs.{AgreeInside, IsEnough, LayersAgree, LieInside, has_tile, reach, window_sides}
use Rattle.fill_parts.specs.Laws.{AreasAgree, FillsAgree, LowWindowsAgree, PartFillIsWanted}

-- ---- squares of a rectangle between the sides

within : (low high l h x : ℤ) → l ≤ℤ low → high ≤ℤ h → low ≤ℤ x → x <ℤ high → is_between l h x ≡ true
within low high l h x a b c d = is_between_true l h x (omega (arith, ints)) (omega (arith, ints))

pub agree_at : (s t : Sides) (p q : PointSet) → AgreeInside s p q → LieInside t s
    → (x y : ℤ) → t.left ≤ℤ x → x <ℤ t.right → t.bottom ≤ℤ y → y <ℤ t.top → p x y ≡ q x y
agree_at s t p q agree inside x y from_left to_right from_bottom to_top =
    agree x y (and_from _ _ (within t.left t.right s.left s.right x inside.from_left inside.to_right from_left to_right) (within t.bottom t.top s.bottom s.top y inside.from_bottom inside.to_top from_bottom to_top))

pub area_same : (p q : PointSet) (left bottom right top : ℤ) → left ≤ℤ right → bottom ≤ℤ top
    → ((x y : ℤ) → left ≤ℤ x → x <ℤ right → bottom ≤ℤ y → y <ℤ top → p x y ≡ q x y) → area_between p left bottom right top ≡ area_between q left bottom right top
area_same p q left bottom right top wide tall each =
    sum_between_same (λ y. count_between (λ x. p x y) left right) (λ y. count_between (λ x. q x y) left right) bottom top tall
    (λ y low high. count_between_same (λ x. p x y) (λ x. q x y) left right wide (λ x from to. each x y from to low high))

-- sets that agree in a window have the same area in it
pub window_same : (p q : PointSet) (g : Grid) (a b : ℕ) → IsLength g.across.length → IsLength g.up.length
    → ((x y : ℤ) → window_left g a ≤ℤ x → x <ℤ window_right g a → window_bottom g b ≤ℤ y → y <ℤ window_top g b → p x y ≡ q x y) → window_area p g a b ≡ window_area q g a b
window_same p q g a b wide tall each =
    area_same p q (part_begin (parts_across g) a) (part_begin (parts_up g) b) (part_end (parts_across g) a) (part_end (parts_up g) b)
    (ordered (window_left g a) g.across.length g.clip.left g.clip.right wide) (ordered (window_bottom g b) g.up.length g.clip.bottom g.clip.top tall)
    (λ x y from to low high.
    let u = counted g.clip.left g.clip.right (window_left g a) (window_right g a) x from to in
    let v = counted g.clip.bottom g.clip.top (window_bottom g b) (window_top g b) y low high in
    each x y u.0 u.1 v.0 v.1)
  where
    ordered : (z n low high : ℤ) → IsLength n → int_min (int_max z low) high ≤ℤ int_min (int_max (z +ℤ n) low) high
    ordered z n low high long = let l : pos 1 ≤ℤ n = long.least in omega (arith, ints, clamps)

    counted : (low high b e x : ℤ) → int_min (int_max b low) high ≤ℤ x → x <ℤ int_min (int_max e low) high → (b ≤ℤ x) × (x <ℤ e)
    counted low high b e x from to = (omega (arith, ints, clamps), omega (arith, ints, clamps))

pub areas_agree : AreasAgree
areas_agree plan s p q is enough agree a b column row =
    window_same p q plan.windows a b is.windows.across.length_is is.windows.up.length_is (agree_at s (window_sides plan.windows a b) p q agree (enough.windows a b column row))

pub lt_is : (a b : ℕ) → nat_lt a b ≡ true → a < b
lt_is a b h = grind (arith, nat_tests)

pub low_agree : LowWindowsAgree
low_agree plan s p q is enough agree a b = elim (cases_Bool (nat_lt a plan.windows.across.count)) [
  | inr beyond ↦ rw beyond refl
  | inl column ↦ elim (cases_Bool (nat_lt b plan.windows.up.count)) [
    | inr above ↦ rw (column, above) refl
    | inl row ↦ rw (areas_agree plan s p q is enough agree a b (lt_is _ _ column) (lt_is _ _ row)) refl
  ]
]

-- ---- a place

lower : (l t b s : ℤ) → l ≤ℤ (t -ℤ s) → t ≤ℤ b → l ≤ℤ (b -ℤ s)
lower l t b s h k = omega (arith, ints)

upper : (h t e s : ℤ) → (t +ℤ s) ≤ℤ h → e ≤ℤ t → (e +ℤ s) ≤ℤ h
upper h t e s g k = omega (arith, ints)

nearer : (l z d s : ℤ) → d ≤ℤ s → l ≤ℤ (z -ℤ s) → l ≤ℤ (z -ℤ d)
nearer l z d s h k = omega (arith, ints)

further : (h z d s : ℤ) → d ≤ℤ s → (z +ℤ s) ≤ℤ h → (z +ℤ d) ≤ℤ h
further h z d s g k = omega (arith, ints)

-- a distance of at most the reach
same_meeting : (plan : Plan) (s : Sides) (d : ℤ) (p q : PointSet) → IsPlan plan → IsEnough plan s → AgreeInside s p q → IsSpacing d → d ≤ℤ reach plan
    → (tile : ℕ) (i j : ℤ) → tile < tiles plan.raster → in_tile plan.raster tile i j ≡ true → meets_box plan.raster d p i j ≡ meets_box plan.raster d q i j
unfolding meets_box
same_meeting plan s d p q is enough agree few near tile i j lt h =
    let r = plan.raster in
    let b = bounded plan tile i j is h in
    let halo = enough.halos tile lt in
    some_within_same p q (box_begin r.across i -ℤ d) (box_begin r.up j -ℤ d) (box_end r.across i +ℤ d) (box_end r.up j +ℤ d)
    (grown_ordered (box_begin r.across i) r.across.length d is.raster.across.length_is few)
    (grown_ordered (box_begin r.up j) r.up.length d is.raster.up.length_is few)
    (agree_at s (record { left = box_begin r.across i -ℤ d; bottom = box_begin r.up j -ℤ d; right = box_end r.across i +ℤ d; top = box_end r.up j +ℤ d }) p q agree (record {
      from_left = lower s.left (tile_left r tile) (box_begin r.across i) d (nearer s.left (tile_left r tile) d (reach plan) near halo.from_left) b.left;
      from_bottom = lower s.bottom (tile_bottom r tile) (box_begin r.up j) d (nearer s.bottom (tile_bottom r tile) d (reach plan) near halo.from_bottom) b.bottom;
      to_right = upper s.right (tile_right r tile) (box_end r.across i) d (further s.right (tile_right r tile) d (reach plan) near halo.to_right) b.right;
      to_top = upper s.top (tile_top r tile) (box_end r.up j) d (further s.top (tile_top r tile) d (reach plan) near halo.to_top) b.top;
    }))

same_taken : (plan : Plan) (s : Sides) (p q : Layers) → IsPlan plan → IsEnough plan s → LayersAgree s p q
    → (tile : ℕ) (i j : ℤ) → tile < tiles plan.raster → in_tile plan.raster tile i j ≡ true → is_taken plan p i j ≡ is_taken plan q i j
same_taken plan s p q is enough agree tile i j lt h =
    let none : IsSpacing (pos 0) = record { least = omega (arith, ints); most = omega (arith, ints) } in
    ap (λ b. (b || crowded plan p.fill i j) || blocked plan p.keep i j) (same_meeting plan s plan.spacing p.metal q.metal is enough agree.metal is.spacing (first plan.spacing plan.fill_spacing) tile i j lt h)
    ∙ (ap (λ b. (conflicts plan q.metal i j || b) || blocked plan p.keep i j) (same_meeting plan s plan.fill_spacing p.fill q.fill is enough agree.fill is.fill_spacing (second plan.spacing plan.fill_spacing) tile i j lt h)
    ∙ ap (λ b. (conflicts plan q.metal i j || crowded plan q.fill i j) || b) (same_meeting plan s (pos 0) p.keep q.keep is enough agree.keep none (third plan.spacing plan.fill_spacing is.spacing.least) tile i j lt h))
  where
    first : (a b : ℤ) → a ≤ℤ int_max a b
    first a b = omega (arith, ints, clamps)

    second : (a b : ℤ) → b ≤ℤ int_max a b
    second a b = omega (arith, ints, clamps)

    third : (a b : ℤ) → pos 0 ≤ℤ a → pos 0 ≤ℤ int_max a b
    third a b h = omega (arith, ints, clamps)

-- so does what counts
pub drawn_agree : (s : Sides) (p q : Layers) → LayersAgree s p q → AgreeInside s (drawn_squares p) (drawn_squares q)
drawn_agree s p q agree x y inside = rw (agree.metal x y inside, agree.fill x y inside) refl

same_low : (plan : Plan) (s : Sides) (p q : Layers) → IsPlan plan → IsEnough plan s → LayersAgree s p q → (i j : ℤ) → in_window_of plan (low_windows plan (drawn_squares p)) i j ≡ in_window_of plan (low_windows plan (drawn_squares q)) i j
same_low plan s p q is enough agree i j = ap (λ (low : WindowSet). in_window_of plan low i j) (fun_ext (λ a. fun_ext (λ b. low_agree plan s (drawn_squares p) (drawn_squares q) is enough (drawn_agree s p q agree) a b)))

-- ---- fills

pub nat_same : (n : ℕ) → (n == n) ≡ true
nat_same n = grind (arith, nat_tests)

-- o: the place is on the raster
filled_same : (o a b c d : Bool) → (o ≡ true → a ≡ c) → b ≡ d → (o && not a) && b ≡ (o && not c) && d
filled_same false a b c d x y = refl
filled_same true a b c d x y = rw (x refl, y) refl

pub fills_agree : FillsAgree
fills_agree plan s p q is enough agree = fun_ext (λ i. fun_ext (λ j.
    let t = tile_of plan.raster i j in
    filled_same (in_raster plan.raster i j) (is_taken plan p i j) (in_window_of plan (low_windows plan (drawn_squares p)) i j) (is_taken plan q i j) (in_window_of plan (low_windows plan (drawn_squares q)) i j)
    (λ on. same_taken plan s p q is enough agree t i j (place_has_a_tile plan.raster is.raster i j on) (and_from _ _ on (nat_same t)))
    (same_low plan s p q is enough agree i j)))

-- o: on the raster; m: of its own tile; c: taken; w: in a low window; n: the tile is the part's
own_wanted : (o m c w n : Bool) → m ≡ true → ((o && not c) && w) && n ≡ ((o && m) && (not c && w)) && n
own_wanted true true c w n h = refl
own_wanted true false c w n h = absurd (let e : false ≡ true = h in cc)
own_wanted false m c w n h = refl

pub part_wanted : PartFillIsWanted
part_wanted plan layers k i j =
    let t = tile_of plan.raster i j in
    own_wanted (in_raster plan.raster i j) (t == t) (is_taken plan layers i j) (in_window_of plan (low_windows plan (drawn_squares layers)) i j) (has_tile plan k t) (nat_same t)
