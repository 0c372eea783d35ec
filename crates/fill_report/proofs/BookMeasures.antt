-- What metal, existing fill and boxes of a sound fill take of a window.
use Rattle.std.proofs.Common.{◌≡◌, refl, sym, ap, ◌∙◌, ℕ, ◌+◌, ◌*◌, ◌^◌, ◌≤◌, ℤ, pos, ◌-ℤ◌, ◌≤ℤ◌, arith, inl, inr, true, false, w64, FitsSigned}
use Rattle.std.proofs.lemmas.Bool.{or_cases}
use Rattle.std.proofs.lemmas.Int.{ints, clamps}
use Rattle.std.proofs.Math.Nat.{mul-le-mul}
use Rattle.fill_base.specs.Counts.{span_len}
use Rattle.fill_base.proofs.Signed.{read, read_is, pos_fits}
use Rattle.fill_base.proofs.Covering.{area_few, area_either}
use Rattle.fill_area.specs.Density.{IsArea, window_area}
use Rattle.fill_area.specs.Grid.{Grid, IsGrid, parts_across, parts_up}
use Rattle.fill_area.specs.Parts.{part_begin, part_end}
use Rattle.fill_report.proofs.Lines.{part_as_long}
use Rattle.fill_size.specs.Distance.{InConflict, IsNear}
use Rattle.fill_job.specs.Plans.{IsPlan, Layers, Plan, PointSet, drawn_squares, plan_of}
use Rattle.fill_core.specs.Accounts.{Account, opening_of, state_of}
use Rattle.fill_core.specs.Boxes.{total_in, with_boxes}
use Rattle.fill_core.specs.Histories.{events_in}
use Rattle.fill_core.specs.Soundness.{IsSound}
use Rattle.fill_core.proofs.Sound.{boxes_of_places, replay_sound}
use Rattle.fill_report.specs.BookReport.{boxes_of}
use Rattle.fill_report.specs.Report.{measures_of, nothing}
use Rattle.fill_report.specs.declared.line.Measures.{Measures}

-- ---- areas

-- a number is near to itself
near_itself : (d x : ℤ) → pos 0 ≤ℤ d → IsNear d x x
near_itself d x some = record { above = omega (arith, ints, clamps, some); below = omega (arith, ints, clamps, some) }

-- sets that share a square are in conflict at every distance
in_both : (p q : PointSet) (s x y : ℤ) → pos 0 ≤ℤ s → p x y ≡ true → q x y ≡ true → InConflict p q s
in_both p q s x y some here there = record { x = x; y = y; square = there; reached = record { u = x; v = y; square = here; across = near_itself s x some; up = near_itself s y some } }

-- no square of a sound fill's boxes is metal or existing fill
no_shared : (plan : Plan) (layers : Layers) (fill : PointSet) → IsPlan plan → IsSound plan layers fill
    → (x y : ℤ) → drawn_squares layers x y ≡ true → boxes_of plan fill x y ≡ true → ⊥
no_shared plan layers fill is sound x y drawn boxed =
    elim ((boxes_of_places plan nothing fill is sound.on_raster x y).0 boxed) [
      | inl none ↦ let e : false ≡ true = none in cc
      | inr box ↦ elim (or_cases (layers.metal x y) (layers.fill x y) drawn) [
        | inl metal ↦ sound.clear box.0 box.1 box.2 (in_both layers.metal _ plan.spacing x y is.spacing.least metal box.3)
        | inr existing ↦ sound.uncrowded box.0 box.1 box.2 (in_both layers.fill _ plan.fill_spacing x y is.fill_spacing.least existing box.3)
      ]
    ]

-- what is drawn and boxes together have the area of the one and of the other
total_adds : (a : Account) (column row : ℕ) → IsPlan (plan_of a.rules) → let plan = plan_of a.rules in let s = state_of a in
    total_in plan (drawn_squares s.layers) s.fill column row ≡ window_area (drawn_squares s.layers) plan.windows column row + window_area (boxes_of plan s.fill) plan.windows column row
total_adds a column row is =
    let plan = plan_of a.rules in
    let s = state_of a in
    let g = plan.windows in
    area_either (drawn_squares s.layers) (boxes_of plan s.fill) (part_begin (parts_across g) column) (part_begin (parts_up g) row) (part_end (parts_across g) column) (part_end (parts_up g) row)
    (no_shared plan s.layers s.fill is (replay_sound plan (opening_of a) (events_in a.history) is))

-- ---- the numbers of a line

-- a window has at most 2^40 squares of a set
area_small : (p : PointSet) (g : Grid) (column row : ℕ) → IsGrid g → window_area p g column row ≤ 2 ^ 40
area_small p g column row grid =
    let wide = part_as_long (parts_across g) column grid.clip.across grid.across.length_is in
    let tall = part_as_long (parts_up g) row grid.clip.up grid.up.length_is in
    few (window_area p g column row) (span_len (part_begin (parts_up g) row) (part_end (parts_up g) row) * span_len (part_begin (parts_across g) column) (part_end (parts_across g) column))
    (area_few p (part_begin (parts_across g) column) (part_begin (parts_up g) row) (part_end (parts_across g) column) (part_end (parts_up g) row)) (mul-le-mul tall wide)
  where
    few : (n m : ℕ) → n ≤ m → m ≤ 1048576 * 1048576 → n ≤ 2 ^ 40
    few n m h k = omega (arith, h, k)

small_fits : (n : ℕ) → n ≤ 2 ^ 40 → FitsSigned w64 (pos n)
small_fits n small = pos_fits n (omega (arith, small))

-- what the one has more than the other, as the code subtracts
rest_is : (d f t : ℕ) → t ≡ d + f → t ≤ 2 ^ 40 → read (pos t) -ℤ read (pos d) ≡ pos f
rest_is d f t adds small =
    let few : d ≤ 2 ^ 40 = omega (arith, adds, small) in
    rw (read_is (pos t) (small_fits t small), read_is (pos d) (small_fits d few)) (less d f t adds)
  where
    less : (d f t : ℕ) → t ≡ d + f → pos t -ℤ pos d ≡ pos f
    less d f t adds = omega (arith, ints, clamps, adds)

parts_are : (d f t : ℕ) → t ≡ d + f → t ≤ 2 ^ 40
    → let m : Measures = record { drawn = read (pos d); fill = read (read (pos t) -ℤ read (pos d)); total = read (pos t) } in let n : Measures = record { drawn = pos d; fill = pos f; total = pos t } in m ≡ n
parts_are d f t adds small =
    let few : d ≤ 2 ^ 40 = omega (arith, adds, small) in
    let rest : f ≤ 2 ^ 40 = omega (arith, adds, small) in
    rw (rest_is d f t adds small, read_is (pos f) (small_fits f rest), read_is (pos t) (small_fits t small), read_is (pos d) (small_fits d few)) refl

-- a window's numbers, as a book gives them
pub record AreGiven (a : Account) (column row : ℕ) (drawn total : ℤ) : Type 0 where
  pub plan : IsPlan (plan_of a.rules)
  pub drawn_is : drawn ≡ pos (window_area (drawn_squares (state_of a).layers) (plan_of a.rules).windows column row)
  pub total_is : total ≡ pos (total_in (plan_of a.rules) (drawn_squares (state_of a).layers) (state_of a).fill column row)

pub total_is_area : (a : Account) (column row : ℕ) (drawn total : ℤ) → AreGiven a column row drawn total → IsArea (read total)
total_is_area a column row drawn total given =
    rw (given.total_is) (area (total_in (plan_of a.rules) (drawn_squares (state_of a).layers) (state_of a).fill column row) (area_small (with_boxes (plan_of a.rules) (drawn_squares (state_of a).layers) (state_of a).fill) (plan_of a.rules).windows column row given.plan.windows))
  where
    area : (n : ℕ) → n ≤ 2 ^ 40 → IsArea (read (pos n))
    area n small = rw (read_is (pos n) (small_fits n small)) (record { least = omega (arith, ints, clamps); most = omega (arith, ints, clamps, small) })

pub measures_are : (a : Account) (g : Grid) (column row : ℕ) (drawn total : ℤ) → g ≡ (plan_of a.rules).windows → AreGiven a column row drawn total
    → let m : Measures = record { drawn = read drawn; fill = read (read total -ℤ read drawn); total = read total } in m ≡ measures_of (drawn_squares (state_of a).layers) (boxes_of (plan_of a.rules) (state_of a).fill) g column row
measures_are a g column row drawn total windows given =
    let metal = window_area (drawn_squares (state_of a).layers) (plan_of a.rules).windows column row in
    let boxes = window_area (boxes_of (plan_of a.rules) (state_of a).fill) (plan_of a.rules).windows column row in
    let both = total_in (plan_of a.rules) (drawn_squares (state_of a).layers) (state_of a).fill column row in
    let adds = total_adds a column row given.plan in
    let small = area_small (with_boxes (plan_of a.rules) (drawn_squares (state_of a).layers) (state_of a).fill) (plan_of a.rules).windows column row given.plan.windows in
    rw (given.drawn_is, given.total_is) (parts_are metal boxes both adds small) ∙ ap (λ h. measures_of (drawn_squares (state_of a).layers) (boxes_of (plan_of a.rules) (state_of a).fill) h column row) (sym windows)
