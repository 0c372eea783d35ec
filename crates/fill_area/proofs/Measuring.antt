-- The list of all windows' areas.
use Rattle.std.proofs.Common.{◌≡◌, ◌+ℤ◌, ◌≤ℤ◌, ◌<ℤ◌, ◌≤◌, ◌^◌, ℕ, ◌+◌, ◌*◌, ◌/◌, ◌%◌, ◌<◌, ℤ, pos, Bool, false, List, length, get_or, refl, arith, ap, ◌∙◌}
use Rattle.std.proofs.lemmas.Nat.{mul-add-lt, div-mul-add, mod-mul-add}
use Rattle.std.specs.List.{All}
use Rattle.std.proofs.lemmas.Int.{ints, clamps}
use Rattle.std.proofs.Math.Nat.{mul-le-mul}
use Rattle.fill_base.specs.Counts.{span_len, count_between}
use Rattle.fill_base.proofs.Counting.{sum_between_le, sum_between_same, sum_between_const, count_between_le, count_between_same, count_between_const}
use Rattle.fill_base.specs.Squares.{area_between}
use Rattle.fill_area.specs.Grid.{Grid, IsGrid, parts_across, parts_up, window_left, window_bottom}
use Rattle.fill_area.specs.Parts.{kept_within, part_begin, part_end}
use Rattle.fill_base.specs.Limits.{IsLength}
use Rattle.fill_area.specs.Density.{AreMeasured, IsArea, window_area}
pub use Rattle.fill_area.specs.steps.Measured.{area_at}

-- the list says the area of each window
pub measured : (p : ℤ → ℤ → Bool) (g : Grid) (totals : List ℤ) → IsGrid g → length totals ≡ g.across.count * g.up.count → ((k : ℕ) (d : ℤ) → k < g.across.count * g.up.count → get_or totals k d ≡ area_at p g k) → AreMeasured p g totals
measured p g totals grid count each = record {
  grid = grid;
  count = count;
  each = λ a b a_in b_in.
      each (b * g.across.count + a) (pos 0) (mul-add-lt b g.across.count a g.up.count b_in a_in)
      ∙ (ap (λ k. pos (window_area p g k ((b * g.across.count + a) / g.across.count))) (mod-mul-add b g.across.count a a_in)
      ∙ ap (λ k. pos (window_area p g a k)) (div-mul-add b g.across.count a a_in));
}

-- a window counts at most 2^40 squares
window_small : (p : ℤ → ℤ → Bool) (g : Grid) (a b : ℕ) → IsGrid g → window_area p g a b ≤ 2 ^ 40
window_small p g a b grid =
    let x = parts_across g in let y = parts_up g in
    let wide : span_len (part_begin x a) (part_end x a) ≤ 1048576 = short (window_left g a) g.across.length x.low x.high grid.across.length_is grid.clip.across in
    let tall : span_len (part_begin y b) (part_end y b) ≤ 1048576 = short (window_bottom g b) g.up.length y.low y.high grid.up.length_is grid.clip.up in
    let lines : window_area p g a b ≤ span_len (part_begin y b) (part_end y b) * span_len (part_begin x a) (part_end x a) =
    sum_between_le (λ y. count_between (λ x. p x y) (part_begin x a) (part_end x a)) (part_begin y b) (part_end y b) (span_len (part_begin x a) (part_end x a))
    (λ y. count_between_le (λ x. p x y) (part_begin x a) (part_end x a)) in
    let product : span_len (part_begin y b) (part_end y b) * span_len (part_begin x a) (part_end x a) ≤ 1048576 * 1048576 = mul-le-mul tall wide in
    omega (arith, lines, product)
  where
    short : (lo length low high : ℤ) → IsLength length → low <ℤ high → span_len (kept_within low high lo) (kept_within low high (lo +ℤ length)) ≤ 1048576
    short lo length low high is some = let least : pos 1 ≤ℤ length = is.least in let most : length ≤ℤ pos 1048576 = is.most in omega (arith, ints, clamps)

pub bounded : (p : ℤ → ℤ → Bool) (g : Grid) (totals : List ℤ) → IsGrid g → length totals ≡ g.across.count * g.up.count → ((k : ℕ) (d : ℤ) → k < g.across.count * g.up.count → get_or totals k d ≡ area_at p g k) → All IsArea totals
bounded p g totals grid count each k d lt = rw (each k d (rw count at lt)) (area_of_count (window_area p g (k % g.across.count) (k / g.across.count)) (window_small p g (k % g.across.count) (k / g.across.count) grid))
  where
    area_of_count : (n : ℕ) → n ≤ 2 ^ 40 → IsArea (pos n)
    area_of_count n small = record { least = omega (arith, ints, clamps); most = omega (arith, ints, clamps) }

-- a window's upper ends are above its lower ones
pub longer : (lo length : ℤ) → IsLength length → lo ≤ℤ (lo +ℤ length)
longer lo length is = let least : pos 1 ≤ℤ length = is.least in omega (arith, ints, clamps)

-- sets with the same squares have the same area
pub same_area : (p q : ℤ → ℤ → Bool) (left bottom right top : ℤ) → left ≤ℤ right → bottom ≤ℤ top → ((x y : ℤ) → p x y ≡ q x y)
    → area_between p left bottom right top ≡ area_between q left bottom right top
same_area p q left bottom right top wide tall same =
    sum_between_same (λ y. count_between (λ x. p x y) left right) (λ y. count_between (λ x. q x y) left right) bottom top tall
    (λ y low high. count_between_same (λ x. p x y) (λ x. q x y) left right wide (λ x from to. same x y))

-- a set without squares has no area
pub no_area : (left bottom right top : ℤ) → left ≤ℤ right → bottom ≤ℤ top → area_between (λ x y. false) left bottom right top ≡ 0
no_area left bottom right top wide tall =
    let line : count_between (λ x. false) left right ≡ span_len left right * 0 = count_between_const (λ x. false) left right false wide (λ x from to. refl) in
    let z : span_len left right * 0 ≡ 0 = omega arith in
    let whole = sum_between_const (λ y. count_between (λ x. false) left right) bottom top 0 tall (λ y low high. line ∙ z) in
    let none : span_len bottom top * 0 ≡ 0 = omega arith in whole ∙ none
