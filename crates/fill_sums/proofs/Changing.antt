-- Numbers that are written back to their list.
use Rattle.std.proofs.Common.{◌≡◌, ◌∙◌, ℕ, ◌+◌, ◌*◌, ◌/◌, ◌%◌, ◌<◌, ◌≤◌, ℤ, pos, negsuc, ◌+ℤ◌, ◌*ℤ◌, ◌≤ℤ◌, Bool, arith, subst, List, ◌++◌, length, take, get_or}
use Rattle.std.specs.List.{All}
use Rattle.std.proofs.Math.Nat.{mod-add-div}
use Rattle.std.proofs.lemmas.Nat.{div_below, mod_below}
use Rattle.std.proofs.lemmas.List.Elements.{All-from_get_or}
use Rattle.std.proofs.Math.Seq.{take-append_seam}
use Rattle.std.proofs.lemmas.Int.{ints, clamps}
use Rattle.fill_base.specs.Counts.{span_len, count_between}
use Rattle.fill_base.specs.Limits.{IsLength}
use Rattle.fill_base.proofs.Counting.{sum_between_le, count_between_le}
use Rattle.fill_area.specs.Density.{AreMeasured, IsArea, window_area}
use Rattle.fill_area.specs.Grid.{Grid, IsGrid, parts_across, parts_up, window_left, window_right, window_bottom, window_top}
use Rattle.fill_area.specs.Parts.{part_begin, part_end}
use Rattle.fill_area.proofs.Measuring.{longer}
use Rattle.fill_area.specs.Sharing.{IsWindow}
use Rattle.fill_sums.specs.declared.moving.Way.{Way}
use Rattle.fill_sums.specs.Numbers.{AreNumbers, IsMoved, WindowNumbers, window_size}
use Rattle.fill_sums.proofs.Counted.{part_shorter, product_most}
use Rattle.fill_sums.proofs.Windowed.{is_area, size_most}

-- the numbers, written over all of a list
pub all_written : (new rest : List ℤ) (len : ℕ) → length new ≡ len → take len (new ++ rest) ≡ new
all_written new rest len e = rw (← e) (take-append_seam new rest)

pub moved_in : (way : Way) (p : ℤ → ℤ → Bool) (g : Grid) (old new rest : List ℤ) (len : ℕ) → length old ≡ len → IsMoved way p g old new → IsMoved way p g old (take len (new ++ rest))
moved_in way p g old new rest len all is = rw (all_written new rest len (is.count ∙ all)) is

-- every number of the list is an area
pub all_areas : (g : Grid) (numbers : List ℤ) → AreNumbers g numbers → All IsArea numbers
all_areas g numbers are = All-from_get_or IsArea numbers (pos 0) (λ k lt.
    let columns = are.grid.across.count_is.least in
    let some : 0 < g.across.count = omega (arith, columns) in
    let below : k < g.across.count * g.up.count = rw are.count at lt in
    let parts : k % g.across.count + g.across.count * (k / g.across.count) ≡ k = mod-add-div k g.across.count in
    let place : (k / g.across.count) * g.across.count + k % g.across.count ≡ k = grind (arith, parts) in
    let window : IsWindow g (k % g.across.count) (k / g.across.count) = (mod_below k g.across.count some, div_below k g.across.count g.up.count some (omega (arith, below))) in
    subst (λ n. IsArea (get_or numbers n (pos 0))) place (is_area _ _ (size_most g are.grid) (are.least _ _ window) (are.most _ _ window)))

-- a part of a window is at most the window
long_most : (n : ℕ) (w h : ℤ) (x y : ℤ) → IsLength w → IsLength h → n ≤ span_len y (y +ℤ h) * span_len x (x +ℤ w) → pos n ≤ℤ (w *ℤ h)
long_most n (pos w) (pos h) x y iw ih le =
    let e : span_len y (y +ℤ pos h) ≡ h = omega (arith, ints, clamps) in
    let f : span_len x (x +ℤ pos w) ≡ w = omega (arith, ints, clamps) in
    let k : n ≤ h * w = rw (e, f) at le in
    most n w h k
  where
    most : (n w h : ℕ) → n ≤ h * w → pos n ≤ℤ pos (w * h)
    most n w h k = let e : w * h ≡ h * w = omega arith in rw e (up n (h * w) k)
      where
        up : (a b : ℕ) → a ≤ b → pos a ≤ℤ pos b
        up a b h = omega (arith, ints, clamps)
long_most n (pos w) (negsuc h) x y iw ih le = absurd (let least : pos 1 ≤ℤ negsuc h = ih.least in omega (arith, ints, clamps))
long_most n (negsuc w) h x y iw ih le = absurd (let least : pos 1 ≤ℤ negsuc w = iw.least in omega (arith, ints, clamps))

pub area_most : (p : ℤ → ℤ → Bool) (g : Grid) (a b : ℕ) → IsGrid g → pos (window_area p g a b) ≤ℤ window_size g
area_most p g a b grid =
    let across = parts_across g in let up = parts_up g in
    let wide = part_shorter across.low across.high (window_left g a) (window_right g a) (longer (window_left g a) g.across.length grid.across.length_is) in
    let tall = part_shorter up.low up.high (window_bottom g b) (window_top g b) (longer (window_bottom g b) g.up.length grid.up.length_is) in
    long_most (window_area p g a b) g.across.length g.up.length (window_left g a) (window_bottom g b) grid.across.length_is grid.up.length_is
    (product_most (window_area p g a b) (span_len (part_begin up b) (part_end up b)) (span_len (part_begin across a) (part_end across a)) (span_len (window_bottom g b) (window_top g b)) (span_len (window_left g a) (window_right g a))
    (sum_between_le (λ y. count_between (λ x. p x y) (part_begin across a) (part_end across a)) (part_begin up b) (part_end up b) (span_len (part_begin across a) (part_end across a))
    (λ y. count_between_le (λ x. p x y) (part_begin across a) (part_end across a))) tall wide)

-- measured areas are numbers
pub measured_numbers : (p : ℤ → ℤ → Bool) (g : Grid) (numbers : List ℤ) → AreMeasured p g numbers → AreNumbers g numbers
measured_numbers p g numbers are = record {
  grid = are.grid;
  count = are.count;
  least = λ a b window. rw (are.each a b window.0 window.1) (none (window_area p g a b));
  most = λ a b window. rw (are.each a b window.0 window.1) (area_most p g a b are.grid);
}
  where
    none : (n : ℕ) → pos 0 ≤ℤ pos n
    none n = omega (arith, ints, clamps)

-- numbers that were lent, moved and written back
pub moved_at : (way : Way) (p : ℤ → ℤ → Bool) (g : Grid) (lent old new rest : List ℤ) (len : ℕ) → lent ≡ old → length lent ≡ len → IsMoved way p g lent new → IsMoved way p g old (take len (new ++ rest))
moved_at way p g lent old new rest len same all is = rw (← same) (moved_in way p g lent new rest len all is)

-- the same of what the type stands for
pub total_at : (way : Way) (p : ℤ → ℤ → Bool) (s t : WindowNumbers) (new : List ℤ) → s ≡ t → IsMoved way p s.windows s.total new → IsMoved way p t.windows t.total new
total_at way p s t new same is = subst (λ (u : WindowNumbers). IsMoved way p u.windows u.total new) same is

pub drawn_at : (way : Way) (p : ℤ → ℤ → Bool) (s t : WindowNumbers) (new : List ℤ) → s ≡ t → IsMoved way p s.windows s.drawn new → IsMoved way p t.windows t.drawn new
drawn_at way p s t new same is = subst (λ (u : WindowNumbers). IsMoved way p u.windows u.drawn new) same is
