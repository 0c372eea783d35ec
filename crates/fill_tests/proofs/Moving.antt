-- Numbers of windows that rise from nothing, and fall back.
use Rattle.std.proofs.Common.{◌≡◌, subst, ℕ, ℤ, pos, ◌+ℤ◌, ◌-ℤ◌, ◌≤ℤ◌, Bool, false, List, ap, sym, ◌∙◌, arith}
use Rattle.std.proofs.lemmas.Int.{ints, clamps}
use Rattle.fill_base.proofs.Covering.{area_none}
use Rattle.fill_area.specs.Density.{AreMeasured, window_area}
use Rattle.fill_area.specs.Grid.{Grid, IsGrid, parts_across, parts_up}
use Rattle.fill_area.specs.Axes.{axis_begin}
use Rattle.fill_area.specs.Parts.{part_begin, part_end, kept_within}
use Rattle.fill_area.specs.declared.parts.Parts.{Parts}
use Rattle.fill_area.specs.Sharing.{IsWindow}
use Rattle.fill_sums.specs.Numbers.{IsMoved, StaysWithin, number_at, window_size}
use Rattle.fill_sums.specs.declared.moving.Way.{Way}
use Rattle.fill_sums.specs.declared.moving.Way.TheVariants.{Up, Down}
use Rattle.fill_sums.proofs.Changing.{area_most}

-- a set without squares has no area
window_none : (p : ℤ → ℤ → Bool) (g : Grid) (a b : ℕ) → IsGrid g → ((x y : ℤ) → p x y ≡ false) → window_area p g a b ≡ 0
window_none p g a b grid none = area_none p (part_begin across a) (part_begin up b) (part_end across a) (part_end up b)
    (kept across.low across.high (axis_begin g.across a) g.across.length grid.across.length_is.least) (kept up.low up.high (axis_begin g.up b) g.up.length grid.up.length_is.least) none
  where
    across : Parts
    across = parts_across g

    up : Parts
    up = parts_up g

    kept : (low high z l : ℤ) → pos 1 ≤ℤ l → kept_within low high z ≤ℤ kept_within low high (z +ℤ l)
    kept low high z l some = omega (arith, ints, clamps)

-- each window's number is 0
pub record AreNone (g : Grid) (numbers : List ℤ) : Type 0 where
  pub grid : IsGrid g
  pub each : (a b : ℕ) → IsWindow g a b → number_at g numbers a b ≡ pos 0

pub measured_none : (p : ℤ → ℤ → Bool) (g : Grid) (numbers : List ℤ) → ((x y : ℤ) → p x y ≡ false) → AreMeasured p g numbers → AreNone g numbers
measured_none p g numbers none are = record { grid = are.grid; each = λ a b w. are.each a b w.0 w.1 ∙ ap pos (window_none p g a b are.grid none) }

-- what comes stays within
pub may_come : (p : ℤ → ℤ → Bool) (g : Grid) (numbers : List ℤ) → AreNone g numbers → StaysWithin Up p g numbers
may_come p g numbers none = record {
  least = λ a b w. rw (none.each a b w) (some (window_area p g a b));
  most = λ a b w. rw (none.each a b w) (more (window_area p g a b) (window_size g) (area_most p g a b none.grid));
}
  where
    some : (n : ℕ) → pos 0 ≤ℤ (pos 0 +ℤ pos n)
    some n = omega (arith, ints)

    more : (n : ℕ) (s : ℤ) → pos n ≤ℤ s → (pos 0 +ℤ pos n) ≤ℤ s
    more n s le = omega (arith, ints)

-- and goes again
pub may_go : (p : ℤ → ℤ → Bool) (g : Grid) (old new : List ℤ) → AreNone g old → IsMoved Up p g old new → StaysWithin Down p g new
may_go p g old new none came = record {
  least = λ a b w. rw (came.each a b w, none.each a b w) (back (window_area p g a b));
  most = λ a b w. rw (came.each a b w, none.each a b w) (low (window_area p g a b) (window_size g) (area_most p g a b none.grid));
}
  where
    back : (n : ℕ) → pos 0 ≤ℤ ((pos 0 +ℤ pos n) -ℤ pos n)
    back n = omega (arith, ints)

    low : (n : ℕ) (s : ℤ) → pos n ≤ℤ s → ((pos 0 +ℤ pos n) -ℤ pos n) ≤ℤ s
    low n s le = omega (arith, ints)

pub is_gone : (p : ℤ → ℤ → Bool) (g : Grid) (old new newer : List ℤ) → AreNone g old → IsMoved Up p g old new → IsMoved Down p g new newer → AreNone g newer
is_gone p g old new newer none came went = record { grid = none.grid; each = λ a b w. went.each a b w ∙ rw (came.each a b w, none.each a b w) (zero (window_area p g a b)) }
  where
    zero : (n : ℕ) → ((pos 0 +ℤ pos n) -ℤ pos n) ≡ pos 0
    zero n = omega (arith, ints)

-- where they begin so, and the same over an equal grid
pub began : (p : ℤ → ℤ → Bool) (g h : Grid) (numbers : List ℤ) → g ≡ h → ((x y : ℤ) → p x y ≡ false) → AreMeasured p h numbers → AreNone g numbers
began p g h numbers is none are = subst (λ (q : Grid). AreNone q numbers) (sym is) (measured_none p h numbers none are)

pub none_at : (g h : Grid) (m n : List ℤ) → g ≡ h → m ≡ n → AreNone h n → AreNone g m
none_at g h m n grid numbers none = subst (λ (q : Grid). AreNone q m) (sym grid) (subst (AreNone h) (sym numbers) none)

pub stays_at : (way : Way) (p : ℤ → ℤ → Bool) (g h : Grid) (m n : List ℤ) → g ≡ h → m ≡ n → StaysWithin way p h n → StaysWithin way p g m
stays_at way p g h m n grid numbers stays = subst (λ (q : Grid). StaysWithin way p q m) (sym grid) (subst (StaysWithin way p h) (sym numbers) stays)
