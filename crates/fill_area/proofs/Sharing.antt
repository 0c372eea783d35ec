-- Windows that share a square with a rectangle, or hold it.
use Rattle.std.proofs.Common.{◌≡◌, ℕ, ℤ, pos, ◌+ℤ◌, ◌-ℤ◌, ◌≤ℤ◌, ◌<ℤ◌, ◌↔◌, arith, true}
use Rattle.std.specs.Cmp.{first_so, second_so}
use Rattle.std.proofs.lemmas.Bool.{and_from}
use Rattle.std.specs.Int.{int_max}
use Rattle.std.proofs.lemmas.Int.{ints, clamps}
use Rattle.fill_base.specs.declared.rect.Rect.{Rect}
use Rattle.fill_base.specs.Counts.{is_between}
use Rattle.fill_base.specs.Squares.{squares}
use Rattle.fill_base.proofs.Signed.{read}
use Rattle.fill_base.proofs.Between.{is_between_true, is_between_bounds}
use Rattle.fill_area.specs.Grid.{Grid, window_left, window_right, window_bottom, window_top}
use Rattle.fill_base.specs.Limits.{IsLength}
use Rattle.fill_area.specs.Axes.{IsIndex, IsTouching, IsContaining, IsRangeOf}
use Rattle.fill_area.specs.declared.axis.Axis.{Axis}
use Rattle.fill_area.specs.Sharing.{IsWindow, ShareASquare, Holds, window_squares}

-- two ranges that each begin below the other's end share a number
record Shared (a b c d : ℤ) : Type 0 where
  x : ℤ
  first : is_between a b x ≡ true
  second : is_between c d x ≡ true

shared : (a b c d : ℤ) → a <ℤ b → c <ℤ d → a <ℤ d → c <ℤ b → Shared a b c d
shared a b c d ab cd ad cb = record {
  x = int_max a c;
  first = is_between_true a b (int_max a c) (omega (arith, ints, clamps)) (omega (arith, ints, clamps));
  second = is_between_true c d (int_max a c) (omega (arith, ints, clamps)) (omega (arith, ints, clamps));
}

apart : (a b c d x : ℤ) → is_between a b x ≡ true → is_between c d x ≡ true → (a <ℤ d) × (c <ℤ b)
apart a b c d x h k =
    let p = is_between_bounds a b x h in let q = is_between_bounds c d x k in
    let pl : a ≤ℤ x = p.0 in let ph : x <ℤ b = p.1 in let ql : c ≤ℤ x = q.0 in let qh : x <ℤ d = q.1 in
    (omega (arith, ints), omega (arith, ints))

longer : (z length : ℤ) → pos 1 ≤ℤ length → z <ℤ (z +ℤ length)
longer z length one = omega (arith, ints)

pub windows_sharing : (g : Grid) (r : Rect) (c0 c1 r0 r1 : ℕ) → IsLength g.across.length → IsLength g.up.length
    → ((a : ℕ) → IsIndex c0 c1 a ↔ IsTouching g.across r.x1 r.x2 a) → ((b : ℕ) → IsIndex r0 r1 b ↔ IsTouching g.up r.y1 r.y2 b)
    → (a b : ℕ) → (IsIndex c0 c1 a × IsIndex r0 r1 b) ↔ (IsWindow g a b × ShareASquare (window_squares g a b) (squares r))
windows_sharing g r c0 c1 r0 r1 wide tall columns rows a b = (
  (λ h.
      let across = (columns a).0 h.0 in
      let up = (rows b).0 h.1 in
      let x = shared (window_left g a) (window_right g a) r.x1 r.x2 (longer (window_left g a) g.across.length wide.least) r.wide across.1 across.2 in
      let y = shared (window_bottom g b) (window_top g b) r.y1 r.y2 (longer (window_bottom g b) g.up.length tall.least) r.tall up.1 up.2 in
      ((across.0, up.0), record { x = x.x; y = y.x; first = and_from _ _ x.first y.first; second = and_from _ _ x.second y.second })),
  (λ h.
      let x = apart (window_left g a) (window_right g a) r.x1 r.x2 h.1.x (first_so _ _ h.1.first) (first_so _ _ h.1.second) in
      let y = apart (window_bottom g b) (window_top g b) r.y1 r.y2 h.1.y (second_so _ _ h.1.first) (second_so _ _ h.1.second) in
      ((columns a).1 (h.0.0, x.0, x.1), (rows b).1 (h.0.1, y.0, y.1))),
)

-- a range within another one
within : (a b c d x : ℤ) → a ≤ℤ c → d ≤ℤ b → is_between c d x ≡ true → is_between a b x ≡ true
within a b c d x ac db h =
    let q = is_between_bounds c d x h in let ql : c ≤ℤ x = q.0 in let qh : x <ℤ d = q.1 in
    is_between_true a b x (omega (arith, ints)) (omega (arith, ints))

first_in : (c d : ℤ) → c <ℤ d → is_between c d c ≡ true
first_in c d lt = is_between_true c d c (omega (arith, ints)) lt

last_in : (c d : ℤ) → c <ℤ d → is_between c d (d -ℤ pos 1) ≡ true
last_in c d lt = is_between_true c d (d -ℤ pos 1) (omega (arith, ints)) (omega (arith, ints))

ends_in : (a b c d : ℤ) → is_between a b c ≡ true → is_between a b (d -ℤ pos 1) ≡ true → (a ≤ℤ c) × (d ≤ℤ b)
ends_in a b c d h k =
    let p = is_between_bounds a b c h in let q = is_between_bounds a b (d -ℤ pos 1) k in
    let qh : (d -ℤ pos 1) <ℤ b = q.1 in
    (p.0, omega (arith, ints))

pub windows_holding : (g : Grid) (r : Rect) (c0 c1 r0 r1 : ℕ)
    → ((a : ℕ) → IsIndex c0 c1 a ↔ IsContaining g.across r.x1 r.x2 a) → ((b : ℕ) → IsIndex r0 r1 b ↔ IsContaining g.up r.y1 r.y2 b)
    → (a b : ℕ) → (IsIndex c0 c1 a × IsIndex r0 r1 b) ↔ (IsWindow g a b × Holds (window_squares g a b) (squares r))
windows_holding g r c0 c1 r0 r1 columns rows a b = (
  (λ h.
      let across = (columns a).0 h.0 in
      let up = (rows b).0 h.1 in (
        (across.0, up.0),
        (λ x y is. and_from _ _
            (within (window_left g a) (window_right g a) r.x1 r.x2 x across.1 across.2 (first_so (is_between r.x1 r.x2 x) (is_between r.y1 r.y2 y) is))
            (within (window_bottom g b) (window_top g b) r.y1 r.y2 y up.1 up.2 (second_so (is_between r.x1 r.x2 x) (is_between r.y1 r.y2 y) is))),
      )),
  (λ h.
      let low = h.1 r.x1 r.y1 (and_from _ _ (first_in r.x1 r.x2 r.wide) (first_in r.y1 r.y2 r.tall)) in
      let high = h.1 (r.x2 -ℤ pos 1) (r.y2 -ℤ pos 1) (and_from _ _ (last_in r.x1 r.x2 r.wide) (last_in r.y1 r.y2 r.tall)) in
      let x = ends_in (window_left g a) (window_right g a) r.x1 r.x2 (first_so _ _ low) (first_so _ _ high) in
      let y = ends_in (window_bottom g b) (window_top g b) r.y1 r.y2 (second_so _ _ low) (second_so _ _ high) in
      ((columns a).1 (h.0.0, x.0, x.1), (rows b).1 (h.0.1, y.0, y.1))),
)

-- what the code asks of one axis, with its numbers as they were handed in
pub as_written : (T : Axis → ℤ → ℤ → ℕ → Type 0) (axis : Axis) (x1 x2 lo hi : ℤ) (count c0 c1 : ℕ) → x1 ≡ lo → x2 ≡ hi → read lo ≡ lo → read hi ≡ hi
    → IsRangeOf (T axis (read x1) (read x2)) count c0 c1 → IsRangeOf (T axis lo hi) count c0 c1
as_written T axis x1 x2 lo hi count c0 c1 low high low_read high_read h = rw (low, high, low_read, high_read) at h
