-- A rectangle cut into two.
use Rattle.std.specs.Prelude.{◌≡◌, ℕ, ◌+◌, ◌<◌, ℤ, Bool}
use Rattle.fill_base.specs.declared.rect.Rect.{Rect}
use Rattle.fill_base.specs.Counts.{span_len}
use Rattle.fill_base.specs.Squares.{area_of}

-- half of what it takes to go round the rectangle
abbrev pub half_way : Rect → ℕ
half_way r = span_len r.x1 r.x2 + span_len r.y1 r.y2

-- what a set has in the rectangle is what it has in both halves, and it takes less to go round each
pub record AreHalves (whole first second : Rect) : Type 0 where
  pub area : (p : ℤ → ℤ → Bool) → area_of p whole ≡ area_of p first + area_of p second
  pub first_shorter : half_way first < half_way whole
  pub second_shorter : half_way second < half_way whole
