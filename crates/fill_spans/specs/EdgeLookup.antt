-- Looking up a coordinate among edges.
use Rattle.std.specs.Prelude.{◌≡◌, true, ℕ, ◌<◌, ◌≤◌, ℤ, ◌≤ℤ◌, ◌<ℤ◌, List, length}
use Rattle.fill_spans.specs.Spans.{inside, next_edge}

-- the edges before `n` lie at `x` or below, and the one at `n` above it
pub record IsFirstAbove (es : List ℤ) (x : ℤ) (n : ℕ) : Type 0 where
  pub within : n ≤ length es
  pub before : (k : ℕ) → k < n → next_edge es k ≤ℤ x
  pub after : n < length es → x <ℤ next_edge es n

-- the list has an edge at `k`, and it lies below `hi`
pub record IsEdgeBelow (es : List ℤ) (k : ℕ) (hi edge : ℤ) : Type 0 where
  pub within : k < length es
  pub is : edge ≡ next_edge es k
  pub below : edge <ℤ hi

-- some member lies from `lo` on and below `hi`
pub record HasMember (es : List ℤ) (lo hi : ℤ) : Type 0 where
  pub at : ℤ
  pub member : inside es at ≡ true
  pub low : lo ≤ℤ at
  pub high : at <ℤ hi
