-- A walk along the edges of a set, which counts members as it goes.
use Rattle.std.specs.Prelude.{◌≡◌, ℕ, ◌<◌, ℤ, pos, ◌-ℤ◌, ◌≤ℤ◌, List, length, cond}
use Rattle.fill_base.specs.Counts.{count_between}
use Rattle.fill_spans.specs.declared.walk.Walk.{Walk}
use Rattle.fill_spans.specs.Spans.{inside, odd, next_edge}

-- what the walk has counted where it stands at `x`: inside the set, the count grows with `x`
abbrev pub length_at : Walk → ℤ → ℤ
length_at walk x = cond (odd walk.next) (x -ℤ walk.sum) walk.sum

-- the walk began at `x` or below, and has passed no edge above `x`
pub record IsNotBeyond (es : List ℤ) (walk : Walk) (x : ℤ) : Type 0 where
  pub begun : walk.start ≤ℤ x
  pub passed : (k : ℕ) → k < walk.next → next_edge es k ≤ℤ x

-- the walk stands at `x`: the edges that it has passed lie at `x` or below, the next one at `x` or above
pub record HasReached (es : List ℤ) (walk : Walk) (x : ℤ) : Type 0 where
  pub not_beyond : IsNotBeyond es walk x
  pub ahead : walk.next < length es → x ≤ℤ next_edge es walk.next

-- the next edge is not before the walk's start, and wherever the walk stands it has counted the members from its start
pub record IsWalk (es : List ℤ) (walk : Walk) : Type 0 where
  pub ahead : walk.next < length es → walk.start ≤ℤ next_edge es walk.next
  pub counts : (x : ℤ) → HasReached es walk x → length_at walk x ≡ pos (count_between (inside es) walk.start x)
