-- Upright edges, counted by the way that they go.
use Rattle.std.specs.Prelude.{◌≡◌, ◌⊎◌, ℕ, ◌≤◌, ◌<◌, ℤ, ◌≤ℤ◌, Bool, true, false, ◌&&◌, not, List, length, get_or, int_lt, int_le, count_by}
use Rattle.fill_base.specs.declared.place.Point.{Point}
use Rattle.fill_base.specs.Counts.{is_between}
use Rattle.gds_shape.specs.declared.edge.Edge.{Edge}
use Rattle.gds_shape.specs.Winding.{rises}

-- the edge from one point to the other goes this way, up or down, past the row y and right of x
abbrev pub passes : Bool → ℤ → ℤ → Point × Point → Bool
passes true x y e = rises x y e.0 e.1
passes false x y e = rises x y e.1 e.0

abbrev pub goes : Bool → Edge → Bool
goes true e = e.up
goes false e = not e.up

abbrev pub spans : ℤ → Edge → Bool
spans y e = is_between e.bottom e.top y

-- the edges that go this way past the row y, right of x
abbrev pub passing : Bool → List Edge → ℤ → ℤ → ℕ
passing way edges x y = count_by (λ e. goes way e && (int_lt x e.x && spans y e)) edges

-- the edges that go this way, at x or left of it
abbrev pub left_of : Bool → List Edge → ℤ → ℕ
left_of way edges x = count_by (λ e. goes way e && int_le e.x x) edges

abbrev pub going : Bool → List Edge → ℕ
going way edges = count_by (goes way) edges

-- the edge stands where the points do
pub record IsEdge (p q : Point) (e : Edge) : Type 0 where
  pub upright : p.x ≡ q.x
  pub stands : e.x ≡ p.x
  pub ends : ((e.up ≡ true) × (e.bottom ≡ p.y) × (e.top ≡ q.y)) ⊎ ((e.up ≡ false) × (e.bottom ≡ q.y) × (e.top ≡ p.y))

-- no edge comes after one with a greater number
abbrev pub AreRisingBy : (Edge → ℤ) → List Edge → Type 0
AreRisingBy number edges =
    (i j : ℕ) (d : Edge) → i ≤ j → j < length edges → number (get_or edges i d) ≤ℤ number (get_or edges j d)
