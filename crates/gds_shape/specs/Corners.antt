-- What the corners of a path are.
use Rattle.std.specs.Prelude.{◌≡◌, false, List, [], ◌∷◌}
use Rattle.fill_base.specs.declared.place.Point.{Point}
use Rattle.gds_shape.specs.Paths.{is_same, is_inner, corners}

-- two neighbours differ
abbrev pub NeighboursDiffer : List Point → Type 0
NeighboursDiffer [] = Unit {0}
NeighboursDiffer (p ∷ []) = Unit {0}
NeighboursDiffer (p ∷ q ∷ points) = (is_same p q ≡ false) × NeighboursDiffer (q ∷ points)

-- no point lies strictly between its neighbours
abbrev pub NoneIsInner : List Point → Type 0
NoneIsInner [] = Unit {0}
NoneIsInner (p ∷ []) = Unit {0}
NoneIsInner (p ∷ q ∷ []) = Unit {0}
NoneIsInner (p ∷ q ∷ r ∷ points) = (is_inner p q r ≡ false) × NoneIsInner (q ∷ r ∷ points)

abbrev pub first_of : Point → List Point → Point
first_of p [] = p
first_of p (q ∷ points) = q

abbrev pub last_of : Point → List Point → Point
last_of p [] = p
last_of p (q ∷ points) = last_of q points

-- ---- laws

abbrev pub CornersDiffer : Type 0
CornersDiffer = (points : List Point) → NeighboursDiffer (corners points)

abbrev pub CornersTurn : Type 0
CornersTurn = (points : List Point) → NoneIsInner (corners points)

-- the first and the last corner are the path's first and last point
abbrev pub CornersKeepTheEnds : Type 0
CornersKeepTheEnds = (p : Point) (points : List Point) → (first_of p (corners (p ∷ points)) ≡ p) × (last_of p (corners (p ∷ points)) ≡ last_of p points)
