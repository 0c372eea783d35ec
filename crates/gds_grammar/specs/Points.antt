-- Points as the data of XY has them.
use Rattle.std.specs.Prelude.{ℕ, List, [], ◌∷◌}
use Rattle.fill_base.specs.declared.place.Point.{Point}
use Rattle.gds_record.specs.Numbers.{point_of}

-- eight bytes each
abbrev pub points_of : List ℕ → List Point
points_of (a ∷ b ∷ c ∷ d ∷ e ∷ f ∷ g ∷ h ∷ rest) =
    point_of (a ∷ b ∷ c ∷ d ∷ e ∷ f ∷ g ∷ h ∷ []) ∷ points_of rest
points_of _ = []
