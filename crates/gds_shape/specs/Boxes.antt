-- Boundaries that are one rectangle.
use Rattle.std.specs.Prelude.{◌≡◌, ◌⊎◌, ℤ, Bool, ◌&&◌, List, [], ◌∷◌}
use Rattle.std.specs.Int.{int_min, int_max}
use Rattle.fill_base.specs.declared.place.Point.{Point}
use Rattle.fill_base.specs.Counts.{is_between}

-- four corners, the first edge upright or level
abbrev pub GoesRound : Point → Point → Point → Point → Type 0
GoesRound a b c d =
    ((a.x ≡ b.x) × (b.y ≡ c.y) × (c.x ≡ d.x) × (d.y ≡ a.y))
    ⊎ ((a.y ≡ b.y) × (b.x ≡ c.x) × (c.y ≡ d.y) × (d.x ≡ a.x))

abbrev pub IsBox : List Point → Type 0
IsBox (a ∷ b ∷ c ∷ d ∷ e ∷ []) = GoesRound a b c d
IsBox _ = ⊥

-- within the rectangle of two opposite corners
abbrev pub is_in_box : Point → Point → ℤ → ℤ → Bool
is_in_box p q x y =
    is_between (int_min p.x q.x) (int_max p.x q.x) x && is_between (int_min p.y q.y) (int_max p.y q.y) y
