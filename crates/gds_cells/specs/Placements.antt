-- Placements, and where they carry sets of squares and rectangles. A carried set is told by the
-- square that each square comes from.
use Rattle.std.specs.Prelude.{ℕ, zero, suc, ℤ, pos, negsuc, ◌+ℤ◌, ◌-ℤ◌, Bool, true, false, cond, not}
use Rattle.std.specs.Int.{int_min, int_max}
use Rattle.gds_shape.specs.declared.bounds.Bounds.{Bounds}
use Rattle.gds_cells.specs.declared.placement.Placement.{Placement}

abbrev pub signed : Bool → ℤ → ℤ
signed b v = cond b (pos 0 -ℤ v) v

abbrev pub either : Bool → Bool → Bool
either a b = cond a (not b) b

-- where a point goes
abbrev pub point_x : Placement → ℤ → ℤ → ℤ
point_x p x y = signed p.flip_x (cond p.swapped y x) +ℤ p.x

abbrev pub point_y : Placement → ℤ → ℤ → ℤ
point_y p x y = signed p.flip_y (cond p.swapped x y) +ℤ p.y

-- a square is named by its lower left corner, so the negated square of v is -1 - v
abbrev pub mirrored : Bool → ℤ → ℤ
mirrored b v = cond b (negsuc 0 -ℤ v) v

-- where a square comes from
abbrev pub back_x : Placement → ℤ → ℤ → ℤ
back_x p x y = cond p.swapped (mirrored p.flip_y (y -ℤ p.y)) (mirrored p.flip_x (x -ℤ p.x))

abbrev pub back_y : Placement → ℤ → ℤ → ℤ
back_y p x y = cond p.swapped (mirrored p.flip_x (x -ℤ p.x)) (mirrored p.flip_y (y -ℤ p.y))

abbrev pub carried : Placement → (ℤ → ℤ → Bool) → ℤ → ℤ → Bool
carried p s x y = s (back_x p x y) (back_y p x y)

-- where a rectangle goes
abbrev pub carried_bounds : Placement → Bounds → Bounds
carried_bounds p b = record {
  left = int_min (point_x p b.left b.bottom) (point_x p b.right b.top);
  bottom = int_min (point_y p b.left b.bottom) (point_y p b.right b.top);
  right = int_max (point_x p b.left b.bottom) (point_x p b.right b.top);
  top = int_max (point_y p b.left b.bottom) (point_y p b.right b.top);
}

-- the second placement, then the first
abbrev pub composed : Placement → Placement → Placement
composed p q = record {
  swapped = either p.swapped q.swapped;
  flip_x = either p.flip_x (cond p.swapped q.flip_y q.flip_x);
  flip_y = either p.flip_y (cond p.swapped q.flip_x q.flip_y);
  x = point_x p q.x q.y;
  y = point_y p q.x q.y;
}

-- moved and nothing else
abbrev pub shift : ℤ → ℤ → Placement
shift x y = record { swapped = false; flip_x = false; flip_y = false; x = x; y = y }

-- nothing at all
abbrev pub still : Placement
still = shift (pos 0) (pos 0)

-- reflected about the x axis or not, turned counter-clockwise so many quarters, then moved
abbrev pub placed : Bool → ℕ → ℤ → ℤ → Placement
placed r zero x y = record { swapped = false; flip_x = false; flip_y = r; x = x; y = y }
placed r (suc zero) x y = record { swapped = true; flip_x = not r; flip_y = false; x = x; y = y }
placed r (suc (suc zero)) x y = record { swapped = false; flip_x = true; flip_y = not r; x = x; y = y }
placed r (suc (suc (suc n))) x y = record { swapped = true; flip_x = r; flip_y = true; x = x; y = y }
