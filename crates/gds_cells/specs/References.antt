-- References: how each carries the cell that it names, and why it's refused.
use Rattle.std.specs.Prelude.{ℕ, ◌*◌, ◌/◌, ◌%◌, ◌^◌, ◌==◌, ℤ, pos, ◌+ℤ◌, ◌-ℤ◌, ◌*ℤ◌, Bool, false, ◌&&◌, ◌||◌, not, if◌then◌else◌, List, [], ◌∷◌, map, slice_get, Option, Some, None, unwrap_or, is_none, nat_le}
use Rattle.std.specs.List.{range_with_len}
use Rattle.std.specs.Int.{int_div_euclid, int_rem_euclid}
use Rattle.std.specs.Ordering.{int_eq}
use Rattle.fill_base.specs.declared.place.Point.{Point}
use Rattle.gds_record.specs.Reals.{bits_of, fraction, exponent, is_negative, turns_of}
use Rattle.gds_grammar.specs.declared.element.Transform.{Transform}
use Rattle.gds_grammar.specs.Values.{boundary, path, reference, array, Shape as Element}
use Rattle.gds_cells.specs.declared.error.FlattenError.{FlattenError}
use Rattle.gds_cells.specs.declared.error.FlattenError.TheVariants.{BadTransform, BadArray}
use Rattle.gds_cells.specs.declared.placement.Placement.{Placement}
use Rattle.gds_cells.specs.Placements.{placed}

-- ---- the transformation

-- the real with these bits is n, its sign left out
abbrev pub has_magnitude : ℕ → ℕ → Bool
has_magnitude n bits = fraction bits * 16 ^ exponent bits == n * 16 ^ 78

-- quarter turns counter-clockwise of an angle: of 0, 90, 180, 270 and 360 degrees, and of none else
abbrev pub turns_of_bits : ℕ → Option ℕ
turns_of_bits bits =
    if has_magnitude 0 bits then Some 0
    else if has_magnitude 90 bits then Some (turns_of (is_negative bits) 1)
    else if has_magnitude 180 bits then Some (turns_of (is_negative bits) 2)
    else if has_magnitude 270 bits then Some (turns_of (is_negative bits) 3)
    else if has_magnitude 360 bits then Some 0
    else None

-- an angle that is left out turns nothing
abbrev pub turns_in : Option (List ℕ) → Option ℕ
turns_in (Some bytes) = turns_of_bits (bits_of bytes)
turns_in None = Some 0

-- a magnification that is left out is 1, and none else may stand
abbrev pub is_magnified : Option (List ℕ) → Bool
is_magnified (Some bytes) = not (has_magnitude 1 (bits_of bytes) && not (is_negative (bits_of bytes)))
is_magnified None = false

-- bit 8000 of STRANS
abbrev pub is_reflected : Transform → Bool
is_reflected t = t.flags / 32768 == 1

-- bit 0002 of STRANS
abbrev pub has_absolute_angle : Transform → Bool
has_absolute_angle t = t.flags / 2 % 2 == 1

abbrev pub is_bad_transform : Transform → Bool
is_bad_transform t = has_absolute_angle t || (is_magnified t.magnification || is_none (turns_in t.angle))

-- how a reference with this transformation carries, moved so
abbrev pub placement_of : Transform → Point → Placement
placement_of t by = placed (is_reflected t) (unwrap_or (turns_in t.angle) 0) by.x by.y

-- ---- arrays

-- an array's points: its origin, the origin moved by all columns, the origin moved by all rows
abbrev pub point_at : List Point → ℕ → Point
point_at points k = unwrap_or (slice_get points k) (record { x = pos 0; y = pos 0 })

abbrev pub is_count : ℕ → Bool
is_count n = nat_le 1 n && nat_le n 32767

abbrev pub is_whole : ℤ → ℕ → Bool
is_whole way n = int_eq (int_rem_euclid way (pos n)) (pos 0)

-- the way from one point to another takes so many whole steps
abbrev pub has_steps : Point → Point → ℕ → Bool
has_steps p q n = is_whole (q.x -ℤ p.x) n && is_whole (q.y -ℤ p.y) n

-- one of so many steps from one point to another
abbrev pub step_of : Point → Point → ℕ → Point
step_of p q n = record {
  x = int_div_euclid (q.x -ℤ p.x) (pos n);
  y = int_div_euclid (q.y -ℤ p.y) (pos n);
}

-- the origin and so many steps of each kind
abbrev pub grid_point : List Point → ℕ → ℕ → ℕ → ℕ → Point
grid_point points columns rows c r = record {
  x = ((point_at points 0).x +ℤ (pos c *ℤ (step_of (point_at points 0) (point_at points 1) columns).x))
      +ℤ (pos r *ℤ (step_of (point_at points 0) (point_at points 2) rows).x);
  y = ((point_at points 0).y +ℤ (pos c *ℤ (step_of (point_at points 0) (point_at points 1) columns).y))
      +ℤ (pos r *ℤ (step_of (point_at points 0) (point_at points 2) rows).y);
}

abbrev pub is_bad_array : ℕ → ℕ → List Point → Bool
is_bad_array columns rows points =
    not (is_count columns && is_count rows)
    || not (has_steps (point_at points 0) (point_at points 1) columns
    && has_steps (point_at points 0) (point_at points 2) rows)

-- the single references of an array, row by row
abbrev pub array_placements : Transform → ℕ → ℕ → List Point → List Placement
array_placements transform columns rows points =
    map (λ k. placement_of transform (grid_point points columns rows (k % columns) (k / columns)))
    (range_with_len 0 (columns * rows))

-- why an array is refused
abbrev pub array_fault : Transform → ℕ → ℕ → List Point → Option FlattenError
array_fault transform columns rows points =
    if is_bad_transform transform then Some BadTransform
    else if is_bad_array columns rows points then Some BadArray
    else None

-- ---- the single references that an element stands for

abbrev pub placements_of : Element → List Placement
placements_of (boundary l points) = []
placements_of (path l wire) = []
placements_of (reference cell transform origin) = placement_of transform origin ∷ []
placements_of (array cell transform columns rows points) = array_placements transform columns rows points

-- the name of the cell that an element refers to
abbrev pub name_of : Element → Option (List ℕ)
name_of (boundary l points) = None
name_of (path l wire) = None
name_of (reference cell transform origin) = Some cell
name_of (array cell transform columns rows points) = Some cell

-- why a reference is refused
abbrev pub reference_fault : Element → Option FlattenError
reference_fault (boundary l points) = None
reference_fault (path l wire) = None
reference_fault (reference cell transform origin) = if is_bad_transform transform then Some BadTransform else None
reference_fault (array cell transform columns rows points) = array_fault transform columns rows points
