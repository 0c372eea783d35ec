-- Moving points.
use Rattle.std.specs.Prelude.{◌+ℤ◌}
use Rattle.fill_base.specs.declared.place.Point.{Point}
use Rattle.gds_shape.specs.declared.bounds.Bounds.{Bounds}

-- so far to the right, so far up
abbrev pub moved : Point → Point → Point
moved by p = record { x = p.x +ℤ by.x; y = p.y +ℤ by.y }

abbrev pub moved_bounds : Point → Bounds → Bounds
moved_bounds by b = record {
  left = b.left +ℤ by.x;
  bottom = b.bottom +ℤ by.y;
  right = b.right +ℤ by.x;
  top = b.top +ℤ by.y;
}
