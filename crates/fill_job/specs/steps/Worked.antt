-- A plan of small numbers, by which the definitions are computed.
use Rattle.std.specs.Prelude.{ℕ, ℤ, pos, ◌&&◌, ◌==◌}
use Rattle.std.specs.Ordering.{int_eq}
use Rattle.fill_area.specs.Grid.{all_coordinates}
use Rattle.fill_job.specs.Plans.{Plan, PointSet, WindowSet}

-- boxes of 4 by 4 at steps of 10 from (3, 3) on, in a frame of 100 by 100; windows of 50 by 50 at steps of 25
abbrev pub worked : Plan
worked = record {
  raster = record {
    across = record { low = pos 0; high = pos 100; length = pos 4; step = pos 10; origin = pos 3; band = 4 };
    up = record { low = pos 0; high = pos 100; length = pos 4; step = pos 10; origin = pos 3; band = 4 };
  };
  windows = record {
    across = record { first = pos 0; length = pos 50; step = pos 25; count = 3 };
    up = record { first = pos 0; length = pos 50; step = pos 25; count = 3 };
    clip = all_coordinates;
  };
  spacing = pos 2;
  fill_spacing = pos 2;
  least = pos 300000;
}

abbrev pub one_square : ℤ → ℤ → PointSet
one_square u v x y = int_eq x u && int_eq y v

abbrev pub one_window : ℕ → ℕ → WindowSet
one_window c d a b = (a == c) && (b == d)
