use Rattle.std.proofs.Common.{ℤ, Bool, ◌&&◌, ◌↔◌}
use Rattle.std.specs.Cmp.{first_so, second_so}
use Rattle.std.specs.Prelude.{IsTrue}
use Rattle.std.proofs.lemmas.Bool.{and_from}
use Rattle.fill_base.specs.Coordinates.{IsCoordinate, AreCoordinates}
use Rattle.fill_base.proofs.Signed.{read_is}
use Rattle.fill_base.proofs.rect.are_coordinates.Goals as goal

all_four : (x1 y1 x2 y2 : ℤ) (a b c d : Bool) → (IsTrue a ↔ IsCoordinate x1) → (IsTrue b ↔ IsCoordinate y1) → (IsTrue c ↔ IsCoordinate x2) → (IsTrue d ↔ IsCoordinate y2)
    → (IsTrue (((a && b) && c) && d) ↔ AreCoordinates x1 y1 x2 y2)
all_four x1 y1 x2 y2 a b c d f g h k = (
  (λ is.
      let three = first_so ((a && b) && c) d is in
      let two = first_so (a && b) c three in
      record { left_is = f.0 (first_so a b two); bottom_is = g.0 (second_so a b two); right_is = h.0 (second_so (a && b) c three); top_is = k.0 (second_so ((a && b) && c) d is) }),
  (λ are. and_from ((a && b) && c) d (and_from (a && b) c (and_from a b (f.1 are.left_is) (g.1 are.bottom_is)) (h.1 are.right_is)) (k.1 are.top_is)),
)

pub returns : goal.returns
returns c = all_four c.args.x1 c.args.y1 c.args.x2 c.args.y2 c.is_coordinate.result c.is_coordinate-2.result c.is_coordinate-3.result c.is_coordinate-4.result
    (rw (read_is c.args.x1 c.ranges.x1) at c.is_coordinate.ensures) (rw (read_is c.args.y1 c.ranges.y1) at c.is_coordinate-2.ensures) (rw (read_is c.args.x2 c.ranges.x2) at c.is_coordinate-3.ensures) (rw (read_is c.args.y2 c.ranges.y2) at c.is_coordinate-4.ensures)
