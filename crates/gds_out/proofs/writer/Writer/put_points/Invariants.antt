-- The points so far stand in the body, and the text is as it was.
use Rattle.std.proofs.Common.{◌≡◌, map, take}
use Rattle.gds_out.specs.FillText.{coordinates, points_bytes}
use Rattle.gds_out.proofs.writer.Writer.put_points.Given as goal

abbrev pub invariant-loop-point : goal.invariant-loop-point
invariant-loop-point l = record {
  text : l.self.text.items ≡ l.fn.self.text.items;
  points : l.self.body.items ≡ points_bytes (map coordinates (take l.point-index l.points));
}
