use Rattle.std.proofs.Common.{◌≡◌, ◌%◌, ◌++◌, length}
use Rattle.std.specs.Prelude.{All}
use Rattle.gds_record.specs.Numbers.{IsStored}
use Rattle.gds_grammar.specs.Points.{points_of}
use Rattle.gds_grammar.proofs.element.points.Points.put.Given as goal

abbrev pub invariant-points : goal.invariant-points
invariant-points l = record {
  eights : length l.rest % 8 ≡ 0;
  so_far : l.points.items ++ points_of l.rest ≡ points_of l.self.xy.now;
  stored : All IsStored l.points.items;
}

abbrev pub decreases-points : goal.decreases-points
decreases-points l = length l.rest
