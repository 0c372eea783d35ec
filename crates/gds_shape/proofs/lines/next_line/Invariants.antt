use Rattle.std.proofs.Common.{take}
use Rattle.gds_shape.specs.steps.Lines.{IsNextLine}
use Rattle.gds_shape.proofs.lines.next_line.Given as goal

abbrev pub invariant-loop-edge : goal.invariant-loop-edge
invariant-loop-edge l = IsNextLine l.later (take l.edge-index l.crossing) l.line
