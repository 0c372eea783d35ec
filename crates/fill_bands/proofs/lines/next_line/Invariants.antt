use Rattle.std.proofs.Common.{take}
use Rattle.fill_bands.specs.steps.Lines.{IsNextLine}
use Rattle.fill_bands.proofs.lines.next_line.Given as goal

abbrev pub invariant-loop-rect : goal.invariant-loop-rect
invariant-loop-rect l = IsNextLine l.later (take l.rect-index l.crossing) l.line
