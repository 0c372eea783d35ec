use Rattle.std.proofs.Common.{◌≡◌, length}
use Rattle.gds_record.specs.Numbers.{trimmed}
use Rattle.gds_record.proofs.names.name.Given as goal

abbrev pub invariant-loop-last : goal.invariant-loop-last
invariant-loop-last l = trimmed l.name ≡ trimmed l.body

abbrev pub decreases-loop-last : goal.decreases-loop-last
decreases-loop-last l = length l.name
