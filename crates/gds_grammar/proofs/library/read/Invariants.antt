use Rattle.std.proofs.Common.{length}
use Rattle.gds_grammar.specs.Values.{contents_of}
use Rattle.gds_grammar.specs.Machine.{Start, Between}
use Rattle.gds_grammar.specs.steps.Keeping.{keeps, Leads}
use Rattle.gds_grammar.proofs.library.read.Given as goal

abbrev pub invariant-cells : goal.invariant-cells
invariant-cells l = Leads (keeps l.wanted) l.bytes Start l.rest Between (contents_of l.library)

abbrev pub decreases-cells : goal.decreases-cells
decreases-cells l = length l.rest
