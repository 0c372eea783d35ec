use Rattle.std.proofs.Common.{length}
use Rattle.gds_grammar.specs.steps.Keeping.{keeps, IsWithin}
use Rattle.gds_grammar.proofs.cell.read_elements.Given as goal

abbrev pub invariant-elements : goal.invariant-elements
invariant-elements l = IsWithin (keeps l.wanted) l.fresh l.bytes l.rest l.elements.items

abbrev pub decreases-elements : goal.decreases-elements
decreases-elements l = length l.rest
