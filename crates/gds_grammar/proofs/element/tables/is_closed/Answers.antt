use Rattle.std.proofs.Common.{sym, ◌∙◌}
use Rattle.gds_grammar.proofs.Bodies.{ring_is}
use Rattle.gds_grammar.proofs.element.tables.is_closed.Goals as goal

pub returns-in-Boundary : goal.returns-in-Boundary
returns-in-Boundary c = rw c.in-Boundary.is (c.is_ring.ensures ∙ sym (ring_is c.args.xy.now (rw c.in-Boundary.is at c.requires)))
