use Rattle.gds_grammar.specs.Points.{points_of}
use Rattle.gds_grammar.proofs.Bodies.{ring}
use Rattle.gds_grammar.proofs.element.values.boundary_of.Goals as goal

pub invariant_of-result-2 : goal.invariant_of-result-2
invariant_of-result-2 c =
    let r = ring (points_of c.args.xy.now) c.requires.body.closed in
    record { filled = r.filled; closed = r.closed }
