use Rattle.std.proofs.Common.{◌∙◌, arith}
use Rattle.std.proofs.lemmas.Int.{ints}
use Rattle.fill_base.proofs.Signed.{read_is}
use Rattle.gds_shape.proofs.Walk.{gap_put}
use Rattle.gds_shape.proofs.strip.put_gap.Goals as goal

pub returns : goal.returns
returns c = gap_put c.args.out.now.items c.push.new.self.items c.from_edges.result c.args.left c.args.right c.args.bottom c.args.top c.args.inside
    c.in_ok-push.ensures.items (c.from_edges.ensures.0 ∙ read_is c.args.left (omega (arith, ints))) (c.from_edges.ensures.1 ∙ read_is c.args.bottom (omega (arith, ints)))
    (c.from_edges.ensures.2 ∙ read_is c.args.right (omega (arith, ints))) (c.from_edges.ensures.3 ∙ read_is c.args.top (omega (arith, ints))) c.if-not-inside.false
