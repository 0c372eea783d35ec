use Rattle.std.proofs.Common.{◌<◌, arith}
use Rattle.gds_out.proofs.Corners.{far_is}
use Rattle.gds_out.proofs.elements.moved.Goals as goal

pub overflow_add-result : goal.overflow_add-result
overflow_add-result c =
    let few : c.args.count < 65536 = omega arith in
    (far_is c.args.from c.args.step c.args.count c.from.result c.requires.step c.requires.low c.requires.high few c.from.ensures).1

pub returns : goal.returns
returns c =
    let few : c.args.count < 65536 = omega arith in
    (far_is c.args.from c.args.step c.args.count c.from.result c.requires.step c.requires.low c.requires.high few c.from.ensures).0
