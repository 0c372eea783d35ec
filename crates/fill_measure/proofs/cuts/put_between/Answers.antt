use Rattle.fill_base.proofs.Signed.{read}
use Rattle.fill_measure.proofs.Ends.{coordinate_read, between_more}
use Rattle.fill_measure.proofs.cuts.put_between.Goals as goal

pub loop-preserved : goal.loop-preserved
loop-preserved c =
    let is = coordinate_read c.stepped-cut.result c.stepped-cut.ensures in
    (is, between_more (read c.stepped-cut.result) c.args.numbers.now.items c.loop.numbers.items c.push.new.self.items is c.loop.invariant.1 c.in_ok-push.ensures.items)
