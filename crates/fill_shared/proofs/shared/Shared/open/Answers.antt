use Rattle.std.proofs.Common.{arith, ◌≤◌}
use Rattle.fill_core.specs.Shares.{nothing_with}
use Rattle.fill_shared.proofs.Sums.{one_cut, one_more}
use Rattle.fill_shared.proofs.shared.Shared.open.Goals as goal

pub loop-preserved : goal.loop-preserved
loop-preserved g c =
    let least : 1 ≤ c.loop.counter = omega arith in
    record {
      cut = one_more c.push_reserved.new.self.items c.loop.passes.items c.loop.counter (nothing_with 1) c.split_off.result least c.push_reserved.ensures.items c.loop.invariant.cut c.split_off.ensures.cut;
      count = omega arith;
      room = omega arith;
      left = one_cut c.args.pass c.loop.pass c.split_off.new.self c.loop.counter (omega arith) c.loop.invariant.left c.split_off.ensures.kept c.split_off.ensures.calls c.split_off.ensures.placed c.split_off.ensures.withdrawn;
    }
