use Rattle.std.proofs.Common.{◌≤◌, length, arith}
use Rattle.std.proofs.lemmas.List.Elements.{All-push}
use Rattle.gds_record.specs.Numbers.{IsStored}
use Rattle.gds_grammar.proofs.Bodies.{point_read}
use Rattle.gds_grammar.proofs.element.points.Points.put.Goals as goal

pub points-preserved : goal.points-preserved
points-preserved c =
    let inv = c.points.invariant in
    let le : 8 ≤ length c.points.rest.now = omega (arith, c.split_at.ensures.front_len, inv.eights) in
    record {
      eights = omega (arith, c.split_at.ensures.back_len, inv.eights, le);
      so_far = rw (c.in_ok-push.ensures.items, c.point.ensures.value, c.split_at.ensures.front, c.split_at.ensures.back) (point_read c.points.points.items c.points.rest.now c.args.self.now.xy.now le inv.so_far);
      stored = rw c.in_ok-push.ensures.items (All-push IsStored c.points.points.items c.point.result inv.stored c.point.ensures.stored);
    }
