use Rattle.std.proofs.Common.{◌≡◌, ◌+◌, ◌*◌, ◌∙◌, ap, arith, pos}
use Rattle.fill_base.proofs.Signed.{read, read_is}
use Rattle.fill_region.specs.Runs.{holds}
use Rattle.fill_area.proofs.RowByRow.{near_area, one_more, row_over}
use Rattle.fill_area.proofs.measure.put_row.Goals as goal

pub loop-a-init : goal.loop-a-init
loop-a-init c = let same : c.args.b * c.args.windows.now.across.count + 0 ≡ c.args.b * c.args.windows.now.across.count = omega arith in rw same c.requires.before

pub loop-a-preserved : goal.loop-a-preserved
loop-a-preserved c = one_more (holds c.args.region.now) c.args.windows.now c.loop-a.a c.args.b _ _ c.loop-a.areas.items c.push.new.self.items (read c.counted_area.result) (omega (arith, c.loop-a-test.true, c.columns-a-end.ensures)) (omega arith) (omega arith)
    (read_is c.counted_area.result (record { sfits = c.counted_area.type_inv }) ∙ (c.counted_area.ensures ∙ ap (λ n. pos n) (near_area (holds c.args.region.now) (holds c.in_ok-near.near) c.args.windows.now c.loop-a.a c.args.b c.requires.grid c.in_ok-near.ensures))) c.in_ok-push.ensures.items c.loop-a.invariant

pub returns : goal.returns
returns c = row_over (holds c.args.region.now) c.args.windows.now c.args.b c.loop-a.a c.loop-a.areas.items (omega (arith, c.loop-a-test.false, c.loop-a.auto.a-end, c.columns-a-end.ensures)) c.loop-a.invariant
