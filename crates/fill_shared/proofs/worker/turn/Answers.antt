use Rattle.std.proofs.Common.{◌∙◌, ap, arith, ◌+◌, ◌^◌, ◌<◌, Err}
use Rattle.fill_job.specs.Basis.{read_by}
use Rattle.fill_core.specs.Shares.{Held}
use Rattle.fill_shared.proofs.Points.{full_turn, job_few}
use Rattle.fill_shared.proofs.Turning.{turned}
use Rattle.fill_shared.proofs.worker.turn.Goals as goal

pub overflow_add-result : goal.overflow_add-result
overflow_add-result g c =
    let seen = rw c.in-Ok-Work.field-0-is at c.in-Ok-Work.ensures.seen in
    let few : c.tile-tile.result + 1 < 2 ^ 32 = job_few _ c.args.pass.now.calls c.args.from c.tile-tile.result c.in-Ok-Work.job c.tile-tile.ensures seen in
    omega arith

pub returns-in-Ok-commit : goal.returns-in-Ok-commit
returns-in-Ok-commit g c =
    let seen = rw c.in-Ok-Work.field-0-is at c.in-Ok-Work.ensures.seen in
    let shares = c.in-Ok-commit.ensures.written.4.1.writes.shares in
    let p = c.in-Ok.proposal in (
      ap (λ (h : Held). h.parts) shares ∙ ap (λ (h : Held). h.parts) c.look.ensures.same,
      ap (λ (h : Held). h.calls) shares ∙ ap (λ (h : Held). h.calls + 1) c.look.ensures.same,
      turned g.B.Calls.Opened.terms c.args.pass.now c.look.new.pass c.commit.new.pass c.args.from c.tile-tile.result p.version p.tile (read_by p.basis) c.in-Ok-Work.job c.in-Ok-commit.field-0
          c.look.ensures.same c.tile-tile.ensures seen c.in-Ok.ensures.version c.in-Ok.ensures.tile (ap read_by c.in-Ok.ensures.read) c.in-Ok-commit.ensures.written,
    )

pub returns-in-Err-HistoryFull : goal.returns-in-Err-HistoryFull
returns-in-Err-HistoryFull g c =
    let seen = rw c.in-Ok-Work.field-0-is at c.in-Ok-Work.ensures.seen in
    full_turn g.B.Calls.Opened.terms c.args.from c.in-Ok-Work.job c.args.pass.now c.look.new.pass c.commit.new.pass c.look.ensures.same c.in-Err-HistoryFull.ensures.err seen
    (c.in-Err-HistoryFull.ensures.full (ap Err c.in-Err-HistoryFull.field-0-is))
