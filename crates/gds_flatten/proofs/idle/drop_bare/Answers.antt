use Rattle.std.proofs.Common.{◌<◌, subst, sym, arith}
use Rattle.gds_flatten.specs.steps.Idle.{IsFilled}
use Rattle.gds_flatten.proofs.Busy.{changed_none, changed_next, changed_all}
use Rattle.gds_flatten.proofs.idle.drop_bare.Goals as goal

pub cells-init : goal.cells-init
cells-init c = changed_none IsFilled c.args.cells.now

pub cells-preserved : goal.cells-preserved
cells-preserved c =
    changed_next IsFilled c.args.cells.now c.cells.cells c.cells.cell-index c.drop_bare_from.new.cell c.cell-item.result
    (subst (λ n. c.cells.cell-index < n) (sym c.cells.auto.cells) c.cells-test.true) c.cells.invariant c.cell-item.is
    (subst (λ x. IsFilled x c.drop_bare_from.new.cell) (sym c.cell-item.is) c.drop_bare_from.ensures)

pub returns : goal.returns
returns c =
    let long = c.cells.auto.cells in
    let ended = c.cells-test.false in
    changed_all IsFilled c.args.cells.now c.cells.cells c.cells.cell-index (λ lt. omega (arith, lt, long, ended)) c.cells.invariant
