use Rattle.std.proofs.Common.{arith}
use Rattle.gds_cells.proofs.Stepping.{stepped_is}
use Rattle.gds_cells.proofs.reference.stepped.Goals as goal

pub overflow_add-result-2 : goal.overflow_add-result-2
overflow_add-result-2 c =
    let a = c.args in
    (stepped_is a.first a.column_step a.row_step c.from.result c.from-2.result a.column a.row (omega (arith, c.ranges.column)) (omega (arith, c.ranges.row)) c.ranges.column_step c.ranges.row_step c.from.ensures c.from-2.ensures c.requires.first c.requires.columns c.requires.rows).fits

pub returns-clause-value : goal.returns-clause-value
returns-clause-value c =
    let a = c.args in
    (stepped_is a.first a.column_step a.row_step c.from.result c.from-2.result a.column a.row (omega (arith, c.ranges.column)) (omega (arith, c.ranges.row)) c.ranges.column_step c.ranges.row_step c.from.ensures c.from-2.ensures c.requires.first c.requires.columns c.requires.rows).is

pub returns-clause-near : goal.returns-clause-near
returns-clause-near c =
    let a = c.args in
    (stepped_is a.first a.column_step a.row_step c.from.result c.from-2.result a.column a.row (omega (arith, c.ranges.column)) (omega (arith, c.ranges.row)) c.ranges.column_step c.ranges.row_step c.from.ensures c.from-2.ensures c.requires.first c.requires.columns c.requires.rows).near
