use Rattle.fill_report.proofs.BookMeasures.{measures_are, total_is_area}
use Rattle.fill_report.proofs.book.measures_in.Goals as goal

pub returns-clause-measures : goal.returns-clause-measures
returns-clause-measures g c =
    let a = c.column_and_row-a.ensures.column in
    let b = c.column_and_row-a.ensures.row in
    rw (a, b) at (measures_are (g.B.FillBook.account c.args.book.now) c.args.windows.now c.column_and_row-a.result.0 c.column_and_row-a.result.1 c.drawn-drawn.result c.total-total.result c.requires.windows
    (record { plan = c.requires.plan; drawn_is = c.drawn-drawn.ensures; total_is = c.total-total.ensures.exact }))

pub returns-clause-total : goal.returns-clause-total
returns-clause-total g c =
    total_is_area (g.B.FillBook.account c.args.book.now) c.column_and_row-a.result.0 c.column_and_row-a.result.1 c.drawn-drawn.result c.total-total.result
    (record { plan = c.requires.plan; drawn_is = c.drawn-drawn.ensures; total_is = c.total-total.ensures.exact })
