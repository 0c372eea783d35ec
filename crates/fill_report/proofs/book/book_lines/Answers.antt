use Rattle.std.proofs.Common.{◌≡◌, ◌+◌, ◌++◌, [], Some, arith, refl, rules}
use Rattle.fill_job.specs.Plans.{drawn_squares, plan_of}
use Rattle.fill_core.specs.Accounts.{state_of}
use Rattle.fill_report.proofs.RowEnds.{all_follow, none_yet, one_follows}
use Rattle.fill_report.specs.BookReport.{boxes_of}
use Rattle.fill_report.specs.Report.{measures_of}
use Rattle.fill_report.specs.Writing.{written}
use Rattle.fill_report.proofs.book.book_lines.Goals as goal

pub loop-k-init : goal.loop-k-init
loop-k-init g c =
    let a = g.B.FillBook.account c.args.book.now in
    let s = state_of a in
    let empty : written c.from_writer-writer.result ≡ Some [] = search rules in
    record {
      from = omega arith;
      ready = search rules;
      text = none_yet c.args.section.above c.args.windows.now _ (measures_of (drawn_squares s.layers) (boxes_of (plan_of a.rules) s.fill) c.args.windows.now) c.args.section.from c.from_writer-writer.result empty;
    }

pub loop-k-preserved : goal.loop-k-preserved
loop-k-preserved g c =
    let a = g.B.FillBook.account c.args.book.now in
    let s = state_of a in
    record {
      from = omega (arith, c.loop-k.invariant.from);
      ready = c.in_ok-put_window.ensures.ready;
      text = one_follows c.args.section.above c.args.windows.now _ (measures_of (drawn_squares s.layers) (boxes_of (plan_of a.rules) s.fill) c.args.windows.now) c.args.section.from _ c.loop-k.k c.loop-k.writer c.put_window.new.writer
          c.loop-k.invariant.from c.measures_in-measures.ensures.measures c.loop-k.invariant.text c.in_ok-put_window.ensures.text;
    }

pub returns : goal.returns
returns g c =
    let a = g.B.FillBook.account c.args.book.now in
    let s = state_of a in
    all_follow c.args.section.above c.args.windows.now _ (measures_of (drawn_squares s.layers) (boxes_of (plan_of a.rules) s.fill) c.args.windows.now) c.args.section.from c.loop-k.k c.args.section.count (c.args.section.from + c.args.section.count) c.in_ok-text.text.items (c.loop-k.writer.wtr.inner.items ++ c.loop-k.writer.wtr.buf)
    refl c.loop-k-test.false (c.loop-k.auto.k-end (omega arith)) c.in_ok-text.ensures.ok c.loop-k.invariant.text
