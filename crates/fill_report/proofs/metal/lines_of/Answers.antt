use Rattle.std.proofs.Common.{◌++◌, arith}
use Rattle.fill_report.specs.Report.{lines_above}
use Rattle.fill_report.proofs.Lines.{lines_more, text_is}
use Rattle.fill_report.proofs.metal.lines_of.Goals as goal

pub overflow_add-at : goal.overflow_add-at
overflow_add-at c = omega (arith, c.requires.within, c.loop-i-test.true, c.len.ensures.count, c.len.ensures.few)

pub loop-i-preserved : goal.loop-i-preserved
loop-i-preserved c = record {
  ready = c.in_ok-put_window.ensures.ready;
  text = λ measures drawn. lines_more c.args.place.1 c.args.windows.now _ c.args.areas.now measures c.args.place.0 c.loop-i.i c.loop-i.writer c.put_window.new.writer c.loop-i-test.true c.requires.areas drawn (c.loop-i.invariant.text measures drawn) c.in_ok-put_window.ensures.text;
}

pub returns : goal.returns
returns c measures drawn = text_is (lines_above c.args.place.1 c.args.windows.now c.args.limits measures c.args.place.0) c.in_ok-text-2.text.items (c.loop-i.writer.wtr.inner.items ++ c.loop-i.writer.wtr.buf) c.loop-i.i _
    c.loop-i-test.false c.loop-i.auto.i-end c.in_ok-text-2.ensures.ok (c.loop-i.invariant.text measures drawn)
