use Rattle.std.proofs.Common.{rules, length, take, drop, ◌-◌}
use Rattle.densfill_io.specs.Taps.{under}
use Rattle.densfill_io.proofs.Writing.{appends_more, take_further}
use Rattle.densfill_io.proofs.output.write_text.Goals as goal

pub writing-preserved : goal.writing-preserved
writing-preserved g c = record {
  whole = search rules;
  within = search rules;
  written = rw (← take_further c.writing.at c.in-Ok.count c.args.text.now) (appends_more
      (g.W.Write.contents (under c.args.tap.now)) (g.W.Write.contents (under c.writing.tap)) (g.W.Write.contents (under c.write.new.self))
      (take c.writing.at c.args.text.now) (take c.in-Ok.count (take (length c.args.text.now - c.writing.at) (drop c.writing.at c.args.text.now)))
      c.writing.invariant.written c.in-Ok.ensures.bytes);
}
