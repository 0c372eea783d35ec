use Rattle.std.proofs.Common.{◌+◌, length, min, take}
use Rattle.std.proofs.Math.Seq.{take-length}
use Rattle.std.proofs.lemmas.List.{take_all}
use Rattle.std.specs.List.{flat_map}
use Rattle.std.specs.Vec.{vec_items}
use Rattle.densfill_io.specs.Taps.{under}
use Rattle.densfill_io.proofs.Writing.{appends_more, begins_texts}
use Rattle.densfill_io.proofs.output.write_texts.Goals as goal

pub returns-in_err-write_text-clause-prefix : goal.returns-in_err-write_text-clause-prefix
returns-in_err-write_text-clause-prefix g c =
    let texts = c.args.texts.now in
    let i = c.loop-text.text-index in
    let text = c.text-item.result in
    let some = c.write_text.ensures.prefix in (
      length (flat_map vec_items (take i texts)) + min some.0 (length text.items),
      rw (← begins_texts texts i some.0 text c.loop-text-test.true c.text-item.is) (appends_more
          (g.W.Write.contents (under c.args.tap.now)) (g.W.Write.contents (under c.loop-text.tap)) (g.W.Write.contents (under c.write_text.new.tap))
          (flat_map vec_items (take i texts)) (take some.0 text.items) c.loop-text.invariant.written (rw c.deref.ensures.value at some.1)),
    )

pub returns-clause-prefix : goal.returns-clause-prefix
returns-clause-prefix g c =
    let texts = c.args.texts.now in
    let all = flat_map vec_items texts in
    (length all, rw (take-length all) (rw (take_all c.loop-text.text-index texts c.loop-text-test.false) at c.loop-text.invariant.written))
