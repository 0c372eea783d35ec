use Rattle.std.proofs.Common.{◌++◌, take, arith, length-append}
use Rattle.std.proofs.lemmas.List.{length-take}
use Rattle.densfill_io.specs.Taps.{under}
use Rattle.densfill_io.proofs.Reading.{consumes_more}
use Rattle.densfill_io.proofs.input.read_input.Goals as goal

pub returns-then-is_err-clause-taken : goal.returns-then-is_err-clause-taken
returns-then-is_err-clause-taken g c = (
  c.reading.input.items ++ take c.in-Ok.count c.read.new.buf,
  consumes_more (g.R.Read.remaining (under c.args.tap.now)) (g.R.Read.remaining (under c.reading.tap)) (g.R.Read.remaining (under c.read.new.self))
      c.reading.input.items (take c.in-Ok.count c.read.new.buf) c.reading.invariant.taken c.in-Ok.ensures.bytes.0,
  simp (length-append, length-take) (omega (arith, c.in-Ok.ensures.bound, length-take c.min-room.result c.reading.buffer)),
)
