-- What the last try answered is what all tries come to, and nothing was told as failed yet.
use Rattle.std.proofs.Common.{◌≡◌}
use Rattle.std.specs.Io.{WritesAtMost}
use Rattle.std.specs.Io.KnownBytes.{WriteAppends}
use Rattle.densfill_io.proofs.taps.TapWrite.write.Given as goal

abbrev pub invariant-trying : goal.invariant-trying
invariant-trying g l = record {
  bound : WritesAtMost l.written l.buf;
  bytes : WriteAppends (g.W.Write.contents l.fn.self.inner) (g.W.Write.contents l.self.inner) l.written l.buf;
  same : l.self.failed ≡ l.fn.self.failed;
}
