-- What the last try answered is what all tries come to, and nothing was told as failed yet.
use Rattle.std.proofs.Common.{◌≡◌}
use Rattle.std.specs.Io.{ReadsAtMost}
use Rattle.std.specs.Io.KnownBytes.{ReadConsumes}
use Rattle.densfill_io.proofs.taps.TapRead.read.Given as goal

abbrev pub invariant-trying : goal.invariant-trying
invariant-trying g l = record {
  bound : ReadsAtMost l.read l.buf;
  bytes : ReadConsumes (g.R.Read.remaining l.fn.self.inner) (g.R.Read.remaining l.self.inner) l.read l.buf;
  same : l.self.failed ≡ l.fn.self.failed;
}
