-- Nothing has failed, and what was taken is what the input holds.
use Rattle.std.proofs.Common.{◌≡◌, ◌≤◌, ◌+◌, ◌-◌, false, vec_len}
use Rattle.std.specs.Io.KnownBytes.{Consumes}
use Rattle.densfill_io.specs.Taps.{has_failed, under}
use Rattle.densfill_io.proofs.input.read_input.Given as goal

abbrev pub invariant-reading : goal.invariant-reading
invariant-reading g l = record {
  whole : has_failed l.tap ≡ false;
  short : vec_len l.input ≤ l.limit;
  taken : Consumes (g.R.Read.remaining (under l.fn.tap)) (g.R.Read.remaining (under l.tap)) l.input.items;
}

abbrev pub decreases-reading : goal.decreases-reading
decreases-reading g l = l.limit + 1 - vec_len l.input
