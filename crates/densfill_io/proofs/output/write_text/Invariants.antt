-- Nothing has failed, and what was written is the text up to `at`.
use Rattle.std.proofs.Common.{◌≡◌, ◌≤◌, ◌-◌, false, length, take}
use Rattle.std.specs.Io.KnownBytes.{Appends}
use Rattle.densfill_io.specs.Taps.{has_failed, under}
use Rattle.densfill_io.proofs.output.write_text.Given as goal

abbrev pub invariant-writing : goal.invariant-writing
invariant-writing g l = record {
  whole : has_failed l.tap ≡ false;
  within : l.at ≤ length l.text;
  written : Appends (g.W.Write.contents (under l.fn.tap)) (g.W.Write.contents (under l.tap)) (take l.at l.text);
}

abbrev pub decreases-writing : goal.decreases-writing
decreases-writing g l = length l.text - l.at
