-- Nothing has failed, and what was written is the texts before this one.
use Rattle.std.proofs.Common.{◌≡◌, false, take}
use Rattle.std.specs.List.{flat_map}
use Rattle.std.specs.Vec.{vec_items}
use Rattle.std.specs.Io.KnownBytes.{Appends}
use Rattle.densfill_io.specs.Taps.{has_failed, under}
use Rattle.densfill_io.proofs.output.write_texts.Given as goal

abbrev pub invariant-loop-text : goal.invariant-loop-text
invariant-loop-text g l = record {
  whole : has_failed l.tap ≡ false;
  written : Appends (g.W.Write.contents (under l.fn.tap)) (g.W.Write.contents (under l.tap)) (flat_map vec_items (take l.text-index l.texts));
}
