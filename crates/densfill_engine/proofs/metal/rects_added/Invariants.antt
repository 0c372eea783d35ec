use Rattle.std.proofs.Common.{take, map}
use Rattle.fill_text.specs.Script.{change_of}
use Rattle.densfill_engine.specs.Metal.{AreAdded}
use Rattle.densfill_engine.proofs.metal.rects_added.Given as goal

abbrev pub invariant-loop-edit : goal.invariant-loop-edit
invariant-loop-edit l = AreAdded (map change_of (take l.edit-index l.edits)) l.rects.items
