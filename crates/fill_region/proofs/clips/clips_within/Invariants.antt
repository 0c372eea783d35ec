use Rattle.std.proofs.Common.{take}
use Rattle.fill_region.specs.Clips.{ArePartsWithin}
use Rattle.fill_region.proofs.clips.clips_within.Given as goal

abbrev pub invariant-rects : goal.invariant-rects
invariant-rects l = ArePartsWithin (take l.rect-index l.rects) l.frame l.inner.items l.beside.items
