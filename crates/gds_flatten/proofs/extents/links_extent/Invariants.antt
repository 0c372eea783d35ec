use Rattle.std.proofs.Common.{ℕ, List, take}
use Rattle.gds_cells.specs.Copies.{Copy}
use Rattle.gds_flatten.specs.steps.Framing.{IsFineIf, IsRight, links_draw, AreRightlyHeld}
use Rattle.gds_flatten.proofs.extents.links_extent.Given as goal

abbrev pub invariant-links : goal.invariant-links
invariant-links l = record {
  fine : IsFineIf l.extent;
  held : (below : ℕ → List Copy) → AreRightlyHeld below l.extents l.links → IsRight (links_draw below (take l.link-index l.links)) l.extent;
}
