-- Where a walk begins: at cells, each carried as neighbouring single references of a link say.
use Rattle.std.specs.Prelude.{ℕ, List, All}
use Rattle.std.specs.List.{flat_map, range_with_len}
use Rattle.gds_cells.specs.declared.cell.Cell.{Cell}
use Rattle.gds_cells.specs.Copies.{Copy, copies}
use Rattle.gds_cells.specs.steps.Counting.{AreCounted}
use Rattle.gds_cells.specs.steps.Walks.{hierarchy, single_copies}
use Rattle.gds_flatten.specs.declared.turns.Turns.{Turns}

-- what a single reference of the link draws, and what all of them do
abbrev pub turn_copies : List Cell → Turns → ℕ → List Copy
turn_copies cells t k = single_copies t.placement (copies (hierarchy cells) t.depth) t.link k

abbrev pub turns_copies : List Cell → Turns → List Copy
turns_copies cells t = flat_map (turn_copies cells t) (range_with_len t.first t.number)

abbrev pub roots_copies : List Cell → List Turns → List Copy
roots_copies cells roots = flat_map (turns_copies cells) roots

-- the counts of all that they refer to are right
abbrev pub AreRooted : List Cell → List ℕ → List Turns → Type 0
AreRooted cells counts roots = All (λ t. AreCounted cells counts t.depth t.link.cell) roots
