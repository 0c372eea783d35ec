-- The references of the cells so far are counted.
use Rattle.std.proofs.Common.{◌≡◌, length, map, min, take}
use Rattle.std.specs.List.{flat_map}
use Rattle.gds_grammar.specs.Values.{Cell, cell_of}
use Rattle.gds_join.specs.Reading.{corners_of}
use Rattle.gds_join.proofs.number.has_few_references.Given as goal

abbrev pub invariant-loop-index : goal.invariant-loop-index
invariant-loop-index l = l.count ≡ min (length (flat_map corners_of (flat_map (λ (c : Cell). c.shapes) (take l.index (map cell_of l.library.cells.entries))))) 4294967295
