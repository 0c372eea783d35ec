-- The references of the elements so far are counted.
use Rattle.std.proofs.Common.{◌≡◌, ◌+◌, length, map, min, take}
use Rattle.std.specs.List.{flat_map}
use Rattle.gds_grammar.specs.Values.{shape_of}
use Rattle.gds_join.specs.Reading.{corners_of}
use Rattle.gds_join.proofs.number.references_with.Given as goal

abbrev pub invariant-loop-element : goal.invariant-loop-element
invariant-loop-element l = l.count ≡ min (l.before + length (flat_map corners_of (map shape_of (take l.element-index l.elements)))) 4294967295
