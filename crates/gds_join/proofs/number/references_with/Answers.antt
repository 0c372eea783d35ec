use Rattle.std.proofs.Common.{ap, ◌∙◌, ◌+◌, length, map, min}
use Rattle.std.specs.List.{flat_map}
use Rattle.std.proofs.lemmas.List.{take_all}
use Rattle.gds_grammar.specs.Values.{shape_of}
use Rattle.gds_join.specs.Reading.{corners_of}
use Rattle.gds_join.proofs.number.references_with.Goals as goal

pub returns : goal.returns
returns c =
    c.loop-element.invariant
    ∙ ap (λ es. min (c.args.before + length (flat_map corners_of (map shape_of es))) 4294967295) (take_all c.loop-element.element-index c.args.elements.now c.loop-element-test.false)
