use Rattle.std.proofs.Common.{ap, ◌∙◌}
use Rattle.std.specs.Int.{div_ceil}
use Rattle.fill_raster.proofs.Marking.{no_marks, none_marked}
use Rattle.fill_raster.proofs.marks.Marks.none.Goals as goal

pub invariant_of-result : goal.invariant_of-result
invariant_of-result c =
    none_marked c.block-block.result c.in_ok-words.words.items c.div_ceil.result c.block-block.ensures.block (c.div_ceil.ensures ∙ ap (λ n. div_ceil n 64) c.len.ensures) (c.in_ok-words.ensures.items_if_clones_equal (λ y same. same))

pub returns-clause-none : goal.returns-clause-none
returns-clause-none c = no_marks c.block-block.result c.in_ok-words.words.items c.div_ceil.result (c.in_ok-words.ensures.items_if_clones_equal (λ y same. same))
