use Rattle.std.proofs.Common.{◌+◌, ◌*◌, ◌∙◌, [], min, ap, subst}
use Rattle.gds_cells.specs.steps.Walks.{part, IsDrawn}
use Rattle.gds_flatten.specs.steps.Roots.{roots_copies}
use Rattle.gds_flatten.proofs.Sharing.{part_ends}
use Rattle.gds_flatten.proofs.design.Design.part.Goals as goal

pub returns-clause-drawn : goal.returns-clause-drawn
returns-clause-drawn c =
    let d = c.args.self.now in
    let from = c.args.index * c.args.size in
    let to = from + c.args.size in
    let new = c.carry_roots.new.out.items in
    subst (λ cs. IsDrawn cs [] new) (part_ends from to c.min.result (roots_copies d.cells.items d.roots.items) (c.min.ensures ∙ ap (min to) d.all))
    (subst (λ old. IsDrawn (part from c.min.result (roots_copies d.cells.items d.roots.items)) old new) c.in_ok-rects.ensures.items
    (subst (λ xs. IsDrawn (part from c.min.result (roots_copies xs d.roots.items)) c.in_ok-rects.rects.items new) c.deref.ensures.value
    (subst (λ rs. IsDrawn (part from c.min.result (roots_copies c.deref.result.now rs)) c.in_ok-rects.rects.items new) c.deref-3.ensures.value c.in_ok-carry_roots.ensures.drawn)))
