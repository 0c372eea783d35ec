use Rattle.std.proofs.Common.{subst}
use Rattle.std.proofs.lemmas.Result.{IfOk-weaker, IfErr-weaker}
use Rattle.gds_flatten.proofs.Arranged.{AreExtentsOf, IsTooFar, top_held, never_far}
use Rattle.gds_flatten.proofs.reached.Reached.extents.Goals as goal

pub returns-clause-held : goal.returns-clause-held
returns-clause-held c =
    let d = c.args.self.now in
    IfOk-weaker c.extents_of.result _ _ (λ v right. top_held d.cells.items d.order.items d.top c.requires v.items
    (subst (AreExtentsOf v.items d.cells.items) c.deref-2.ensures.value (subst (λ xs. AreExtentsOf v.items xs c.deref-2.result.now) c.deref.ensures.value right))) c.extents_of.ensures.right

pub returns-clause-refused : goal.returns-clause-refused
returns-clause-refused c =
    let d = c.args.self.now in
    IfErr-weaker c.extents_of.result _ _ (λ e why. never_far d.cells.items d.order.items d.top c.requires e
    (subst (IsTooFar e d.cells.items) c.deref-2.ensures.value (subst (λ xs. IsTooFar e xs c.deref-2.result.now) c.deref.ensures.value why))) c.extents_of.ensures.refused
