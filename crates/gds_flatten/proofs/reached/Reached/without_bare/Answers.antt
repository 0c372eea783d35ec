use Rattle.std.proofs.Common.{length, subst, sym, ap, ◌∙◌}
use Rattle.gds_cells.specs.steps.Walks.{top_copies}
use Rattle.gds_flatten.specs.steps.Idle.{IsFilled, AreFull}
use Rattle.gds_flatten.specs.steps.Reached.{IsArranged}
use Rattle.gds_flatten.proofs.Arranged.{same_links}
use Rattle.gds_flatten.proofs.Busy.{changed_back}
use Rattle.gds_flatten.proofs.Sparse.{filled_links, filled_copies, filled_full}
use Rattle.gds_flatten.proofs.reached.Reached.without_bare.Goals as goal

pub returns-clause-arranged : goal.returns-clause-arranged
returns-clause-arranged c =
    let d = c.args.self in
    let new = c.drop_bare.new.cells in
    let back = changed_back IsFilled d.cells.len new d.cells.items c.deref_mut.result.now c.drop_bare.auto.cells c.deref_mut.ensures.len c.deref_mut.ensures.value c.drop_bare.ensures in
    subst (λ xs. IsArranged xs d.order.items d.top) (sym back.0)
    (same_links d.cells.items new d.order.items d.top (c.drop_bare.auto.cells ∙ ap length c.deref_mut.ensures.value) (filled_links d.cells.items new back.1) c.requires)

pub returns-clause-full : goal.returns-clause-full
returns-clause-full c =
    let d = c.args.self in
    let new = c.drop_bare.new.cells in
    let back = changed_back IsFilled d.cells.len new d.cells.items c.deref_mut.result.now c.drop_bare.auto.cells c.deref_mut.ensures.len c.deref_mut.ensures.value c.drop_bare.ensures in
    subst AreFull (sym back.0) (filled_full d.cells.items new back.1)

pub returns-clause-same : goal.returns-clause-same
returns-clause-same c =
    let d = c.args.self in
    let new = c.drop_bare.new.cells in
    let back = changed_back IsFilled d.cells.len new d.cells.items c.deref_mut.result.now c.drop_bare.auto.cells c.deref_mut.ensures.len c.deref_mut.ensures.value c.drop_bare.ensures in
    ap (λ xs. top_copies xs d.top) back.0 ∙ filled_copies d.cells.items new back.1 256 d.top
