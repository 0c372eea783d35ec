use Rattle.std.proofs.Common.{arith, ◌+◌, ◌*◌, ◌∙◌, subst, ap, take, length}
use Rattle.gds_cells.specs.Graphs.{item}
use Rattle.gds_cells.specs.steps.Counting.{IsCapped}
use Rattle.gds_cells.specs.steps.Walks.{shapes_in}
use Rattle.gds_cells.proofs.Capping.{link_counted, some_turns, themselves, all_counted}
use Rattle.gds_cells.proofs.counts.count_cell.Goals as goal

pub overflow_add-total : goal.overflow_add-total
overflow_add-total c =
    let own = c.links.invariant (item c.args.counts.now) (themselves c.args.counts.now (take c.links.link-index c.as_slice-links.result.now) c.requires) in
    let most = own.most in
    let few = c.count_link-more.ensures.few in omega (arith, most, few)

pub links-preserved : goal.links-preserved
links-preserved c = λ f all.
    link_counted f c.args.counts.now c.as_slice-links.result.now c.links.link-index c.link-item.result (length (shapes_in c.args.cell.now)) c.links.total
    c.capped-total.result c.links-test.true c.link-item.is (some_turns c.link-item.result) (c.links.invariant f)
    (subst (λ m. IsCapped (c.links.total + m) c.capped-total.result)
    (c.count_link-more.ensures.value ∙ ap (λ n. (c.link-item.result.columns * c.link-item.result.rows) * n) c.number_at.ensures) c.capped-total.ensures)
    all

pub returns : goal.returns
returns c = λ f all.
    all_counted f c.args.counts.now c.as_slice-links.result.now c.args.cell.now.links.items c.links.link-index (length (shapes_in c.args.cell.now)) c.links.total
    c.as_slice-links.ensures.value (omega (arith, c.links-test.false)) (c.links.invariant f) all
