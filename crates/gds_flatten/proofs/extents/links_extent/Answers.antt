use Rattle.std.proofs.Common.{ℕ, map, take, refl, subst, sym, arith}
use Rattle.gds_cells.specs.declared.link.Link.{Link}
use Rattle.std.specs.List.{flat_map}
use Rattle.gds_cells.specs.declared.placement.Placement.{Placement}
use Rattle.gds_cells.specs.Copies.{carry_copy}
use Rattle.gds_cells.specs.steps.Walks.{singles_of}
use Rattle.gds_flatten.specs.steps.Framing.{IsRight, Fits, square, links_draw, extent_at}
use Rattle.gds_flatten.proofs.Drawing.{whole_flat}
use Rattle.gds_flatten.proofs.Holding.{held_both, link_held, links_more}
use Rattle.std.proofs.lemmas.Result.{err_from_is_err_and}
use Rattle.gds_flatten.proofs.Sized.{or_right}
use Rattle.gds_flatten.proofs.Tight.{none_fit, link_next}
use Rattle.gds_flatten.proofs.extents.links_extent.Goals as goal

pub links-init : goal.links-init
links-init c = record { fine = λ no. no; held = λ below right. record { held = λ x y seen. absurd cc; tight = λ w. ((λ h. none_fit w), (λ h. tt)) } }

pub links-preserved : goal.links-preserved
links-preserved c =
    let told = c.in_ok-extent.ensures in
    let l = c.link-item.result in
    let new = c.in_ok-extent.extent in
    record {
      fine = told.fine;
      held = λ below right.
          let here = subst (λ (m : Link). IsRight (below m.cell) (extent_at c.args.extents.now m.cell)) (sym c.link-item.is) (right c.links.link-index l c.links-test.true) in
          let below_it = subst (IsRight (below l.cell)) (sym c.extent_at.ensures) here in
          let so_far = c.links.invariant.held below right in
          subst (λ cs. IsRight cs new) (sym (links_more below c.args.links.now c.links.link-index l c.links-test.true c.link-item.is))
          (record {
            held = held_both (links_draw below (take c.links.link-index c.args.links.now)) (flat_map (λ (s : ℕ × Placement). map (carry_copy s.1) (below s.0)) (singles_of l)) c.links.extent new new so_far.held
                (link_held below l new (λ k lt. told.held k lt (below l.cell) below_it.held)) told.kept (λ x y h. h);
            tight = link_next (links_draw below (take c.links.link-index c.args.links.now)) below l c.links.extent new so_far.tight (told.tight (below l.cell) below_it.tight);
          });
    }

pub returns-clause-held : goal.returns-clause-held
returns-clause-held c = λ below right.
    subst (λ ls. IsRight (links_draw below ls) c.links.extent) (whole_flat c.args.links.now c.args.links.now c.links.link-index refl (omega (arith, c.links-test.false))) (c.links.invariant.held below right)

pub returns-in_err-extent-clause-refused : goal.returns-in_err-extent-clause-refused
returns-in_err-extent-clause-refused c =
    let p = err_from_is_err_and c.from_residual.result c.from_residual.ensures.1 in
    let l = c.link-item.result in
    rw (p.1, p.2) (or_right c.in_err-extent.ensures.refused (λ no m few all. no m few (subst (Fits (square m)) (sym c.extent_at.ensures)
    (subst (λ (k : Link). Fits (square m) (extent_at c.args.extents.now k.cell)) (sym c.link-item.is) (all c.links.link-index l c.links-test.true)))))
