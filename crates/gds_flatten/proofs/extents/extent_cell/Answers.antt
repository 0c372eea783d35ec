use Rattle.std.proofs.Common.{map, subst, sym}
use Rattle.std.specs.List.{flat_map}
use Rattle.std.specs.Vec.{vec_items}
use Rattle.gds_cells.specs.Copies.{own_copy}
use Rattle.gds_cells.specs.steps.Built.{own_of}
use Rattle.gds_flatten.specs.steps.Framing.{IsRight, AllFit, square, links_draw, AreRightlyHeld}
use Rattle.gds_flatten.proofs.Holding.{held_both}
use Rattle.std.proofs.lemmas.Result.{err_from_is_err_and}
use Rattle.gds_flatten.proofs.Sized.{or_right}
use Rattle.gds_flatten.proofs.Tight.{tight_both}
use Rattle.gds_flatten.proofs.extents.extent_cell.Goals as goal

pub returns-clause-held : goal.returns-clause-held
returns-clause-held c = λ below right.
    let cell = c.args.cell.now in
    let own = subst (λ rs. IsRight (map own_copy (own_of (flat_map vec_items rs))) c.own_extent-own.result) c.deref.ensures.value c.own_extent-own.ensures.right in
    let links = subst (λ ls. IsRight (links_draw below ls) c.in_ok-links.links) c.deref-2.ensures.value
    (c.in_ok-links.ensures.held below (subst (AreRightlyHeld below c.args.extents.now) (sym c.deref-2.ensures.value) right)) in
    let shapes = map own_copy (own_of (flat_map vec_items cell.shapes.items)) in
    let told = c.joined_if.ensures in
    record {
      held = held_both shapes (links_draw below cell.links.items) c.own_extent-own.result c.in_ok-links.links c.joined_if.result own.held links.held told.first told.second;
      tight = tight_both shapes (links_draw below cell.links.items) c.own_extent-own.result c.in_ok-links.links c.joined_if.result own.tight links.tight told.tight;
    }

pub returns-in_err-links-clause-refused : goal.returns-in_err-links-clause-refused
returns-in_err-links-clause-refused c =
    let p = err_from_is_err_and c.from_residual.result c.from_residual.ensures.1 in
    rw (p.1, p.2) (or_right c.in_err-links.ensures.refused (λ no m few all. no m few (subst (AllFit (square m) c.args.extents.now) (sym c.deref-2.ensures.value) all)))
