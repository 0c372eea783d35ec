use Rattle.std.proofs.Common.{[], ◌∷◌, map, take, refl, subst, sym, arith}
use Rattle.gds_grammar.specs.Values.{shape_of}
use Rattle.gds_cells.specs.Copies.{own_copy}
use Rattle.gds_cells.specs.steps.Built.{own_of}
use Rattle.gds_cells.specs.steps.Filled.{rects_in, extent_in}
use Rattle.gds_flatten.specs.steps.Framing.{IsFineIf, IsHeld, Fits, FitAll}
use Rattle.std.specs.Prelude.{◌↔◌}
use Rattle.gds_flatten.proofs.Drawing.{whole_flat}
use Rattle.gds_flatten.proofs.Holding.{held_none, held_both, shape_held, shape_fine, shapes_more}
use Rattle.gds_flatten.proofs.Tight.{none_fit, shape_tight, three}
use Rattle.gds_flatten.proofs.extents.with_shapes.Goals as goal

pub shapes-init : goal.shapes-init
shapes-init c = record { fine = c.requires; kept = λ x y h. h; held = held_none _; tight = λ w. ((λ h. (h, none_fit w)), (λ h. h.0)) }

pub joined_if-extent-requires-clause-first : goal.joined_if-extent-requires-clause-first
joined_if-extent-requires-clause-first c = c.shapes.invariant.fine

pub joined_if-extent-requires-clause-second : goal.joined_if-extent-requires-clause-second
joined_if-extent-requires-clause-second c =
    let s = c.shape-item.result in
    subst IsFineIf (sym c.extent.ensures) (shape_fine (shape_of s.element.now) (rects_in s.filled) (extent_in s.filled) s.prepared)

pub shapes-preserved : goal.shapes-preserved
shapes-preserved c =
    let s = c.shape-item.result in
    let e = shape_of s.element.now in
    let inv = c.shapes.invariant in
    let told = c.joined_if-extent.ensures in
    let one = subst (IsHeld (own_copy e ∷ [])) (sym c.extent.ensures) (shape_held e (rects_in s.filled) (extent_in s.filled) s.prepared) in
    record {
      fine = told.fine;
      kept = λ x y h. told.first x y (inv.kept x y h);
      held = subst (λ cs. IsHeld cs c.joined_if-extent.result) (sym (shapes_more c.args.shapes.now c.shapes.shape-index s c.shapes-test.true c.shape-item.is))
          (held_both (map own_copy (own_of (take c.shapes.shape-index c.args.shapes.now))) (own_copy e ∷ []) c.shapes.extent c.extent.result c.joined_if-extent.result inv.held one told.first told.second);
      tight = λ w. subst (λ cs. Fits w c.joined_if-extent.result ↔ (Fits w c.args.before × FitAll w cs)) (sym (shapes_more c.args.shapes.now c.shapes.shape-index s c.shapes-test.true c.shape-item.is))
          (three w c.args.before c.shapes.extent c.extent.result c.joined_if-extent.result (map own_copy (own_of (take c.shapes.shape-index c.args.shapes.now))) (own_copy e ∷ []) (told.tight w) (inv.tight w)
          (subst (λ o. Fits w o ↔ FitAll w (own_copy e ∷ [])) (sym c.extent.ensures) (shape_tight e (rects_in s.filled) (extent_in s.filled) s.prepared w)));
    }

pub returns-clause-fine : goal.returns-clause-fine
returns-clause-fine c = c.shapes.invariant.fine

pub returns-clause-kept : goal.returns-clause-kept
returns-clause-kept c = c.shapes.invariant.kept

pub returns-clause-held : goal.returns-clause-held
returns-clause-held c =
    subst (λ ss. IsHeld (map own_copy (own_of ss)) c.shapes.extent) (whole_flat c.args.shapes.now c.args.shapes.now c.shapes.shape-index refl (omega (arith, c.shapes-test.false))) c.shapes.invariant.held

pub returns-clause-tight : goal.returns-clause-tight
returns-clause-tight c = λ w.
    subst (λ ss. Fits w c.shapes.extent ↔ (Fits w c.args.before × FitAll w (map own_copy (own_of ss)))) (whole_flat c.args.shapes.now c.args.shapes.now c.shapes.shape-index refl (omega (arith, c.shapes-test.false))) (c.shapes.invariant.tight w)
