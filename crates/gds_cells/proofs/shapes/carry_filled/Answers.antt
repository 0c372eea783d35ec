use Rattle.std.proofs.Common.{◌≡◌, ◌∙◌, ap, sym, subst, [], ◌∷◌, All}
use Rattle.gds_shape.specs.Paths.{AreInRange}
use Rattle.gds_cells.specs.Placements.{carried_bounds}
use Rattle.gds_cells.specs.steps.Filled.{rects_in}
use Rattle.gds_cells.specs.steps.Prepared.{edges_of}
use Rattle.gds_cells.proofs.shapes.carry_filled.Goals as goal

pub carry_pieces-requires-clause-inside : goal.carry_pieces-requires-clause-inside
carry_pieces-requires-clause-inside c =
    let is : rects_in c.args.filled.now ≡ c.from_ref.result.now = ap rects_in c.in-Whole.is ∙ ap (λ r. r ∷ []) (sym c.rect.ensures) ∙ sym c.from_ref.ensures.value in
    subst (All (λ r. AreInRange (carried_bounds c.args.at.now (edges_of r)))) is c.requires.inside

pub carry_pieces-requires-in-Parts-clause-inside : goal.carry_pieces-requires-in-Parts-clause-inside
carry_pieces-requires-in-Parts-clause-inside c =
    let is : rects_in c.args.filled.now ≡ c.deref-in-Parts.result.now = ap rects_in c.in-Parts.is ∙ ap (λ p. p.rects.items) (sym c.deref.ensures) ∙ sym c.deref-in-Parts.ensures.value in
    subst (All (λ r. AreInRange (carried_bounds c.args.at.now (edges_of r)))) is c.requires.inside
