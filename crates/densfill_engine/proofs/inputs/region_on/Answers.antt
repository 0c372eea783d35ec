use Rattle.std.proofs.Common.{◌∙◌, ap, sym, subst}
use Rattle.std.specs.List.{flat_map}
use Rattle.std.specs.Vec.{vec_items}
use Rattle.fill_region.specs.Squares.{covered}
use Rattle.fill_text.specs.ValuesOfRules.{values_of}
use Rattle.fill_job.specs.Plans.{PointSet}
use Rattle.gds_grammar.specs.Values.{contents_of}
use Rattle.densfill_engine.specs.Designs.{IsDrawnNear}
use Rattle.densfill_engine.proofs.inputs.region_on.Goals as goal

pub returns-clause-drawn : goal.returns-clause-drawn
returns-clause-drawn g c =
    subst (λ (p : PointSet). IsDrawnNear c.args.view.now.frame (contents_of c.args.library.now).cells (values_of c.args.view.now.rules).top c.args.layers.now p)
    (ap (λ lists. covered (flat_map vec_items lists)) (sym c.deref.ensures.value) ∙ c.in_ok-region.ensures) c.in_ok-lists.ensures.drawn
