use Rattle.std.specs.List.{flat_map}
use Rattle.std.specs.Vec.{vec_items}
use Rattle.fill_base.proofs.Results.{if_both}
use Rattle.fill_region.specs.Squares.{covered}
use Rattle.fill_measure.specs.steps.Uniform.{along}
use Rattle.fill_measure.proofs.Edging.{held_among, held_uniform}
use Rattle.fill_measure.proofs.edges.mesh_cuts.Goals as goal

pub returns-then-sides-saturating_mul-clause-among : goal.returns-then-sides-saturating_mul-clause-among
returns-then-sides-saturating_mul-clause-among c = if_both c.cuts_of.result _ _ _ (λ v are hold. held_among v.items c.args.parts are hold) c.cuts_of.ensures.cuts c.cuts_of.ensures.ends

pub returns-then-sides-saturating_mul-clause-uniform : goal.returns-then-sides-saturating_mul-clause-uniform
returns-then-sides-saturating_mul-clause-uniform c = if_both c.cuts_of.result _ _ _ (λ v are hold. held_uniform (along c.args.direction (covered (flat_map vec_items c.args.lists.now))) v.items c.args.parts are hold) c.cuts_of.ensures.cuts c.cuts_of.ensures.ends
