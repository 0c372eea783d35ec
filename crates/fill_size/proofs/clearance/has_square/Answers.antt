use Rattle.std.proofs.Common.{rules}
use Rattle.std.proofs.lemmas.Int.{to_z-of_z}
use Rattle.std.proofs.lemmas.Iterator.{cases_from_any, YieldsList-from_slice}
use Rattle.fill_base.specs.Squares.{squares}
use Rattle.fill_base.proofs.Signed.{read_is}
use Rattle.fill_region.specs.Runs.{holds}
use Rattle.fill_size.specs.Distance.{HasSquare}
use Rattle.fill_size.proofs.Overlaps.{list_met}
use Rattle.fill_size.proofs.clearance.has_square.Goals as goal

pub returns-clause-found : goal.returns-clause-found
returns-clause-found c =
    let by_call = cases_from_any _ _ _ (λ r. HasSquare (squares r) c.args.left c.args.bottom c.args.right c.args.top) (λ r. HasSquare (squares r) c.args.left c.args.bottom c.args.right c.args.top → ⊥)
    c.any.ensures.ran (YieldsList-from_slice c.runs_level.result.now cc) (λ x q k. search (rules, to_z-of_z)) (λ x q k. search (rules, to_z-of_z)) in
    list_met (holds c.args.region.now) c.runs_level.result.now c.args.left c.args.bottom c.args.right c.args.top c.any.result (rw (read_is c.args.bottom c.ranges.bottom, read_is c.args.top c.ranges.top) at c.runs_level.ensures.cover) by_call
