use Rattle.std.proofs.Common.{◌∙◌, sym, length}
use Rattle.fill_base.specs.Limits.{IsSpacing}
use Rattle.fill_base.proofs.Signed.{read_is}
use Rattle.fill_size.proofs.Ranges.{spacing_read}
use Rattle.fill_job.specs.Basis.{layers_by, plan_by}
use Rattle.fill_job.proofs.Reaching.{taken_places}
use Rattle.fill_job.proofs.basis.Basis.mark_taken.Goals as goal

pub mark_near-requires-clause-places : goal.mark_near-requires-clause-places
mark_near-requires-clause-places c = rw (read_is c.args.left c.ranges.left, read_is c.args.right c.ranges.right, read_is c.args.j c.ranges.j) c.requires.places

pub mark_near-requires-2-clause-places : goal.mark_near-requires-2-clause-places
mark_near-requires-2-clause-places c = rw (read_is c.args.left c.ranges.left, read_is c.args.right c.ranges.right, read_is c.args.j c.ranges.j) c.requires.places

pub mark_near-requires-3-clause-places : goal.mark_near-requires-3-clause-places
mark_near-requires-3-clause-places c = rw (read_is c.args.left c.ranges.left, read_is c.args.right c.ranges.right, read_is c.args.j c.ranges.j) c.requires.places

pub returns-clause-taken : goal.returns-clause-taken
returns-clause-taken c =
    let p = plan_by c.args.self.now in
    let spacing : IsSpacing c.spacing-spacing.result = record { least = c.spacing-spacing.ensures.range.0; most = c.spacing-spacing.ensures.range.1 } in
    let fill_spacing : IsSpacing c.fill_spacing-spacing.result = record { least = c.fill_spacing-spacing.ensures.range.0; most = c.fill_spacing-spacing.ensures.range.1 } in
    let is : IsSpacing p.spacing = rw c.spacing-spacing.ensures.value at spacing in
    let fill_is : IsSpacing p.fill_spacing = rw c.fill_spacing-spacing.ensures.value at fill_spacing in
    let left = read_is c.args.left c.ranges.left in let right = read_is c.args.right c.ranges.right in let row = read_is c.args.j c.ranges.j in
    let metal = rw (left, row, c.spacing-spacing.ensures.value, spacing_read p.spacing is, c.fill.ensures.after (λ y same. same), c.region-metal.ensures) at c.mark_near.ensures.near in
    let fill = rw (left, row, c.fill_spacing-spacing.ensures.value, spacing_read p.fill_spacing fill_is, c.region-fill.ensures) at c.mark_near-2.ensures.near in
    let keep = rw (left, row, c.region-keep.ensures) at c.mark_near-3.ensures.near in
    taken_places p (layers_by c.args.self.now) c.args.left c.args.j (length c.args.taken.now) c.mark_near.new.near c.mark_near-2.new.near c.mark_near-3.new.near
    (rw (left, right) at c.mark_near.ensures.count ∙ sym c.requires.count) (rw (left, right) at c.mark_near-2.ensures.count ∙ sym c.requires.count) (rw (left, right) at c.mark_near-3.ensures.count ∙ sym c.requires.count) metal fill keep
