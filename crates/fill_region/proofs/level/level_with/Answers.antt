use Rattle.std.proofs.Common.{◌-ℤ◌, rules}
use Rattle.std.specs.Prelude.{int_le, int_lt}
use Rattle.std.proofs.lemmas.Int.{to_z-of_z}
use Rattle.std.proofs.lemmas.List.Sorted.{IsPartitionPoint-from_clause}
use Rattle.fill_base.proofs.Areas.{read_y1}
use Rattle.fill_base.proofs.Signed.{read, read_is}
use Rattle.fill_region.proofs.RowCuts.{is_stretch, between_cuts, both_cuts, low_read, lower_first, low_first}
use Rattle.fill_region.proofs.level.level_with.Goals as goal

pub returns-clause-cover : goal.returns-clause-cover
returns-clause-cover c =
    let cuts = both_cuts c.min.result c.partition_point-begin.result c.partition_point-end.result c.min.ensures in
    let low = low_read c.args.rects.now c.args.bottom c.max.result c.args.height c.ranges.bottom c.requires.tallest (rw (read_is c.args.bottom c.ranges.bottom) at c.max.ensures.value) in
    between_cuts c.args.rects.now c.split_at.result.0.now c.split_at.result.1.now c.split_at-2.result.0.now c.split_at-2.result.1.now c.args.height c.args.bottom c.args.top (read (read c.max.result -ℤ read c.args.height))
    c.partition_point-begin.result c.partition_point-end.result c.min.result c.requires.tallest low
    (IsPartitionPoint-from_clause (λ r. int_lt r.y1 c.args.top) _ _ c.partition_point-end.ensures.partitioned (lower_first c.args.rects.now c.args.top c.requires.rising) (λ a r q k. search (rules, to_z-of_z, read_y1)))
    (IsPartitionPoint-from_clause (λ r. int_le r.y1 (read (read c.max.result -ℤ read c.args.height))) _ _ c.partition_point-begin.ensures.partitioned (low_first c.args.rects.now _ c.requires.rising) (λ a r q k. search (rules, to_z-of_z, read_y1)))
    c.partition_point-end.ensures.bound cuts.0 cuts.1 c.split_at.ensures.front c.split_at.ensures.back c.split_at-2.ensures.front c.split_at-2.ensures.back

pub returns-clause-stretch : goal.returns-clause-stretch
returns-clause-stretch c =
    is_stretch c.args.rects.now c.split_at.result.0.now c.split_at-2.result.1.now c.partition_point-end.result c.min.result c.split_at.ensures.front c.split_at-2.ensures.back
