use Rattle.std.proofs.Common.{rules}
use Rattle.std.specs.Prelude.{int_le}
use Rattle.std.proofs.lemmas.Int.{to_z-of_z}
use Rattle.std.proofs.lemmas.List.Sorted.{IsPartitionPoint-from_clause}
use Rattle.fill_bands.proofs.Ordered.{begun_first, begun_parted}
use Rattle.fill_bands.proofs.lines.begun_at.Goals as goal

pub returns-clause-parted : goal.returns-clause-parted
returns-clause-parted c = begun_parted c.args.rects.now c.args.line c.partition_point.result
    (IsPartitionPoint-from_clause (λ r. int_le r.y1 c.args.line) _ _ c.partition_point.ensures.partitioned (begun_first c.args.rects.now c.args.line c.requires) (λ a r q k. search (rules, to_z-of_z)))
