use Rattle.std.proofs.Common.{rules}
use Rattle.std.specs.Prelude.{int_le}
use Rattle.std.proofs.lemmas.Int.{to_z-of_z}
use Rattle.std.proofs.lemmas.List.Sorted.{IsPartitionPoint-from_clause}
use Rattle.gds_shape.proofs.Ordered.{begun_first, begun_parted}
use Rattle.gds_shape.proofs.lines.begun_at.Goals as goal

pub returns-clause-parted : goal.returns-clause-parted
returns-clause-parted c = begun_parted c.args.edges.now c.args.line c.partition_point.result
    (IsPartitionPoint-from_clause (λ e. int_le e.bottom c.args.line) _ _ c.partition_point.ensures.partitioned (begun_first c.args.edges.now c.args.line c.requires) (λ a r q k. search (rules, to_z-of_z)))
