use Rattle.std.proofs.Common.{rules}
use Rattle.std.specs.Prelude.{int_le}
use Rattle.std.proofs.lemmas.Int.{to_z-of_z}
use Rattle.std.proofs.lemmas.List.Sorted.{IsPartitionPoint-from_clause}
use Rattle.fill_measure.proofs.Placing.{parted, some_reached, stands}
use Rattle.fill_measure.proofs.sides.side_at.Goals as goal

pub overflow_sub-cut : goal.overflow_sub-cut
overflow_sub-cut c = some_reached c.args.cuts.now c.args.coordinate c.partition_point-cut.result c.requires.cuts c.requires.among
    (IsPartitionPoint-from_clause (λ x. int_le x c.args.coordinate) _ _ c.partition_point-cut.ensures.partitioned (parted c.args.cuts.now c.args.coordinate c.requires.cuts) (λ a r q k. search (rules, to_z-of_z)))

pub returns : goal.returns
returns c = stands c.args.cuts.now c.args.coordinate c.partition_point-cut.result c.abs_diff.result _ c.requires.cuts c.requires.among
    (IsPartitionPoint-from_clause (λ x. int_le x c.args.coordinate) _ _ c.partition_point-cut.ensures.partitioned (parted c.args.cuts.now c.args.coordinate c.requires.cuts) (λ a r q k. search (rules, to_z-of_z))) c.partition_point-cut.ensures.bound c.abs_diff.ensures
