use Rattle.std.proofs.Common.{rules}
use Rattle.std.specs.Prelude.{int_le}
use Rattle.std.proofs.lemmas.Int.{to_z-of_z}
use Rattle.std.proofs.lemmas.List.Sorted.{IsPartitionPoint-from_clause}
use Rattle.fill_cells.proofs.SkylineAreas.{left_first, left_parted}
use Rattle.fill_cells.proofs.skyline.reached.Goals as goal

pub returns-then-towers-gt-COUNTED-clause-parted : goal.returns-then-towers-gt-COUNTED-clause-parted
returns-then-towers-gt-COUNTED-clause-parted c = left_parted c.args.towers.now c.args.column c.partition_point.result
    (IsPartitionPoint-from_clause (λ r. int_le r.x2 c.args.column) _ _ c.partition_point.ensures.partitioned
    (left_first c.args.towers.now c.args.column c.requires) (λ a r q k. search (rules, to_z-of_z)))
