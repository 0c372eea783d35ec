use Rattle.std.proofs.Common.{rules, [], pos}
use Rattle.std.proofs.lemmas.Int.{to_z-of_z}
use Rattle.std.proofs.lemmas.List.Sorted.{IsPartitionPoint-from_clause}
use Rattle.std.specs.Prelude.{int_le}
use Rattle.fill_bands.proofs.Looking.{parted, is_first_above}
use Rattle.fill_bands.proofs.bands.first_above.Goals as goal

pub returns : goal.returns
returns c = is_first_above c.args.bands.now c.args.y c.partition_point.result (pos 0, []) c.partition_point.ensures.bound
    (IsPartitionPoint-from_clause (λ b. int_le b.0 c.args.y) _ _ c.partition_point.ensures.partitioned (parted c.args.bands.now c.args.y c.requires) (λ a r q k. search (rules, to_z-of_z)))
