use Rattle.std.proofs.Common.{rules}
use Rattle.std.proofs.lemmas.Int.{to_z-of_z}
use Rattle.std.proofs.lemmas.List.Sorted.{IsPartitionPoint-from_clause}
use Rattle.std.specs.Prelude.{int_le}
use Rattle.fill_spans.proofs.Searching.{parted, is_first_above}
use Rattle.fill_spans.proofs.walk.first_above.Goals as goal

pub returns : goal.returns
returns c = is_first_above c.args.edges.now c.args.x c.partition_point.result c.partition_point.ensures.bound
    (IsPartitionPoint-from_clause (λ e. int_le e c.args.x) _ _ c.partition_point.ensures.partitioned (parted c.args.edges.now c.args.x c.requires) (λ a r q k. search (rules, to_z-of_z)))
