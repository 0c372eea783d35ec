use Rattle.std.proofs.Common.{rules, arith}
use Rattle.std.specs.Prelude.{int_lt}
use Rattle.std.proofs.lemmas.Int.{to_z-of_z}
use Rattle.std.proofs.lemmas.List.Sorted.{IsPartitionPoint-from_clause}
use Rattle.fill_base.proofs.Areas.{read_x1}
use Rattle.fill_region.proofs.Searching.{left_first, place_found}
use Rattle.fill_region.proofs.stacks.place_of.Goals as goal

pub returns : goal.returns
returns c = place_found c.args.row.now c.args.column c.partition_point.result (omega (arith, c.partition_point.ensures.bound))
    (IsPartitionPoint-from_clause (λ r. int_lt r.x1 c.args.column) _ _ c.partition_point.ensures.partitioned (left_first c.args.row.now c.args.column c.requires) (λ a r q k. search (rules, to_z-of_z, read_x1)))
