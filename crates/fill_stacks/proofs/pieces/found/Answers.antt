use Rattle.std.proofs.Common.{sym, ◌∙◌, arith, rules}
use Rattle.std.specs.Prelude.{int_lt}
use Rattle.std.proofs.lemmas.Int.{to_z-of_z}
use Rattle.std.proofs.lemmas.List.Sorted.{IsPartitionPoint-from_clause}
use Rattle.fill_stacks.proofs.Finding.{not_there, parted, there}
use Rattle.fill_stacks.proofs.pieces.found.Goals.{else-k-neighbours-via-then-k-neighbours+else-is_same, else-k-neighbours-via-else-k-neighbours}
use Rattle.fill_stacks.proofs.pieces.found.Goals as goal

pub returns-then-is_same : goal.returns-then-is_same
returns-then-is_same c = sym (there c.args.neighbours.now c.args.piece c.partition_point-k.result _
    (IsPartitionPoint-from_clause (λ q. int_lt q.piece.start c.args.piece.start) _ _ c.partition_point-k.ensures.partitioned
    (parted c.args.neighbours.now c.args.piece c.requires) (λ a r q k. search (rules, to_z-of_z)))
    c.if-k-neighbours.true (sym c.is_same.ensures ∙ c.if-is_same.true))

pub returns-else-k-neighbours : goal.returns-else-k-neighbours
returns-else-k-neighbours c =
    let point = IsPartitionPoint-from_clause (λ q. int_lt q.piece.start c.args.piece.start) _ _ c.partition_point-k.ensures.partitioned
    (parted c.args.neighbours.now c.args.piece c.requires) (λ a r q k. search (rules, to_z-of_z)) in
    sym (not_there c.args.neighbours.now c.args.piece c.partition_point-k.result _ c.requires point (λ lt. elim c.else-k-neighbours.branch [
      | else-k-neighbours-via-then-k-neighbours+else-is_same w ↦ sym w.is_same.ensures ∙ w.if-is_same.false
      | else-k-neighbours-via-else-k-neighbours w ↦ absurd (omega (arith, lt, w.if-k-neighbours.false))
    ]))
