use Rattle.std.proofs.Common.{rules}
use Rattle.std.specs.Prelude.{int_lt}
use Rattle.std.proofs.lemmas.Fn.{filter_same}
use Rattle.std.proofs.lemmas.Int.{to_z-of_z}
use Rattle.gds_shape.proofs.NextLines.{crossed}
use Rattle.gds_shape.proofs.Ordered.{rising_from_sort}
use Rattle.gds_shape.proofs.lines.cross.Goals as goal

pub returns : goal.returns
returns c = crossed c.args.line c.args.crossing.now.items c.args.begun.now c.extend_from_slice.new.self.items c.retain.new.self.items c.sort_by_key.new.self.items
    c.in_ok-extend_from_slice.ensures.items (filter_same _ (λ e. int_lt c.args.line e.top) _ (λ x b q k. search (rules, to_z-of_z)) _ _ c.retain.ensures.filtered)
    c.in_ok-sort_by_key.ensures.permutation (rising_from_sort (λ e. e.x) _ c.in_ok-sort_by_key.ensures.sorted (λ a r q k. search (rules, to_z-of_z)))
