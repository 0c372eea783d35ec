use Rattle.std.proofs.Common.{◌≡◌, arith, length, rules}
use Rattle.std.specs.Prelude.{int_lt}
use Rattle.std.proofs.lemmas.Fn.{filter_same, dedup_same}
use Rattle.std.proofs.lemmas.Grind.{common_steps}
use Rattle.std.proofs.lemmas.Int.{to_z-of_z}
use Rattle.std.proofs.lemmas.List.Sorted.{IsPermutation-trans}
use Rattle.fill_base.proofs.Areas.{read_x1, read_x2, read_y2}
use Rattle.fill_bands.proofs.NextLines.{crossed, none_begun}
use Rattle.fill_bands.proofs.Ordered.{rising_from_sort, rotated}
use Rattle.fill_bands.proofs.Within.{ends_within}
use Rattle.fill_bands.proofs.lines.cross.Goals as goal

pub returns : goal.returns
returns c = crossed c.args.line c.args.crossing.now.items c.retain.new.self.items c.extend_from_slice.new.self.items c.args.begun.now c.sort_by_key.new.self.items c.dedup_by.new.self.items
    (filter_same _ (λ r. int_lt c.args.line r.y2) _ (λ x b q k. search (rules, to_z-of_z, read_y2)) _ _ c.retain.ensures.filtered)
    c.in_ok-extend_from_slice.ensures.items (IsPermutation-trans _ _ _ (rotated c.extend_from_slice.new.self.items c.rotate_right.new.self.items _ c.rotate_right.ensures.items) c.in_ok-sort_by_key.ensures.permutation)
    (rising_from_sort (λ r. r.x1) _ c.in_ok-sort_by_key.ensures.sorted (λ a r q k. search (rules, read_x1)))
    (dedup_same _ ends_within _ (λ p q b f' p' q' k. search (rules, read_x2, read_y2)) _ _ c.dedup_by.ensures.filtered)

pub returns-then-is_empty : goal.returns-then-is_empty
returns-then-is_empty c =
    let none : length c.args.begun.now ≡ 0 = grind (arith, common_steps) in
    none_begun c.args.line c.args.crossing.now.items c.args.begun.now c.retain.new.self.items none
    (filter_same _ (λ r. int_lt c.args.line r.y2) _ (λ x b q k. search (rules, to_z-of_z, read_y2)) _ _ c.retain.ensures.filtered)
