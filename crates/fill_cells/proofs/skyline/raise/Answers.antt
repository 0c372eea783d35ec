use Rattle.std.proofs.Common.{refl, sym, subst, arith}
use Rattle.std.proofs.lemmas.List.{take-append-drop}
use Rattle.fill_base.proofs.Areas.{read_x1, read_x2, read_y1}
use Rattle.fill_cells.specs.steps.Skyline.{IsOpen, IsSettled}
use Rattle.fill_cells.proofs.SkylineAreas.{added_in, all_added, area_read}
use Rattle.fill_area.proofs.SharedAreas.{area_small}
use Rattle.fill_cells.proofs.Towers.{put_at}
use Rattle.fill_cells.proofs.skyline.raise.Goals as goal

pub settle-requires : goal.settle-requires
settle-requires c = record { skyline = c.requires; within = rw c.deref.ensures.value at c.reached-at.ensures.within; parted = rw (c.deref.ensures.value, c.x1.ensures, read_x1 c.args.rect) at c.reached-at.ensures.parted }

pub returns-then-begins_past : goal.returns-then-begins_past
returns-then-begins_past c =
    let is : IsOpen c.args.towers.now.items c.reached-at.result c.args.rect = record { skyline = c.requires; within = rw c.deref.ensures.value at c.reached-at.ensures.within; parted = rw (c.deref.ensures.value, c.x1.ensures, read_x1 c.args.rect) at c.reached-at.ensures.parted } in
    let right = rw (c.deref-2.ensures.value, c.x2.ensures, read_x2 c.args.rect) at (c.if-begins_past.ensures refl) in
    record {
      added = area_read c.area.result _ _ c.area.ensures (area_small _ c.args.rect) (all_added c.args.towers.now.items c.reached-at.result c.args.rect is right);
      settled = subst (λ zs. IsSettled c.args.rect zs c.put_over.new.towers.items) (take-append-drop c.reached-at.result c.args.towers.now.items)
          (put_at c.args.towers.now.items c.put_over.new.towers.items c.reached-at.result c.reached-at.result c.past_ended-to.result c.args.rect (omega arith) c.past_ended-to.ensures.from (rw c.deref-then-begins_past.ensures.value at c.past_ended-to.ensures.within)
          (subst (λ zs. IsOpen zs c.reached-at.result c.args.rect) (sym (take-append-drop c.reached-at.result c.args.towers.now.items)) is) right
          (rw (c.deref-then-begins_past.ensures.value, c.y1.ensures, read_y1 c.args.rect) at c.past_ended-to.ensures.ended) c.in_ok-put_over.ensures);
    }

pub returns-clause-added : goal.returns-clause-added
returns-clause-added c = added_in _ c.args.rect c.area-2.result c.in_ok-hidden.hidden c.area-2.ensures c.in_ok-hidden.ensures.hidden
