use Rattle.std.proofs.Common.{◌≡◌, take, arith, rules, ap, sym, ◌∙◌}
use Rattle.std.specs.Prelude.{not}
use Rattle.std.specs.List.{filter}
use Rattle.std.proofs.lemmas.Fn.{filter_same}
use Rattle.std.proofs.lemmas.List.{take_all}
use Rattle.fill_base.proofs.Signed.{read_is}
use Rattle.fill_region.specs.Steps.{is_at}
use Rattle.fill_region.proofs.Parting.{one_at, one_off, are_parted}
use Rattle.fill_region.proofs.edges.parted.Goals as goal
use Rattle.fill_region.proofs.edges.parted.Goals.{then-is_at+in_ok-push, else-is_at}

pub rects-init : goal.rects-init
rects-init c = c.new-there.ensures.items

pub rects-preserved : goal.rects-preserved
rects-preserved c = rw (read_is c.args.at c.ranges.at) (elim c.if-is_at.branch [
  | then-is_at+in_ok-push w ↦ rw (w.there-is) (rw (w.in_ok-push.ensures.items)
      (one_at c.args.edge c.args.at c.deref-rect-items.result.now c.rects.there.items c.rects.rect-index c.rect-item.result c.rects-test.true c.rect-item.is (rw (read_is c.args.at c.ranges.at) at (sym c.is_at.ensures ∙ w.if-is_at.true)) (rw (read_is c.args.at c.ranges.at) at c.rects.invariant)))
  | else-is_at w ↦ rw (w.there-is)
      (one_off c.args.edge c.args.at c.deref-rect-items.result.now c.rects.there.items c.rects.rect-index c.rect-item.result c.rects-test.true c.rect-item.is (rw (read_is c.args.at c.ranges.at) at (sym c.is_at.ensures ∙ w.if-is_at.false)) (rw (read_is c.args.at c.ranges.at) at c.rects.invariant))
])

pub returns : goal.returns
returns c =
    let whole : take c.rects.rect-index c.deref-rect-items.result.now ≡ c.args.rects.items = take_all c.rects.rect-index c.deref-rect-items.result.now (omega (arith, c.rects-test.false)) ∙ c.deref-rect-items.ensures.value in
    are_parted c.args.edge c.args.at c.args.rects.items c.rects.there.items c.retain.new.self.items
    ((rw (read_is c.args.at c.ranges.at) at c.rects.invariant) ∙ ap (filter (is_at c.args.edge c.args.at)) whole)
    (filter_same _ (λ r. not (is_at c.args.edge c.args.at r)) _ (λ x b q k. search (rules, read_is c.args.at c.ranges.at)) _ _ c.retain.ensures.filtered)
