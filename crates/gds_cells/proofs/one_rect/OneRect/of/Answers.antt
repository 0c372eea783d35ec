use Rattle.std.proofs.Common.{◌∙◌, sym}
use Rattle.fill_base.proofs.Signed.{le_trans, lt_le}
use Rattle.gds_cells.proofs.Extending.{edge_read, le_lt, least_is, same_extent, same_rect}
use Rattle.gds_cells.proofs.one_rect.OneRect.of.Goals as goal

pub invariant_of-one-clause-wide : goal.invariant_of-one-clause-wide
invariant_of-one-clause-wide c =
    let r = c.args.rect.now in
    let wide = le_lt _ _ _ r.left r.wide in
    rw (edge_read _ r.x2 c.x2.ensures (lt_le _ _ wide) r.right) wide

pub invariant_of-one-clause-tall : goal.invariant_of-one-clause-tall
invariant_of-one-clause-tall c =
    let r = c.args.rect.now in
    let tall = le_lt _ _ _ r.bottom r.tall in
    rw (edge_read _ r.y2 c.y2.ensures (lt_le _ _ tall) r.top) tall

pub invariant_of-one-clause-narrow : goal.invariant_of-one-clause-narrow
invariant_of-one-clause-narrow c =
    let r = c.args.rect.now in
    rw (edge_read _ r.x2 c.x2.ensures (lt_le _ _ (le_lt _ _ _ r.left r.wide)) r.right) r.right

pub invariant_of-one-clause-low : goal.invariant_of-one-clause-low
invariant_of-one-clause-low c =
    let r = c.args.rect.now in
    rw (edge_read _ r.y2 c.y2.ensures (lt_le _ _ (le_lt _ _ _ r.bottom r.tall)) r.top) r.top

pub returns-then-eq-clause-rect : goal.returns-then-eq-clause-rect
returns-then-eq-clause-rect c =
    let r = c.args.rect.now in
    let wide = le_lt _ _ _ r.left r.wide in
    let tall = le_lt _ _ _ r.bottom r.tall in
    same_rect _ r
    (least_is c.x1.result r.x1 c.x1.ensures r.left (le_trans _ _ _ (lt_le _ _ r.wide) r.right) c.if-x1-ne-LOWEST.false)
    (least_is c.y1.result r.y1 c.y1.ensures r.bottom (le_trans _ _ _ (lt_le _ _ r.tall) r.top) c.if-y1-ne-LOWEST.false)
    (edge_read c.x2.result r.x2 c.x2.ensures (lt_le _ _ wide) r.right)
    (edge_read c.y2.result r.y2 c.y2.ensures (lt_le _ _ tall) r.top)

pub returns-then-eq-clause-extent : goal.returns-then-eq-clause-extent
returns-then-eq-clause-extent c = sym c.extent.ensures ∙ same_extent c.extent.result c.args.extent.now c.eq.result c.eq.ensures c.if-eq.true
