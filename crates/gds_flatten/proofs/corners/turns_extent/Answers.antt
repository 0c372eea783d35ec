use Rattle.std.proofs.Common.{◌≡◌, ◌-◌, ◌≤◌, ◌∙◌, ap, arith, subst, sym}
use Rattle.gds_cells.specs.Links.{single}
use Rattle.gds_cells.specs.Placements.{carried_bounds, point_x, point_y}
use Rattle.gds_cells.specs.steps.Prepared.{IsOrdered, IsPart}
use Rattle.gds_flatten.proofs.Cornered.{rows_rise, in_order}
use Rattle.gds_flatten.proofs.Missed.{itself}
use Rattle.gds_flatten.proofs.Tight.{carried_ordered}
use Rattle.gds_flatten.proofs.corners.turns_extent.Goals as goal

pub returns-then-to-from-eq1-clause-ordered : goal.returns-then-to-from-eq1-clause-ordered
returns-then-to-from-eq1-clause-ordered c = subst IsOrdered (sym c.carried_extent.ensures) (carried_ordered c.single.result c.args.extent.now)

pub returns-then-to-from-eq1-clause-around : goal.returns-then-to-from-eq1-clause-around
returns-then-to-from-eq1-clause-around c = λ k ge lt.
    let l = c.args.link.now in
    let one = c.if-to-from-eq1.true in
    let same : c.args.from ≡ k = omega (arith, ge, lt, one) in
    let there = c.carried_extent.ensures ∙ ap (λ p. carried_bounds p c.args.extent.now) (c.single.ensures.is ∙ ap (single l) same) in
    subst (λ b. IsPart b (carried_bounds (single l k) c.args.extent.now)) (sym there) (itself (carried_bounds (single l k) c.args.extent.now))

pub returns-clause-around : goal.returns-clause-around
returns-clause-around c = λ k ge lt.
    let l = c.args.link.now in
    let columns = c.columns_of-left.ensures.all k ge lt in
    let last : k ≤ c.args.to - 1 = omega (arith, lt) in
    c.corners_extent.ensures.around k columns.0 columns.1 (rows_rise l.columns c.args.from k l.grid.some_columns ge) (rows_rise l.columns k (c.args.to - 1) l.grid.some_columns last)

pub returns-clause-ordered : goal.returns-clause-ordered
returns-clause-ordered c =
    let l = c.args.link.now in
    let b = c.args.extent.now in
    let k = c.args.from in
    let p = single l k in
    let lt = c.requires.some in
    let ge : k ≤ k = omega arith in
    let columns = c.columns_of-left.ensures.all k ge lt in
    let last : k ≤ c.args.to - 1 = omega (arith, lt) in
    let part = c.corners_extent.ensures.around k columns.0 columns.1 (rows_rise l.columns k k l.grid.some_columns ge) (rows_rise l.columns k (c.args.to - 1) l.grid.some_columns last) in
    let all = c.corners_extent.result in
    record {
      wide = in_order all.left (point_x p b.left b.bottom) (point_x p b.right b.top) all.right part.left part.right;
      tall = in_order all.bottom (point_y p b.left b.bottom) (point_y p b.right b.top) all.top part.bottom part.top;
    }
