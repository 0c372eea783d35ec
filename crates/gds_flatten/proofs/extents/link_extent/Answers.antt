use Rattle.std.proofs.Common.{inr, suc, ℕ, ◌*◌, ◌<◌, ◌≤◌, ◌%◌, ◌/◌, ℤ, ◌≤ℤ◌, sym, arith, ◌∙◌}
use Rattle.std.specs.Int.{int_min, int_max}
use Rattle.std.proofs.lemmas.Int.{ints, clamps}
use Rattle.gds_shape.proofs.Inside.{one_inside}
use Rattle.gds_cells.specs.Links.{single}
use Rattle.gds_cells.specs.Placements.{point_x, point_y, carried_bounds}
use Rattle.gds_flatten.proofs.Cornered.{column_below, row_up}
use Rattle.std.proofs.lemmas.Bool.{false≢true}
use Rattle.gds_flatten.specs.steps.Framing.{square}
use Rattle.gds_flatten.proofs.Sized.{carried_sized, square_close}
use Rattle.gds_flatten.proofs.Tight.{part_of_part}
use Rattle.gds_flatten.proofs.extents.link_extent.Goals as goal

ordered : (a b c d : ℤ) → a ≤ℤ int_min b c → int_max b c ≤ℤ d → a ≤ℤ d
ordered a b c d h k = omega (arith, ints, clamps)

product : (a b : ℕ) → 0 < a → 0 < b → 0 < a * b
product a b h k = grind (arith, h, k)

pub returns-then-are_close-clause-around : goal.returns-then-are_close-clause-around
returns-then-are_close-clause-around c = λ k lt x y h.
    let l = c.args.link.now in
    let b = c.args.extent.now in
    let none : 0 ≤ k % l.columns = omega arith in
    let no_row : 0 ≤ k / l.columns = omega arith in
    let part = c.corners_extent-all.ensures.around k none (column_below l.columns k l.grid.some_columns) no_row (row_up l.columns l.rows k l.grid.some_columns lt) in
    one_inside c.corners_extent-all.result (carried_bounds (single l k) b) x y part.left part.bottom part.right part.top h

pub returns-then-are_close-clause-fine : goal.returns-then-are_close-clause-fine
returns-then-are_close-clause-fine c =
    let l = c.args.link.now in
    let b = c.args.extent.now in
    let p = single l 0 in
    let columns = l.grid.some_columns in
    let many : 0 < l.columns * l.rows = product l.columns l.rows columns l.grid.some_rows in
    let none : 0 ≤ 0 % l.columns = omega arith in
    let no_row : 0 ≤ 0 / l.columns = omega arith in
    let all = c.corners_extent-all.result in
    let part = c.corners_extent-all.ensures.around 0 none (column_below l.columns 0 columns) no_row (row_up l.columns l.rows 0 columns many) in
    let close = c.are_close.ensures.close c.if-are_close.true in
    record {
      ordered = record {
        wide = ordered all.left (point_x p b.left b.bottom) (point_x p b.right b.top) all.right part.left part.right;
        tall = ordered all.bottom (point_y p b.left b.bottom) (point_y p b.right b.top) all.top part.bottom part.top;
      };
      left = close.0.0;
      bottom = close.0.1;
      right = close.1.0;
      top = close.1.1;
    }

pub returns-then-are_close-clause-tight : goal.returns-then-are_close-clause-tight
returns-then-are_close-clause-tight c = λ w. (
  λ h k lt.
      let l = c.args.link.now in
      let none : 0 ≤ k % l.columns = omega arith in
      let no_row : 0 ≤ k / l.columns = omega arith in
      part_of_part w c.corners_extent-all.result (carried_bounds (single l k) c.args.extent.now) h
      (c.corners_extent-all.ensures.around k none (column_below l.columns k l.grid.some_columns) no_row (row_up l.columns l.rows k l.grid.some_columns lt)),
  λ each. c.corners_extent-all.ensures.least w each,
)

pub returns-else-are_close-clause-refused : goal.returns-else-are_close-clause-refused
returns-else-are_close-clause-refused c = inr (λ m few fits.
    let l = c.args.link.now in
    let b = c.args.extent.now in
    let p = single l 0 in
    let columns = l.grid.some_columns in
    let many : 0 < l.columns * l.rows = product l.columns l.rows columns l.grid.some_rows in
    let none : 0 ≤ 0 % l.columns = omega arith in
    let no_row : 0 ≤ 0 / l.columns = omega arith in
    let all = c.corners_extent-all.result in
    let part = c.corners_extent-all.ensures.around 0 none (column_below l.columns 0 columns) no_row (row_up l.columns l.rows 0 columns many) in
    let within = c.corners_extent-all.ensures.least (square (suc m)) (λ k lt. carried_sized m l k b lt c.requires.ordered fits) in
    let close = square_close (suc m) all (omega (arith, few)) (ordered all.left (point_x p b.left b.bottom) (point_x p b.right b.top) all.right part.left part.right)
    (ordered all.bottom (point_y p b.left b.bottom) (point_y p b.right b.top) all.top part.bottom part.top) within in
    false≢true (sym c.if-are_close.false ∙ c.are_close.ensures.all close.left close.bottom close.right close.top))
