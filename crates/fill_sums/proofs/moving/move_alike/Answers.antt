use Rattle.std.proofs.Common.{◌≡◌, ◌∙◌, ℕ, ◌≤◌, ◌<◌, true, arith}
use Rattle.fill_area.specs.Density.{window_area}
use Rattle.fill_base.proofs.Signed.{read_is}
use Rattle.fill_sums.specs.Numbers.{in_range}
use Rattle.fill_sums.specs.steps.Shapes.{squares_of}
use Rattle.fill_sums.proofs.Ranges.{areas_in_row, moved_in_row, one_area}
use Rattle.fill_sums.proofs.Windowed.{area_fits, can_area, range_is, read_area}
use Rattle.fill_sums.proofs.moving.move_alike.Goals as goal

pub move_range-requires-clause-numbers : goal.move_range-requires-clause-numbers
move_range-requires-clause-numbers c = rw c.columns.ensures (λ k h. areas_in_row c.args.way (squares_of c.args._shape) c.args.windows.now c.args.numbers.now c.args.alike.from c.args.alike.to c.args.b k c.requires.grid c.requires.moves h)

first_in : (from to : ℕ) → from < to → in_range from to from ≡ true
first_in from to h = range_is from to from (same from) h
  where
    same : (n : ℕ) → n ≤ n
    same n = omega arith

pub move_range-requires-clause-area : goal.move_range-requires-clause-area
move_range-requires-clause-area c =
    let from = c.args.alike.from in
    let inside = first_in from c.args.alike.to c.if-alike.true in
    read_area c.args.alike.area (rw (c.requires.alike from inside) (can_area c.args.way (squares_of c.args._shape) c.args.windows.now c.args.numbers.now from c.args.b c.requires.grid (c.requires.moves from inside)))

pub returns-then-alike : goal.returns-then-alike
returns-then-alike c =
    let p = squares_of c.args._shape in let g = c.args.windows.now in let from = c.args.alike.from in let b = c.args.b in
    let inside = first_in from c.args.alike.to c.if-alike.true in
    let held = c.requires.alike from inside in
    let small = can_area c.args.way p g c.args.numbers.now from b c.requires.grid (c.requires.moves from inside) in
    moved_in_row c.args.way p g c.args.numbers.now _ from c.args.alike.to b (window_area p g from b) c.requires.columns (λ a h. one_area _ _ c.args.alike.area (c.requires.alike a h) held)
    (rw c.columns.ensures at c.move_range.ensures (window_area p g from b) (read_is c.args.alike.area (rw held (area_fits _ small)) ∙ held))
