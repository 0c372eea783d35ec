use Rattle.std.proofs.Common.{◌≡◌, ℤ, ap, ◌∙◌, pos}
use Rattle.fill_area.specs.Density.{window_area}
use Rattle.fill_base.proofs.Signed.{read_is}
use Rattle.fill_sums.specs.steps.Shapes.{squares_of}
use Rattle.fill_sums.specs.Numbers.{moved, number_at}
use Rattle.fill_sums.proofs.Windowed.{area_fits, can_area, is_area, moved_one, read_area, size_most}
use Rattle.fill_sums.proofs.moving.move_number.Goals as goal

pub moved_by-requires-clause-number : goal.moved_by-requires-clause-number
moved_by-requires-clause-number c = rw c.columns.ensures (read_area _ (is_area _ _ (size_most c.args.windows.now c.requires.grid) c.requires.moves.least c.requires.moves.most))

pub moved_by-requires-clause-area : goal.moved_by-requires-clause-area
moved_by-requires-clause-area c = read_area c.args.area (rw c.requires.area (can_area c.args.way (squares_of c.args._shape) c.args.windows.now c.args.numbers.now c.args.a c.args.b c.requires.grid c.requires.moves))

pub returns : goal.returns
returns c =
    let g = c.args.windows.now in let p = squares_of c.args._shape in let way = c.args.way in
    let area = window_area p g c.args.a c.args.b in
    let can = c.requires.moves in
    let small = can_area way p g c.args.numbers.now c.args.a c.args.b c.requires.grid can in
    let number = number_at g c.args.numbers.now c.args.a c.args.b in
    let area_is : c.args.area ≡ pos area = c.requires.area in
    let step = rw c.columns.ensures at c.moved_by.ensures area (read_is c.args.area (rw area_is (area_fits (pos area) small)) ∙ area_is) in
    rw c.columns.ensures (moved_one way p g c.args.numbers.now _ c.args.a c.args.b c.requires.window c.requires.count
    (read_is c.moved_by.result (record { sfits = c.moved_by.type_inv }) ∙ (step ∙ ap (λ (z : ℤ). moved way z area) (read_is number (area_fits number (is_area _ _ (size_most g c.requires.grid) can.least can.most))))))
