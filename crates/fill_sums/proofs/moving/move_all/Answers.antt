use Rattle.fill_sums.specs.steps.Shapes.{squares_of}
use Rattle.fill_sums.proofs.Untouched.{moved_all, still_numbers, can_move}
use Rattle.fill_sums.proofs.Windowed.{range_in}
use Rattle.fill_sums.proofs.moving.move_all.Goals as goal

pub move_rows-requires-clause-moves : goal.move_rows-requires-clause-moves
move_rows-requires-clause-moves c = λ a b h k. can_move _ _ _ _ a b ((c.touching.ensures.windows a b).0 (range_in _ _ a h, range_in _ _ b k)).0 c.requires.numbers c.requires.stays

pub returns-clause-moved : goal.returns-clause-moved
returns-clause-moved c = moved_all c.args.way (squares_of c.args.shape) c.args.within.now c.args.windows.now _ _ _ _ c.args.numbers.now _ c.requires.numbers.grid c.requires.within c.touching.ensures.windows c.move_rows.ensures

pub returns-clause-numbers : goal.returns-clause-numbers
returns-clause-numbers c = still_numbers _ _ _ _ _ c.requires.numbers c.requires.stays (returns-clause-moved c)
