use Rattle.std.proofs.Common.{refl}
use Rattle.book_tests.proofs.events.tiles_in_turn.Goals as goal

pub returns-clause-behind : goal.returns-clause-behind
returns-clause-behind c = refl

pub returns-clause-there : goal.returns-clause-there
returns-clause-there c = refl

pub returns-clause-around : goal.returns-clause-around
returns-clause-around c = refl

pub returns-clause-beyond : goal.returns-clause-beyond
returns-clause-beyond c = refl

pub returns-clause-done : goal.returns-clause-done
returns-clause-done c = refl

pub returns-clause-no_tile : goal.returns-clause-no_tile
returns-clause-no_tile c = refl
