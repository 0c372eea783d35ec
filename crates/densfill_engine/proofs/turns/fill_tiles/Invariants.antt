-- Each turn so far brought a tile.
use Rattle.std.proofs.Common.{◌≡◌, ◌+◌}
use Rattle.fill_core.specs.Accounts.{state_of}
use Rattle.densfill_engine.specs.Runs.{IsRun, tile_count}
use Rattle.densfill_engine.proofs.TileTurns.{left}
use Rattle.densfill_engine.proofs.turns.fill_tiles.Given as goal

abbrev pub invariant-loop : goal.invariant-loop
invariant-loop g l =
    let account = g.B.FillBook.account in
    let tiles = tile_count (account l.fn.book).rules in
    record {
      run : IsRun (account l.fn.book) (account l.book) l.counter;
      left : left (state_of (account l.book)).tiles_in tiles + l.counter ≡ tiles;
    }
