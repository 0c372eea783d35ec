-- What is found from the first tile on is what is found from this one on.
use Rattle.std.proofs.Common.{◌≡◌, ◌-◌}
use Rattle.std.specs.Prelude.{not, find}
use Rattle.std.specs.List.{range_with_len}
use Rattle.fill_state.specs.Tiles.{is_in}
use Rattle.fill_state.proofs.tiles.TileSet.first_open.Given as goal

abbrev pub invariant-tiles : goal.invariant-tiles
invariant-tiles l = find (λ t. not (is_in l.self t)) (range_with_len l.from (l.past - l.from)) ≡ find (λ t. not (is_in l.self t)) (range_with_len l.tile (l.past - l.tile))

abbrev pub decreases-tiles : goal.decreases-tiles
decreases-tiles l = l.past - l.tile
