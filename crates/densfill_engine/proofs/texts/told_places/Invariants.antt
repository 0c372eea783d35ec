-- The filled places so far are those of the told rows, of the tiles below this one.
use Rattle.std.proofs.Common.{◌≡◌, ◌&&◌, ℤ, nat_lt}
use Rattle.fill_raster.specs.Lattice.{tile_of}
use Rattle.fill_job.specs.Plans.{plan_of}
use Rattle.fill_core.specs.Accounts.{state_of}
use Rattle.fill_state.specs.Filling.{is_filled}
use Rattle.fill_parts.specs.Needs.{row_of}
use Rattle.fill_parts.specs.PartChip.{is_row_in}
use Rattle.fill_parts.specs.Told.{tiles_in}
use Rattle.densfill_engine.proofs.texts.told_places.Given as goal

abbrev pub invariant-loop-tile : goal.invariant-loop-tile
invariant-loop-tile g l =
    let a = g.B.FillBook.account l.book in
    let plan = plan_of a.rules in
    record {
      raster : l.filled.raster ≡ plan.raster;
      told : (i j : ℤ) → is_filled l.filled i j ≡ (nat_lt (tile_of plan.raster i j) l.tile && ((state_of a).fill i j && is_row_in (tiles_in l.told) (row_of plan.raster (tile_of plan.raster i j))));
    }
