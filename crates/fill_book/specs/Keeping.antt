-- What a book stores, and how that stands to its account.
use Rattle.std.specs.Prelude.{◌≡◌, ◌≤◌, ◌^◌, pos, length}
use Rattle.fill_state.specs.Layers.{in_layer}
use Rattle.fill_region.specs.Runs.{holds}
use Rattle.fill_raster.specs.Lattice.{tiles}
use Rattle.fill_job.specs.Basis.{windows_in}
use Rattle.fill_job.specs.Plans.{Layers, Plan, IsPlan, PointSet, plan_of}
use Rattle.fill_core.specs.Accounts.{Account, IsLegal, state_of}
use Rattle.fill_core.specs.Machine.{State}
use Rattle.fill_core.specs.Shares.{Totals, totals_of}
use Rattle.fill_state.specs.Filling.{is_filled}
use Rattle.fill_state.specs.Pieces.{ArePieces}
use Rattle.fill_state.specs.Tiles.{is_in}
use Rattle.fill_book.specs.declared.stored.Stored.{Stored}

-- the metal, the existing fill and the keep-outs that are stored, as sets of squares
abbrev pub stored_layers : Stored → Layers
stored_layers s = record { metal = in_layer s.drawn.metal; fill = holds s.drawn.existing; keep = in_layer s.keep }

-- what is stored, as a state; the places that were filled when the version opened are not stored
abbrev pub state_by : PointSet → Stored → State
state_by base s = record {
  layers = stored_layers s;
  fill = is_filled s.filled;
  version = s.version;
  low = windows_in s.low;
  tiles_in = is_in s.tiles;
  base = base;
}

-- the raster is the plan's, and there is a bit for each of its tiles, and a piece of the metal, one of the existing fill and one of the
-- keep-outs
pub record Fits (plan : Plan) (s : Stored) : Type 0 where
  pub raster : s.filled.raster ≡ plan.raster
  pub tiles : length s.tiles ≡ tiles plan.raster
  pub pieces : ArePieces plan.raster plan.spacing (in_layer s.drawn.metal) s.pieces.items
  pub existing_pieces : ArePieces plan.raster plan.fill_spacing (holds s.drawn.existing) s.existing_pieces.items
  pub keep_pieces : ArePieces plan.raster (pos 0) (in_layer s.keep) s.keep_pieces.items

-- the state that is stored is the account's, its replies are those of the replay, its history has no more events than it may
-- have, and the numbers of the ledgers are those of the history
pub record Keeps (a : Account) (t : Totals) (s : Stored) : Type 0 where
  pub plan : IsPlan (plan_of a.rules)
  pub fits : Fits (plan_of a.rules) s
  pub state : state_of a ≡ state_by (state_of a).base s
  pub legal : IsLegal a
  pub version : s.version ≤ length a.history
  pub room : length a.history ≤ a.most
  pub most : a.most ≤ 2 ^ 32
  pub totals : t ≡ totals_of a.history
