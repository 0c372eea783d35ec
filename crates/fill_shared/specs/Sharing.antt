-- What a call on a shared book tells: something of a book that was opened so, at some point of a history.
use Rattle.std.specs.Prelude.{◌≡◌, ℕ, ◌<◌, ◌≤◌, pos, Option, Some, None, length}
use Rattle.fill_area.specs.Grid.{Grid}
use Rattle.fill_raster.specs.Lattice.{tiles}
use Rattle.fill_job.specs.Basis.{read_by}
use Rattle.fill_job.specs.Plans.{drawn_squares, plan_of}
use Rattle.fill_job.specs.ReadSets.{read_set}
use Rattle.fill_job.specs.declared.job.Job.{Job}
use Rattle.fill_core.specs.Accounts.{Account, IsKeeping, state_of, terms_of}
use Rattle.fill_core.specs.Boxes.{total_in}
use Rattle.fill_core.specs.Machine.{IsComplete}
use Rattle.fill_core.specs.Terms.{Terms}
use Rattle.fill_core.specs.Tiles.{next_tile}
use Rattle.fill_shared.specs.declared.shared.Look.{Look}
use Rattle.fill_shared.specs.declared.shared.Look.TheVariants.{Work, Complete}
use Rattle.fill_shared.specs.declared.shared.Seen.{Seen}

-- it is so of a book that was opened so, with a legal history of at least so many events, which keeps all that every book keeps
abbrev pub AtSomePoint : Terms → ℕ → (Account → Type 0) → Type 0
AtSomePoint terms events Holds = (a : Account) × IsKeeping a × (terms_of a ≡ terms) × (events ≤ length a.history) × Holds a

-- the history has all the events that it may have
abbrev pub IsFull : Account → Type 0
IsFull a = length a.history ≡ a.most

-- the job is the work on the tile at the book's version
pub record IsJobOf (a : Account) (tile : ℕ) (job : Job) : Type 0 where
  pub version : job.version ≡ (state_of a).version
  pub tile_is : job.tile ≡ tile
  pub read : read_by job.basis ≡ read_set a.rules (state_of a).layers (state_of a).low tile

-- every tile is in, at this version
abbrev pub IsCompleteAt : ℕ → Account → Type 0
IsCompleteAt version a = IsComplete (plan_of a.rules) (state_of a) × (version ≡ (state_of a).version)

-- the work is that on the next tile, and where every tile is in there is none
abbrev pub IsLook : Account → ℕ → Look → Type 0
IsLook a from (Work job) = (tile : ℕ) × (next_tile (tiles (plan_of a.rules).raster) (state_of a).tiles_in from ≡ Some tile) × IsJobOf a tile job
IsLook a from (Complete version) = IsCompleteAt version a

abbrev pub HasWindow : Grid → ℕ → ℕ → Type 0
HasWindow windows a b = (a < windows.across.count) × (b < windows.up.count)

-- the total of a window that there is, and nothing of any other
abbrev pub IsSeen : Account → ℕ → ℕ → Option Seen → Type 0
IsSeen k a b (Some seen) =
    HasWindow (plan_of k.rules).windows a b × (seen.version ≡ (state_of k).version) × (seen.events ≡ length k.history) × (seen.total ≡ pos (total_in (plan_of k.rules) (drawn_squares (state_of k).layers) (state_of k).fill a b))
IsSeen k a b None = HasWindow (plan_of k.rules).windows a b → ⊥
