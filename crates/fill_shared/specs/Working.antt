-- What a worker's turns come to.
use Rattle.std.specs.Prelude.{◌≡◌, ℕ, zero, suc, ◌+◌, ◌<◌, ◌≤◌, Some}
use Rattle.std.specs.declared.ops.ControlFlow.{ControlFlow}
use Rattle.std.specs.declared.ops.ControlFlow.TheVariants.{Continue, Break}
use Rattle.fill_raster.specs.Lattice.{tiles}
use Rattle.fill_job.specs.Plans.{plan_of}
use Rattle.fill_job.specs.ReadSets.{read_set}
use Rattle.fill_core.specs.Accounts.{Account, IsCommitted, state_of}
use Rattle.fill_core.specs.Shares.{Held}
use Rattle.fill_core.specs.Terms.{Terms}
use Rattle.fill_core.specs.Tiles.{next_tile}
use Rattle.fill_core.specs.declared.event.Reply.{Reply}
use Rattle.fill_shared.specs.Sharing.{AtSomePoint, IsCompleteAt, IsFull}
use Rattle.fill_shared.specs.declared.worker.WorkEnd.{WorkEnd}
use Rattle.fill_shared.specs.declared.worker.WorkEnd.TheVariants.{Done, Tired, Full, Memory}

-- fewer calls were answered than the worker may have turns
abbrev pub IsBelow : ℕ → Held → Held → Type 0
IsBelow limit held after = (held.calls ≤ after.calls) × (after.calls < held.calls + limit)

-- every tile was in at the version, the history was full, or memory was refused, before the worker had all its turns; or each turn
-- was answered
abbrev pub Ends : Terms → ℕ → Held → Held → WorkEnd → Type 0
Ends terms limit held after (Done version) = IsBelow limit held after × AtSomePoint terms after.calls (IsCompleteAt version)
Ends terms limit held after Tired = after.calls ≡ held.calls + limit
Ends terms limit held after Full = IsBelow limit held after × AtSomePoint terms after.calls IsFull
Ends terms limit held after Memory = IsBelow limit held after

-- the tile comes next, from a tile on
abbrev pub IsNext : ℕ → ℕ → Account → Type 0
IsNext from tile a = next_tile (tiles (plan_of a.rules).raster) (state_of a).tiles_in from ≡ Some tile

-- what there was to read for the tile was brought, and answered at some point
abbrev pub IsBrought : Terms → ℕ → Held → Held → Account → Type 0
IsBrought terms tile held after a =
    AtSomePoint terms held.calls (λ b. (c : Account) × (reply : Reply) × IsCommitted b c held after (state_of a).version tile (read_set a.rules (state_of a).layers (state_of a).low tile) reply)

-- a turn was answered: a tile came next at some point, and what there was to read for it then was brought. What follows begins behind it
pub record HasTurned (terms : Terms) (from : ℕ) (held : Held) (next : ℕ) (after : Held) : Type 0 where
  pub tile : ℕ
  pub brought : AtSomePoint terms held.calls (λ a. IsNext from tile a × IsBrought terms tile held after a)
  pub behind : next ≡ tile + 1

-- how a turn ended the work: every tile was in, a tile came next and the history was full, or memory was refused
abbrev pub Stops : Terms → ℕ → Held → WorkEnd → Type 0
Stops terms from held (Done version) = AtSomePoint terms held.calls (IsCompleteAt version)
Stops terms from held Tired = ⊥
Stops terms from held Full = ((tile : ℕ) × AtSomePoint terms held.calls (IsNext from tile)) × AtSomePoint terms held.calls IsFull
Stops terms from held Memory = Unit {0}

-- a turn that is answered is one call; a turn that ends the work is none
abbrev pub Turns : Terms → Held → Held → ℕ → ControlFlow WorkEnd ℕ → Type 0
Turns terms held after from (Continue next) = (after.parts ≡ held.parts) × (after.calls ≡ held.calls + 1) × HasTurned terms from held next after
Turns terms held after from (Break end) = (after ≡ held) × Ends terms 1 held after end × Stops terms from held end

-- so many turns were answered, one after the other, the first from a tile on
unfoldable pub AreTurns : Terms → ℕ → ℕ → Held → ℕ → Held → Type 0
AreTurns terms zero from held next after = (next ≡ from) × (after ≡ held)
AreTurns terms (suc n) from held next after = (f : ℕ) × (h : Held) × AreTurns terms n from held f h × HasTurned terms f h next after

-- the worker had all its turns, or one more of them ended the work
abbrev pub IsOver : Terms → ℕ → ℕ → ℕ → Held → WorkEnd → Type 0
IsOver terms limit turns next after (Done version) = (turns < limit) × Stops terms next after (Done version)
IsOver terms limit turns next after Tired = turns ≡ limit
IsOver terms limit turns next after Full = (turns < limit) × Stops terms next after Full
IsOver terms limit turns next after Memory = turns < limit

-- what a worker did: some turns were answered, the first from its tile on, and then it was over
pub record HasBrought (terms : Terms) (limit from : ℕ) (held after : Held) (end : WorkEnd) : Type 0 where
  pub turns : ℕ
  pub next : ℕ
  pub answered : AreTurns terms turns from held next after
  pub over : IsOver terms limit turns next after end
