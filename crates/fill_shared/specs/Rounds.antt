-- What the rounds of a run come to.
use Rattle.std.specs.Prelude.{◌≡◌, ◌≢◌, ◌⊎◌, ℕ, ◌+◌, ◌*◌, ◌/◌, ◌<◌, List, [], ◌∷◌, ◌++◌, length, slice_index_or, take}
use Rattle.fill_raster.specs.Lattice.{tiles}
use Rattle.fill_text.specs.declared.script.Edit.{Edit}
use Rattle.fill_job.specs.Plans.{plan_of}
use Rattle.fill_core.specs.Accounts.{Account, IsEdited, state_of}
use Rattle.fill_core.specs.Machine.{IsComplete}
use Rattle.fill_core.specs.Shares.{Held}
use Rattle.fill_core.specs.Terms.{Terms}
use Rattle.fill_core.specs.declared.event.Reply.{Reply}
use Rattle.fill_shared.specs.Passes.{split_among, together}
use Rattle.fill_shared.specs.Sharing.{AtSomePoint, IsFull}
use Rattle.fill_shared.specs.Working.{Ends, HasBrought}
use Rattle.fill_shared.specs.declared.worker.WorkEnd.{WorkEnd}
use Rattle.fill_shared.specs.declared.worker.WorkEnd.TheVariants.{Memory}

-- a worker's turns, the first of them from a tile on, ended so
pub record HasRested (terms : Terms) (limit from : ℕ) (held after : Held) (end : WorkEnd) : Type 0 where
  pub parts : after.parts ≡ held.parts
  pub ends : Ends terms limit held after end
  pub brought : HasBrought terms limit from held after end

-- they ended, and not for want of memory
pub record HasEnded (terms : Terms) (limit from : ℕ) (held after : Held) : Type 0 where
  pub end : WorkEnd
  pub rested : HasRested terms limit from held after end
  pub remembered : end ≢ Memory

-- the tile from which a worker starts, one of so many
abbrev pub start_of : Terms → ℕ → ℕ → ℕ
start_of terms workers worker = worker * tiles (plan_of terms.rules).raster / workers

-- so did those of each worker, from its tile on
abbrev pub HaveEnded : Terms → ℕ → List Held → List Held → Type 0
HaveEnded terms limit held after =
    (length after ≡ length held) × ((k : ℕ) (d e : Held) → k < length held → HasEnded terms limit (start_of terms (length held) k) (slice_index_or held k d) (slice_index_or after k e))

-- the edit was answered at some point
abbrev pub IsAnswered : Terms → Held → Edit → Held → Type 0
IsAnswered terms held edit after = (reply : Reply) × AtSomePoint terms held.calls (λ a. (b : Account) × IsEdited a b held after edit reply)

-- these edits were answered, one after the other
abbrev pub AreAnswered : Terms → Held → List Edit → Held → Type 0
AreAnswered terms held [] after = after ≡ held
AreAnswered terms held (edit ∷ edits) after = (next : Held) × IsAnswered terms held edit next × AreAnswered terms next edits after

-- the edits were answered in their order, all of them or until a history was full
pub record HasEdited (terms : Terms) (edits : List Edit) (held after : Held) : Type 0 where
  pub made : ℕ
  pub answered : AreAnswered terms held (take made edits) after
  pub enough : (made ≡ length edits) ⊎ AtSomePoint terms after.calls IsFull

-- a round of so many workers, among whom the pass was split
pub record IsRound (terms : Terms) (workers limit : ℕ) (held after : Held) : Type 0 where
  pub rested : List Held
  pub ended : HaveEnded terms limit (split_among held workers) rested
  pub joined : after ≡ together rested

-- a round of so many workers beside an editor, who has the last of the passes
pub record IsRoundWithEditor (terms : Terms) (edits : List Edit) (workers limit : ℕ) (held after : Held) : Type 0 where
  pub seats : List Held
  pub editor : Held
  pub split : split_among held (workers + 1) ≡ seats ++ editor ∷ []
  pub rested : List Held
  pub ended : HaveEnded terms limit seats rested
  pub last : Held
  pub edited : HasEdited terms edits editor last
  pub joined : after ≡ together (rested ++ last ∷ [])

-- a round beside the editor, and where a tile was left then another one without it
pub record HasRun (terms : Terms) (edits : List Edit) (workers limit : ℕ) (held : Held) (a : Account) (after : Held) : Type 0 where
  pub mid : Held
  pub first : IsRoundWithEditor terms edits workers limit held mid
  pub second : (IsComplete (plan_of a.rules) (state_of a) × (after ≡ mid)) ⊎ IsRound terms workers limit mid after
