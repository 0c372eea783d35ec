-- What workers and an editor do with their passes in a round.
use Rattle.std.specs.Prelude.{◌≡◌, ℕ, ◌+◌, ◌<◌, ◌≤◌, List, [], ◌∷◌, ◌++◌, length, slice_index_or}
use Rattle.fill_text.specs.declared.script.Edit.{Edit}
use Rattle.fill_core.specs.Shares.{Held}
use Rattle.fill_core.specs.Terms.{Terms}
use Rattle.fill_shared.specs.Rounds.{HasEdited, HasEnded}

-- the pass has its parts, and at most so many calls more
pub record HasWorked (most : ℕ) (held after : Held) : Type 0 where
  pub parts : after.parts ≡ held.parts
  pub calls : after.calls ≤ held.calls + most

-- the turns of each worker ended, from the tile and with the pass of its seat on
abbrev pub SeatsEnded : {A : Type 0} → (A → ℕ) → (A → Held) → Terms → ℕ → List A → List Held → Type 0
SeatsEnded {A} from pass terms limit seats after =
    (length after ≡ length seats) × ((k : ℕ) (d : A) (e : Held) → k < length seats → HasEnded terms limit (from (slice_index_or seats k d)) (pass (slice_index_or seats k d)) (slice_index_or after k e))

-- beside them the editor made the edits; its pass is the last
abbrev pub AreBeside : {A : Type 0} → (A → ℕ) → (A → Held) → Terms → List Edit → ℕ → List A → Held → List Held → Type 0
AreBeside from pass terms edits limit seats editor after = (rested : List Held) × (last : Held) × (after ≡ rested ++ last ∷ []) × SeatsEnded from pass terms limit seats rested × HasEdited terms edits editor last
