-- What a run does with a book, and when it can't end.
use Rattle.std.specs.Prelude.{◌≡◌, ◌⊎◌, ℕ, ◌+◌, ◌*◌, ◌^◌, ◌<◌, ◌≤◌, false, List, [], ◌++◌, length, map, Option, Some, None}
use Rattle.fill_raster.specs.Lattice.{tiles}
use Rattle.fill_text.specs.Rules.{Values}
use Rattle.fill_text.specs.Script.{Change, change_of}
use Rattle.fill_text.specs.declared.script.Edit.{Edit}
use Rattle.fill_job.specs.Plans.{Layers, plan_of}
use Rattle.fill_core.specs.Accounts.{Account}
use Rattle.fill_core.specs.Histories.{edits_in, events_in}
use Rattle.fill_core.specs.Machine.{State}
use Rattle.fill_core.specs.Shares.{Held, nothing_with}
use Rattle.fill_core.specs.Terms.{Terms, layers_at}
use Rattle.fill_core.specs.declared.event.Event.{Event}
use Rattle.fill_shared.specs.Rounds.{HasRun}

-- how many tiles the rules' raster has
abbrev pub tile_count : Values → ℕ
tile_count values = tiles (plan_of values).raster

-- how many turns a worker may take in a round: as many as the limit says, and without one a turn for each tile and one more
abbrev pub most_turns : Values → Option ℕ → ℕ
most_turns values (Some limit) = limit
most_turns values None = tile_count values + 1

-- how many commits there may be: one for each turn of each worker in two rounds
abbrev pub most_commits : Values → ℕ → Option ℕ → ℕ
most_commits values workers limit = 2 * (workers * most_turns values limit)

-- no tile is in
abbrev pub IsFresh : State → Type 0
IsFresh s = (tile : ℕ) → s.tiles_in tile ≡ false

-- the same book, after at most so many commits
pub record IsRun (old new : Account) (turns : ℕ) : Type 0 where
  pub rules : new.rules ≡ old.rules
  pub opening : new.opening ≡ old.opening
  pub existing : new.existing ≡ old.existing
  pub keep : new.keep ≡ old.keep
  pub most : new.most ≡ old.most
  pub commits : List Event
  pub events : events_in new.history ≡ events_in old.history ++ commits
  pub unedited : edits_in commits ≡ []
  pub brief : length commits ≤ turns

-- one worker has fewer turns in two rounds than there are tiles, or there are more edits and tiles than a history of so many events has room for
abbrev pub IsTooShort : Values → Option ℕ → ℕ → ℕ → Type 0
IsTooShort values limit edits most = (2 * most_turns values limit < tile_count values) ⊎ (most < edits + tile_count values)

-- how a run leaves a book that was opened on terms, with these edits, and the pass that comes back with it
abbrev pub Leaves : Type 1
Leaves = Terms → List Edit → Account → Held → Type 0

-- What so many workers give back beside the editor of a script: a book that was opened on these rules and layers, with room for 2^32
-- events, left so by their two rounds of as many turns as they may take.
pub record IsBack (Left : Leaves) (values : Values) (layers : Layers) (changes : List Change) (workers : ℕ) (limit : Option ℕ) : Type 0 where
  pub terms : Terms
  pub rules_are : terms.rules ≡ values
  pub opened_on : layers_at terms ≡ layers
  pub room : terms.most ≡ 2 ^ 32
  pub edits : List Edit
  pub edits_are : map change_of edits ≡ changes
  pub book : Account
  pub pass : Held
  pub left : Left terms edits book pass
  pub rounds : HasRun terms edits workers (most_turns values limit) (nothing_with 1024) book pass
