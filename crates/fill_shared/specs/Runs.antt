-- What a run of workers beside an editor leaves.
use Rattle.std.specs.Prelude.{◌≡◌, ◌⊎◌, ℕ, ◌<◌, ◌≤◌, List, length, map, take}
use Rattle.fill_text.specs.Script.{Change, change_of}
use Rattle.fill_text.specs.declared.script.Edit.{Edit}
use Rattle.fill_job.specs.Plans.{plan_of}
use Rattle.fill_core.specs.Accounts.{Account, IsKeeping, state_of, terms_of}
use Rattle.fill_core.specs.Boxes.{low_fill}
use Rattle.fill_core.specs.Histories.{edits_in, events_in}
use Rattle.fill_core.specs.Machine.{State, IsComplete}
use Rattle.fill_core.specs.Shares.{Held}
use Rattle.fill_core.specs.Terms.{Terms, layers_at}
use Rattle.fill_core.specs.declared.event.Entry.{Entry}
use Rattle.fill_shared.specs.Passes.{HasCounted}

-- the edits in a history, each by its kind and the four sides of its rectangle
abbrev pub changes_in : List Entry → List Change
changes_in entries = map change_of (edits_in (events_in entries))

-- the edits in a history are no beginning of these
abbrev pub IsNoBeginning : List Entry → List Edit → Type 0
IsNoBeginning entries edits = (made : ℕ) → changes_in entries ≡ map change_of (take made edits) → ⊥

-- the book was opened so, and its edits are these, in their order; the pass has counted all that happened
pub record IsLeft (terms : Terms) (edits : List Edit) (a : Account) (pass : Held) : Type 0 where
  pub under : terms_of a ≡ terms
  pub edited : changes_in a.history ≡ map change_of edits
  pub version : (state_of a).version ≡ length edits
  pub keeping : IsKeeping a
  pub counted : HasCounted a pass

-- all edits are made, and every tile is in
pub record IsFinished (terms : Terms) (edits : List Edit) (a : Account) (pass : Held) : Type 0 where
  pub left : IsLeft terms edits a pass
  pub complete : IsComplete (plan_of a.rules) (state_of a)

-- the first edits are made, and not all of them are or some tile isn't in
pub record IsUnfinished (terms : Terms) (edits : List Edit) (a : Account) (pass : Held) : Type 0 where
  pub made : ℕ
  pub most : made ≤ length edits
  pub left : IsLeft terms (take made edits) a pass
  pub lacking : (made < length edits) ⊎ (¬ IsComplete (plan_of a.rules) (state_of a))

-- the book was opened so, and its edits do not begin these
pub record IsMixed (terms : Terms) (edits : List Edit) (a : Account) (pass : Held) : Type 0 where
  pub under : terms_of a ≡ terms
  pub other : IsNoBeginning a.history edits
  pub keeping : IsKeeping a
  pub counted : HasCounted a pass

-- what is left without edits: the design as it was, and all those places
pub record IsUnedited (terms : Terms) (s : State) : Type 0 where
  pub layers : s.layers ≡ layers_at terms
  pub fill : s.fill ≡ low_fill (plan_of terms.rules) (layers_at terms)
