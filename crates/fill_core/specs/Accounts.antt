-- What a book is to its callers: rules, the metal, the existing fill and the keep-outs that it opened on, its history, and how much
-- history it may have.
use Rattle.std.specs.Prelude.{◌≡◌, ◌↔◌, ℕ, ◌+◌, ◌≤◌, ◌^◌, Bool, true, false, List, [], ◌∷◌, ◌++◌, length}
use Rattle.fill_region.specs.Runs.{Sides}
use Rattle.fill_text.specs.Rules.{Values}
use Rattle.fill_text.specs.declared.script.Edit.{Edit}
use Rattle.fill_job.specs.Basis.{layers_in}
use Rattle.fill_job.specs.Plans.{IsPlan, Layers, plan_of}
use Rattle.fill_job.specs.ReadSets.{ReadSet, read_set}
use Rattle.fill_core.specs.Boxes.{count_places}
use Rattle.fill_core.specs.Histories.{events_in, replies_in}
use Rattle.fill_core.specs.Machine.{State, replay, replies, reply_of}
use Rattle.fill_core.specs.Shares.{Held, moved, totals_of}
use Rattle.fill_core.specs.Soundness.{IsSound}
use Rattle.fill_core.specs.Terms.{Terms}
use Rattle.fill_core.specs.declared.event.Entry.{Entry}
use Rattle.fill_core.specs.declared.event.Event.{Event}
use Rattle.fill_core.specs.declared.event.Event.TheVariants as event
use Rattle.fill_core.specs.declared.event.Reply.{Reply}

pub record Account : Type 0 where
  pub rules : Values
  pub opening : List Sides
  pub existing : List Sides
  pub keep : List Sides
  pub history : List Entry
  pub most : ℕ

-- what the book was opened with
abbrev pub terms_of : Account → Terms
terms_of a = record { rules = a.rules; opening = a.opening; existing = a.existing; keep = a.keep; most = a.most }

-- the design that the book opened on
abbrev pub opening_of : Account → Layers
opening_of a = layers_in a.opening a.existing a.keep

-- the state is the replay of the history on the opening
abbrev pub state_of : Account → State
state_of a = replay (plan_of a.rules) (opening_of a) (events_in a.history)

-- the replies are those of the replay
abbrev pub IsLegal : Account → Type 0
IsLegal a = replies_in a.history ≡ replies (plan_of a.rules) (opening_of a) (events_in a.history)

abbrev pub with_entry : Account → Event → Reply → Account
with_entry a e reply = record a { history = a.history ++ record { event = e; reply = reply } ∷ [] }

-- whether a proposal passes the tests of version and tile, and read what there is to read now
abbrev pub IsSame : Values → State → ℕ → ℕ → ReadSet → Bool → Type 0
IsSame rules s version tile read same = (same ≡ true) ↔ ((version ≡ s.version) × (s.tiles_in tile ≡ false) × (read ≡ read_set rules s.layers s.low tile))

-- an event is answered and written, and moves the caller's shares
pub record Writes (old new : Account) (held after : Held) (e : Event) (reply : Reply) : Type 0 where
  pub answer : reply ≡ reply_of (plan_of old.rules) (state_of old) e
  pub written : new ≡ with_entry old e reply
  pub shares : after ≡ moved held reply

pub record IsCommitted (old new : Account) (held after : Held) (version tile : ℕ) (read : ReadSet) (reply : Reply) : Type 0 where
  pub same : Bool
  pub is_same : IsSame old.rules (state_of old) version tile read same
  pub writes : Writes old new held after (event.Commit version tile same) reply

abbrev pub IsEdited : Account → Account → Held → Held → Edit → Reply → Type 0
IsEdited old new held after edit reply = Writes old new held after (event.Edit edit) reply

-- what every book keeps
pub record IsKeeping (a : Account) : Type 0 where
  pub plan : IsPlan (plan_of a.rules)
  pub sound : IsSound (plan_of a.rules) (state_of a).layers (state_of a).fill
  pub legal : IsLegal a
  pub count : count_places (plan_of a.rules).raster (state_of a).fill + (totals_of a.history).withdrawn ≡ (totals_of a.history).placed
  pub room : length a.history ≤ a.most
  pub most : a.most ≤ 2 ^ 32
  pub placed : (totals_of a.history).placed ≤ 2 ^ 56
  pub withdrawn : (totals_of a.history).withdrawn ≤ 2 ^ 56
