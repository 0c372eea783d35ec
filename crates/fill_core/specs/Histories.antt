-- Events with their replies, in the order in which they came.
use Rattle.std.specs.Prelude.{ℕ, ◌<◌, List, [], ◌∷◌, map, flat_map, sum_by, vec_len, vec_capacity}
use Rattle.fill_text.specs.declared.script.Edit.{Edit}
use Rattle.fill_core.specs.declared.event.Entry.{Entry}
use Rattle.fill_core.specs.declared.event.Event.{Event}
use Rattle.fill_core.specs.declared.event.Event.TheVariants as event
use Rattle.fill_core.specs.declared.event.Reply.{Reply}
use Rattle.fill_core.specs.declared.event.Reply.TheVariants.{Placed, Stale, Already, Foreign, Withdrawn}
use Rattle.fill_core.specs.declared.history.History.{History}

abbrev pub entries_of : History → List Entry
entries_of history = history.entries.items

-- one more entry takes no memory
abbrev pub HasRoom : History → Type 0
HasRoom history = vec_len history.entries < vec_capacity history.entries

abbrev pub events_in : List Entry → List Event
events_in entries = map (λ e. e.event) entries

abbrev pub replies_in : List Entry → List Reply
replies_in entries = map (λ e. e.reply) entries

-- the edits among the events
abbrev pub edits_by : Event → List Edit
edits_by (event.Commit version tile same) = []
edits_by (event.Edit edit) = edit ∷ []

abbrev pub edits_in : List Event → List Edit
edits_in events = flat_map edits_by events

-- how many places a reply says were filled, and how many were taken out
abbrev pub placed_by : Reply → ℕ
placed_by (Placed n) = n
placed_by (Stale at) = 0
placed_by Already = 0
placed_by Foreign = 0
placed_by (Withdrawn n) = 0

abbrev pub withdrawn_by : Reply → ℕ
withdrawn_by (Placed n) = 0
withdrawn_by (Stale at) = 0
withdrawn_by Already = 0
withdrawn_by Foreign = 0
withdrawn_by (Withdrawn n) = n

abbrev pub placed_in : List Reply → ℕ
placed_in replies = sum_by placed_by replies

abbrev pub withdrawn_in : List Reply → ℕ
withdrawn_in replies = sum_by withdrawn_by replies
