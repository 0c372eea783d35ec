-- How calls and places are counted, over all the callers of a book and for each of them.
use Rattle.std.specs.Prelude.{◌≡◌, ℕ, ◌+◌, ◌≤◌, List, length}
use Rattle.fill_core.specs.Histories.{replies_in, placed_by, placed_in, withdrawn_by, withdrawn_in}
use Rattle.fill_core.specs.declared.event.Entry.{Entry}
use Rattle.fill_core.specs.declared.event.Reply.{Reply}

-- the numbers of a book
pub record Totals : Type 0 where
  pub calls : ℕ
  pub placed : ℕ
  pub withdrawn : ℕ

-- the numbers of one caller, and how many of the 1,024 parts of each ledger the caller holds
pub record Held : Type 0 where
  pub parts : ℕ
  pub calls : ℕ
  pub placed : ℕ
  pub withdrawn : ℕ

-- each ledger is cut into 1,024 parts
abbrev pub AllParts : ℕ → ℕ → ℕ → Type 0
AllParts calls placed withdrawn = (calls ≡ 1024) × (placed ≡ 1024) × (withdrawn ≡ 1024)

abbrev pub totals_of : List Entry → Totals
totals_of history = record { calls = length history; placed = placed_in (replies_in history); withdrawn = withdrawn_in (replies_in history) }

-- one more call was answered so
abbrev pub counted : Totals → ℕ → ℕ → Totals
counted t placed withdrawn = record { calls = t.calls + 1; placed = t.placed + placed; withdrawn = t.withdrawn + withdrawn }

abbrev pub moved_by : Held → ℕ → ℕ → Held
moved_by h placed withdrawn = record h { calls = h.calls + 1; placed = h.placed + placed; withdrawn = h.withdrawn + withdrawn }

abbrev pub moved : Held → Reply → Held
moved h reply = moved_by h (placed_by reply) (withdrawn_by reply)

-- no number is above the book's
pub record IsWithin (h : Held) (t : Totals) : Type 0 where
  pub calls : h.calls ≤ t.calls
  pub placed : h.placed ≤ t.placed
  pub withdrawn : h.withdrawn ≤ t.withdrawn

-- each number is the book's
pub record IsWhole (h : Held) (t : Totals) : Type 0 where
  pub calls : h.calls ≡ t.calls
  pub placed : h.placed ≡ t.placed
  pub withdrawn : h.withdrawn ≡ t.withdrawn

-- so many parts and nothing counted yet
abbrev pub nothing_with : ℕ → Held
nothing_with parts = record { parts = parts; calls = 0; placed = 0; withdrawn = 0 }

-- two callers taken together
abbrev pub joined : Held → Held → Held
joined h k = record { parts = h.parts + k.parts; calls = h.calls + k.calls; placed = h.placed + k.placed; withdrawn = h.withdrawn + k.withdrawn }
