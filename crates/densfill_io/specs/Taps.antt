-- A tap: what stands behind it, and whether a call through it has failed.
use Rattle.std.specs.Prelude.{ℕ, Bool, true, List, length, Result, Ok, Err, ◌==◌, ◌&&◌, nat_lt}
use Rattle.densfill_io.specs.declared.taps.Tap.{Tap}

-- the reader or the writer that the tap passes calls on to
abbrev pub under : {T : Type 0} → Tap T → T
under tap = tap.inner

-- a call through the tap has failed, or a write has taken no byte out of some
abbrev pub has_failed : {T : Type 0} → Tap T → Bool
has_failed tap = tap.failed

-- a write that failed, or took no byte out of some
abbrev pub is_refused : {E : Type 0} → List ℕ → Result ℕ E → Bool
is_refused bytes (Ok count) = count == 0 && nat_lt 0 (length bytes)
is_refused bytes (Err e) = true
