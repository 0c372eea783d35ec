use Rattle.std.proofs.Common.{◌≡◌, map, take}
use Rattle.densfill_engine.specs.Refusals.{shown_byte}
use Rattle.densfill_engine.proofs.refusal.shown.Given as goal

abbrev pub invariant-loop-byte : goal.invariant-loop-byte
invariant-loop-byte l = l.bytes.items ≡ map shown_byte (take l.byte-index l.path)
