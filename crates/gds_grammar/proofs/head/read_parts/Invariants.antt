use Rattle.std.proofs.Common.{ℕ, List, length}
use Rattle.gds_grammar.specs.Machine.{Dated}
use Rattle.gds_grammar.specs.steps.Reading.{Reaches, parts_state}
use Rattle.gds_grammar.proofs.head.read_parts.Given as goal

abbrev pub invariant-parts : goal.invariant-parts
invariant-parts l = (dates : List ℕ) → Reaches l.bytes (Dated dates) l.rest (parts_state l.titled dates)

abbrev pub decreases-parts : goal.decreases-parts
decreases-parts l = length l.rest
