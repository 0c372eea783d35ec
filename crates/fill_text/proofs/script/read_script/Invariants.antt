-- The iterator stands before the rest, the records before it break no rule, and the edits are theirs.
use Rattle.std.proofs.Common.{◌≡◌, ◌≤◌, ℕ, List, Some, length, map}
use Rattle.fill_text.specs.Rows.{rows_of}
use Rattle.fill_text.specs.Script.{change_fault, change_in, change_of}
use Rattle.fill_text.specs.steps.Rows.{StandsBefore}
use Rattle.fill_text.proofs.FirstFaults.{IsSoundUpTo}
use Rattle.fill_text.proofs.script.read_script.Given as goal

abbrev pub invariant-loop-row : goal.invariant-loop-row
invariant-loop-row l = (before : List (List (List ℕ))) × (rest : List (List (List ℕ)))
    × StandsBefore (λ s. Some s.now) l.row-iterator.rdr l.row-iterator.left rest
    × IsSoundUpTo change_fault (rows_of l.fn.text) before rest
    × (map change_of l.edits.items ≡ map change_in before)
    × (length before ≡ l.line)
    × (l.line ≤ 100000)
