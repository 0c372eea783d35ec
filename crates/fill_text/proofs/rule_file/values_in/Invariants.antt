-- The iterator stands before the rest, the records before it break no rule, and the entries hold what they give.
use Rattle.std.proofs.Common.{◌≡◌, ◌+◌, ◌<◌, ◌^◌, ℕ, List, Some, length}
use Rattle.fill_text.specs.Rows.{rows_of}
use Rattle.fill_text.specs.Rules.{record_fault}
use Rattle.fill_text.specs.steps.Rows.{StandsBefore}
use Rattle.fill_text.specs.steps.Entries.{found_in}
use Rattle.fill_text.proofs.FirstFaults.{IsSoundUpTo}
use Rattle.fill_text.proofs.Holding.{Holds}
use Rattle.fill_text.proofs.rule_file.values_in.Given as goal

abbrev pub invariant-loop-row : goal.invariant-loop-row
invariant-loop-row l = (before : List (List (List ℕ))) × (rest : List (List (List ℕ)))
    × StandsBefore (λ s. Some s.now) l.row-iterator.rdr l.row-iterator.left rest
    × IsSoundUpTo record_fault (rows_of l.fn.text) before rest
    × Holds (found_in l.entries) before
    × (length before ≡ l.line)
    × (l.line + l.row-iterator.left < 2 ^ 64)
