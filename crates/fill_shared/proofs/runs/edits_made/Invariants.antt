-- The edits so far are the first of those handed in.
use Rattle.std.proofs.Common.{◌≡◌, ◌≤◌, length, map, take}
use Rattle.fill_text.specs.Script.{change_of}
use Rattle.fill_shared.specs.Runs.{changes_in}
use Rattle.fill_shared.proofs.runs.edits_made.Given as goal

abbrev pub invariant-loop-entry : goal.invariant-loop-entry
invariant-loop-entry l = record {
  most : l.made ≤ length l.edits;
  made : changes_in (take l.entry-index l.entry-items) ≡ map change_of (take l.made l.edits);
}
