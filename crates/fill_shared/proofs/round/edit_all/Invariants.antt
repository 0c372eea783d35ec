-- At most one call for each edit so far, and each of these was answered.
use Rattle.std.proofs.Common.{◌≡◌, ◌≤◌, ◌+◌, take}
use Rattle.fill_shared.specs.Rounds.{AreAnswered}
use Rattle.fill_shared.proofs.round.edit_all.Given as goal

abbrev pub invariant-loop-k : goal.invariant-loop-k
invariant-loop-k g l = record {
  parts : l.pass.parts ≡ l.fn.pass.parts;
  calls : l.pass.calls ≤ l.fn.pass.calls + l.k;
  answered : AreAnswered g.B.Calls.Opened.terms l.fn.pass (take l.k l.edits) l.pass;
}
