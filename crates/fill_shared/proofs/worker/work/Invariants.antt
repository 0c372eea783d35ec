-- Each turn so far was answered.
use Rattle.std.proofs.Common.{◌≡◌, ◌+◌}
use Rattle.fill_shared.specs.Working.{AreTurns}
use Rattle.fill_shared.proofs.worker.work.Given as goal

abbrev pub invariant-loop : goal.invariant-loop
invariant-loop g l = record {
  parts : l.pass.parts ≡ l.fn.pass.parts;
  calls : l.pass.calls ≡ l.fn.pass.calls + l.counter;
  answered : AreTurns g.B.Calls.Opened.terms l.counter l.fn.from l.fn.pass l.next l.pass;
}
