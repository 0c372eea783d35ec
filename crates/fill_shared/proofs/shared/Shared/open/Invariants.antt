-- A pass of one part is cut off in each turn.
use Rattle.std.proofs.Common.{◌≡◌, ◌+◌, ◌-◌, ◌≤◌, replicate, vec_len}
use Rattle.std.specs.Prelude.{vec_capacity}
use Rattle.fill_core.specs.Shares.{nothing_with}
use Rattle.fill_shared.proofs.shared.Shared.open.Given as goal

abbrev pub invariant-loop : goal.invariant-loop
invariant-loop g l = record {
  cut : l.passes.items ≡ replicate (l.counter - 1) (nothing_with 1);
  count : vec_len l.passes + 1 ≡ l.counter;
  room : l.callers ≤ vec_capacity l.passes;
  left : l.pass ≡ record l.fn.pass { parts = 1025 - l.counter };
}
