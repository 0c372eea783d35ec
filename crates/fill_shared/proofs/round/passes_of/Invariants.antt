-- The passes so far are taken back, and no worker so far met want of memory.
use Rattle.std.proofs.Common.{◌≡◌, ◌+◌, ◌≤◌, ◌++◌, map, vec_len}
use Rattle.std.specs.Prelude.{◌≢◌, vec_capacity}
use Rattle.std.specs.List.{All}
use Rattle.std.specs.Vec.Iter.{into_iter_items, into_iter_len}
use Rattle.fill_shared.specs.declared.worker.WorkEnd.TheVariants.{Memory}
use Rattle.fill_shared.proofs.round.passes_of.Given as goal

abbrev pub invariant-loop-pass : goal.invariant-loop-pass
invariant-loop-pass g l = record {
  kept : l.passes.items ++ map (λ w. w.pass) (into_iter_items l.pass-iterator) ≡ map (λ w. w.pass) l.fn.all.items;
  ended : All (λ w. w.end ≢ Memory) (into_iter_items l.pass-iterator) → All (λ w. w.end ≢ Memory) l.fn.all.items;
  room : vec_len l.passes + into_iter_len l.pass-iterator ≤ vec_capacity l.passes;
}
