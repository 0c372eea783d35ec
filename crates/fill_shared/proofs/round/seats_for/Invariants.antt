-- The passes so far have seats, in their order.
use Rattle.std.proofs.Common.{◌≡◌, ◌+◌, ◌*◌, ◌/◌, ◌<◌, ◌≤◌, ◌++◌, ℕ, length, map, vec_len, slice_index_or}
use Rattle.std.specs.Prelude.{sum_by, vec_capacity}
use Rattle.std.specs.Vec.Iter.{into_iter_items, into_iter_len}
use Rattle.fill_shared.specs.Passes.{calls_of, parts_of}
use Rattle.fill_shared.proofs.round.seats_for.Given as goal

abbrev pub invariant-loop-pass : goal.invariant-loop-pass
invariant-loop-pass g l = record {
  kept : map (λ s. s.pass) l.seats.items ++ into_iter_items l.pass-iterator ≡ l.fn.passes.items;
  parts : sum_by (λ s. s.pass.parts) l.seats.items + parts_of (into_iter_items l.pass-iterator) ≡ parts_of l.fn.passes.items;
  calls : sum_by (λ s. s.pass.calls) l.seats.items + calls_of (into_iter_items l.pass-iterator) ≡ calls_of l.fn.passes.items;
  left : l.worker + into_iter_len l.pass-iterator ≡ vec_len l.fn.passes;
  count : vec_len l.seats ≡ l.worker;
  room : vec_len l.fn.passes ≤ vec_capacity l.seats;
  starts : (k : ℕ) (d : _) → k < length l.seats.items → (slice_index_or l.seats.items k d).from ≡ k * l.fn.tiles / length l.fn.passes.items;
}
