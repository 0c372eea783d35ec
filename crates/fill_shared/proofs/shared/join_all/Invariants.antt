-- What is joined and what is left come to what all had.
use Rattle.std.proofs.Common.{◌≡◌, ◌+◌, vec_len}
use Rattle.std.specs.Prelude.{sum_by}
use Rattle.fill_shared.specs.Passes.{calls_of, parts_of}
use Rattle.fill_shared.proofs.shared.join_all.Given as goal

abbrev pub invariant-loop-other : goal.invariant-loop-other
invariant-loop-other g l = record {
  same : g.B.FillBook.account l.book ≡ g.B.FillBook.account l.initial.book;
  parts : l.pass.parts + parts_of l.others.items ≡ l.fn.pass.parts + parts_of l.fn.others.items;
  calls : l.pass.calls + calls_of l.others.items ≡ l.fn.pass.calls + calls_of l.fn.others.items;
  placed : l.pass.placed + sum_by (λ p. p.placed) l.others.items ≡ l.fn.pass.placed + sum_by (λ p. p.placed) l.fn.others.items;
  withdrawn : l.pass.withdrawn + sum_by (λ p. p.withdrawn) l.others.items ≡ l.fn.pass.withdrawn + sum_by (λ p. p.withdrawn) l.fn.others.items;
}

abbrev pub decreases-loop-other : goal.decreases-loop-other
decreases-loop-other g l = vec_len l.others
