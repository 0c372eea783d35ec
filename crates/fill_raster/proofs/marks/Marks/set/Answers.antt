use Rattle.std.proofs.Common.{◌≡◌, ap, ◌∙◌, sym, length, ◌||◌, ◌==◌, ℕ, false}
use Rattle.fill_raster.specs.Bits.{has_bit}
use Rattle.fill_raster.proofs.Marking.{count_fits, marks_more, marked_more, marked_same, given_back}
use Rattle.fill_raster.proofs.marks.Marks.set.Goals as goal

pub overflow_add-self : goal.overflow_add-self
overflow_add-self c = count_fits c.self.inside.block c.self.inside.words.items c.self.inside.count c.self.invariant

pub invariant_of-self : goal.invariant_of-self
invariant_of-self c =
    let b = c.self.inside.block in let words = c.self.inside.words.items in let new = c.set_bit.new.words in
    let k = c.index-k.result in
    let same : length new ≡ length words = c.set_bit.ensures.len ∙ ap length c.deref_mut.ensures.value in
    let bits : (n : ℕ) → has_bit new n ≡ has_bit words n || (n == k) = λ n. rw c.deref_mut.ensures.value at (c.set_bit.ensures.bits n) in
    let off : has_bit words k ≡ false = rw c.deref.ensures.value at (sym c.has_bit.ensures ∙ c.if-not-has_bit.true) in
    rw (given_back c.self.inside.words.len words new c.self.inside.words.ok.0 same) (marks_more b words new c.self.inside.count c.args.place.i c.args.place.j k c.self.invariant (rw (← c.self.view_is) at c.requires) c.index-k.ensures.index bits same off)

pub returns-then-not-has_bit-clause-marked : goal.returns-then-not-has_bit-clause-marked
returns-then-not-has_bit-clause-marked c =
    let b = c.self.inside.block in let words = c.self.inside.words.items in let new = c.set_bit.new.words in
    let k = c.index-k.result in
    let same : length new ≡ length words = c.set_bit.ensures.len ∙ ap length c.deref_mut.ensures.value in
    let bits : (n : ℕ) → has_bit new n ≡ has_bit words n || (n == k) = λ n. rw c.deref_mut.ensures.value at (c.set_bit.ensures.bits n) in
    rw (← c.self.view_is, given_back c.self.inside.words.len words new c.self.inside.words.ok.0 same) (marked_more b words new c.args.place.i c.args.place.j k (rw (← c.self.view_is) at c.requires) c.index-k.ensures.index bits)

pub returns-else-not-has_bit-clause-marked : goal.returns-else-not-has_bit-clause-marked
returns-else-not-has_bit-clause-marked c =
    rw (← c.self.view_is) (marked_same c.self.inside.block c.self.inside.words.items c.args.place.i c.args.place.j c.index-k.result (rw (← c.self.view_is) at c.requires) c.index-k.ensures.index
    (rw c.deref.ensures.value at (sym c.has_bit.ensures ∙ c.if-not-has_bit.false)))
