use Rattle.std.proofs.Common.{◌≡◌, ap, ◌∙◌, sym, length, not, ◌&&◌, ◌==◌, ℕ, true}
use Rattle.fill_raster.specs.Bits.{has_bit}
use Rattle.fill_raster.proofs.Clearing.{marks_less, marked_less, marked_still}
use Rattle.fill_raster.proofs.Marking.{given_back}
use Rattle.fill_raster.proofs.marks.Marks.clear.Goals as goal

pub overflow_sub-self : goal.overflow_sub-self
overflow_sub-self c =
    let b = c.self.inside.block in let words = c.self.inside.words.items in let new = c.clear_bit.new.words in
    let k = c.index-k.result in
    let same : length new ≡ length words = c.clear_bit.ensures.len ∙ ap length c.deref_mut.ensures.value in
    let bits : (n : ℕ) → has_bit new n ≡ has_bit words n && not (n == k) = λ n. rw c.deref_mut.ensures.value at (c.clear_bit.ensures.bits n) in
    let on : has_bit words k ≡ true = rw c.deref.ensures.value at (sym c.has_bit.ensures ∙ c.if-has_bit.true) in
    (marks_less b words new c.self.inside.count c.args.place.i c.args.place.j k c.self.invariant (rw (← c.self.view_is) at c.requires) c.index-k.ensures.index bits same on).0

pub invariant_of-self : goal.invariant_of-self
invariant_of-self c =
    let b = c.self.inside.block in let words = c.self.inside.words.items in let new = c.clear_bit.new.words in
    let k = c.index-k.result in
    let same : length new ≡ length words = c.clear_bit.ensures.len ∙ ap length c.deref_mut.ensures.value in
    let bits : (n : ℕ) → has_bit new n ≡ has_bit words n && not (n == k) = λ n. rw c.deref_mut.ensures.value at (c.clear_bit.ensures.bits n) in
    let on : has_bit words k ≡ true = rw c.deref.ensures.value at (sym c.has_bit.ensures ∙ c.if-has_bit.true) in
    rw (given_back c.self.inside.words.len words new c.self.inside.words.ok.0 same)
    (marks_less b words new c.self.inside.count c.args.place.i c.args.place.j k c.self.invariant (rw (← c.self.view_is) at c.requires) c.index-k.ensures.index bits same on).1

pub returns-then-has_bit-clause-marked : goal.returns-then-has_bit-clause-marked
returns-then-has_bit-clause-marked c =
    let b = c.self.inside.block in let words = c.self.inside.words.items in let new = c.clear_bit.new.words in
    let k = c.index-k.result in
    let same : length new ≡ length words = c.clear_bit.ensures.len ∙ ap length c.deref_mut.ensures.value in
    let bits : (n : ℕ) → has_bit new n ≡ has_bit words n && not (n == k) = λ n. rw c.deref_mut.ensures.value at (c.clear_bit.ensures.bits n) in
    let on : has_bit words k ≡ true = rw c.deref.ensures.value at (sym c.has_bit.ensures ∙ c.if-has_bit.true) in
    rw (← c.self.view_is, given_back c.self.inside.words.len words new c.self.inside.words.ok.0 same) (marked_less b words new c.args.place.i c.args.place.j k (rw (← c.self.view_is) at c.requires) c.index-k.ensures.index bits on)

pub returns-else-has_bit-clause-marked : goal.returns-else-has_bit-clause-marked
returns-else-has_bit-clause-marked c =
    rw (← c.self.view_is) (marked_still c.self.inside.block c.self.inside.words.items c.args.place.i c.args.place.j c.index-k.result (rw (← c.self.view_is) at c.requires) c.index-k.ensures.index
    (rw c.deref.ensures.value at (sym c.has_bit.ensures ∙ c.if-has_bit.false)))
