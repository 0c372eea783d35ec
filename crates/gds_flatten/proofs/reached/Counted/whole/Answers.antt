use Rattle.std.proofs.Common.{◌≡◌, ◌∙◌, ◌++◌, inr, [], ◌∷◌, length, refl, sym, ap, arith}
use Rattle.gds_cells.specs.Graphs.{item}
use Rattle.gds_cells.specs.steps.Walks.{top_copies}
use Rattle.gds_cells.proofs.Capping.{count_of}
use Rattle.gds_flatten.specs.steps.Roots.{turns_copies, roots_copies}
use Rattle.gds_flatten.proofs.Chained.{nothing_more}
use Rattle.gds_flatten.proofs.Flattened.{many_copies, few_copies}
use Rattle.gds_flatten.proofs.reached.Counted.whole.Goals as goal

pub returns-then-number-ge-TOO_MANY-clause-refused : goal.returns-then-number-ge-TOO_MANY-clause-refused
returns-then-number-ge-TOO_MANY-clause-refused c =
    let d = c.args.self in
    inr (
      refl,
      many_copies (length (top_copies d.cells.items d.top)) (item d.counts.items d.top) c.number_at-number.result (count_of d.cells.items d.counts.items 256 d.top c.requires)
          (c.number_at-number.ensures ∙ ap (λ xs. item xs d.top) c.deref.ensures.value) c.if-number-ge-TOO_MANY.true,
    )

pub invariant_of-result : goal.invariant_of-result
invariant_of-result c =
    let d = c.args.self in
    let few = c.if-number-ge-TOO_MANY.false in
    let same : roots_copies d.cells.items c.push.new.self.items ≡ top_copies d.cells.items d.top =
    ap (roots_copies d.cells.items) (c.in_ok-push.ensures.items ∙ ap (λ xs. xs ++ c.top_turns.result ∷ []) c.new-roots.ensures.items)
    ∙ nothing_more (turns_copies d.cells.items c.top_turns.result) ∙ c.top_turns.ensures.copies d.cells.items in
    record {
      all = few_copies (length (top_copies d.cells.items d.top)) (item d.counts.items d.top) c.number_at-number.result (count_of d.cells.items d.counts.items 256 d.top c.requires)
          (c.number_at-number.ensures ∙ ap (λ xs. item xs d.top) c.deref.ensures.value) few ∙ ap length (sym same);
      few = omega (arith, few);
    }
