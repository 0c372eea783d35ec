use Rattle.std.proofs.Common.{◌≡◌, ◌*◌, ◌∷◌, [], length, arith, ap, sym, subst, ◌∙◌, append_assoc}
use Rattle.std.specs.Vec.Iter.{into_iter_items}
use Rattle.std.proofs.lemmas.List.{length_push}
use Rattle.std.proofs.lemmas.Result.{err_from_is_err_and}
use Rattle.gds_cells.proofs.Chunking.{AreJoined, next_joined, chunk_refused, all_joined, all_came}
use Rattle.gds_cells.proofs.elements.joined.Goals as goal

pub returns-in_err-chunk-clause-refused : goal.returns-in_err-chunk-clause-refused
returns-in_err-chunk-clause-refused c =
    let p = err_from_is_err_and c.from_residual-in_err-chunk.result c.from_residual-in_err-chunk.ensures.1 in
    let at = c.loop-chunk in
    let x = c.in-Some.chunk in
    let steps : into_iter_items at.chunk-iterator ≡ x ∷ into_iter_items c.next.new.self = c.in-Some.ensures.steps.0 in
    let parts = rw steps at at.invariant.parts in
    rw (p.1, p.2) (λ entries layers size elements are.
    chunk_refused entries layers size elements c.args.chunks.items are at.yielded _ x parts c.in_err-chunk.field-0.0 c.in_err-chunk.was (at.invariant.joined entries layers size elements are).fine)

pub loop-chunk-preserved : goal.loop-chunk-preserved
loop-chunk-preserved c =
    let at = c.loop-chunk in
    let x = c.in-Some.chunk in
    let steps : into_iter_items at.chunk-iterator ≡ x ∷ into_iter_items c.next.new.self = c.in-Some.ensures.steps.0 in
    let parts = rw steps at at.invariant.parts in
    record {
      parts = append_assoc at.yielded (x ∷ []) _ ∙ parts;
      left = let was = at.invariant.left in let gone = c.in-Some.ensures.steps.1 in let short = ap length steps in omega (arith, was, gone, short);
      joined = λ entries layers size elements are.
          subst (λ n. AreJoined entries layers (n * size) elements c.push.new.self.items c.append.new.self.items) (sym (length_push at.yielded x))
          (next_joined entries layers size elements c.args.chunks.items are at.yielded _ x parts c.in_ok-chunk.chunk at.shapes.items c.push.new.self.items
          at.links.items c.append.new.self.items c.in_ok-chunk.was (at.invariant.joined entries layers size elements are) c.in_ok-push.ensures.items c.in_ok-append.ensures.items);
    }

pub returns-clause-built : goal.returns-clause-built
returns-clause-built c = λ entries layers size elements are.
    let at = c.loop-chunk in
    let came = all_came at.yielded _ c.args.chunks.items _ at.invariant.parts at.invariant.left c.in-None.ensures.steps.0 in
    (all_joined entries layers size elements c.args.chunks.items are at.yielded at.shapes.items at.links.items came (at.invariant.joined entries layers size elements are)).0

pub returns-clause-fine : goal.returns-clause-fine
returns-clause-fine c = λ entries layers size elements are.
    let at = c.loop-chunk in
    let came = all_came at.yielded _ c.args.chunks.items _ at.invariant.parts at.invariant.left c.in-None.ensures.steps.0 in
    (all_joined entries layers size elements c.args.chunks.items are at.yielded at.shapes.items at.links.items came (at.invariant.joined entries layers size elements are)).1
