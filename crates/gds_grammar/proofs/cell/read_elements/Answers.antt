use Rattle.std.proofs.Common.{Bool, List, [], ◌++◌, map, refl, sym, ap, subst, ◌∙◌}
use Rattle.std.proofs.lemmas.List.Elements.{filter-append}
use Rattle.std.proofs.lemmas.Result.{err_from_is_err_and}
use Rattle.gds_grammar.specs.Values.{Shape, shape_of}
use Rattle.gds_grammar.specs.Layers.{is_kept, kept_shapes}
use Rattle.gds_grammar.specs.steps.Reading.{Reaches, cell_state, after_elements}
use Rattle.gds_grammar.specs.steps.Keeping.{keeps}
use Rattle.gds_grammar.proofs.Paths.{stays_put, and_then, fails_after}
use Rattle.gds_grammar.proofs.cell.read_elements.Goals as goal

pub elements-init : goal.elements-init
elements-init c = record { shapes = []; kept_are = ap (map shape_of) c.new-elements.ensures.items; none = λ e. refl; reached = λ x n. stays_put _ _ }

pub returns-in_err-ended-clause-refused : goal.returns-in_err-ended-clause-refused
returns-in_err-ended-clause-refused c =
    let p = err_from_is_err_and c.from_residual.result c.from_residual.ensures.1 in
    let w = c.elements.invariant in
    rw (p.1, p.2) (λ l n. fails_after c.args.bytes.now c.elements.rest.now _ (cell_state c.elements.fresh l n w.shapes) _
    (w.reached l n) (c.in_err-ended.ensures.refused l n w.shapes w.none))

pub returns-then-ended-clause-found : goal.returns-then-ended-clause-found
returns-then-ended-clause-found c =
    let w = c.elements.invariant in
    let more = c.in_ok-ended.ensures.found in
    let keep = keeps c.args.wanted in (
      w.shapes ++ more.0,
      more.1 ∙ ap (λ x. x ++ kept_shapes keep more.0) w.kept_are ∙ sym (filter-append (is_kept keep) w.shapes more.0),
      λ l n.
          let here = cell_state c.elements.fresh l n w.shapes in
          and_then c.args.bytes.now c.elements.rest.now c.in_ok-ended.after.now _ here _ (w.reached l n)
          (subst (λ (b : Bool). Reaches c.elements.rest.now here c.in_ok-ended.after.now (after_elements b l n (w.shapes ++ more.0))) c.if-ended.true (more.2 l n w.shapes w.none)),
    )

pub elements-preserved : goal.elements-preserved
elements-preserved c =
    let w = c.elements.invariant in
    let more = c.in_ok-ended.ensures.found in
    let keep = keeps c.args.wanted in
    record {
      shapes = w.shapes ++ more.0;
      kept_are = more.1 ∙ ap (λ x. x ++ kept_shapes keep more.0) w.kept_are ∙ sym (filter-append (is_kept keep) w.shapes more.0);
      none = λ e. absurd cc;
      reached = λ l n.
          let here = cell_state c.elements.fresh l n w.shapes in
          and_then c.args.bytes.now c.elements.rest.now c.in_ok-ended.after.now _ here _ (w.reached l n)
          (subst (λ (b : Bool). Reaches c.elements.rest.now here c.in_ok-ended.after.now (after_elements b l n (w.shapes ++ more.0))) c.if-ended.false (more.2 l n w.shapes w.none));
    }
