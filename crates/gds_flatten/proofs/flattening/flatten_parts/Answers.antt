use Rattle.std.proofs.Common.{map, ◌∙◌}
use Rattle.std.specs.List.{flat_map}
use Rattle.std.specs.Vec.{vec_items}
use Rattle.std.proofs.lemmas.Result.{err_from_is_err_and, IfOk-weaker, IfErr-weaker}
use Rattle.gds_grammar.specs.Values.{cell_of}
use Rattle.gds_flatten.proofs.Flattened.{all_inside, all_drawn, range_refused, countable_told, many_told}
use Rattle.gds_flatten.proofs.flattening.flatten_parts.Goals as goal

pub returns-in_err-design-clause-refused : goal.returns-in_err-design-clause-refused
returns-in_err-design-clause-refused g c =
    let p = err_from_is_err_and c.from_residual-in_err-design.result c.from_residual-in_err-design.ensures.1 in
    rw (p.1, p.2) (many_told (map cell_of c.args.library.now.cells.entries) c.args.top.now c.args.layers.now c.in_ok-reached.reached.top c.in_ok-reached.reached.cells.items _ c.in_ok-reached.ensures.reached
    (c.in_ok-counted.ensures.same ∙ c.in_ok-reached.ensures.reached.same) c.in_err-design.field-0.0 c.in_err-design.ensures.refused)

pub returns-clause-fine : goal.returns-clause-fine
returns-clause-fine g c = IfOk-weaker c.parts.result _ _ (λ v drawn.
    countable_told (map cell_of c.args.library.now.cells.entries) c.args.top.now c.args.layers.now c.in_ok-reached.reached.top c.in_ok-reached.reached.cells.items _ c.in_ok-design.design.number c.in_ok-reached.ensures.reached
    c.in_ok-design.design.all (c.in_ok-design.ensures.same ∙ c.in_ok-counted.ensures.same ∙ c.in_ok-reached.ensures.reached.same) c.in_ok-design.design.few) c.parts.ensures.drawn

pub returns-clause-inside : goal.returns-clause-inside
returns-clause-inside g c = IfOk-weaker c.parts.result _ _ (λ v drawn.
    all_inside (map cell_of c.args.library.now.cells.entries) c.args.top.now c.args.layers.now _ (c.in_ok-design.ensures.same ∙ c.in_ok-counted.ensures.same ∙ c.in_ok-reached.ensures.reached.same) (flat_map vec_items v.items) drawn) c.parts.ensures.drawn

pub returns-clause-squares : goal.returns-clause-squares
returns-clause-squares g c = IfOk-weaker c.parts.result _ _ (λ v drawn.
    all_drawn (map cell_of c.args.library.now.cells.entries) c.args.top.now c.args.layers.now _ (c.in_ok-design.ensures.same ∙ c.in_ok-counted.ensures.same ∙ c.in_ok-reached.ensures.reached.same) (flat_map vec_items v.items) drawn) c.parts.ensures.drawn

pub returns-clause-refused : goal.returns-clause-refused
returns-clause-refused g c = IfErr-weaker c.parts.result _ _ (λ e why.
    range_refused (map cell_of c.args.library.now.cells.entries) c.args.top.now c.args.layers.now _ (c.in_ok-design.ensures.same ∙ c.in_ok-counted.ensures.same ∙ c.in_ok-reached.ensures.reached.same)
    (countable_told (map cell_of c.args.library.now.cells.entries) c.args.top.now c.args.layers.now c.in_ok-reached.reached.top c.in_ok-reached.reached.cells.items _ c.in_ok-design.design.number c.in_ok-reached.ensures.reached
    c.in_ok-design.design.all (c.in_ok-design.ensures.same ∙ c.in_ok-counted.ensures.same ∙ c.in_ok-reached.ensures.reached.same) c.in_ok-design.design.few) e why) c.parts.ensures.refused
