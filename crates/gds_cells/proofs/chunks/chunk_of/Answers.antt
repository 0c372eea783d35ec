use Rattle.std.proofs.Common.{◌≡◌, ℕ, ◌+◌, ◌<◌, ◌≤◌, List, map, length, vec_len, take, drop, arith, subst, ◌∙◌}
use Rattle.std.proofs.lemmas.Grind.{common_steps}
use Rattle.gds_grammar.specs.declared.element.Element.{Element}
use Rattle.gds_grammar.specs.Values.{shape_of}
use Rattle.gds_cells.specs.steps.Built.{Leads, IsChunk}
use Rattle.std.proofs.lemmas.Result.{err_from_is_err_and}
use Rattle.gds_cells.proofs.Shaping.{many, said_at}
use Rattle.gds_cells.proofs.Building.{fine_more, all_fine, faulty_here, chunk_more}
use Rattle.gds_cells.proofs.chunks.chunk_of.Goals as goal

within : (es : List Element) (k : ℕ) → k < length es → k < length (map shape_of es)
within es k h = omega (arith, h, many es)

ended : (es : List Element) (k : ℕ) → length es ≤ k → k < length (map shape_of es) → ⊥
ended es k h lt = absurd (omega (arith, h, lt, many es))

pub returns-in_err-add_element-clause-refused : goal.returns-in_err-add_element-clause-refused
returns-in_err-add_element-clause-refused c =
    let said = map shape_of c.args.elements.now in
    let p = err_from_is_err_and c.from_residual.result c.from_residual.ensures.1 in
    rw (p.1, p.2) (faulty_here c.args.layers.now said c.elements.element-index (shape_of c.element-item.result) c.in_err-add_element.field-0.0
    (within c.args.elements.now c.elements.element-index c.elements-test.true) (said_at c.args.elements.now c.elements.element-index c.element-item.result c.elements-test.true c.element-item.is) c.elements.invariant.fine c.in_err-add_element.ensures.refused)

pub elements-preserved : goal.elements-preserved
elements-preserved c =
    let said = map shape_of c.args.elements.now in
    let added = c.in_ok-add_element.ensures.added in
    let listed : vec_len c.elements.chunk.links ≡ length c.elements.chunk.links.items = grind (arith, common_steps) in
    record {
      empty = c.in_ok-add_element.ensures.empty;
      fine = fine_more c.args.layers.now said c.elements.element-index (shape_of c.element-item.result) (within c.args.elements.now c.elements.element-index c.elements-test.true) (said_at c.args.elements.now c.elements.element-index c.element-item.result c.elements-test.true c.element-item.is)
          c.elements.invariant.fine added.fine;
      built = λ entries leads. chunk_more c.args.layers.now entries said c.elements.element-index (shape_of c.element-item.result)
          c.target_of-index.result c.elements.chunk c.add_element.new.chunk (within c.args.elements.now c.elements.element-index c.elements-test.true) (said_at c.args.elements.now c.elements.element-index c.element-item.result c.elements-test.true c.element-item.is)
          (λ split before. c.target_of-index.ensures entries (take c.elements.element-index said) (drop (c.elements.element-index + 1) said)
          (subst (Leads c.args.to entries) split leads) (c.len.ensures ∙ listed ∙ before))
          (c.elements.invariant.built entries leads) added;
    }

pub returns-clause-fine : goal.returns-clause-fine
returns-clause-fine c = all_fine c.args.layers.now (map shape_of c.args.elements.now) c.elements.element-index (ended c.args.elements.now c.elements.element-index c.elements-test.false) c.elements.invariant.fine

pub returns-clause-built : goal.returns-clause-built
returns-clause-built c = λ entries leads.
    let said = map shape_of c.args.elements.now in
    let past = ended c.args.elements.now c.elements.element-index c.elements-test.false in
    let whole : take c.elements.element-index said ≡ said = grind (arith, common_steps, past) in
    subst (λ xs. IsChunk entries c.args.layers.now xs c.elements.chunk) whole (c.elements.invariant.built entries leads)
