use Rattle.std.proofs.Common.{◌≡◌, List, ◌++◌, map, ap, ◌∙◌}
use Rattle.std.proofs.lemmas.Result.{err_from_is_err_and}
use Rattle.gds_record.specs.declared.records.Record.{Record}
use Rattle.gds_record.specs.Records.{view}
use Rattle.gds_grammar.specs.Elements.{has_string, shapes_in}
use Rattle.gds_grammar.specs.Machine.{Tail, Within, behind_xy}
use Rattle.gds_grammar.specs.steps.Reading.{shapes_of}
use Rattle.gds_grammar.specs.Layers.{kept_shapes}
use Rattle.gds_grammar.specs.steps.Keeping.{keeps}
use Rattle.gds_grammar.proofs.Paths.{and_then, fails_after}
use Rattle.gds_grammar.proofs.element.reading.read_element.Goals as goal

pub returns-in_err-tail-clause-refused : goal.returns-in_err-tail-clause-refused
returns-in_err-tail-clause-refused c =
    let p = err_from_is_err_and c.from_residual-in_err-tail.result c.from_residual-in_err-tail.ensures.1 in
    rw (p.1, p.2) (λ l n sh.
    let made = shapes_in c.args.element (map view c.read_body.new.before.items) c.in_ok-body.body.xy.now in
    fails_after c.args.bytes.now c.in_ok-body.body.rest.now _ (behind_xy (has_string c.args.element) l n (sh ++ made)) _ (c.in_ok-body.ensures.found l n sh) (c.in_err-tail.ensures.refused l n (sh ++ made)))

pub returns-in_err-rest-clause-refused : goal.returns-in_err-rest-clause-refused
returns-in_err-rest-clause-refused c =
    let p = err_from_is_err_and c.from_residual-in_err-rest.result c.from_residual-in_err-rest.ensures.1 in
    rw (p.1, p.2) (λ l n sh.
    let made = shapes_in c.args.element (map view c.read_body.new.before.items) c.in_ok-body.body.xy.now in
    let front = and_then c.args.bytes.now c.in_ok-body.body.rest.now c.in_ok-tail.tail.now _ (behind_xy (has_string c.args.element) l n (sh ++ made)) (Tail l n (sh ++ made)) (c.in_ok-body.ensures.found l n sh) (c.in_ok-tail.ensures.found l n (sh ++ made)) in
    fails_after c.args.bytes.now c.in_ok-tail.tail.now _ (Tail l n (sh ++ made)) _ front (c.in_err-rest.ensures.refused l n (sh ++ made)))

pub returns-clause-found : goal.returns-clause-found
returns-clause-found c =
    let made = shapes_in c.args.element (map view c.read_body.new.before.items) c.in_ok-body.body.xy.now in
    let same : shapes_of c.in_ok-made.made ≡ kept_shapes (keeps c.args.wanted) made =
    c.in_ok-made.ensures ∙ ap (λ (rs : List Record). kept_shapes (keeps c.args.wanted) (shapes_in c.args.element (map view rs) c.in_ok-body.body.xy.now)) c.deref.ensures.value in (
      made,
      same,
      λ l n sh.
          let front = and_then c.args.bytes.now c.in_ok-body.body.rest.now c.in_ok-tail.tail.now _ (behind_xy (has_string c.args.element) l n (sh ++ made)) (Tail l n (sh ++ made)) (c.in_ok-body.ensures.found l n sh) (c.in_ok-tail.ensures.found l n (sh ++ made)) in
          and_then c.args.bytes.now c.in_ok-tail.tail.now c.in_ok-rest.rest.now _ (Tail l n (sh ++ made)) (Within l n (sh ++ made)) front (c.in_ok-rest.ensures.found l n (sh ++ made)),
    )
