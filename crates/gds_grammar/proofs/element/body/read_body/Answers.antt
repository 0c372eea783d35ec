use Rattle.std.proofs.Common.{◌≡◌, Bool, List, [], ◌∷◌, ◌++◌, map, ap, subst, ◌∙◌}
use Rattle.std.proofs.lemmas.Result.{err_from_is_err_and}
use Rattle.std.proofs.lemmas.List.{map_push}
use Rattle.gds_record.specs.declared.records.Record.{Record}
use Rattle.gds_record.specs.Records.{view}
use Rattle.gds_grammar.specs.Forms.{IsWell}
use Rattle.gds_grammar.specs.Machine.{Body}
use Rattle.gds_grammar.specs.steps.Reading.{Reaches, Fails, after_body}
use Rattle.gds_grammar.proofs.Why.{all_append}
use Rattle.gds_grammar.proofs.Paths.{stays_put, and_then, fails_after}
use Rattle.gds_grammar.proofs.element.body.read_body.Goals as goal

pub body-init : goal.body-init
body-init c = rw c.clear.ensures.items (record { well = tt; reaches = λ x n sh. stays_put _ _ })

pub returns-in_err-last-clause-refused : goal.returns-in_err-last-clause-refused
returns-in_err-last-clause-refused c =
    let p = err_from_is_err_and c.from_residual.result c.from_residual.ensures.1 in
    rw (p.1, p.2) (λ l n sh. fails_after c.args.bytes.now c.body.rest.now _ (Body l n sh c.args.element (map view c.body.before.items)) _ (c.body.invariant.reaches l n sh)
    (subst (λ (rs : List Record). Fails c.body.rest.now (Body l n sh c.args.element (map view rs)) c.in_err-last.field-0.0) c.deref.ensures.value (c.in_err-last.ensures.refused l n sh)))

pub returns-then-last-clause-found : goal.returns-then-last-clause-found
returns-then-last-clause-found c = λ l n sh.
    let found = view c.in_ok-last.found in
    and_then c.args.bytes.now c.body.rest.now c.in_ok-last.after.now _ (Body l n sh c.args.element (map view c.body.before.items)) _ (c.body.invariant.reaches l n sh)
    (subst (λ (b : Bool). Reaches c.body.rest.now (Body l n sh c.args.element (map view c.body.before.items)) c.in_ok-last.after.now (after_body b l n sh c.args.element (map view c.body.before.items) found)) c.if-last.true
    (subst (λ (rs : List Record). Reaches c.body.rest.now (Body l n sh c.args.element (map view rs)) c.in_ok-last.after.now (after_body c.in_ok-last.last l n sh c.args.element (map view rs) found)) c.deref.ensures.value
    (c.in_ok-last.ensures.found l n sh)))

pub body-preserved : goal.body-preserved
body-preserved c =
    let found = view c.in_ok-last.found in
    let before = map view c.body.before.items in
    let pushed : map view c.push.new.self.items ≡ map view c.body.before.items ++ view c.in_ok-last.found ∷ [] = ap (map view) c.in_ok-push.ensures.items ∙ map_push view c.body.before.items c.in_ok-last.found in
    rw pushed (record {
      well = all_append IsWell before (found ∷ []) c.body.invariant.well (c.in_ok-last.ensures.well, tt);
      reaches = λ l n sh.
          and_then c.args.bytes.now c.body.rest.now c.in_ok-last.after.now _ (Body l n sh c.args.element before) _ (c.body.invariant.reaches l n sh)
          (subst (λ (b : Bool). Reaches c.body.rest.now (Body l n sh c.args.element (map view c.body.before.items)) c.in_ok-last.after.now (after_body b l n sh c.args.element (map view c.body.before.items) found)) c.if-last.false
          (subst (λ (rs : List Record). Reaches c.body.rest.now (Body l n sh c.args.element (map view rs)) c.in_ok-last.after.now (after_body c.in_ok-last.last l n sh c.args.element (map view rs) found)) c.deref.ensures.value
          (c.in_ok-last.ensures.found l n sh)));
    })
