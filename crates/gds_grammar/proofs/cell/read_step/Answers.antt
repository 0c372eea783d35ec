use Rattle.std.proofs.Common.{List, [], ◌++◌, map, sym, ap, subst, ◌∙◌, arith}
use Rattle.std.proofs.lemmas.Result.{err_from_is_err_and}
use Rattle.std.proofs.lemmas.List.{append-nil}
use Rattle.gds_grammar.specs.declared.cell.CellStep.{CellStep}
use Rattle.gds_grammar.specs.Values.{Shape, Contents, shape_of}
use Rattle.gds_grammar.specs.Machine.{Between, Body, Within, with_cell}
use Rattle.gds_grammar.specs.steps.Reading.{Reaches, cell_state, after_step}
use Rattle.gds_grammar.proofs.Paths.{and_then, fails_after, no_longer}
use Rattle.gds_grammar.proofs.cell.read_step.Goals as goal

no_contents : Contents
no_contents = record { dates = []; units = []; cells = [] }

pub returns-in_err-step-clause-refused : goal.returns-in_err-step-clause-refused
returns-in_err-step-clause-refused c =
    let p = err_from_is_err_and c.from_residual.result c.from_residual.ensures.1 in
    rw (p.1, p.2) (λ l n sh none. c.in_err-step.ensures.refused l n sh none)

pub returns-in_err-made-in-Opens-clause-refused : goal.returns-in_err-made-in-Opens-clause-refused
returns-in_err-made-in-Opens-clause-refused c =
    let p = err_from_is_err_and c.from_residual-in_err-made-in-Opens.result c.from_residual-in_err-made-in-Opens.ensures.1 in
    rw (p.1, p.2) (λ l n sh none.
    let here = cell_state c.args.fresh l n sh in
    let front = subst (λ (s : CellStep). Reaches c.args.bytes.now here c.in_ok-step.after.now (after_step s l n sh)) c.in-Opens.is (c.in_ok-step.ensures.found l n sh none) in
    fails_after c.args.bytes.now c.in_ok-step.after.now here (Body l n sh c.in-Opens.element []) _ front (c.in_err-made-in-Opens.ensures.refused l n sh))

pub returns-in_ok-put-in-Opens-clause-shorter : goal.returns-in_ok-put-in-Opens-clause-shorter
returns-in_ok-put-in-Opens-clause-shorter c =
    omega (arith, c.in_ok-step.ensures.shorter, no_longer c.in_ok-step.after.now c.in_ok-made-in-Opens.rest.now _ _ (c.in_ok-made-in-Opens.ensures.found.2 no_contents [] []))

pub returns-in-Class-clause-found : goal.returns-in-Class-clause-found
returns-in-Class-clause-found c = (
  [],
  sym (append-nil _),
  λ l n sh none.
      let here = cell_state c.args.fresh l n sh in
      let front = subst (λ (s : CellStep). Reaches c.args.bytes.now here c.in_ok-step.after.now (after_step s l n sh)) c.in-Class.is (c.in_ok-step.ensures.found l n sh none) in
      subst (λ (x : List Shape). Reaches c.args.bytes.now here c.in_ok-step.after.now (Within l n x)) (sym (append-nil sh)) front,
)

pub returns-in-Ends-clause-found : goal.returns-in-Ends-clause-found
returns-in-Ends-clause-found c = (
  [],
  sym (append-nil _),
  λ l n sh none.
      let here = cell_state c.args.fresh l n sh in
      let front = subst (λ (s : CellStep). Reaches c.args.bytes.now here c.in_ok-step.after.now (after_step s l n sh)) c.in-Ends.is (c.in_ok-step.ensures.found l n sh none) in
      subst (λ (x : List Shape). Reaches c.args.bytes.now here c.in_ok-step.after.now (Between (with_cell l n x))) (sym (append-nil sh)) front,
)

pub returns-in_ok-put-in-Opens-clause-found : goal.returns-in_ok-put-in-Opens-clause-found
returns-in_ok-put-in-Opens-clause-found c =
    let made = c.in_ok-made-in-Opens.ensures.found in (
      made.0,
      c.in_ok-put-in-Opens.ensures ∙ ap (λ x. map shape_of c.args.elements.now.items ++ x) made.1,
      λ l n sh none.
          let here = cell_state c.args.fresh l n sh in
          let front = subst (λ (s : CellStep). Reaches c.args.bytes.now here c.in_ok-step.after.now (after_step s l n sh)) c.in-Opens.is (c.in_ok-step.ensures.found l n sh none) in
          and_then c.args.bytes.now c.in_ok-step.after.now c.in_ok-made-in-Opens.rest.now here (Body l n sh c.in-Opens.element []) (Within l n (sh ++ made.0)) front (made.2 l n sh),
    )
