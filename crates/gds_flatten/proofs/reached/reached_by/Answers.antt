use Rattle.std.proofs.Common.{map, length, ◌≡◌, ◌⊎◌, subst, sym, ap, ◌∙◌}
use Rattle.std.proofs.lemmas.Result.{err_from_is_err_and}
use Rattle.gds_grammar.specs.Values.{cell_of}
use Rattle.gds_cells.specs.declared.error.FlattenError.TheVariants.{Memory}
use Rattle.gds_cells.specs.Graphs.{IsWhole}
use Rattle.gds_cells.specs.steps.Built.{AreBuilt, IsFaultAmong}
use Rattle.gds_cells.specs.steps.Rows.{rows, state_of}
use Rattle.gds_cells.specs.steps.Surveys.{IsUnsound}
use Rattle.gds_flatten.proofs.Agreeing.{whole}
use Rattle.gds_flatten.proofs.Flattened.{unsound_told, told_surveyed, fault_refused, fault_early, reached_told, arranged_told}
use Rattle.gds_flatten.proofs.Framing.{told_on}
use Rattle.gds_flatten.proofs.reached.reached_by.Goals as goal

pub survey-requires-clause-whole : goal.survey-requires-clause-whole
survey-requires-clause-whole g c =
    subst (λ g. IsWhole g) (sym (ap rows c.deref.ensures.value ∙ c.in_ok-graph.ensures)) (whole (map cell_of c.args.library.now.cells.entries))

pub returns-in_err-found-clause-refused : goal.returns-in_err-found-clause-refused
returns-in_err-found-clause-refused g c =
    let p = err_from_is_err_and c.from_residual-in_err-found.result c.from_residual-in_err-found.ensures.1 in
    let is = ap rows c.deref.ensures.value ∙ c.in_ok-graph.ensures in
    let e = c.in_err-found.field-0.0 in
    let entries = map cell_of c.args.library.now.cells.entries in
    let refused = unsound_told entries c.args.top.now c.args.layers.now c.in_ok-top.top (rows c.deref.result.now) c.in_ok-top.ensures.found.0 c.in_ok-top.ensures.found.1 is e c.in_err-found.ensures.refused in
    rw (p.1, p.2) (
      refused,
      (λ frame. told_on entries c.args.top.now c.args.layers.now e frame
          (λ many. subst (IsUnsound (rows c.deref.result.now) c.in_ok-top.top) many c.in_err-found.ensures.refused)
          (λ far. subst (IsUnsound (rows c.deref.result.now) c.in_ok-top.top) far c.in_err-found.ensures.refused) refused),
    )

pub returns-in_err-built-clause-refused : goal.returns-in_err-built-clause-refused
returns-in_err-built-clause-refused g c =
    let p = err_from_is_err_and c.from_residual-in_err-built.result c.from_residual-in_err-built.ensures.1 in
    let is = ap rows c.deref.ensures.value ∙ c.in_ok-graph.ensures in
    let e = c.in_err-built.field-0.0 in
    let entries = map cell_of c.args.library.now.cells.entries in
    let surveyed = told_surveyed entries c.args.top.now c.in_ok-top.top (rows c.deref.result.now) (state_of c.in_ok-found.found) c.in_ok-top.ensures.found.1 is c.in_ok-found.ensures.surveyed in
    let fault = subst (λ xs. (e ≡ Memory) ⊎ IsFaultAmong entries c.args.layers.now xs e) c.deref-3.ensures.value c.in_err-built.ensures.refused in
    let early = fault_early entries c.args.top.now c.args.layers.now c.in_ok-top.ensures.found.0 (state_of c.in_ok-found.found) surveyed e fault in
    let refused = fault_refused entries c.args.top.now c.args.layers.now c.in_ok-top.ensures.found.0 (state_of c.in_ok-found.found) surveyed e fault in
    rw (p.1, p.2) (refused, (λ frame. told_on entries c.args.top.now c.args.layers.now e frame early.0 early.1 refused))

pub returns-clause-reached : goal.returns-clause-reached
returns-clause-reached g c =
    let is = ap rows c.deref.ensures.value ∙ c.in_ok-graph.ensures in
    let entries = map cell_of c.args.library.now.cells.entries in
    let surveyed = told_surveyed entries c.args.top.now c.in_ok-top.top (rows c.deref.result.now) (state_of c.in_ok-found.found) c.in_ok-top.ensures.found.1 is c.in_ok-found.ensures.surveyed in
    reached_told entries c.args.top.now c.args.layers.now c.in_ok-top.top (state_of c.in_ok-found.found) c.in_ok-built.built.items c.in_ok-top.ensures.found.0 c.in_ok-top.ensures.found.1 surveyed
    (subst (λ xs. AreBuilt entries c.args.layers.now xs (length entries) c.in_ok-built.built.items) c.deref-3.ensures.value c.in_ok-built.ensures.built)

pub returns-clause-arranged : goal.returns-clause-arranged
returns-clause-arranged g c =
    let is = ap rows c.deref.ensures.value ∙ c.in_ok-graph.ensures in
    let entries = map cell_of c.args.library.now.cells.entries in
    let surveyed = told_surveyed entries c.args.top.now c.in_ok-top.top (rows c.deref.result.now) (state_of c.in_ok-found.found) c.in_ok-top.ensures.found.1 is c.in_ok-found.ensures.surveyed in
    arranged_told entries c.args.top.now c.args.layers.now c.in_ok-top.top (state_of c.in_ok-found.found) c.in_ok-built.built.items c.in_ok-top.ensures.found.1 surveyed
    (subst (λ xs. AreBuilt entries c.args.layers.now xs (length entries) c.in_ok-built.built.items) c.deref-3.ensures.value c.in_ok-built.ensures.built)
