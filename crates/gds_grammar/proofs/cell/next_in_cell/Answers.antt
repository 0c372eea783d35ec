use Rattle.std.proofs.Common.{refl}
use Rattle.std.proofs.lemmas.Result.{err_from_is_err_and}
use Rattle.gds_record.specs.Records.{view}
use Rattle.gds_grammar.specs.steps.Reading.{cell_state}
use Rattle.gds_grammar.proofs.Paths.{takes_one, refused_one, open_cell}
use Rattle.gds_grammar.proofs.cell.next_in_cell.Goals as goal

pub returns-in_err-found-clause-refused : goal.returns-in_err-found-clause-refused
returns-in_err-found-clause-refused c =
    let p = err_from_is_err_and c.from_residual.result c.from_residual.ensures.1 in
    rw (p.1, p.2) (λ l n sh none. c.in_err-found.ensures.refused (cell_state c.args.fresh l n sh) (open_cell c.args.fresh l n sh))

pub returns-in-Ok-clause-found : goal.returns-in-Ok-clause-found
returns-in-Ok-clause-found c = λ l n sh none. takes_one _ _ (view c.in_ok-found.found) _ _ c.in_ok-found.ensures.found (c.in-Ok.ensures l n sh none)

pub returns-in-Err-clause-refused : goal.returns-in-Err-clause-refused
returns-in-Err-clause-refused c = λ l n sh none.
    rw c.refused.ensures (refused_one c.args.bytes.now _ (view c.in_ok-found.found) (cell_state c.args.fresh l n sh) c.in-Err.refusal _ c.in_ok-found.ensures.found (open_cell c.args.fresh l n sh) refl (c.in-Err.ensures l n sh none))
