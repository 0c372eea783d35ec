use Rattle.std.proofs.Common.{lit<}
use Rattle.std.proofs.lemmas.Result.{err_from_is_err_and}
use Rattle.gds_grammar.specs.Machine.{Start, Headed, Dated}
use Rattle.gds_grammar.proofs.Paths.{and_then, fails_after, open_start, open_headed, only_header, only_bgnlib, reach_headed, reach_dated, dates_size}
use Rattle.gds_grammar.proofs.head.read_head.Goals as goal

pub returns-in_err-_header-clause-refused : goal.returns-in_err-_header-clause-refused
returns-in_err-_header-clause-refused c =
    let p = err_from_is_err_and c.from_residual.result c.from_residual.ensures.1 in
    rw (p.1, p.2) (c.in_err-_header.ensures.refused Start open_start only_header)

pub returns-in_err-dates-clause-refused : goal.returns-in_err-dates-clause-refused
returns-in_err-dates-clause-refused c =
    let p = err_from_is_err_and c.from_residual-in_err-dates.result c.from_residual-in_err-dates.ensures.1 in
    rw (p.1, p.2) (fails_after c.args.bytes.now _ Start Headed _ (reach_headed _ _ _ c.in_ok-_header.ensures.found) (c.in_err-dates.ensures.refused Headed open_headed only_bgnlib))

pub returns-in_err-units-clause-refused : goal.returns-in_err-units-clause-refused
returns-in_err-units-clause-refused c =
    let p = err_from_is_err_and c.from_residual-in_err-units.result c.from_residual-in_err-units.ensures.1 in
    let front = and_then c.args.bytes.now _ _ Start Headed (Dated c.in_ok-dates.dates.now) (reach_headed _ _ _ c.in_ok-_header.ensures.found) (reach_dated _ _ _ c.in_ok-dates.ensures.found) in
    rw (p.1, p.2) (fails_after c.args.bytes.now _ Start _ _ front (c.in_err-units.ensures.refused c.in_ok-dates.dates.now))

pub array_of-requires : goal.array_of-requires
array_of-requires c = (lit< tt, dates_size _ _ _ c.in_ok-dates.ensures.found)

pub returns-clause-found : goal.returns-clause-found
returns-clause-found c =
    let front = and_then c.args.bytes.now _ _ Start Headed (Dated c.in_ok-dates.dates.now) (reach_headed _ _ _ c.in_ok-_header.ensures.found) (reach_dated _ _ _ c.in_ok-dates.ensures.found) in
    let whole = and_then c.args.bytes.now _ _ Start (Dated c.in_ok-dates.dates.now) _ front (c.in_ok-units.ensures.found c.in_ok-dates.dates.now) in
    rw (c.array_of.ensures, c.array_of-2.ensures) whole
