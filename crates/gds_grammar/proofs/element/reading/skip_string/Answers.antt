use Rattle.std.proofs.Common.{sym, ◌∙◌}
use Rattle.std.proofs.lemmas.Result.{err_from_is_err_and}
use Rattle.gds_grammar.specs.Machine.{Unlettered}
use Rattle.gds_grammar.specs.Elements.{has_string}
use Rattle.gds_grammar.proofs.Paths.{string_none, string_read, string_fails, open_unlettered, only_string}
use Rattle.gds_grammar.proofs.element.reading.skip_string.Goals as goal

pub returns-then-not-has_string-clause-found : goal.returns-then-not-has_string-clause-found
returns-then-not-has_string-clause-found c = λ l n sh. string_none (has_string c.args.element) c.args.bytes.now l n sh (sym c.has_string.ensures ∙ c.if-not-has_string.true)

pub returns-in_err-_string-clause-refused : goal.returns-in_err-_string-clause-refused
returns-in_err-_string-clause-refused c =
    let p = err_from_is_err_and c.from_residual.result c.from_residual.ensures.1 in
    rw (p.1, p.2) (λ l n sh. string_fails (has_string c.args.element) c.args.bytes.now l n sh _ (sym c.has_string.ensures ∙ c.if-not-has_string.false)
    (c.in_err-_string.ensures.refused (Unlettered l n sh) (open_unlettered l n sh) (only_string l n sh)))

pub returns-clause-found : goal.returns-clause-found
returns-clause-found c = λ l n sh. string_read (has_string c.args.element) c.args.bytes.now _ _ l n sh (sym c.has_string.ensures ∙ c.if-not-has_string.false) c.in_ok-_string.ensures.found
