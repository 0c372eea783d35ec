use Rattle.std.proofs.Common.{◌∙◌, ap, Some}
use Rattle.clap.specs.Words.{Rule, new_rule, rule_of}
use Rattle.clap.specs.declared.builder.arg.Arg.{Arg}
use Rattle.densfill_args.proofs.number.Goals as goal

pub returns-clause-rule : goal.returns-clause-rule
returns-clause-rule c = λ least most is.
    let vp = c.value_parser.result.value_parser in
    ap rule_of c.value_parser.ensures.others
    ∙ (ap (λ (a : Arg). rule_of (record a { value_parser = vp })) c.help.ensures
    ∙ (ap (λ (a : Arg). rule_of (record a { value_parser = vp })) c.value_name.ensures
    ∙ (ap (λ (a : Arg). record (rule_of a) { value_names = 1; parser = vp }) c.long.ensures
    ∙ (ap (λ (r : Rule). record r { long = Some c.args.name.now; value_names = 1; parser = vp }) c.new.ensures.rule
    ∙ ap (λ p. record (new_rule c.args.name.now) { long = Some c.args.name.now; value_names = 1; parser = p }) (c.value_parser.ensures.given.1 ∙ ap Some (c.value_parser.ensures.given.2 ∙ is))))))

pub returns-clause-local : goal.returns-clause-local
returns-clause-local c =
    ap (λ (a : Arg). a.global) c.value_parser.ensures.others
    ∙ (ap (λ (a : Arg). a.global) c.help.ensures ∙ (ap (λ (a : Arg). a.global) c.value_name.ensures ∙ (ap (λ (a : Arg). a.global) c.long.ensures ∙ c.new.ensures.optional.1)))
