use Rattle.std.proofs.Common.{refl, ◌≡◌, ◌∙◌, ap, ap₂, codes, pos}
use Rattle.clap.specs.Words.{App, app_of, new_app, with_rule, with_subcommand}
use Rattle.clap.specs.declared.builder.value_parser.ValueParser.TheVariants.{Signed}
use Rattle.densfill_args.specs.Grammar.{fill_words}
use Rattle.densfill_args.proofs.with_fill.Goals as goal

pub returns : goal.returns
returns c =
    let about : app_of c.about.result ≡ new_app (codes "fill") = rw c.about.ensures c.new-2.ensures.app in
    let workers : c.range-workers.result ≡ Signed (pos 1) (pos 64) = rw (c.value_parser.ensures, c.new.ensures.start, c.new.ensures.end) at c.range-workers.ensures in
    let limit : c.value_parser-limit.result ≡ Signed (pos 0) (pos 4294967295) = c.value_parser-limit.ensures in
    let fill_is : app_of c.in_ok-fill.fill ≡ fill_words = c.in_ok-fill.ensures.shape c.part_option.ensures.local
    ∙ ap₂ with_rule (c.in_ok-arg-6.ensures.shape c.number-2.ensures.local
    ∙ ap₂ with_rule (c.in_ok-arg-5.ensures.shape c.number.ensures.local
    ∙ ap₂ with_rule (c.in_ok-arg-4.ensures.shape c.path-4.ensures.local
    ∙ ap₂ with_rule (c.in_ok-arg-3.ensures.shape c.path-3.ensures.local
    ∙ ap₂ with_rule (c.in_ok-arg-2.ensures.shape c.path-2.ensures.local
    ∙ ap₂ with_rule (c.in_ok-arg.ensures.shape c.path.ensures.local
    ∙ ap₂ with_rule about c.path.ensures.rule) c.path-2.ensures.rule) c.path-3.ensures.rule) c.path-4.ensures.rule) (c.number.ensures.rule (pos 1) (pos 64) workers)) (c.number-2.ensures.rule (pos 0) (pos 4294967295) limit)) c.part_option.ensures.rule in
    c.in_ok-program.ensures.shape
    (c.in_ok-fill.ensures.globals ∙ rw (
      c.in_ok-arg-6.ensures.globals,
      c.in_ok-arg-5.ensures.globals,
      c.in_ok-arg-4.ensures.globals,
      c.in_ok-arg-3.ensures.globals,
      c.in_ok-arg-2.ensures.globals,
      c.in_ok-arg.ensures.globals,
      c.part_option.ensures.local,
      c.number-2.ensures.local,
      c.number.ensures.local,
      c.path-4.ensures.local,
      c.path-3.ensures.local,
      c.path-2.ensures.local,
      c.path.ensures.local,
      c.about.ensures,
      c.new-2.ensures.local,
    ) refl)
    ∙ ap (λ (a : App). with_subcommand (app_of c.args.program) a.top) fill_is
