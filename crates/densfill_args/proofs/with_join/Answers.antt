use Rattle.std.proofs.Common.{refl, ◌≡◌, ◌∙◌, ap, ap₂, codes}
use Rattle.clap.specs.Words.{App, app_of, new_app, with_rule, with_subcommand}
use Rattle.densfill_args.specs.Grammar.{join_words}
use Rattle.densfill_args.proofs.with_join.Goals as goal

pub returns : goal.returns
returns c =
    let about : app_of c.about.result ≡ new_app (codes "join") = rw c.about.ensures c.new.ensures.app in
    let join_is : app_of c.in_ok-join.join ≡ join_words = c.in_ok-join.ensures.shape c.part_paths.ensures.local
    ∙ ap₂ with_rule (c.in_ok-arg-2.ensures.shape c.path-2.ensures.local
    ∙ ap₂ with_rule (c.in_ok-arg.ensures.shape c.path.ensures.local
    ∙ ap₂ with_rule about c.path.ensures.rule) c.path-2.ensures.rule) c.part_paths.ensures.rule in
    c.in_ok-program.ensures.shape
    (c.in_ok-join.ensures.globals ∙ rw (
      c.in_ok-arg-2.ensures.globals,
      c.in_ok-arg.ensures.globals,
      c.part_paths.ensures.local,
      c.path-2.ensures.local,
      c.path.ensures.local,
      c.about.ensures,
      c.new.ensures.local,
    ) refl)
    ∙ ap (λ (a : App). with_subcommand (app_of c.args.program) a.top) join_is
