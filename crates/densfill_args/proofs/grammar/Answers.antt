use Rattle.std.proofs.Common.{refl, ◌≡◌, ◌∙◌, ap, ap₂, codes, true}
use Rattle.clap.specs.Words.{App, app_of, with_rule, with_subcommand, new_app}
use Rattle.densfill_args.specs.Grammar.{own_words, rects_words, check_words, fill_words, join_words}
use Rattle.densfill_args.proofs.grammar.Goals as goal

pub returns : goal.returns
returns c =
    let rects_about : app_of c.about.result ≡ new_app (codes "rects") = rw c.about.ensures c.new.ensures.app in
    let rects_is : app_of c.in_ok-rects.rects ≡ rects_words = c.in_ok-rects.ensures.shape c.path-script.ensures.local
    ∙ ap₂ with_rule (c.in_ok-arg.ensures.shape c.path.ensures.local ∙ ap₂ with_rule rects_about c.path.ensures.rule) c.path-script.ensures.rule in
    let check_about : app_of c.about-2.result ≡ new_app (codes "check") = rw c.about-2.ensures c.new-2.ensures.app in
    let check_is : app_of c.in_ok-check.check ≡ check_words = c.in_ok-check.ensures.shape c.part_option.ensures.local
    ∙ ap₂ with_rule (c.in_ok-arg-3.ensures.shape c.path-design.ensures.local
    ∙ ap₂ with_rule (c.in_ok-arg-2.ensures.shape c.path-2.ensures.local ∙ ap₂ with_rule check_about c.path-2.ensures.rule) c.path-design.ensures.rule) c.part_option.ensures.rule in
    let top_is : app_of c.subcommand_required.result ≡ own_words = rw (c.subcommand_required.ensures, c.about-3.ensures) (ap (λ (a : App). record a { top = record a.top { subcommand_required = true } }) c.new-3.ensures.app) in
    c.in_ok-program-3.ensures
    ∙ ap (λ (a : App). with_subcommand a join_words.top)
    (c.in_ok-program-2.ensures
    ∙ ap (λ (a : App). with_subcommand a fill_words.top)
    (c.in_ok-program.ensures.shape
    (c.in_ok-check.ensures.globals ∙ rw (c.in_ok-arg-3.ensures.globals, c.in_ok-arg-2.ensures.globals, c.part_option.ensures.local, c.path-design.ensures.local, c.path-2.ensures.local, c.about-2.ensures, c.new-2.ensures.local) refl)
    ∙ ap₂ with_subcommand
    (c.in_ok-subcommand.ensures.shape
    (c.in_ok-rects.ensures.globals ∙ rw (c.in_ok-arg.ensures.globals, c.path-script.ensures.local, c.path.ensures.local, c.about.ensures, c.new.ensures.local) refl)
    ∙ ap₂ with_subcommand top_is (ap (λ (a : App). a.top) rects_is))
    (ap (λ (a : App). a.top) check_is)))
