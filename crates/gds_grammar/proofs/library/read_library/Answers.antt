use Rattle.std.proofs.Common.{◌≡◌, sym, subst, ◌∙◌}
use Rattle.std.specs.Prelude.{MatchResult}
use Rattle.std.proofs.lemmas.Result.{IfOk-weaker}
use Rattle.gds_grammar.specs.declared.error.LibraryError.{LibraryError}
use Rattle.gds_grammar.specs.declared.error.LibraryError.TheVariants.{Memory}
use Rattle.gds_grammar.specs.declared.library.Library.{Library}
use Rattle.gds_grammar.specs.Values.{Contents, contents_of}
use Rattle.gds_grammar.specs.Outcomes.{Spells}
use Rattle.gds_grammar.proofs.Keeping.{every_kept}
use Rattle.gds_grammar.proofs.library.read_library.Goals as goal

pub returns-clause-ok : goal.returns-clause-ok
returns-clause-ok c =
    IfOk-weaker c.read_wanted.result _ _ (λ library h. subst (Spells c.args.bytes.now) (sym (h.2 ∙ every_kept h.0)) h.1) c.read_wanted.ensures.ok

pub returns-clause-only : goal.returns-clause-only
returns-clause-only c = λ value s.
    subst (λ (x : Contents). MatchResult c.read_wanted.result (λ (library : Library). contents_of library ≡ x) (λ (e : LibraryError). e ≡ Memory)) (every_kept value) (c.read_wanted.ensures.only value s)
