use Rattle.std.proofs.Common.{◌≡◌, ◌∙◌, [], None, Some, ap, arith, map, option_map, subst, sym}
use Rattle.clap.specs.Words.{App, HasKind, fault_of, found_of, is_simple, is_simple_and_free, rows_of, subcommand_of, subcommand_rows_of, takes}
use Rattle.densfill_args.specs.Grammar.{found_in, said_in}
use Rattle.densfill_args.specs.Lines.{text_of}
use Rattle.densfill_args.specs.declared.Line.{Line}
use Rattle.densfill_args.proofs.Saying.{line_is, no_line_is, none_apart, none_said, program_is_plain, program_is_simple, told_apart, told_fault, told_memory, told_no_line}
use Rattle.densfill_args.proofs.read_line.Goals.{in-Some+in_ok-line-in-Some, in-None}
use Rattle.densfill_args.proofs.read_line.Goals as goal

pub returns-in-Err-clause-usage : goal.returns-in-Err-clause-usage
returns-in-Err-clause-usage g c = λ taken said.
    told_memory _ _ c.refused.ensures (c.in-Err.ensures.passes (ap (λ (a : App). takes a (map g.S.AsStr.text c.args.words.now)) c.in_ok-grammar.ensures ∙ taken))

pub returns-in-Err-clause-refused : goal.returns-in-Err-clause-refused
returns-in-Err-clause-refused g c =
    told_fault (map g.S.AsStr.text c.args.words.now) c.in-Err.error c.refused.result c.refused.ensures
    (subst (λ (a : App). HasKind (fault_of a (map g.S.AsStr.text c.args.words.now)) c.in-Err.error) c.in_ok-grammar.ensures
    (c.in-Err.ensures.kinds (ap is_simple_and_free c.in_ok-grammar.ensures ∙ program_is_plain)))

pub returns-in-Some-line-clause-faultless : goal.returns-in-Some-line-clause-faultless
returns-in-Some-line-clause-faultless g c =
    subst (λ (a : App). fault_of a (map g.S.AsStr.text c.args.words.now) ≡ []) c.in_ok-grammar.ensures
    (c.in-Ok.ensures.kinds (ap is_simple_and_free c.in_ok-grammar.ensures ∙ program_is_plain))

pub returns-in-Some-line-clause-line : goal.returns-in-Some-line-clause-line
returns-in-Some-line-clause-line g c =
    let words = map g.S.AsStr.text c.args.words.now in
    let here : subcommand_rows_of c.in-Ok.matches ≡ found_in words =
    (c.in-Ok.ensures.matches (ap is_simple c.in_ok-grammar.ensures ∙ program_is_simple)).1 ∙ ap (λ (a : App). subcommand_of a words) c.in_ok-grammar.ensures in
    elim c.match-subcommand.branch [
      | in-Some+in_ok-line-in-Some w ↦ line_is words _ w.in-Some.name.now (rows_of (found_of w.in-Some.found.now)) c.match-subcommand.line here (told_apart _ _ _ _ _ w.in-Some.ensures.name w.in-Some.ensures.rows) (ap (option_map text_of) w.line-is ∙ w.in_ok-line-in-Some.ensures.line)
          ∙ ap (option_map text_of) c.in-Some-line.is
      | in-None w ↦ absurd (no c.in-Some-line.line (sym w.line-is ∙ c.in-Some-line.is))
    ]
  where
    no : (line : Line) → None ≡ Some line → ⊥
    no line h = grind (arith, h)

pub returns-clause-refused : goal.returns-clause-refused
returns-clause-refused g c =
    let words = map g.S.AsStr.text c.args.words.now in
    let here : subcommand_rows_of c.in-Ok.matches ≡ found_in words =
    (c.in-Ok.ensures.matches (ap is_simple c.in_ok-grammar.ensures ∙ program_is_simple)).1 ∙ ap (λ (a : App). subcommand_of a words) c.in_ok-grammar.ensures in
    let unsaid : said_in words ≡ None = elim c.match-subcommand.branch [
      | in-Some+in_ok-line-in-Some w ↦ line_is words _ w.in-Some.name.now (rows_of (found_of w.in-Some.found.now)) c.match-subcommand.line here (told_apart _ _ _ _ _ w.in-Some.ensures.name w.in-Some.ensures.rows) (ap (option_map text_of) w.line-is ∙ w.in_ok-line-in-Some.ensures.line)
          ∙ ap (option_map text_of) c.in-None-line.is
      | in-None w ↦ no_line_is words _ here (none_apart _ _ _ w.in-None.ensures.name)
    ] in
    told_no_line words c.in_ok-no_line-in-None-line.field-0 c.refused-in-None-line.result c.refused-in-None-line.ensures c.in_ok-no_line-in-None-line.ensures unsaid

pub returns-clause-usage : goal.returns-clause-usage
returns-clause-usage g c = λ taken said.
    let words = map g.S.AsStr.text c.args.words.now in
    let here : subcommand_rows_of c.in-Ok.matches ≡ found_in words =
    (c.in-Ok.ensures.matches (ap is_simple c.in_ok-grammar.ensures ∙ program_is_simple)).1 ∙ ap (λ (a : App). subcommand_of a words) c.in_ok-grammar.ensures in
    elim c.match-subcommand.branch [
      | in-Some+in_ok-line-in-Some w ↦ absurd (none_said words (line_is words _ w.in-Some.name.now (rows_of (found_of w.in-Some.found.now)) c.match-subcommand.line here (told_apart _ _ _ _ _ w.in-Some.ensures.name w.in-Some.ensures.rows) (ap (option_map text_of) w.line-is ∙ w.in_ok-line-in-Some.ensures.line)
          ∙ ap (option_map text_of) c.in-None-line.is) said)
      | in-None w ↦ absurd (none_said words (no_line_is words _ here (none_apart _ _ _ w.in-None.ensures.name)) said)
    ]
