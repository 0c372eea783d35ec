use Rattle.std.proofs.Common.{◌≡◌, ◌∙◌, [], ℕ, List, Bor, Some, inl, inr, arith, refl, rules}
use Rattle.std.proofs.lemmas.List.{length_push}
use Rattle.std.proofs.lemmas.Result.{err_from_is_err_and}
use Rattle.csv.specs.Records.{fields_of}
use Rattle.fill_text.specs.Rows.{rows_of}
use Rattle.fill_text.specs.Rules.{record_fault}
use Rattle.fill_text.specs.ValuesOfRules.{key_values}
use Rattle.fill_text.proofs.FirstFaults.{all_sound, at_start, first_found, gives_seen, one_more}
use Rattle.fill_text.proofs.Given.{record_refused, values_found}
use Rattle.fill_text.proofs.Holding.{nothing_held, row_added, row_refused}
use Rattle.fill_text.proofs.RowSteps.{stands_end, stands_next}
use Rattle.fill_text.proofs.rule_file.values_in.Goals as goal

pub loop-row-init : goal.loop-row-init
loop-row-init c =
    let same : c.into_iter-row-iterator.result ≡ c.rows-row-items.result = search rules in
    ([], rows_of c.args.text.now, rw same c.rows-row-items.ensures, at_start record_fault (rows_of c.args.text.now), rw c.new-entries.ensures nothing_held, refl, search rules)

pub returns-in_err-take_row : goal.returns-in_err-take_row
returns-in_err-take_row c =
    let (before, rest, stands, sound, held, count, below) = c.loop-row.invariant in
    let s = rw (c.in-Some.is, c.in_ok-row.was) at (c.next.ensures.steps stands.turns stands.plain) in
    let (more, this, then) = stands_next (λ (s : Bor (List ℕ)). Some s.now) c.loop-row.row-iterator.rdr c.next.new.self.rdr c.loop-row.row-iterator.left c.next.new.self.left rest c.in_ok-row.row stands (s.0 stands.ready) s.3 in
    let p = err_from_is_err_and c.from_residual-in_err-take_row.result c.from_residual-in_err-take_row.ensures.1 in
    let h = c.in_err-take_row.ensures in
    rw (p.1, p.2) (elim h [
      | inl memory ↦ inl memory
      | inr refused ↦ inr (record_refused c.args.text.now _ (first_found record_fault _ before _ more _ (rw this at sound) (row_refused _ before _ _ _ held count refused)))
    ])

pub loop-row-preserved : goal.loop-row-preserved
loop-row-preserved c =
    let (before, rest, stands, sound, held, count, below) = c.loop-row.invariant in
    let s = rw (c.in-Some.is, c.in_ok-row.was) at (c.next.ensures.steps stands.turns stands.plain) in
    let (more, this, then) = stands_next (λ (s : Bor (List ℕ)). Some s.now) c.loop-row.row-iterator.rdr c.next.new.self.rdr c.loop-row.row-iterator.left c.next.new.self.left rest c.in_ok-row.row stands (s.0 stands.ready) s.3 in
    let g = rw c.in-Some.is at (c.next.ensures.goes.on tt) in
    let (good, holds) = row_added _ _ before (fields_of c.in_ok-row.row) _ held count c.in_ok-take_row.ensures in
    (_, more, then, one_more record_fault _ before _ more (rw this at sound) good, holds, length_push before (fields_of c.in_ok-row.row) ∙ omega (arith, count), omega (arith, g.2, below))

pub all_values-requires-clause-numbers : goal.all_values-requires-clause-numbers
all_values-requires-clause-numbers c = c.loop-row.invariant.4.ranged

pub all_values-requires-clause-texts : goal.all_values-requires-clause-texts
all_values-requires-clause-texts c = c.loop-row.invariant.4.allowed

pub all_values-requires-clause-optionals : goal.all_values-requires-clause-optionals
all_values-requires-clause-optionals c = c.loop-row.invariant.4.optional

pub returns : goal.returns
returns c =
    let (before, rest, stands, sound, held, count, below) = c.loop-row.invariant in
    let s = rw c.in-None.is at (c.next.ensures.steps stands.turns stands.plain) in
    let none = stands_end (λ (s : Bor (List ℕ)). Some s.now) c.loop-row.row-iterator.rdr c.next.new.self.rdr c.loop-row.row-iterator.left c.next.new.self.left rest stands (s.0 stands.ready) in
    let (good, whole) = all_sound record_fault _ before rest sound none in
    rw (values_found c.args.text.now _ good (rw whole at held)) (gives_seen _ key_values _ _ c.all_values.ensures)
