use Rattle.std.proofs.Common.{◌≡◌, ◌∙◌, ◌∷◌, [], ◌++◌, ℕ, List, Bor, Some, sym, ap, inr, map, arith, rules, refl, true}
use Rattle.std.specs.Result.{is_ok}
use Rattle.std.proofs.lemmas.List.{length_push, map-append}
use Rattle.std.proofs.lemmas.Result.{err_from_is_err_and}
use Rattle.csv.specs.Records.{fields_of}
use Rattle.fill_text.specs.Rows.{rows_of}
use Rattle.fill_text.specs.Script.{change_fault, change_in, change_of}
use Rattle.fill_text.proofs.FirstFaults.{all_sound, at_start, first_found, one_more}
use Rattle.fill_text.proofs.RowSteps.{stands_end, stands_next}
use Rattle.fill_text.proofs.Scripts.{change_bad, change_good, script_given, script_refused, too_late}
use Rattle.fill_text.proofs.script.read_script.Goals as goal

pub loop-row-init : goal.loop-row-init
loop-row-init c =
    let same : c.into_iter-row-iterator.result ≡ c.rows-row-items.result = search rules in
    ([], rows_of c.args.text.now, rw same c.rows-row-items.ensures, at_start change_fault (rows_of c.args.text.now), search rules, refl, omega arith)

pub returns-then-line-eq-MOST_RECORDS : goal.returns-then-line-eq-MOST_RECORDS
returns-then-line-eq-MOST_RECORDS c =
    let (before, rest, stands, sound, edits, count, few) = c.loop-row.invariant in
    let s = rw (c.in-Some.is, c.in_ok-row.was) at (c.next.ensures.steps stands.turns stands.plain) in
    let (more, this, then) = stands_next (λ (s : Bor (List ℕ)). Some s.now) c.loop-row.row-iterator.rdr c.next.new.self.rdr c.loop-row.row-iterator.left c.next.new.self.left rest c.in_ok-row.row stands (s.0 stands.ready) s.3 in
    inr (script_refused _ _ (first_found change_fault _ before _ more _ (rw this at sound) (too_late before (fields_of c.in_ok-row.row) _ count (omega (arith, c.if-line-eq-MOST_RECORDS.true)))))

pub returns-in_err-edit : goal.returns-in_err-edit
returns-in_err-edit c =
    let (before, rest, stands, sound, edits, count, few) = c.loop-row.invariant in
    let s = rw (c.in-Some.is, c.in_ok-row.was) at (c.next.ensures.steps stands.turns stands.plain) in
    let (more, this, then) = stands_next (λ (s : Bor (List ℕ)). Some s.now) c.loop-row.row-iterator.rdr c.next.new.self.rdr c.loop-row.row-iterator.left c.next.new.self.left rest c.in_ok-row.row stands (s.0 stands.ready) s.3 in
    let p = err_from_is_err_and c.from_residual-in_err-edit.result c.from_residual-in_err-edit.ensures.1 in
    let bad = change_bad before (fields_of c.in_ok-row.row) _ _ count (omega (arith, c.if-line-eq-MOST_RECORDS.false)) (sym c.in_err-edit.ensures) in
    rw (p.1, p.2) (inr (script_refused _ _ (first_found change_fault _ before _ more _ (rw this at sound) bad)))

pub loop-row-preserved : goal.loop-row-preserved
loop-row-preserved c =
    let (before, rest, stands, sound, edits, count, few) = c.loop-row.invariant in
    let s = rw (c.in-Some.is, c.in_ok-row.was) at (c.next.ensures.steps stands.turns stands.plain) in
    let (more, this, then) = stands_next (λ (s : Bor (List ℕ)). Some s.now) c.loop-row.row-iterator.rdr c.next.new.self.rdr c.loop-row.row-iterator.left c.next.new.self.left rest c.in_ok-row.row stands (s.0 stands.ready) s.3 in
    let pushed : is_ok c.push.result ≡ true = search rules in
    let items = ap (map change_of) (rw pushed at c.push.ensures.items) ∙ map-append change_of c.loop-row.edits.items (c.in_ok-edit.edit ∷ []) in
    let (good, change) = change_good before (fields_of c.in_ok-row.row) _ _ count (omega (arith, c.if-line-eq-MOST_RECORDS.false)) (sym c.in_ok-edit.ensures) in
    let all : map change_of c.push.new.self.items ≡ map change_in (before ++ fields_of c.in_ok-row.row ∷ []) = items ∙ rw (edits, change) (sym (map-append change_in before (fields_of c.in_ok-row.row ∷ []))) in
    (_, more, then, one_more change_fault _ before _ more (rw this at sound) good, all, length_push before (fields_of c.in_ok-row.row) ∙ omega (arith, count), omega arith)

pub returns : goal.returns
returns c =
    let (before, rest, stands, sound, edits, count, few) = c.loop-row.invariant in
    let s = rw c.in-None.is at (c.next.ensures.steps stands.turns stands.plain) in
    let none = stands_end (λ (s : Bor (List ℕ)). Some s.now) c.loop-row.row-iterator.rdr c.next.new.self.rdr c.loop-row.row-iterator.left c.next.new.self.left rest stands (s.0 stands.ready) in
    let (good, whole) = all_sound change_fault _ before rest sound none in
    rw (edits, whole) (script_given _ good)
