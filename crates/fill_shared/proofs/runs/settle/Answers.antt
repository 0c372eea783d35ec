use Rattle.std.proofs.Common.{◌≡◌, ◌∙◌, sym, subst, inl, inr, List, true, false}
use Rattle.fill_core.specs.Histories.{entries_of}
use Rattle.fill_core.specs.Shares.{Held}
use Rattle.fill_core.specs.declared.event.Entry.{Entry}
use Rattle.fill_shared.specs.Runs.{IsMixed, IsNoBeginning, IsUnfinished}
use Rattle.fill_shared.proofs.Edited.{finished_by, unfinished_by}
use Rattle.fill_shared.proofs.runs.settle.Goals.{then-made-edits-via-then-made-edits, then-made-edits-via-else-made-edits+then-not-is_complete}
use Rattle.fill_shared.proofs.runs.settle.Goals as goal

pub returns-clause-finished : goal.returns-clause-finished
returns-clause-finished g c =
    let a = g.B.FillBook.account c.args.book in
    finished_by a c.args.pass g.B.Calls.Opened.terms c.args.edits.now (entries_of c.history.result.now) c.in-Some.made c.requires.terms c.history.ensures
    c.in-Some.ensures.made c.if-made-edits.false c.requires.keeping c.requires.counted (c.is_complete.ensures.complete.0 c.if-not-is_complete.false)

pub returns-then-made-edits-clause-unfinished : goal.returns-then-made-edits-clause-unfinished
returns-then-made-edits-clause-unfinished g c = λ b p e.
    let a = g.B.FillBook.account c.args.book in
    let t = g.B.Calls.Opened.terms in
    let is : IsUnfinished t c.args.edits.now a c.args.pass =
    unfinished_by a c.args.pass t c.args.edits.now (entries_of c.history.result.now) c.in-Some.made c.requires.terms c.history.ensures
    c.in-Some.ensures.made c.in-Some.ensures.most c.requires.keeping c.requires.counted (elim c.then-made-edits.branch [
      | then-made-edits-via-then-made-edits w ↦ inl w.if-made-edits.true
      | then-made-edits-via-else-made-edits+then-not-is_complete w ↦ inr (λ all. let f : true ≡ false = sym (w.is_complete.ensures.complete.1 all) ∙ w.if-not-is_complete.true in cc)
    ]) in
    let same_book : c.args.book ≡ b = cc in
    let same_pass : c.args.pass ≡ p = cc in
    subst (λ x. IsUnfinished t c.args.edits.now (g.B.FillBook.account x) p) same_book
    (subst (λ (h : Held). IsUnfinished t c.args.edits.now a h) same_pass is)

pub returns-in_default-clause-mixed : goal.returns-in_default-clause-mixed
returns-in_default-clause-mixed g c = λ b p e.
    let a = g.B.FillBook.account c.args.book in
    let t = g.B.Calls.Opened.terms in
    let is : IsMixed t c.args.edits.now a c.args.pass = record {
      under = c.requires.terms;
      other = subst (λ (es : List Entry). IsNoBeginning es c.args.edits.now) c.history.ensures c.in_default.ensures.none;
      keeping = c.requires.keeping;
      counted = c.requires.counted;
    } in
    let same_book : c.args.book ≡ b = cc in
    let same_pass : c.args.pass ≡ p = cc in
    subst (λ x. IsMixed t c.args.edits.now (g.B.FillBook.account x) p) same_book
    (subst (λ (h : Held). IsMixed t c.args.edits.now a h) same_pass is)
