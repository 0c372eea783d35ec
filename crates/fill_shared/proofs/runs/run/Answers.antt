use Rattle.std.proofs.Common.{ap, sym, subst, inl, inr}
use Rattle.std.proofs.lemmas.Result.{IfOk-weaker}
use Rattle.fill_core.specs.Accounts.{terms_of}
use Rattle.fill_core.specs.Terms.{Terms}
use Rattle.fill_shared.specs.Runs.{IsFinished, IsMixed, IsUnfinished}
use Rattle.fill_shared.proofs.Edited.{unedited_fill}
use Rattle.fill_shared.proofs.Rounds.{run_of}
use Rattle.fill_shared.proofs.runs.run.Goals as goal

pub returns-clause-unedited : goal.returns-clause-unedited
returns-clause-unedited g c = λ none.
    let account = g.B.FillBook.account in
    let t = terms_of (account c.args.book) in
    IfOk-weaker c.settle.result _ _ (λ r is. unedited_fill t c.args.edits.now (account r.0) r.1 none (subst (λ (u : Terms). IsFinished u c.args.edits.now (account r.0) r.1) (sym c.audit.ensures.terms) is)) c.settle.ensures.finished

pub returns-clause-unfinished : goal.returns-clause-unfinished
returns-clause-unfinished g c = λ b p e.
    let account = g.B.FillBook.account in
    let back = c.settle.ensures.back b p (inl e) in (
      subst (λ (u : Terms). IsUnfinished u c.args.edits.now (account b) p) (sym c.audit.ensures.terms) (c.settle.ensures.unfinished b p e),
      run_of g.B.Calls.Opened.terms (terms_of (account c.args.book)) c.args.edits.now c.args.workers c.args.limit c.audit.new.pass c.args.pass (account c.in_ok-book.book) (account b) c.in_ok-book.pass p
          (sym c.audit.ensures.terms) c.audit.ensures.same.1 (ap account back.0) back.1 c.in_ok-book.ensures.ended,
    )

pub returns-clause-mixed : goal.returns-clause-mixed
returns-clause-mixed g c = λ b p e.
    let account = g.B.FillBook.account in
    let back = c.settle.ensures.back b p (inr e) in (
      subst (λ (u : Terms). IsMixed u c.args.edits.now (account b) p) (sym c.audit.ensures.terms) (c.settle.ensures.mixed b p e),
      run_of g.B.Calls.Opened.terms (terms_of (account c.args.book)) c.args.edits.now c.args.workers c.args.limit c.audit.new.pass c.args.pass (account c.in_ok-book.book) (account b) c.in_ok-book.pass p
          (sym c.audit.ensures.terms) c.audit.ensures.same.1 (ap account back.0) back.1 c.in_ok-book.ensures.ended,
    )
