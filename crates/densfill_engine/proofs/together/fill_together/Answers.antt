use Rattle.std.proofs.Common.{◌∙◌, ℕ, ap, subst, Err}
use Rattle.fill_core.specs.Accounts.{terms_of}
use Rattle.fill_shared.specs.Rounds.{HasRun}
use Rattle.densfill_engine.proofs.together.fill_together.Goals as goal

pub returns-in-Err-Mixed-clause-mixed : goal.returns-in-Err-Mixed-clause-mixed
returns-in-Err-Mixed-clause-mixed g c = λ _.
    let (mixed, rounds) = c.run.ensures.mixed c.in-Err-Mixed.field-0-0 c.in-Err-Mixed.field-0-1 (c.in-Err-Mixed.is ∙ ap Err c.in-Err-Mixed.field-0-is) in
    let a = g.B.FillBook.account c.args.book in
    let b = g.B.FillBook.account c.in-Err-Mixed.field-0-0 in
    (b, c.in-Err-Mixed.field-0-1, mixed, subst (λ (n : ℕ). HasRun (terms_of a) c.args.edits.now c.args.crew.workers n c.args.pass b c.in-Err-Mixed.field-0-1) c.most_turns-turns.ensures.turns rounds)

pub returns-clause-unfinished : goal.returns-clause-unfinished
returns-clause-unfinished g c = λ _.
    let (left, rounds) = c.run.ensures.unfinished c.in-Err-Unfinished.field-0-0 c.in-Err-Unfinished.field-0-1 (c.in-Err-Unfinished.is ∙ ap Err c.in-Err-Unfinished.field-0-is) in
    let a = g.B.FillBook.account c.args.book in
    let b = g.B.FillBook.account c.in-Err-Unfinished.field-0-0 in
    (b, c.in-Err-Unfinished.field-0-1, left, subst (λ (n : ℕ). HasRun (terms_of a) c.args.edits.now c.args.crew.workers n c.args.pass b c.in-Err-Unfinished.field-0-1) c.most_turns-turns.ensures.turns rounds)
