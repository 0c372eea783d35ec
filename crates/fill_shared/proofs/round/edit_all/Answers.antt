use Rattle.std.proofs.Common.{◌≡◌, ◌∙◌, sym, ap, subst, arith, ◌+◌, ◌<◌, List, [], ◌∷◌, ◌++◌, length, take}
use Rattle.std.proofs.lemmas.Grind.{common_steps}
use Rattle.std.proofs.lemmas.List.{take_more}
use Rattle.fill_text.specs.declared.script.Edit.{Edit}
use Rattle.fill_shared.specs.Rounds.{AreAnswered}
use Rattle.fill_shared.proofs.Rounds.{answered_more}
use Rattle.fill_shared.proofs.round.edit_all.Goals as goal

pub loop-k-preserved : goal.loop-k-preserved
loop-k-preserved g c =
    let edits = c.args.edits.now in let edit = c.index-edits-k.result in let done = take c.loop-k.k edits in
    let below : c.loop-k.k < length edits = grind arith in
    let one_more : take (c.loop-k.k + 1) edits ≡ done ++ edit ∷ [] = take_more edits c.loop-k.k edit below ∙ ap (λ (e : Edit). done ++ e ∷ []) (sym c.index-edits-k.is) in
    let answered = answered_more g.B.Calls.Opened.terms c.args.pass c.loop-k.pass c.edit-in-loop-k.new.pass done edit c.loop-k.invariant.answered (c.in-Ok.field-0, c.in-Ok.ensures.written) in
    record {
      parts = grind (arith, common_steps);
      calls = grind (arith, common_steps);
      answered = subst (λ (xs : List Edit). AreAnswered g.B.Calls.Opened.terms c.args.pass xs c.edit-in-loop-k.new.pass) (sym one_more) answered;
    }
