use Rattle.std.proofs.Common.{◌∙◌, ap, arith}
use Rattle.std.proofs.lemmas.Result.{IfOk-weaker}
use Rattle.fill_base.proofs.Results.{if_both}
use Rattle.fill_core.specs.Shares.{Held}
use Rattle.fill_shared.specs.Passes.{calls_of, parts_of}
use Rattle.fill_shared.proofs.Rounds.{map_sum, rested_few, seats_ended, worked_sums}
use Rattle.fill_shared.proofs.round.work_all.Goals as goal

pub returns-clause-parts : goal.returns-clause-parts
returns-clause-parts g c =
    let all = c.in_ok-all.all.items in
    let sums = worked_sums (λ s. s.pass) (λ w. w.pass) c.args.limit c.args.seats.items all c.in_ok-all.ensures.count (λ k d e lt. rested_few _ _ _ _ _ _ (c.in_ok-all.ensures.each k d e lt)) in
    IfOk-weaker c.passes_of.result _ _ (λ passes is. ap parts_of is ∙ (map_sum (λ w. w.pass) (λ (h : Held). h.parts) all ∙ sums.0)) c.passes_of.ensures.kept

pub returns-clause-calls : goal.returns-clause-calls
returns-clause-calls g c =
    let all = c.in_ok-all.all.items in
    let sums = worked_sums (λ s. s.pass) (λ w. w.pass) c.args.limit c.args.seats.items all c.in_ok-all.ensures.count (λ k d e lt. rested_few _ _ _ _ _ _ (c.in_ok-all.ensures.each k d e lt)) in
    IfOk-weaker c.passes_of.result _ _ (λ passes is. omega (arith, ap calls_of is, map_sum (λ w. w.pass) (λ (h : Held). h.calls) all, sums.1)) c.passes_of.ensures.kept

pub returns-clause-ended : goal.returns-clause-ended
returns-clause-ended g c =
    let all = c.in_ok-all.all.items in
    if_both c.passes_of.result _ _ _ (λ passes kept ended. seats_ended (λ s. s.from) (λ s. s.pass) (λ w. w.pass) (λ w. w.end) g.B.Calls.Opened.terms c.args.limit c.args.seats.items all passes.items c.in_ok-all.ensures.count c.in_ok-all.ensures.each kept ended)
    c.passes_of.ensures.kept c.passes_of.ensures.ended
