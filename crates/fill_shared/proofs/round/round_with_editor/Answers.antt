use Rattle.std.proofs.Common.{arith, ap, ◌∙◌, ◌≡◌, ◌+◌, [], ◌∷◌, ◌++◌, length}
use Rattle.std.proofs.lemmas.Grind.{common_steps}
use Rattle.fill_core.specs.Shares.{Held}
use Rattle.fill_shared.specs.Passes.{calls_of, split_among}
use Rattle.fill_shared.proofs.Rounds.{round_beside, round_calls, starts_at, tiles_under}
use Rattle.fill_shared.proofs.round.round_with_editor.Goals as goal

pub returns-clause-calls : goal.returns-clause-calls
returns-clause-calls g c =
    let split : c.in-Ok.passes.items ≡ c.pop.new.self.items ++ c.in-Some.editor ∷ [] = grind (arith, common_steps) in
    let count : length c.in-Ok.passes.items ≡ c.args.workers + 1 = grind arith in
    let sum : calls_of c.in-Ok.passes.items ≡ c.args.pass.calls = c.in-Ok.ensures.calls ∙ ap (λ (h : Held). h.calls) c.audit.ensures.same.1 in
    let some = c.in_ok-seats.ensures.calls in
    let calls = c.in_ok-passes.ensures.calls in
    let is = ap (λ (h : Held). h.calls) c.close_round.ensures.joined in
    omega (arith, is, round_calls c.in-Ok.passes.items c.pop.new.self.items c.in-Some.editor c.args.workers c.args.limit (length c.args.edits.now) c.args.pass.calls _ (length c.in_ok-seats.seats.items) _ split count sum some c.in_ok-seats.ensures.count calls)

pub returns-clause-ended : goal.returns-clause-ended
returns-clause-ended g c =
    let account = g.B.FillBook.account in let t = g.B.Calls.Opened.terms in
    let popped : c.in-Ok.passes.items ≡ c.pop.new.self.items ++ c.in-Some.editor ∷ [] = grind (arith, common_steps) in
    let count = tiles_under t (account c.audit.new.self) (account c.args.book) _ c.raster.result c.tiles-tiles.result c.audit.ensures.terms c.audit.ensures.same.0 c.rules.ensures c.raster.ensures.raster c.tiles-tiles.ensures in
    round_beside (λ s. s.from) (λ s. s.pass) t c.args.edits.now c.args.workers c.args.limit c.in_ok-seats.seats.items c.args.pass c.in-Some.editor c.close_round.result.1 c.in-Ok.passes.items c.pop.new.self.items c.in_ok-passes.passes.items
    (c.in-Ok.ensures.split ∙ ap (λ (h : Held). split_among h (c.args.workers + 1)) c.audit.ensures.same.1) popped c.in_ok-seats.ensures.kept
    (λ k d lt. starts_at t (length c.pop.new.self.items) k _ _ (c.in_ok-seats.ensures.starts k d lt) count) c.in_ok-passes.ensures.ended c.close_round.ensures.joined
