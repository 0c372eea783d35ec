use Rattle.std.proofs.Common.{◌∙◌, ap, length}
use Rattle.fill_core.specs.Shares.{Held}
use Rattle.fill_shared.specs.Passes.{split_among}
use Rattle.fill_shared.proofs.Rounds.{round_of, starts_at, tiles_under}
use Rattle.fill_shared.proofs.round.round_of_workers.Goals as goal

pub returns-clause-ended : goal.returns-clause-ended
returns-clause-ended g c =
    let account = g.B.FillBook.account in let t = g.B.Calls.Opened.terms in
    let count = tiles_under t (account c.audit.new.self) (account c.args.book) _ c.raster.result c.tiles-tiles.result c.audit.ensures.terms c.audit.ensures.same.0 c.rules.ensures c.raster.ensures.raster c.tiles-tiles.ensures in
    round_of (λ s. s.from) (λ s. s.pass) t c.args.workers c.args.limit c.in_ok-seats.seats.items c.args.pass c.close_round.result.1 c.in-Ok.passes.items c.in_ok-passes.passes.items
    (c.in-Ok.ensures.split ∙ ap (λ (h : Held). split_among h c.args.workers) c.audit.ensures.same.1) c.in_ok-seats.ensures.kept
    (λ k d lt. starts_at t (length c.in-Ok.passes.items) k _ _ (c.in_ok-seats.ensures.starts k d lt) count) c.in_ok-passes.ensures.ended c.close_round.ensures.joined
