use Rattle.std.proofs.Common.{◌≡◌, ◌∙◌, ◌+◌, ap, sym}
use Rattle.fill_raster.specs.Lattice.{tiles}
use Rattle.fill_text.specs.Rules.{Values, raster_of}
use Rattle.densfill_engine.specs.Runs.{most_turns, tile_count}
use Rattle.densfill_engine.proofs.turns.most_turns.Goals as goal

pub returns-in-None-clause-turns : goal.returns-in-None-clause-turns
returns-in-None-clause-turns g c =
    let a = g.B.FillBook.account c.args.book.now in
    let count : c.tiles.result ≡ tile_count a.rules = c.tiles.ensures ∙ (ap tiles c.raster.ensures.raster ∙ ap (λ (v : Values). tiles (raster_of v.numbers)) c.rules.ensures) in
    ap (λ n. n + 1) (c.from-in-None.ensures ∙ count) ∙ sym (ap (most_turns a.rules) c.in-None.is)
