use Rattle.std.proofs.Common.{ap, sym, ◌∙◌}
use Rattle.std.specs.Prelude.{not}
use Rattle.fill_state.specs.Tiles.{is_in}
use Rattle.fill_state.proofs.OpenTiles.{found, passed}
use Rattle.fill_state.proofs.TileWords.{passed_many}
use Rattle.fill_state.proofs.tiles.TileSet.first_open.Goals as goal

pub tiles-preserved-then-is_full_from : goal.tiles-preserved-then-is_full_from
tiles-preserved-then-is_full_from c =
    let full = c.is_full_from.ensures.full.0 c.if-is_full_from.true in
    c.tiles.invariant ∙ passed_many (λ t. not (is_in c.args.self.now t)) c.tiles.tile 64 c.args.past (λ t low high. ap not (full.full t low high))

pub tiles-preserved : goal.tiles-preserved
tiles-preserved c = c.tiles.invariant ∙ passed (λ t. not (is_in c.args.self.now t)) c.tiles.tile c.args.past c.tiles-test.true (ap not (sym c.has.ensures ∙ c.if-has.true))

pub returns-else-has : goal.returns-else-has
returns-else-has c = found (λ t. not (is_in c.args.self.now t)) c.tiles.tile c.args.past c.tiles-test.true (ap not (sym c.has.ensures ∙ c.if-has.false)) ∙ sym c.tiles.invariant
