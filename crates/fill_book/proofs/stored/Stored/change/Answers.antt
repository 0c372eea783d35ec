use Rattle.std.proofs.Common.{ap, ◌∙◌, rules}
use Rattle.fill_core.specs.Boxes.{count_places}
use Rattle.fill_state.specs.Filling.{in_places, is_filled}
use Rattle.fill_book.proofs.Grown.{Grown, grown, fewer_filled}
use Rattle.fill_book.proofs.stored.Stored.change.Goals as goal

fewer : (c : goal.After-count) → Grown c.args.self.now.filled.raster (is_filled c.clear_places.new.self) (is_filled c.args.self.now.filled) c.count.result c.count-before.result
fewer c =
    grown _ _ _ _ _ (fewer_filled (is_filled c.args.self.now.filled) (is_filled c.clear_places.new.self) (in_places c.args.change.out) c.clear_places.ensures.filled)
    (c.count.ensures ∙ ap (λ r. count_places r (is_filled c.clear_places.new.self)) c.clear_places.ensures.raster) c.count-before.ensures

pub overflow_sub-result : goal.overflow_sub-result
overflow_sub-result c = (fewer c).least

pub returns-clause-withdrawn : goal.returns-clause-withdrawn
returns-clause-withdrawn c = (fewer c).sum

pub returns-clause-tiles : goal.returns-clause-tiles
returns-clause-tiles c = search rules
