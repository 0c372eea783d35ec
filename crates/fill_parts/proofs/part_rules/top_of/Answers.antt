use Rattle.fill_parts.proofs.PartRules.{top_all, top_some}
use Rattle.fill_parts.proofs.part_rules.top_of.Goals as goal

pub returns-then-tiles-bands : goal.returns-then-tiles-bands
returns-then-tiles-bands c = top_all c.args.places (record { from = c.args.tiles.now.start; to = c.args.tiles.now.end }) c.bands.result c.requires.places c.if-tiles-bands.true c.bands.ensures

pub returns-else-tiles-bands : goal.returns-else-tiles-bands
returns-else-tiles-bands c =
    top_some c.args.places (record { from = c.args.tiles.now.start; to = c.args.tiles.now.end }) c.bands.result c.band_end.result c.requires.places c.requires.tiles c.if-tiles-bands.false
    c.bands.ensures c.band_end.ensures
