use Rattle.std.proofs.Common.{◌≡◌, take}
use Rattle.std.specs.List.{filter}
use Rattle.fill_region.specs.Steps.{is_at}
use Rattle.fill_region.proofs.edges.parted.Given as goal

abbrev pub invariant-rects : goal.invariant-rects
invariant-rects l = l.there.items ≡ filter (is_at l.edge l.at) (take l.rect-index l.rect-items)
