use Rattle.fill_region.proofs.Rising.{Risen}
use Rattle.fill_region.proofs.rows.runs_of_bands.Given as goal

abbrev pub invariant-rows : goal.invariant-rows
invariant-rows l = Risen l.bands l.row-iterator l.recent.items l.ended.items
