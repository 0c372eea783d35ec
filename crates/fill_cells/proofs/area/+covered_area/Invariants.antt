use Rattle.fill_cells.specs.steps.Halves.{half_way}
use Rattle.fill_cells.proofs.area.+covered_area.Given as goal

abbrev pub decreases-covered_area : goal.decreases-covered_area
decreases-covered_area l = half_way l.part.now
