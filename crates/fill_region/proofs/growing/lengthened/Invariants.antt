use Rattle.fill_region.proofs.Lengthening.{AreLonger}
use Rattle.fill_region.proofs.Searching.{IsBefore}
use Rattle.fill_region.proofs.growing.lengthened.Given as goal

abbrev pub invariant-upper : goal.invariant-upper
invariant-upper l = IsBefore l.lower l.place l.upper l.rect-index × AreLonger l.lower l.upper l.runs.items l.rect-index
