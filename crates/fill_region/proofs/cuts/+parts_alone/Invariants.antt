use Rattle.fill_region.proofs.cuts.+parts_alone.Given as goal

abbrev pub decreases-runs_by_cuts : goal.decreases-runs_by_cuts
decreases-runs_by_cuts l = l.cuts
