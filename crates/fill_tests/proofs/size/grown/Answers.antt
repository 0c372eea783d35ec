use Rattle.fill_tests.proofs.size.grown.Goals as goal

pub sized-requires-clause-fits : goal.sized-requires-clause-fits
sized-requires-clause-fits c = c.fits.ensures.0 c.if-not-fits.false
