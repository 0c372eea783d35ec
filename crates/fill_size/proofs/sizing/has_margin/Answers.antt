use Rattle.fill_size.proofs.Growing.{fits_reads}
use Rattle.fill_size.proofs.sizing.has_margin.Goals as goal

pub returns-clause-margin : goal.returns-clause-margin
returns-clause-margin c = fits_reads c.args.region.now c.args.d c.has_square-left.result c.has_square-right.result c.has_square-bottom.result c.has_square-top.result
    c.has_square-left.ensures.in_range c.requires.least c.requires.most c.has_square-left.ensures.found c.has_square-right.ensures.found c.has_square-bottom.ensures.found c.has_square-top.ensures.found
