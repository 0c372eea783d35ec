use Rattle.fill_raster.proofs.Marking.{block_read}
use Rattle.fill_raster.proofs.raster.Raster.places.Goals as goal

pub returns-clause-places : goal.returns-clause-places
returns-clause-places c = let b = block_read c.block-block.result c.block-block.ensures.block in λ i j. rw (b.left_is, b.right_is, b.bottom_is, b.top_is) (c.block-block.ensures.places i j)
