use Rattle.gds_flatten.proofs.Sharing.{IsShared, chunk_copies}
use Rattle.gds_flatten.proofs.walk.carry_own.Given as goal

abbrev pub invariant-chunks : goal.invariant-chunks
invariant-chunks l = IsShared (chunk_copies l.at) l.chunks l.chunk-index l.fn.stretch.from l.fn.stretch.to l.rest.from l.rest.to l.fn.out.items l.out.items
