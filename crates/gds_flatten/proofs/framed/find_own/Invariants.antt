use Rattle.std.proofs.Common.{take}
use Rattle.std.specs.List.{flat_map}
use Rattle.gds_flatten.specs.steps.Finding.{IsFound}
use Rattle.gds_flatten.proofs.Sharing.{chunk_copies}
use Rattle.gds_flatten.proofs.framed.find_own.Given as goal

abbrev pub invariant-chunks : goal.invariant-chunks
invariant-chunks l = IsFound l.framed (flat_map (chunk_copies l.at) (take l.chunk-index l.chunks)) l.fn.found l.found
