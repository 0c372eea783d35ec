use Rattle.gds_flatten.specs.steps.Roots.{turns_copies}
use Rattle.gds_flatten.proofs.Sharing.{IsShared}
use Rattle.gds_flatten.proofs.walk.carry_roots.Given as goal

abbrev pub invariant-roots : goal.invariant-roots
invariant-roots l = IsShared (turns_copies l.cells) l.roots l.root-index l.initial.rest.from l.initial.rest.to l.rest.from l.rest.to l.initial.out.items l.out.items
