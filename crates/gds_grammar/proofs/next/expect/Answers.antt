use Rattle.std.proofs.Common.{refl}
use Rattle.gds_record.specs.Records.{view}
use Rattle.gds_grammar.specs.declared.error.Refusal.TheVariants.{Unexpected}
use Rattle.gds_grammar.proofs.Paths.{refused_one}
use Rattle.gds_grammar.proofs.next.expect.Goals as goal

pub returns-then-found-kind-clause-refused : goal.returns-then-found-kind-clause-refused
returns-then-found-kind-clause-refused c = λ s open_state only.
    rw c.refused.ensures (refused_one c.args.bytes.now c.in_ok-found.rest.now (view c.in_ok-found.found) s Unexpected _ c.in_ok-found.ensures.found open_state refl (only _ c.if-found-kind.true))
