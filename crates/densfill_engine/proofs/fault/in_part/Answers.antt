use Rattle.std.proofs.Common.{◌≡◌, subst, string_bytes, IfOk}
use Rattle.std.specs.Prelude.{codes, decimal}
use Rattle.densfill_engine.proofs.FaultLines.{five_joined}
use Rattle.densfill_engine.proofs.fault.in_part.Goals as goal

pub returns : goal.returns
returns c =
    subst (λ t. IfOk c.format.result (λ s. string_bytes s ≡ t)) (five_joined (codes " in part ") (decimal c.args.number) (codes " of ") (decimal c.args.count) (codes ", try more parts")) c.format.ensures.ok
