use Rattle.std.proofs.Common.{◌≡◌, IfOk, string_bytes, ◌++◌}
use Rattle.std.specs.Prelude.{codes, decimal}
use Rattle.densfill_engine.specs.Faults.{fault_ending, fault_name, fault_number}
use Rattle.densfill_engine.specs.Refusals.{fault_of, part_name}
use Rattle.densfill_engine.proofs.FaultLines.{pieces_joined}
use Rattle.densfill_engine.proofs.refusal.Refusal.words.Goals as goal

pub returns : goal.returns
returns c =
    let fault = fault_of c.args.self in
    let pieces : IfOk c.format.result (λ s. string_bytes s ≡ codes "densfill: " ++ (string_bytes c.in_ok-part.part ++ (codes ": " ++ (decimal c.row-number.result.0 ++ (codes " " ++ (c.row-number.result.1.now ++ string_bytes c.in_ok-ending.ending)))))) = c.format.ensures.ok in
    rw (
      ← pieces_joined (codes "densfill: ") (part_name c.args.self) (codes ": ") (decimal (fault_number fault)) (codes " ") (fault_name fault) (fault_ending fault),
      ← c.in_ok-part.ensures,
      ← c.fault-fault.ensures,
      ← c.row-number.ensures.number,
      ← c.row-number.ensures.name,
      ← c.in_ok-ending.ensures,
    ) pieces
