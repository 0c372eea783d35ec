use Rattle.std.proofs.Common.{ℕ, Bool, ◌*◌, ◌≤◌, subst}
use Rattle.std.specs.Prelude.{OnErr}
use Rattle.gds_record.specs.Reals.{HasValue}
use Rattle.gds_record.proofs.reals.quarter_turns.Goals as goal

pub returns-clause-none : goal.returns-clause-none
returns-clause-none c =
    let P : ℕ → Type 0 = λ bits. OnErr c.turns.result ((negative : Bool) (k : ℕ) → k ≤ 4 → HasValue bits negative (90 * k) → ⊥) in
    subst P c.from_be_bytes.ensures c.turns.ensures.none
