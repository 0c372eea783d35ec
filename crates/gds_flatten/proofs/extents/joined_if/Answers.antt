use Rattle.std.proofs.Common.{sym, subst}
use Rattle.std.specs.Prelude.{Some, ◌↔◌}
use Rattle.gds_flatten.specs.steps.Framing.{IsFine, IsFineIf, IsAround, Fits}
use Rattle.gds_flatten.proofs.Holding.{fine_joined, first_around, second_around}
use Rattle.gds_flatten.proofs.Tight.{joined_fits}
use Rattle.gds_flatten.proofs.extents.joined_if.Goals as goal

pub returns-in-Some-Some-clause-fine : goal.returns-in-Some-Some-clause-fine
returns-in-Some-Some-clause-fine c =
    subst IsFine (sym c.joined.ensures) (fine_joined c.in-Some-Some.a c.in-Some-Some.b (subst IsFineIf c.in-Some-Some.is-0 c.requires.first) (subst IsFineIf c.in-Some-Some.is-1 c.requires.second))

pub returns-in-Some-Some-clause-first : goal.returns-in-Some-Some-clause-first
returns-in-Some-Some-clause-first c =
    subst (λ o. IsAround (Some c.joined.result) o) (sym c.in-Some-Some.is-0)
    (subst (λ b. IsAround (Some b) (Some c.in-Some-Some.a)) (sym c.joined.ensures) (first_around c.in-Some-Some.a c.in-Some-Some.b))

pub returns-in-Some-Some-clause-second : goal.returns-in-Some-Some-clause-second
returns-in-Some-Some-clause-second c =
    subst (λ o. IsAround (Some c.joined.result) o) (sym c.in-Some-Some.is-1)
    (subst (λ b. IsAround (Some b) (Some c.in-Some-Some.b)) (sym c.joined.ensures) (second_around c.in-Some-Some.a c.in-Some-Some.b))

pub returns-in-Some-Some-clause-tight : goal.returns-in-Some-Some-clause-tight
returns-in-Some-Some-clause-tight c = λ w.
    let a = c.in-Some-Some.a in
    let b = c.in-Some-Some.b in
    let r = c.joined.result in
    subst (λ o. Fits w (Some r) ↔ (Fits w o × Fits w c.args.b)) (sym c.in-Some-Some.is-0)
    (subst (λ o. Fits w (Some r) ↔ (Fits w (Some a) × Fits w o)) (sym c.in-Some-Some.is-1)
    (subst (λ q. Fits w (Some q) ↔ (Fits w (Some a) × Fits w (Some b))) (sym c.joined.ensures) (joined_fits w a b)))

pub returns-in-Some-None-clause-tight : goal.returns-in-Some-None-clause-tight
returns-in-Some-None-clause-tight c = λ w.
    let a = c.in-Some-None.a in
    subst (λ o. Fits w (Some a) ↔ (Fits w o × Fits w c.args.b)) (sym c.in-Some-None.is-0)
    (subst (λ o. Fits w (Some a) ↔ (Fits w (Some a) × Fits w o)) (sym c.in-Some-None.is-1) ((λ h. (h, tt)), (λ h. h.0)))

pub returns-in-None-default-clause-tight : goal.returns-in-None-default-clause-tight
returns-in-None-default-clause-tight c = λ w.
    subst (λ o. Fits w c.args.b ↔ (Fits w o × Fits w c.args.b)) (sym c.in-None-default.is-0) ((λ h. (tt, h)), (λ h. h.1))
