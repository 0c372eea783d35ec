use Rattle.std.proofs.Common.{subst}
use Rattle.gds_cells.specs.Links.{single}
use Rattle.gds_flatten.specs.steps.Framing.{IsFineIf, IsHeld, IsTight}
use Rattle.gds_flatten.proofs.Holding.{single_held, nothing_single}
use Rattle.gds_flatten.proofs.Tight.{link_tight, nothing_tight}
use Rattle.gds_flatten.proofs.extents.with_link.Goals as goal

pub returns-in_default-clause-held : goal.returns-in_default-clause-held
returns-in_default-clause-held c = λ k lt cs held. nothing_single (single c.args.link.now k) cs c.args.before (subst (IsHeld cs) c.in_default.is held)

pub returns-clause-held : goal.returns-clause-held
returns-clause-held c = λ k lt cs held.
    single_held (single c.args.link.now k) cs c.in-Some.extent c.joined_if.result (subst IsFineIf c.in-Some.is c.requires.below) (subst (IsHeld cs) c.in-Some.is held)
    (λ x y h. c.joined_if.ensures.second x y (c.in_ok-all.ensures.around k lt x y h))

pub returns-in_default-clause-tight : goal.returns-in_default-clause-tight
returns-in_default-clause-tight c = λ cs tight w. nothing_tight w c.args.link.now c.args.before cs (subst (IsTight cs) c.in_default.is tight)

pub returns-clause-tight : goal.returns-clause-tight
returns-clause-tight c = λ cs tight w.
    let fine = subst IsFineIf c.in-Some.is c.requires.below in
    link_tight w c.args.link.now c.in-Some.extent c.in_ok-all.all c.args.before c.joined_if.result cs fine.ordered (subst (IsTight cs) c.in-Some.is tight)
    (c.in_ok-all.ensures.tight w) (c.joined_if.ensures.tight w)
