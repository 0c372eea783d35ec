use Rattle.std.proofs.Common.{subst, sym, ap, ◌∙◌}
use Rattle.std.proofs.lemmas.Bool.{false≢true}
use Rattle.gds_flatten.specs.steps.Framing.{IsFineIf, IsTight, in_if}
use Rattle.gds_flatten.proofs.Ranged.{bounds_range}
use Rattle.gds_flatten.proofs.Tight.{none_inside, all_inside, not_inside}
use Rattle.gds_flatten.proofs.flattening.is_inside.Goals as goal

pub returns-in-Some-clause-yes : goal.returns-in-Some-clause-yes
returns-in-Some-clause-yes c = λ yes cs tight.
    all_inside c.in-Some.extent cs (subst IsFineIf c.in-Some.is c.requires).ordered (subst (IsTight cs) c.in-Some.is tight) (c.is_in_range.ensures.0 yes)

pub returns-in-Some-clause-no : goal.returns-in-Some-clause-no
returns-in-Some-clause-no c = λ no cs tight stay.
    false≢true (sym no ∙ c.is_in_range.ensures.1 (not_inside c.in-Some.extent cs (subst IsFineIf c.in-Some.is c.requires).ordered (subst (IsTight cs) c.in-Some.is tight) stay))

pub returns-in-None-clause-yes : goal.returns-in-None-clause-yes
returns-in-None-clause-yes c = λ yes cs tight. none_inside cs (subst (IsTight cs) c.in-None.is tight)

pub returns-in-Some-clause-range : goal.returns-in-Some-clause-range
returns-in-Some-clause-range c = λ yes x y within.
    bounds_range c.in-Some.extent (c.is_in_range.ensures.0 yes) x y (ap (λ o. in_if o x y) (sym c.in-Some.is) ∙ within)

pub returns-in-None-clause-range : goal.returns-in-None-clause-range
returns-in-None-clause-range c = λ yes x y within. absurd (false≢true (ap (λ o. in_if o x y) (sym c.in-None.is) ∙ within))
