use Rattle.std.proofs.Common.{inr}
use Rattle.std.proofs.lemmas.Result.{on_ok_weaker, IfErr-weaker}
use Rattle.densfill.proofs.check_of.Goals as goal

pub returns-clause-written : goal.returns-clause-written
returns-clause-written g c = on_ok_weaker c.check.result (λ p. (c.in_ok-rules.rules.inner, c.in_ok-design.design.inner, p)) c.check.ensures.written

pub returns-clause-refused : goal.returns-clause-refused
returns-clause-refused g c = IfErr-weaker c.check.result _ _ (λ e p. inr (c.in_ok-rules.rules.inner, c.in_ok-design.design.inner, p)) c.check.ensures.refused
