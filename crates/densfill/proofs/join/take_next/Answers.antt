use Rattle.std.proofs.Common.{inr}
use Rattle.std.proofs.lemmas.Result.{IfErr-weaker, IfOk-weaker}
use Rattle.densfill.proofs.join.take_next.Goals as goal

pub returns-clause-joined : goal.returns-clause-joined
returns-clause-joined g c = IfOk-weaker c.take.result _ _ (λ j p. (c.in_ok-part.part.inner, p)) c.take.ensures.joined

pub returns-clause-refused : goal.returns-clause-refused
returns-clause-refused g c = IfErr-weaker c.take.result _ _ (λ e p. inr (c.in_ok-part.part.inner, p)) c.take.ensures.refused
