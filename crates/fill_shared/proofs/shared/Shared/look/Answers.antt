use Rattle.fill_shared.proofs.Points.{complete_at}
use Rattle.fill_shared.proofs.shared.Shared.look.Goals as goal

pub returns-clause-seen : goal.returns-clause-seen
returns-clause-seen g c =
    let account = g.B.FillBook.account in
    complete_at _ (account c.deref_mut-book.result.now) (account c.audit.new.self) c.args.pass.now c.args.from c.version.result c.next.result
    (record { keeping = c.audit.ensures.keeping; under = c.audit.ensures.terms; within = c.audit.ensures.within }) c.audit.ensures.same.0 c.next.ensures.first c.in-None.is c.version.ensures
