use Rattle.fill_shared.proofs.Points.{edited_at}
use Rattle.fill_shared.proofs.shared.Shared.edit.Goals as goal

pub returns-clause-written : goal.returns-clause-written
returns-clause-written g c =
    let account = g.B.FillBook.account in
    edited_at _ c.edit.result (account c.deref_mut-book.result.now) (account c.audit.new.self) (account c.edit.new.self) c.args.pass.now c.audit.new.pass c.edit.new.pass c.args.edit
    (record { keeping = c.audit.ensures.keeping; under = c.audit.ensures.terms; within = c.audit.ensures.within }) c.audit.ensures.same c.edit.ensures.written
