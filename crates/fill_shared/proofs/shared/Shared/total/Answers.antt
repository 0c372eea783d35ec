use Rattle.std.proofs.Common.{◌≡◌, ap, ◌∙◌, List, length, w64}
use Rattle.std.proofs.lemmas.Int.{to_z-of_z}
use Rattle.fill_text.specs.Rules.{Values, windows_of}
use Rattle.fill_job.specs.Plans.{plan_of}
use Rattle.fill_core.specs.declared.event.Entry.{Entry}
use Rattle.fill_shared.proofs.Points.{seen_at}
use Rattle.fill_shared.proofs.shared.Shared.total.Goals as goal

pub returns-then-b-rows-clause-seen : goal.returns-then-b-rows-clause-seen
returns-then-b-rows-clause-seen g c =
    let account = g.B.FillBook.account in
    let a = account c.deref_mut-book.result.now in let b = account c.audit.new.self in
    let windows : c.windows-windows.result ≡ (plan_of b.rules).windows = c.windows-windows.ensures ∙ ap (λ (v : Values). windows_of v) c.rules.ensures in
    seen_at _ a b c.args.pass.now c.args.a c.args.b c.windows-windows.result c.columns.result c.rows.result c.version.result c.len.result _ (record { keeping = c.audit.ensures.keeping; under = c.audit.ensures.terms; within = c.audit.ensures.within })
    c.audit.ensures.same.0 windows c.columns.ensures c.rows.ensures c.if-a-columns.true c.if-b-rows.true c.version.ensures (c.len.ensures ∙ ap (λ (h : List Entry). length h) c.history.ensures) (to_z-of_z w64 c.total.result (record { sfits = c.total.type_inv }) ∙ c.total.ensures.exact)
