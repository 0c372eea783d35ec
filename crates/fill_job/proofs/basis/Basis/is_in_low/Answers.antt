use Rattle.std.proofs.Common.{◌∙◌}
use Rattle.fill_base.proofs.Signed.{read_is}
use Rattle.fill_text.specs.Rules.{windows_of}
use Rattle.fill_job.proofs.LowWindows.{none_held, held_in_range}
use Rattle.fill_job.proofs.basis.Basis.is_in_low.Goals as goal

pub returns-then-columns : goal.returns-then-columns
returns-then-columns c =
    none_held (windows_of c.args.self.now.rules) c.args.self.now.low c.args.rect.now
    c.containing.result.0.start c.containing.result.0.end c.containing.result.1.start c.containing.result.1.end
    (rw c.windows.ensures at c.containing.ensures.columns.exact) (rw c.windows.ensures at c.containing.ensures.rows.exact) c.then-columns.either

pub returns : goal.returns
returns c =
    let e = c.from_edges-range.ensures in
    held_in_range (windows_of c.args.self.now.rules) c.args.self.now.low c.args.rect.now c.from_edges-range.result
    c.containing.result.0.start c.containing.result.0.end c.containing.result.1.start c.containing.result.1.end c.is_clear.result
    (rw c.windows.ensures at c.containing.ensures.columns.exact) (rw c.windows.ensures at c.containing.ensures.rows.exact)
    (e.0 ∙ (read_is c.from.result (record { sfits = c.from.type_inv }) ∙ c.from.ensures)) (e.1 ∙ (read_is c.from-2.result (record { sfits = c.from-2.type_inv }) ∙ c.from-2.ensures))
    (e.2 ∙ (read_is c.from-3.result (record { sfits = c.from-3.type_inv }) ∙ c.from-3.ensures)) (e.3 ∙ (read_is c.from-4.result (record { sfits = c.from-4.type_inv }) ∙ c.from-4.ensures)) c.is_clear.ensures
