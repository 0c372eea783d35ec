use Rattle.std.proofs.Common.{◌≡◌, sym, ◌∙◌, true, false}
use Rattle.fill_core.specs.Histories.{entries_of}
use Rattle.fill_shared.proofs.Edited.{no_beginning}
use Rattle.fill_shared.proofs.runs.edits_made.Goals as goal

pub returns-then-not-is_edit_at-clause-none : goal.returns-then-not-is_edit_at-clause-none
returns-then-not-is_edit_at-clause-none c =
    let items : c.entries-entry-items.result.now ≡ entries_of c.args.history.now = c.entries-entry-items.ensures in
    rw (sym items) (no_beginning c.entries-entry-items.result.now c.args.edits.now c.loop-entry.entry-index c.loop-entry.made c.entry-item.result c.in-Edit.edit c.loop-entry-test.true c.entry-item.is c.in-Edit.is
    c.loop-entry.invariant.made c.loop-entry.invariant.most (λ both. let t : true ≡ false = sym (c.is_edit_at.ensures.1 both) ∙ c.if-not-is_edit_at.true in cc))
