use Rattle.std.proofs.Common.{sym, ◌∙◌}
use Rattle.fill_core.specs.Boxes.{no_places}
use Rattle.fill_book.specs.Keeping.{state_by}
use Rattle.fill_book.proofs.Answering.{already, foreign, stale}
use Rattle.fill_book.proofs.stored.Stored.refusal.Goals as goal

pub returns-then-version-self : goal.returns-then-version-self
returns-then-version-self c = λ plan. stale plan (state_by no_places c.args.self.now) c.args.version c.args.tile c.if-version-self.true

pub returns-then-has : goal.returns-then-has
returns-then-has c = λ plan. already plan (state_by no_places c.args.self.now) c.args.version c.args.tile c.if-version-self.false (sym c.has.ensures ∙ c.if-has.true)

pub returns-else-has : goal.returns-else-has
returns-else-has c = λ plan. foreign plan (state_by no_places c.args.self.now) c.args.version c.args.tile c.if-version-self.false (sym c.has.ensures ∙ c.if-has.false)
