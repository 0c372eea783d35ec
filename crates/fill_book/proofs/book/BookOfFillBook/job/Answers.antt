use Rattle.std.proofs.Common.{◌<◌, sym, subst, ◌∙◌}
use Rattle.std.proofs.lemmas.Result.{IfOk-weaker}
use Rattle.fill_book.specs.Keeping.{Fits, stored_layers}
use Rattle.fill_raster.specs.Lattice.{tiles}
use Rattle.fill_text.specs.Rules.{Values}
use Rattle.fill_job.specs.Plans.{plan_of}
use Rattle.fill_core.specs.Accounts.{Account}
use Rattle.fill_book.proofs.Accounted.{read_now}
use Rattle.fill_book.proofs.book.BookOfFillBook.job.Goals as goal

pub near-requires-clause-fits : goal.near-requires-clause-fits
near-requires-clause-fits g c = subst (λ (v : Values). Fits (plan_of v) c.self.inside.stored) (sym c.in_ok-rules.ensures) c.self.invariant.0.fits

pub near-requires-clause-tile : goal.near-requires-clause-tile
near-requires-clause-tile g c =
    let lt = subst (λ (a : Account). c.args.tile < tiles (plan_of a.rules).raster) (sym c.self.view_is) c.requires in
    subst (λ (v : Values). c.args.tile < tiles (plan_of v).raster) (sym c.in_ok-rules.ensures) lt

pub returns-clause-read : goal.returns-clause-read
returns-clause-read g c =
    IfOk-weaker c.new.result _ _ (λ j e. e ∙ read_now c.self.invariant.0 c.self.view_is c.in_ok-rules.rules c.args.tile c.in_ok-rules.ensures) (c.new.ensures.read (stored_layers c.self.inside.stored) c.in_ok-near.ensures)
