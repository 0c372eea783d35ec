use Rattle.std.proofs.Common.{ap, ◌∙◌}
use Rattle.fill_base.proofs.Signed.{read_is}
use Rattle.fill_area.specs.Grid.{Grid}
use Rattle.fill_sums.specs.Numbers.{number_at}
use Rattle.fill_book.proofs.running.SumsTotals.total.Goals as goal

pub returns : goal.returns
returns c =
    let s = c.args.self.now in
    read_is c.total.result (record { sfits = c.total.type_inv }) ∙ (c.total.ensures ∙ (ap (λ (w : Grid). number_at w s.total c.args.a c.args.b) c.requires.stands.windows ∙ c.requires.stands.total.each c.args.a c.args.b c.requires.column c.requires.row))
