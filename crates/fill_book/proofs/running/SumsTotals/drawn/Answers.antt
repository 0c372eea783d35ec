use Rattle.std.proofs.Common.{ap, ◌∙◌}
use Rattle.fill_base.proofs.Signed.{read_is}
use Rattle.fill_area.specs.Grid.{Grid}
use Rattle.fill_sums.specs.Numbers.{number_at}
use Rattle.fill_book.proofs.running.SumsTotals.drawn.Goals as goal

pub returns : goal.returns
returns c =
    let s = c.args.self.now in
    read_is c.drawn.result (record { sfits = c.drawn.type_inv }) ∙ (c.drawn.ensures ∙ (ap (λ (w : Grid). number_at w s.drawn c.args.a c.args.b) c.requires.stands.windows ∙ c.requires.stands.drawn.each c.args.a c.args.b c.requires.column c.requires.row))
