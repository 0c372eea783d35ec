use Rattle.fill_spans.proofs.ColumnWalks.{WalksOn}
use Rattle.fill_spans.proofs.ColumnSums.{AreAdded}
use Rattle.fill_spans.proofs.walk.add_columns.Given as goal

abbrev pub invariant-columns : goal.invariant-columns
invariant-columns l = WalksOn l.edges l.first l.step l.width l.behind l.ahead l.a × AreAdded l.edges l.first l.step l.width l.height l.initial.sums l.sums l.a
