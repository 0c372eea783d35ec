use Rattle.std.proofs.Common.{ap}
use Rattle.std.proofs.lemmas.Slice.Eq.{slice_eq-Decides}
use Rattle.std.proofs.lemmas.Bool.Decides.{Decides-int_eq}
use Rattle.fill_spans.specs.Spans.{inside}
use Rattle.fill_spans.proofs.Canonical.{equal_sets}
use Rattle.fill_spans.proofs.spans.SpansPartialEq.eq.Goals as goal

pub returns-clause-same : goal.returns-clause-same
returns-clause-same c =
    let d = slice_eq-Decides Decides-int_eq c.self.inside.edges.items c.other.inside.edges.items c.eq.result c.eq.ensures in
    rw (← c.self.view_is, ← c.other.view_is)
    ((λ is x. ap (λ es. inside es x) (d.0 is)), (λ same. d.1 (equal_sets _ _ c.self.invariant c.other.invariant same)))
