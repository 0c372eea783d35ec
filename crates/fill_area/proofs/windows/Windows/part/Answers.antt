use Rattle.std.proofs.Common.{inl, inr, rules, w64, FitsSigned}
use Rattle.fill_area.specs.Grid.{parts_across, parts_up}
use Rattle.fill_area.specs.Parts.{IsPart}
use Rattle.fill_area.proofs.Clipping.{nothing_counts, nothing_has_area, not_less}
use Rattle.fill_area.proofs.windows.Windows.part.Goals.{else-x1-x2-via-then-x1-x2+else-y1-y2, else-x1-x2-via-else-x1-x2}
use Rattle.fill_area.proofs.windows.Windows.part.Goals as goal

pub returns-else-x1-x2-clause-squares : goal.returns-else-x1-x2-clause-squares
returns-else-x1-x2-clause-squares c =
    let column : IsPart (parts_across c.args.self.now) c.args.a c.extent-x1.result.0 c.extent-x1.result.1 = rw c.parts_across.ensures.value at c.extent-x1.ensures in
    let row : IsPart (parts_up c.args.self.now) c.args.b c.extent-y1.result.0 c.extent-y1.result.1 = rw c.parts_up.ensures.value at c.extent-y1.ensures in
    let x0 : FitsSigned w64 c.extent-x1.result.0 = search rules in let x1 : FitsSigned w64 c.extent-x1.result.1 = search rules in
    let y0 : FitsSigned w64 c.extent-y1.result.0 = search rules in let y1 : FitsSigned w64 c.extent-y1.result.1 = search rules in
    nothing_counts c.args.self.now c.args.a c.args.b _ _ _ _ column row (elim c.else-x1-x2.branch [
      | else-x1-x2-via-then-x1-x2+else-y1-y2 w ↦ inr (not_less _ _ y0 y1 w.if-y1-y2.false)
      | else-x1-x2-via-else-x1-x2 w ↦ inl (not_less _ _ x0 x1 w.if-x1-x2.false)
    ])

pub returns-else-x1-x2-clause-area : goal.returns-else-x1-x2-clause-area
returns-else-x1-x2-clause-area c = λ p.
    let column : IsPart (parts_across c.args.self.now) c.args.a c.extent-x1.result.0 c.extent-x1.result.1 = rw c.parts_across.ensures.value at c.extent-x1.ensures in
    let row : IsPart (parts_up c.args.self.now) c.args.b c.extent-y1.result.0 c.extent-y1.result.1 = rw c.parts_up.ensures.value at c.extent-y1.ensures in
    let x0 : FitsSigned w64 c.extent-x1.result.0 = search rules in let x1 : FitsSigned w64 c.extent-x1.result.1 = search rules in
    let y0 : FitsSigned w64 c.extent-y1.result.0 = search rules in let y1 : FitsSigned w64 c.extent-y1.result.1 = search rules in
    nothing_has_area p c.args.self.now c.args.a c.args.b _ _ _ _ column row (elim c.else-x1-x2.branch [
      | else-x1-x2-via-then-x1-x2+else-y1-y2 w ↦ inr (not_less _ _ y0 y1 w.if-y1-y2.false)
      | else-x1-x2-via-else-x1-x2 w ↦ inl (not_less _ _ x0 x1 w.if-x1-x2.false)
    ])
