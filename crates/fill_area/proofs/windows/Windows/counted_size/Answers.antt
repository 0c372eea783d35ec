use Rattle.fill_area.specs.Parts.{AreParts, IsPart}
use Rattle.fill_area.specs.Grid.{parts_across, parts_up}
use Rattle.fill_area.proofs.Clipping.{IsCountedSize, counted_size_is}
use Rattle.fill_area.proofs.windows.Windows.counted_size.Goals.{After-struct_told-4-1}
use Rattle.fill_area.proofs.windows.Windows.counted_size.Goals as goal

is_size : (c : After-struct_told-4-1) → IsCountedSize c.args.self.now c.args.a c.args.b c.extent-x1.result.0 c.extent-x1.result.1 c.extent-y1.result.0 c.extent-y1.result.1
is_size c =
    let across : AreParts (parts_across c.args.self.now) = rw c.parts_across.ensures.value at c.parts_across.ensures.parts in
    let up : AreParts (parts_up c.args.self.now) = rw c.parts_up.ensures.value at c.parts_up.ensures.parts in
    let column : IsPart (parts_across c.args.self.now) c.args.a c.extent-x1.result.0 c.extent-x1.result.1 = rw c.parts_across.ensures.value at c.extent-x1.ensures in
    let row : IsPart (parts_up c.args.self.now) c.args.b c.extent-y1.result.0 c.extent-y1.result.1 = rw c.parts_up.ensures.value at c.extent-y1.ensures in
    counted_size_is c.args.self.now c.args.a c.args.b _ _ _ _ across up column row

pub overflow_mul-result : goal.overflow_mul-result
overflow_mul-result c = (is_size c).fits

pub returns-clause-size : goal.returns-clause-size
returns-clause-size c = (is_size c).size

pub returns-clause-area : goal.returns-clause-area
returns-clause-area c = rw (is_size c).size (is_size c).area
