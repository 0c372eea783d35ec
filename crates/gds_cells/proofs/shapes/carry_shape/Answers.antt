use Rattle.std.proofs.Common.{◌∙◌, ◌||◌, ap, sym, refl, inr}
use Rattle.std.proofs.lemmas.Bool.{false≢true}
use Rattle.fill_region.specs.Squares.{covered}
use Rattle.gds_shape.specs.Paths.{AreInRange}
use Rattle.gds_grammar.specs.Values.{shape_of}
use Rattle.gds_cells.specs.Placements.{carried_bounds}
use Rattle.gds_cells.specs.steps.Filled.{rects_in}
use Rattle.gds_cells.specs.steps.Prepared.{IsDrawn}
use Rattle.gds_cells.proofs.Placing.{extent_stays, parts_stay, pieces_stay, range_narrow, shape_back}
use Rattle.gds_cells.proofs.shapes.carry_shape.Goals as goal

pub returns-then-not-is_in_range-clause-refused : goal.returns-then-not-is_in_range-clause-refused
returns-then-not-is_in_range-clause-refused c =
    let s = c.args.shape.now in
    let drawn : IsDrawn (shape_of s.element.now) (rects_in s.filled) c.in-Some.extent = s.prepared.drawn c.in-Some.extent (sym c.extent.ensures ∙ c.in-Some.is) in
    inr (
      refl,
      λ stays.
          let range : AreInRange c.carried_bounds.result = rw c.carried_bounds.ensures (extent_stays c.args.at.now (shape_of s.element.now) (rects_in s.filled) c.in-Some.extent drawn stays) in
          false≢true (sym c.if-not-is_in_range.true ∙ c.is_in_range.ensures.1 range),
    )

pub carry_filled-requires-clause-inside : goal.carry_filled-requires-clause-inside
carry_filled-requires-clause-inside c =
    let s = c.args.shape.now in
    let drawn : IsDrawn (shape_of s.element.now) (rects_in s.filled) c.in-Some.extent = s.prepared.drawn c.in-Some.extent (sym c.extent.ensures ∙ c.in-Some.is) in
    let range : AreInRange (carried_bounds c.args.at.now c.in-Some.extent) = rw c.carried_bounds.ensures at (c.is_in_range.ensures.0 c.if-not-is_in_range.false) in
    rw c.from_corner.ensures.is (pieces_stay c.args.at.now (shape_of s.element.now) (rects_in s.filled) c.in-Some.extent drawn range)

pub returns-clause-inside : goal.returns-clause-inside
returns-clause-inside c =
    let s = c.args.shape.now in
    let drawn : IsDrawn (shape_of s.element.now) (rects_in s.filled) c.in-Some.extent = s.prepared.drawn c.in-Some.extent (sym c.extent.ensures ∙ c.in-Some.is) in
    let range : AreInRange (carried_bounds c.args.at.now c.in-Some.extent) = rw c.carried_bounds.ensures at (c.is_in_range.ensures.0 c.if-not-is_in_range.false) in
    parts_stay c.args.at.now (shape_of s.element.now) (rects_in s.filled) c.in-Some.extent drawn range

pub returns-clause-added : goal.returns-clause-added
returns-clause-added c = λ x y.
    let s = c.args.shape.now in
    let drawn : IsDrawn (shape_of s.element.now) (rects_in s.filled) c.in-Some.extent = s.prepared.drawn c.in-Some.extent (sym c.extent.ensures ∙ c.in-Some.is) in
    let range : AreInRange (carried_bounds c.args.at.now c.in-Some.extent) = rw c.carried_bounds.ensures at (c.is_in_range.ensures.0 c.if-not-is_in_range.false) in
    let narrow = range_narrow c.args.at.now c.in-Some.extent drawn.near range in
    let put = rw c.from_corner.ensures.is at (c.in_ok-carry_filled.ensures x y) in
    put ∙ ap (λ b. covered c.args.out.now.items x y || b) (shape_back c.args.at.now (shape_of s.element.now) (rects_in s.filled) c.in-Some.extent x y drawn narrow)
