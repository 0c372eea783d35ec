use Rattle.std.proofs.Common.{inr, ap, ◌∙◌}
use Rattle.gds_grammar.specs.Values.{points_in, shape_of}
use Rattle.gds_cells.proofs.Filling.{boundary_is_slanted, boundary_is_fine, boundary_prepared}
use Rattle.gds_cells.proofs.shapes.boundary_shape.Goals as goal

pub returns-then-not-is_manhattan-clause-refused : goal.returns-then-not-is_manhattan-clause-refused
returns-then-not-is_manhattan-clause-refused c =
    inr (boundary_is_slanted (shape_of c.args.element.now) c.args.boundary.now.layer (points_in c.args.boundary.now.points) c.deref.result.now c.is_manhattan.result (ap shape_of c.requires.is) (c.deref.ensures.value ∙ c.in_ok-put.ensures.value) c.is_manhattan.ensures c.if-not-is_manhattan.true)

pub returns-clause-fine : goal.returns-clause-fine
returns-clause-fine c =
    boundary_is_fine (shape_of c.args.element.now) c.args.boundary.now.layer (points_in c.args.boundary.now.points) c.deref.result.now c.is_manhattan.result (ap shape_of c.requires.is) (c.deref.ensures.value ∙ c.in_ok-put.ensures.value) c.is_manhattan.ensures c.if-not-is_manhattan.false

pub invariant_of-result : goal.invariant_of-result
invariant_of-result c =
    let e = c.in_ok-extent.ensures in
    record {
      prepared = rw (c.in_ok-filled.ensures.rects, c.in_ok-filled.ensures.extent)
          (boundary_prepared (shape_of c.args.element.now) c.args.boundary.now.layer (points_in c.args.boundary.now.points) c.deref-2.result.now c.join.new.rects.items c.args.rects.now.items c.in_ok-extent.extent
          (ap shape_of c.requires.is) (c.deref-2.ensures.value ∙ c.in_ok-put.ensures.value) c.requires.empty e.extent e.near e.inside (λ narrow x y. c.in_ok-join.ensures x y ∙ e.added narrow x y));
    }
