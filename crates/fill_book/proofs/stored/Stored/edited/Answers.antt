use Rattle.fill_state.specs.Layers.{is_drawn}
use Rattle.fill_job.specs.Plans.{drawn_squares, plan_of}
use Rattle.fill_core.specs.Machine.{fill_after, layers_after}
use Rattle.fill_state.specs.Filling.{is_filled, left_by}
use Rattle.fill_book.specs.Keeping.{stored_layers}
use Rattle.fill_book.proofs.Measured.{clear_same, drawn_edited, left_after}
use Rattle.fill_book.proofs.stored.Stored.edited.Goals as goal

pub returns-clause-edited : goal.returns-clause-edited
returns-clause-edited c =
    let plan = plan_of c.args.rules.now in let s = c.args.self.now in let f = s.filled in let out = c.too_near.result in
    let left = left_after plan f out c.args.edit c.requires.raster c.too_near.ensures.near in
    let drawn = drawn_edited s c.in_ok-after.field-0 c.args.edit c.in_ok-after.ensures.metal c.in_ok-after.ensures.existing in
    record {
      metal = c.in_ok-after.ensures.metal;
      existing = c.in_ok-after.ensures.existing;
      difference = c.in_ok-difference_of.ensures.metal;
      within = c.in_ok-difference_of.ensures.within;
      way = c.in_ok-difference_of.ensures.way;
      back = c.in_ok-difference_of.ensures.back;
      on = rw c.requires.raster c.too_near.ensures.on;
      columns = c.too_near.ensures.ordered.0;
      rows = c.too_near.ensures.ordered.1;
      clear = c.requires.clear_now;
      clear_left = clear_same plan.raster f.raster (fill_after plan c.args.edit (is_filled f)) (left_by f out) (drawn_squares (layers_after c.args.edit (stored_layers s))) (is_drawn c.in_ok-after.field-0) c.requires.raster left drawn c.requires.clear;
    }

pub returns-clause-left : goal.returns-clause-left
returns-clause-left c = left_after (plan_of c.args.rules.now) c.args.self.now.filled c.too_near.result c.args.edit c.requires.raster c.too_near.ensures.near
