use Rattle.std.proofs.Common.{sym, ap, ◌∙◌, ◌||◌, map, take}
use Rattle.std.specs.List.{flat_map}
use Rattle.std.proofs.lemmas.List.{take_all}
use Rattle.fill_state.specs.Filling.{is_filled}
use Rattle.gds_grammar.specs.Values.{shape_of}
use Rattle.gds_out.specs.Laws.{raster_in}
use Rattle.gds_join.specs.Reading.{corners_of}
use Rattle.gds_join.specs.steps.Far.{stands_at}
use Rattle.gds_join.proofs.Marking.{one_element_more, stands_both}
use Rattle.gds_join.proofs.reading.fill_elements.Goals as goal

pub loop-element-preserved : goal.loop-element-preserved
loop-element-preserved c = record {
  raster = c.fill_element.ensures.raster ∙ c.loop-element.invariant.raster;
  filled = λ i j.
      stands_both (raster_in c.args.rules.now) (flat_map corners_of (map shape_of (take c.loop-element.element-index c.args.elements.now))) (corners_of (shape_of c.element-item.result)) i j
      (is_filled c.args.filled.now i j) (is_filled c.loop-element.filled i j) (is_filled c.fill_element.new.filled i j) (c.loop-element.invariant.filled i j) (c.fill_element.ensures.filled i j)
      ∙ ap (λ ps. is_filled c.args.filled.now i j || stands_at (raster_in c.args.rules.now) ps i j) (sym (one_element_more c.args.elements.now c.loop-element.element-index c.element-item.result c.loop-element-test.true c.element-item.is));
}

pub returns-clause-filled : goal.returns-clause-filled
returns-clause-filled c = λ i j.
    c.loop-element.invariant.filled i j
    ∙ ap (λ es. is_filled c.args.filled.now i j || stands_at (raster_in c.args.rules.now) (flat_map corners_of (map shape_of es)) i j) (take_all c.loop-element.element-index c.args.elements.now c.loop-element-test.false)
