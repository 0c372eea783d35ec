use Rattle.std.proofs.Common.{◌∙◌, ap, sym, pos}
use Rattle.fill_base.proofs.Signed.{read_is}
use Rattle.fill_area.specs.Density.{option_area}
use Rattle.fill_state.specs.Filling.{boxes_of, left_by}
use Rattle.fill_state.proofs.Totals.{few_of_none, few_of_some}
use Rattle.fill_state.proofs.filled.Filled.boxes_counted.Goals as goal

pub returns-in-Some-clause-area : goal.returns-in-Some-clause-area
returns-in-Some-clause-area c =
    let p = boxes_of c.args.self.now.raster (left_by c.args.self.now c.args.out.now) in
    read_is c.boxes_in.result (record { sfits = c.boxes_in.type_inv }) ∙ (c.boxes_in.ensures ∙ ap pos (sym (c.part.ensures.area p ∙ ap (option_area p) c.in-Some.is)))

pub returns-in-Some-clause-few : goal.returns-in-Some-clause-few
returns-in-Some-clause-few c = λ p. few_of_some p c.in-Some.window _ (c.part.ensures.area p ∙ ap (option_area p) c.in-Some.is)

pub returns-in-None-clause-area : goal.returns-in-None-clause-area
returns-in-None-clause-area c =
    let p = boxes_of c.args.self.now.raster (left_by c.args.self.now c.args.out.now) in
    ap pos (sym (c.part.ensures.area p ∙ ap (option_area p) c.in-None.is))

pub returns-in-None-clause-few : goal.returns-in-None-clause-few
returns-in-None-clause-few c = λ p. few_of_none _ (c.part.ensures.area p ∙ ap (option_area p) c.in-None.is)
