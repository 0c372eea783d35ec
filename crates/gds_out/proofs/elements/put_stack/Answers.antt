use Rattle.std.proofs.Common.{◌≡◌, ◌++◌, ◌∙◌, List, sym, subst}
use Rattle.std.specs.List.{flat_map}
use Rattle.std.specs.Result.{OnOk}
use Rattle.fill_base.specs.declared.place.Point.{Point}
use Rattle.fill_base.proofs.Signed.{read}
use Rattle.fill_raster.specs.Axes.{box_begin}
use Rattle.fill_text.specs.ValuesOfRules.{values_of}
use Rattle.gds_record.specs.Numbers.{IsStored}
use Rattle.gds_record.specs.Records.{Rec, spelling}
use Rattle.gds_out.specs.Strips.{sheet_raster}
use Rattle.gds_out.specs.steps.Ranges.{at, IsArray}
use Rattle.gds_out.proofs.Corners.{stack_array, step_is, stack_one, stack_many}
use Rattle.gds_out.proofs.Names.{name_short}
use Rattle.gds_out.proofs.RuleAxes.{across_is}
use Rattle.gds_out.proofs.elements.put_stack.Goals as goal

pub put_reference-requires-clause-name : goal.put_reference-requires-clause-name
put_reference-requires-clause-name c = name_short c.fill_cell.result.now c.fill_cell.ensures.allowed

pub put_array-requires-clause-name : goal.put_array-requires-clause-name
put_array-requires-clause-name c = name_short c.fill_cell-2.result.now c.fill_cell-2.ensures.allowed

pub put_reference-requires-clause-corner : goal.put_reference-requires-clause-corner
put_reference-requires-clause-corner c =
    let r = sheet_raster c.args.sheet.now in
    subst (λ (p : Point). IsStored p) (sym c.corner_of-corner.ensures) (stack_array r c.args.stack (across_is c.args.sheet.now.rules.now) c.requires.sheet.up c.requires.stack).corner

pub put_array-requires-clause-array : goal.put_array-requires-clause-array
put_array-requires-clause-array c =
    let r = sheet_raster c.args.sheet.now in
    let s = step_is r c.step_x.result c.step_y.result c.step_x.ensures.value c.step_x.ensures.range.0 c.step_x.ensures.range.1 (c.step_y.ensures.value ∙ sym c.requires.sheet.step) c.step_y.ensures.range.0 c.step_y.ensures.range.1 in
    subst (λ (q : Point). IsArray q (at (read c.step_x.result) (read c.step_y.result)) c.args.stack.columns c.args.stack.rows) (sym c.corner_of-corner.ensures)
    (subst (λ (q : Point). IsArray (at (box_begin r.across c.args.stack.column) (box_begin r.up c.args.stack.row)) q c.args.stack.columns c.args.stack.rows) (sym s) (stack_array r c.args.stack (across_is c.args.sheet.now.rules.now) c.requires.sheet.up c.requires.stack))

pub returns-then-is_one_box : goal.returns-then-is_one_box
returns-then-is_one_box c =
    let r = sheet_raster c.args.sheet.now in
    subst (λ (rs : List Rec). OnOk c.put_reference.result (c.put_reference.new.writer.text.items ≡ c.args.writer.now.text.items ++ flat_map spelling rs))
    (stack_one c.fill_cell.result.now (values_of c.args.sheet.now.rules.now).fill_cell r c.args.stack _ (sym c.is_one_box.ensures ∙ c.if-is_one_box.true) c.fill_cell.ensures.value c.corner_of-corner.ensures) c.put_reference.ensures

pub returns : goal.returns
returns c =
    let r = sheet_raster c.args.sheet.now in
    let s = step_is r c.step_x.result c.step_y.result c.step_x.ensures.value c.step_x.ensures.range.0 c.step_x.ensures.range.1 (c.step_y.ensures.value ∙ sym c.requires.sheet.step) c.step_y.ensures.range.0 c.step_y.ensures.range.1 in
    subst (λ (rs : List Rec). OnOk c.put_array.result (c.put_array.new.writer.text.items ≡ c.args.writer.now.text.items ++ flat_map spelling rs))
    (stack_many c.fill_cell-2.result.now (values_of c.args.sheet.now.rules.now).fill_cell r c.args.stack _ _ (sym c.is_one_box.ensures ∙ c.if-is_one_box.false) c.fill_cell-2.ensures.value c.corner_of-corner.ensures s) c.put_array.ensures
