use Rattle.std.proofs.Common.{◌≡◌, refl, sym, ◌∙◌, ◌+ℤ◌, ◌*ℤ◌, ℤ, FitsSigned, true, w64}
use Rattle.fill_base.proofs.Signed.{read}
use Rattle.fill_raster.specs.Axes.{IsAxis, box_begin, is_on}
use Rattle.fill_raster.specs.declared.axis.Axis.{Axis}
use Rattle.fill_raster.proofs.Reading.{begin_reckoned, far_fits}
use Rattle.gds_out.specs.Strips.{sheet_raster}
use Rattle.gds_out.specs.steps.Ranges.{at}
use Rattle.gds_out.proofs.RuleAxes.{across_is}
use Rattle.gds_out.proofs.Sheets.{column_on, row_on}
use Rattle.gds_out.proofs.elements.corner_of.Goals as goal

-- so far from the origin, in steps that are the axis's
mul_fits : (a : Axis) (i s : ℤ) → IsAxis a → is_on a i ≡ true → s ≡ a.step → FitsSigned w64 (read i *ℤ read s)
mul_fits a i s is on e = rw e (far_fits a i is on)

sum_fits : (a : Axis) (i o s : ℤ) → IsAxis a → is_on a i ≡ true → o ≡ a.origin → s ≡ a.step → FitsSigned w64 (read o +ℤ read (read i *ℤ read s))
sum_fits a i o s is on d e = rw (d, e) (begin_reckoned a i is on).0

sum_is : (a : Axis) (i o s : ℤ) → IsAxis a → is_on a i ≡ true → o ≡ a.origin → s ≡ a.step → read (read o +ℤ read (read i *ℤ read s)) ≡ box_begin a i
sum_is a i o s is on d e = rw (d, e) (begin_reckoned a i is on).1

point : (x y u v : ℤ) → x ≡ u → y ≡ v → at x y ≡ at u v
point x y u v e f = rw (e, f) refl

pub overflow_mul-result : goal.overflow_mul-result
overflow_mul-result c =
    let r = sheet_raster c.args.sheet.now in let is = across_is c.args.sheet.now.rules.now in
    mul_fits r.across c.args.stack.column c.step_x.result is (column_on r c.args.stack is c.requires.stack) c.step_x.ensures.value

pub overflow_add-result : goal.overflow_add-result
overflow_add-result c =
    let r = sheet_raster c.args.sheet.now in let is = across_is c.args.sheet.now.rules.now in
    sum_fits r.across c.args.stack.column c.origin_x.result c.step_x.result is (column_on r c.args.stack is c.requires.stack) c.origin_x.ensures.value c.step_x.ensures.value

pub overflow_mul-result-2 : goal.overflow_mul-result-2
overflow_mul-result-2 c =
    let r = sheet_raster c.args.sheet.now in let is = c.requires.sheet.up in
    mul_fits r.up c.args.stack.row c.step_y.result is (row_on r c.args.stack is c.requires.stack) (c.step_y.ensures.value ∙ sym c.requires.sheet.step)

pub overflow_add-result-2 : goal.overflow_add-result-2
overflow_add-result-2 c =
    let r = sheet_raster c.args.sheet.now in let is = c.requires.sheet.up in
    sum_fits r.up c.args.stack.row c.origin_y.result c.step_y.result is (row_on r c.args.stack is c.requires.stack) (c.origin_y.ensures.value ∙ sym c.requires.sheet.origin) (c.step_y.ensures.value ∙ sym c.requires.sheet.step)

pub returns : goal.returns
returns c =
    let r = sheet_raster c.args.sheet.now in let is = across_is c.args.sheet.now.rules.now in
    point _ _ (box_begin r.across c.args.stack.column) (box_begin r.up c.args.stack.row)
    (sum_is r.across c.args.stack.column c.origin_x.result c.step_x.result is (column_on r c.args.stack is c.requires.stack) c.origin_x.ensures.value c.step_x.ensures.value)
    (sum_is r.up c.args.stack.row c.origin_y.result c.step_y.result c.requires.sheet.up (row_on r c.args.stack c.requires.sheet.up c.requires.stack) (c.origin_y.ensures.value ∙ sym c.requires.sheet.origin) (c.step_y.ensures.value ∙ sym c.requires.sheet.step))
