use Rattle.std.proofs.Common.{◌≡◌, Bool, refl, sym, ◌∙◌, rules}
use Rattle.std.specs.Prelude.{if◌then◌else◌}
use Rattle.std.proofs.lemmas.Result.{err_from_is_err_and}
use Rattle.fill_text.specs.steps.Entries.{checked}
use Rattle.fill_text.specs.ValuesOfRules.{key_values}
use Rattle.fill_text.proofs.Given.{names_apart}
use Rattle.fill_text.proofs.RasterTests.{raster_same}
use Rattle.fill_text.proofs.GridTests.{grid_with_same}
use Rattle.fill_text.proofs.Rectangles.{rect_with_same}
use Rattle.fill_area.specs.Grid.{Grid, clipped_to}
use Rattle.fill_base.specs.Sides.{Sides}
use Rattle.fill_text.proofs.rule_file.checked.Goals as goal

counted_same : (ignores : Bool) (w g : Grid) (s t : Sides) → w ≡ g → s ≡ t → (if ignores then clipped_to w s else w) ≡ (if ignores then clipped_to g t else g)
counted_same ignores w g s t e f = rw (e, f) refl

pub invariant_of-result : goal.invariant_of-result
invariant_of-result c = record {
  windowed = c.counted.ensures ∙ counted_same c.args.values.ignores _ _ _ _ (grid_with_same _ _ (rw c.in_ok-windows.ensures.ok_part at c.windows_in.ensures)) (rect_with_same _ _ (rw c.in_ok-frame.ensures.ok_part at c.frame_in.ensures));
  placed = (raster_same _ _ _ (sym c.in_ok-raster.was ∙ c.raster_in.ensures)).0;
  apart = names_apart (key_values c.args.values) _ (sym c.densities_and_cells.ensures ∙ c.in_ok-densities_and_cells.was);
  pitched = (raster_same _ _ _ (sym c.in_ok-raster.was ∙ c.raster_in.ensures)).1;
  layered = c.args.values.layered;
  framed = rect_with_same _ _ (rw c.in_ok-frame.ensures.ok_part at c.frame_in.ensures);
}

pub raster_in-requires : goal.raster_in-requires
raster_in-requires c = rect_with_same _ _ (rw c.in_ok-frame.ensures.ok_part at c.frame_in.ensures)

pub returns-in_err-raster : goal.returns-in_err-raster
unfolding checked
returns-in_err-raster c =
    let apart = sym c.densities_and_cells.ensures ∙ c.in_ok-densities_and_cells.was in
    let frame = rw c.in_ok-frame.ensures.ok_part at c.frame_in.ensures in
    let windows = rw c.in_ok-windows.ensures.ok_part at c.windows_in.ensures in
    let p = err_from_is_err_and c.from_residual-in_err-raster.result c.from_residual-in_err-raster.ensures.1 in
    let refused = sym c.raster_in.ensures ∙ c.in_err-raster.was in
    rw (p.1, p.2, apart, ← frame, ← windows, refused) (search rules)

pub returns : goal.returns
unfolding checked
returns c =
    let apart = sym c.densities_and_cells.ensures ∙ c.in_ok-densities_and_cells.was in
    let frame = rw c.in_ok-frame.ensures.ok_part at c.frame_in.ensures in
    let windows = rw c.in_ok-windows.ensures.ok_part at c.windows_in.ensures in
    let given = sym c.raster_in.ensures ∙ c.in_ok-raster.was in
    rw (apart, ← frame, ← windows, given) (search rules)
