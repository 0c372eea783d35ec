use Rattle.std.proofs.Common.{◌≡◌, refl, sym, ap, subst, ◌∙◌, ℕ, ◌+◌, List, Some, length}
use Rattle.std.specs.Prelude.{slice_get}
use Rattle.std.proofs.lemmas.List.{length_push}
use Rattle.std.proofs.lemmas.Option.{slice_get_read}
use Rattle.fill_state.specs.Filling.{Filling}
use Rattle.gds_out.specs.declared.sheet.Strip.{Strip}
use Rattle.gds_join.specs.steps.Strips.{IsStripOf}
use Rattle.gds_join.proofs.Fills.{strips_pushed}
use Rattle.gds_join.proofs.fill.strips_of.Goals as goal

pub loop-fill-preserved : goal.loop-fill-preserved
loop-fill-preserved c =
    let strip : Strip = record { raster = c.raster.result; marks = c.in_ok-tile_marks.field-0 } in
    let before = c.loop-fill.invariant in
    let this : IsStripOf c.fill-item.result strip = record { raster = c.raster.ensures; tiles = c.in_ok-tile_marks.ensures.tiles; marked = c.in_ok-tile_marks.ensures.marked } in
    let at : slice_get c.args.fills.now c.loop-fill.fill-index ≡ Some c.fill-item.result = slice_get_read c.args.fills.now _ c.loop-fill.fill-index c.fill-item.result refl c.loop-fill-test.true c.fill-item.is in
    let each = strips_pushed c.args.fills.now c.loop-fill.strips.items strip c.fill-item.result c.loop-fill.fill-index before.count at this before.each in
    record {
      count = ap length c.in_ok-push.ensures.items ∙ (length_push c.loop-fill.strips.items strip ∙ ap (λ n. n + 1) before.count);
      each = subst (λ (ss : List Strip). (k : ℕ) (f : Filling) (s : Strip) → slice_get c.args.fills.now k ≡ Some f → slice_get ss k ≡ Some s → IsStripOf f s) (sym c.in_ok-push.ensures.items) each;
    }
