use Rattle.std.proofs.Common.{◌≡◌, ◌∙◌, ap, sym, subst, refl, pos, ℕ}
use Rattle.std.proofs.Math.Path.{fun_ext}
use Rattle.fill_base.proofs.Signed.{read_is}
use Rattle.fill_region.specs.Runs.{holds}
use Rattle.fill_state.specs.Layers.{in_layer}
use Rattle.fill_raster.specs.Lattice.{Lattice, KeepsPitch, tiles}
use Rattle.fill_job.specs.Plans.{plan_of}
use Rattle.fill_job.specs.Basis.{windows_in}
use Rattle.fill_state.specs.Low.{low_by}
use Rattle.fill_book.proofs.Measured.{opened, pitch_kept}
use Rattle.fill_book.proofs.stored.Stored.open.Goals as goal

pub none-requires : goal.none-requires
none-requires g c = subst (λ (r : Lattice). KeepsPitch r (pos 0)) (sym c.raster-raster.ensures.raster) (pitch_kept (plan_of c.args.rules.now) c.make_a_plan.ensures)

pub returns-clause-state : goal.returns-clause-state
returns-clause-state g c =
    let plan = plan_of c.args.rules.now in
    let low = rw (c.windows-windows.ensures, read_is c.min.result (record { sfits = c.min.type_inv }), c.min.ensures.value) at c.in_ok-low_windows.ensures in
    let low_is : (a b : ℕ) → windows_in c.in_ok-low_windows.field-0 a b ≡ low_by plan.windows plan.least c.args.areas.now a b = low in
    opened plan (record {
      drawn = c.in_ok-open.field-0;
      keep = c.open-2.result;
      filled = c.in_ok-none.field-0;
      low = c.in_ok-low_windows.field-0;
      tiles = c.in_ok-none-2.field-0;
      version = 0;
      pieces = c.in_ok-metal_pieces.field-0;
      existing_pieces = c.in_ok-existing_pieces.field-0;
      keep_pieces = c.in_ok-keep_pieces.field-0;
    }) c.args.design c.args.areas.now c.in_ok-open.ensures.metal c.in_ok-open.ensures.existing c.open-2.ensures.squares refl
    c.requires.measured low_is c.in_ok-none.ensures.none c.in_ok-none-2.ensures.none

pub returns-clause-fits : goal.returns-clause-fits
returns-clause-fits g c =
    let plan = plan_of c.args.rules.now in
    let metal : in_layer c.in_ok-open.field-0.metal ≡ holds c.args.design.metal = fun_ext (λ x. fun_ext (λ y. c.in_ok-open.ensures.metal x y)) in
    let keep : in_layer c.open-2.result ≡ holds c.args.design.keep = fun_ext (λ x. fun_ext (λ y. c.open-2.ensures.squares x y)) in
    record {
      raster = c.in_ok-none.ensures.raster ∙ c.raster-raster.ensures.raster;
      tiles = c.in_ok-none-2.ensures.room ∙ (c.tiles.ensures ∙ ap tiles c.raster-raster.ensures.raster);
      pieces = rw metal (rw c.region.ensures at c.in_ok-metal_pieces.ensures);
      existing_pieces = rw c.in_ok-open.ensures.existing (rw c.region-2.ensures at c.in_ok-existing_pieces.ensures);
      keep_pieces = rw keep (rw c.region-3.ensures at c.in_ok-keep_pieces.ensures);
    }
