-- The values of a rule file that is accepted make a plan.
use Rattle.std.proofs.Common.{Bool, true, false}
use Rattle.fill_area.proofs.GridTests.{all_clip}
use Rattle.fill_area.specs.Grid.{IsGrid}
use Rattle.fill_text.specs.Rules.{frame_of, whole_windows, windows_with}
use Rattle.fill_text.specs.declared.keys.NumberKey.TheVariants.{BoxW, BoxH, StepX, StepY, OriginX, OriginY, Spacing, FillSpacing, Min, TileNx, TileNy}
use Rattle.fill_text.proofs.Accepted.{each_within, fit_together}
use Rattle.fill_text.proofs.GridTests.{is_grid_facts}
use Rattle.fill_text.proofs.RasterTests.{is_band}
use Rattle.fill_text.proofs.Rectangles.{is_rect_facts}
use Rattle.fill_job.specs.Laws.{AcceptedRulesMakeAPlan}

pub accepted_plan : AcceptedRulesMakeAPlan
accepted_plan file values e =
    let within = each_within file values e in
    let fit = fit_together file values e in
    let (corners, wide, tall) = is_rect_facts (frame_of values.numbers) fit.frame in
    let whole = is_grid_facts (whole_windows values.numbers) all_clip fit.windows in
    record {
      raster = record {
        across = record {
          least = corners.left_is.least;
          ordered = wide;
          most = corners.right_is.most;
          length_is = record { least = (within BoxW).0; most = (within BoxW).1 };
          step_is = record { least = (within StepX).0; most = (within StepX).1 };
          origin_is = record { least = (within OriginX).0; most = (within OriginX).1 };
          band_is = is_band _ (within TileNx).0 (within TileNx).1;
        };
        up = record {
          least = corners.bottom_is.least;
          ordered = tall;
          most = corners.top_is.most;
          length_is = record { least = (within BoxH).0; most = (within BoxH).1 };
          step_is = record { least = (within StepY).0; most = (within StepY).1 };
          origin_is = record { least = (within OriginY).0; most = (within OriginY).1 };
          band_is = is_band _ (within TileNy).0 (within TileNy).1;
        };
        few = fit.few;
      };
      windows = counted values.ignores whole;
      spacing = record { least = (within Spacing).0; most = (within Spacing).1 };
      fill_spacing = record { least = (within FillSpacing).0; most = (within FillSpacing).1 };
      pitch = fit.pitch;
      least = record { least = (within Min).0; most = (within Min).1 };
    }
  where
    -- the windows as they count, all of them or what of them is in the frame
    counted : (ignores : Bool) → IsGrid (whole_windows values.numbers) → IsGrid (windows_with values.numbers ignores)
    counted true whole =
        let (corners, wide, tall) = is_rect_facts (frame_of values.numbers) (fit_together file values e).frame in
        record {
          across = whole.across;
          up = whole.up;
          few = whole.few;
          clip = record { left = corners.left_is.least; across = wide; right = corners.right_is.most; bottom = corners.bottom_is.least; up = tall; top = corners.top_is.most };
        }
    counted false whole = whole
