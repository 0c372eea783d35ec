-- The axes of a rule file's raster, and its layers, are in range.
use Rattle.std.proofs.Common.{◌≡◌, ap, ◌<◌, ℤ, pos, ◌≤ℤ◌, arith, unsigned_abs}
use Rattle.std.proofs.lemmas.Int.{ints}
use Rattle.fill_base.specs.Sides.{Sides}
use Rattle.fill_raster.specs.Axes.{IsAxis, IsBand}
use Rattle.fill_text.specs.Rules.{fill_layer, raster_of, value_of}
use Rattle.fill_text.specs.ValuesOfRules.{values_of}
use Rattle.fill_text.specs.declared.keys.NumberKey.TheVariants.{FrameX1, FrameX2, FrameY1, FrameY2, BoxW, BoxH, StepX, StepY, OriginX, OriginY, TileNx, TileNy, FillLayer, FillDatatype}
use Rattle.fill_text.specs.declared.rules.Rules.{Rules}

band_is : (z : ℤ) → pos 1 ≤ℤ z → z ≤ℤ pos 4096 → IsBand (unsigned_abs z)
band_is z low high = record { least = omega (arith, ints); most = omega (arith, ints) }

few : (z : ℤ) → pos 0 ≤ℤ z → z ≤ℤ pos 65535 → unsigned_abs z < 65536
few z low high = omega (arith, ints)

module _ (rules : Rules) where
  left : rules.frame.x1 ≡ value_of (values_of rules) FrameX1
  left = ap (λ (s : Sides). s.left) rules.framed

  right : rules.frame.x2 ≡ value_of (values_of rules) FrameX2
  right = ap (λ (s : Sides). s.right) rules.framed

  bottom : rules.frame.y1 ≡ value_of (values_of rules) FrameY1
  bottom = ap (λ (s : Sides). s.bottom) rules.framed

  top : rules.frame.y2 ≡ value_of (values_of rules) FrameY2
  top = ap (λ (s : Sides). s.top) rules.framed

  pub across_is : IsAxis (raster_of (values_of rules).numbers).across
  across_is = record {
    least = rules.numbers.low FrameX1;
    ordered = rw (left, right) at rules.frame.wide;
    most = rules.numbers.high FrameX2;
    length_is = record { least = rules.numbers.low BoxW; most = rules.numbers.high BoxW };
    step_is = record { least = rules.numbers.low StepX; most = rules.numbers.high StepX };
    origin_is = record { least = rules.numbers.low OriginX; most = rules.numbers.high OriginX };
    band_is = band_is _ (rules.numbers.low TileNx) (rules.numbers.high TileNx);
  }

  pub up_is : IsAxis (raster_of (values_of rules).numbers).up
  up_is = record {
    least = rules.numbers.low FrameY1;
    ordered = rw (bottom, top) at rules.frame.tall;
    most = rules.numbers.high FrameY2;
    length_is = record { least = rules.numbers.low BoxH; most = rules.numbers.high BoxH };
    step_is = record { least = rules.numbers.low StepY; most = rules.numbers.high StepY };
    origin_is = record { least = rules.numbers.low OriginY; most = rules.numbers.high OriginY };
    band_is = band_is _ (rules.numbers.low TileNy) (rules.numbers.high TileNy);
  }

  pub layer_few : (fill_layer (values_of rules)).layer < 65536
  layer_few = few _ (rules.numbers.low FillLayer) (rules.numbers.high FillLayer)

  pub data_type_few : (fill_layer (values_of rules)).data_type < 65536
  data_type_few = few _ (rules.numbers.low FillDatatype) (rules.numbers.high FillDatatype)
