use Rattle.std.proofs.Common.{◌≡◌, ◌∙◌, Err, ap, refl, rules}
use Rattle.fill_base.proofs.Signed.{read, read_is}
use Rattle.fill_text.specs.Rules.{number_in}
use Rattle.fill_text.specs.declared.keys.NumberKey.TheVariants.{BoxW, BoxH, StepX, StepY, OriginX, OriginY, FillSpacing, TileNx, TileNy}
use Rattle.fill_text.proofs.RasterTests.{coordinate_in, is_band, kept_as, lattices_same, length_in, pitch_as, places_as, spacing_in}
use Rattle.fill_text.proofs.rule_file.raster_in.Goals as goal

pub new-requires-clause-width : goal.new-requires-clause-width
new-requires-clause-width c = length_in c.value.result (number_in c.args.numbers.now.values BoxW) c.value.ensures (c.args.numbers.now.low BoxW) (c.args.numbers.now.high BoxW)

pub new-requires-clause-height : goal.new-requires-clause-height
new-requires-clause-height c = length_in c.value-2.result (number_in c.args.numbers.now.values BoxH) c.value-2.ensures (c.args.numbers.now.low BoxH) (c.args.numbers.now.high BoxH)

pub new-requires-clause-step_right : goal.new-requires-clause-step_right
new-requires-clause-step_right c = length_in c.value-3.result (number_in c.args.numbers.now.values StepX) c.value-3.ensures (c.args.numbers.now.low StepX) (c.args.numbers.now.high StepX)

pub new-requires-clause-step_up : goal.new-requires-clause-step_up
new-requires-clause-step_up c = length_in c.value-4.result (number_in c.args.numbers.now.values StepY) c.value-4.ensures (c.args.numbers.now.low StepY) (c.args.numbers.now.high StepY)

pub new-requires-clause-origin_x : goal.new-requires-clause-origin_x
new-requires-clause-origin_x c = coordinate_in c.value-5.result (number_in c.args.numbers.now.values OriginX) c.value-5.ensures (c.args.numbers.now.low OriginX) (c.args.numbers.now.high OriginX)

pub new-requires-clause-origin_y : goal.new-requires-clause-origin_y
new-requires-clause-origin_y c = coordinate_in c.value-6.result (number_in c.args.numbers.now.values OriginY) c.value-6.ensures (c.args.numbers.now.low OriginY) (c.args.numbers.now.high OriginY)

pub new-requires-clause-fill_spacing : goal.new-requires-clause-fill_spacing
new-requires-clause-fill_spacing c = spacing_in c.value-fill_spacing.result (number_in c.args.numbers.now.values FillSpacing) c.value-fill_spacing.ensures (c.args.numbers.now.low FillSpacing) (c.args.numbers.now.high FillSpacing)

pub new-requires-clause-columns : goal.new-requires-clause-columns
new-requires-clause-columns c = rw c.tile_columns.ensures (is_band (number_in c.args.numbers.now.values TileNx) (c.args.numbers.now.low TileNx) (c.args.numbers.now.high TileNx))

pub new-requires-clause-rows : goal.new-requires-clause-rows
new-requires-clause-rows c = rw c.tile_rows.ensures (is_band (number_in c.args.numbers.now.values TileNy) (c.args.numbers.now.low TileNy) (c.args.numbers.now.high TileNy))

pub returns-in-Ok : goal.returns-in-Ok
returns-in-Ok c =
    let w : read c.value.result ≡ number_in c.args.numbers.now.values BoxW = read_is c.value.result (search rules) ∙ c.value.ensures in
    let h : read c.value-2.result ≡ number_in c.args.numbers.now.values BoxH = read_is c.value-2.result (search rules) ∙ c.value-2.ensures in
    let s : read c.value-3.result ≡ number_in c.args.numbers.now.values StepX = read_is c.value-3.result (search rules) ∙ c.value-3.ensures in
    let t : read c.value-4.result ≡ number_in c.args.numbers.now.values StepY = read_is c.value-4.result (search rules) ∙ c.value-4.ensures in
    let x : read c.value-5.result ≡ number_in c.args.numbers.now.values OriginX = read_is c.value-5.result (search rules) ∙ c.value-5.ensures in
    let y : read c.value-6.result ≡ number_in c.args.numbers.now.values OriginY = read_is c.value-6.result (search rules) ∙ c.value-6.ensures in
    let z : read c.value-fill_spacing.result ≡ number_in c.args.numbers.now.values FillSpacing = read_is c.value-fill_spacing.result (search rules) ∙ c.value-fill_spacing.ensures in
    let same = lattices_same _ _ _ _ _ _ _ _ _ _ _ _ _ _ _ _ _ _ c.requires w h s t x y c.tile_columns.ensures c.tile_rows.ensures in
    kept_as _ _ c.in-Ok.raster _ _ same z (c.in-Ok.ensures.ok.0 refl) c.in-Ok.ensures.raster

pub returns-in-Err-BadPitch : goal.returns-in-Err-BadPitch
returns-in-Err-BadPitch c =
    let w : read c.value.result ≡ number_in c.args.numbers.now.values BoxW = read_is c.value.result (search rules) ∙ c.value.ensures in
    let h : read c.value-2.result ≡ number_in c.args.numbers.now.values BoxH = read_is c.value-2.result (search rules) ∙ c.value-2.ensures in
    let s : read c.value-3.result ≡ number_in c.args.numbers.now.values StepX = read_is c.value-3.result (search rules) ∙ c.value-3.ensures in
    let t : read c.value-4.result ≡ number_in c.args.numbers.now.values StepY = read_is c.value-4.result (search rules) ∙ c.value-4.ensures in
    let x : read c.value-5.result ≡ number_in c.args.numbers.now.values OriginX = read_is c.value-5.result (search rules) ∙ c.value-5.ensures in
    let y : read c.value-6.result ≡ number_in c.args.numbers.now.values OriginY = read_is c.value-6.result (search rules) ∙ c.value-6.ensures in
    let z : read c.value-fill_spacing.result ≡ number_in c.args.numbers.now.values FillSpacing = read_is c.value-fill_spacing.result (search rules) ∙ c.value-fill_spacing.ensures in
    let same = lattices_same _ _ _ _ _ _ _ _ _ _ _ _ _ _ _ _ _ _ c.requires w h s t x y c.tile_columns.ensures c.tile_rows.ensures in
    pitch_as _ _ _ _ same z (c.in-Err-BadPitch.ensures.bad_pitch.0 (ap Err c.in-Err-BadPitch.field-0-is))

pub returns-in-Err-TooManyPlaces : goal.returns-in-Err-TooManyPlaces
returns-in-Err-TooManyPlaces c =
    let w : read c.value.result ≡ number_in c.args.numbers.now.values BoxW = read_is c.value.result (search rules) ∙ c.value.ensures in
    let h : read c.value-2.result ≡ number_in c.args.numbers.now.values BoxH = read_is c.value-2.result (search rules) ∙ c.value-2.ensures in
    let s : read c.value-3.result ≡ number_in c.args.numbers.now.values StepX = read_is c.value-3.result (search rules) ∙ c.value-3.ensures in
    let t : read c.value-4.result ≡ number_in c.args.numbers.now.values StepY = read_is c.value-4.result (search rules) ∙ c.value-4.ensures in
    let x : read c.value-5.result ≡ number_in c.args.numbers.now.values OriginX = read_is c.value-5.result (search rules) ∙ c.value-5.ensures in
    let y : read c.value-6.result ≡ number_in c.args.numbers.now.values OriginY = read_is c.value-6.result (search rules) ∙ c.value-6.ensures in
    let z : read c.value-fill_spacing.result ≡ number_in c.args.numbers.now.values FillSpacing = read_is c.value-fill_spacing.result (search rules) ∙ c.value-fill_spacing.ensures in
    let same = lattices_same _ _ _ _ _ _ _ _ _ _ _ _ _ _ _ _ _ _ c.requires w h s t x y c.tile_columns.ensures c.tile_rows.ensures in
    places_as _ _ _ _ same z (c.in-Err-TooManyPlaces.ensures.too_many.0 (ap Err c.in-Err-TooManyPlaces.field-0-is))
