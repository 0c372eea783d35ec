-- What holds of every cut into parts.
use Rattle.std.specs.Prelude.{◌≡◌, ℕ, ◌+◌, ◌-◌, ◌*◌, ◌<◌, ◌≤◌, ℤ, Bool, true, false, ◌&&◌, List, [], ◌++◌, length, map}
use Rattle.std.specs.List.{filter, flat_map, range_with_len}
use Rattle.fill_base.specs.Squares.{squares}
use Rattle.fill_base.specs.Coordinates.{IsInRange}
use Rattle.fill_base.specs.Sides.{Sides}
use Rattle.fill_area.specs.Density.{window_area}
use Rattle.fill_area.specs.Grid.{Grid}
use Rattle.fill_raster.specs.Axes.{band_of, bands}
use Rattle.fill_raster.specs.Lattice.{tile_of, tiles}
use Rattle.fill_text.specs.Rules.{Values, limits_of, windows_of}
use Rattle.fill_text.specs.Script.{change_of}
use Rattle.fill_text.specs.declared.limits.Limits.{Limits}
use Rattle.fill_text.specs.declared.script.Edit.{Edit}
use Rattle.fill_job.specs.Plans.{Plan, IsPlan, Layers, PointSet, drawn_squares, plan_of, low_windows, wanted}
use Rattle.fill_job.specs.Searches.{some_below}
use Rattle.fill_core.specs.Boxes.{no_places}
use Rattle.fill_core.specs.Histories.{edits_in}
use Rattle.fill_core.specs.Machine.{IsComplete, layers_after, opened, replay}
use Rattle.fill_core.specs.declared.event.Event.{Event}
use Rattle.fill_core.specs.declared.event.Event.TheVariants as event
use Rattle.fill_core.specs.Boxes.{low_fill}
use Rattle.fill_report.specs.BookReport.{boxes_of, fill_report}
use Rattle.fill_report.specs.Report.{lines_above, measures_of}
use Rattle.fill_report.specs.RulesReport.{metal_report}
use Rattle.fill_report.specs.declared.line.Measures.{Measures}
use Rattle.fill_parts.specs.Cuts.{IsPart, Part, cut, first_row, has_row, past_row}
use Rattle.fill_parts.specs.Needs.{IsEnough, AgreeInside, LayersAgree, LieInside, in_coordinates, is_inside, layers_met, met_with, needed_sides, has_tile, has_windows, is_level}
use Rattle.fill_parts.specs.PartChip.{HoldsPart, IsChipOf, chip_plan, looks_at, part_windows, rows_fill, rows_told}
use Rattle.fill_parts.specs.Smaller.{AreAxes, AreRowsOf, Rows, AreSome, IsHeldBy, IsPlanOfAnySize, IsSmaller}
use Rattle.fill_parts.specs.SmallerRules.{Cover, rules_alone}
use Rattle.fill_parts.specs.PartReport.{part_lines, rows_lines, part_check, part_report}
use Rattle.fill_parts.specs.PartFill.{part_fill, layers_by, layers_with, rect_of}

abbrev pub part : ℕ → ℕ → Part
part number count = record { number = number; count = count }

-- ---- cuts

-- the part that has a row, and the only one
pub record HasOnePart (rows count row : ℕ) : Type 0 where
  pub number : ℕ
  pub below : number < count
  pub has : has_row (part number count) rows row ≡ true
  pub only : (k : ℕ) → has_row (part k count) rows row ≡ true → k ≡ number

abbrev pub EachRowIsInOnePart : Type 0
EachRowIsInOnePart = (rows count row : ℕ) → 0 < count → row < rows → HasOnePart rows count row

-- the first part begins at the first row, each ends where the next one begins or is empty, and the last one ends behind the last row
pub record IsCut (rows count : ℕ) : Type 0 where
  pub begins : cut rows count 0 ≡ 0
  pub follow : (k l : ℕ) → k ≤ l → cut rows count k ≤ cut rows count l
  pub ends : cut rows count count ≡ rows

abbrev pub PartsFollow : Type 0
PartsFollow = (rows count : ℕ) → 0 < count → IsCut rows count

-- ---- reports

-- the lines of some rows, and then those of the rows behind them, are the lines of all these rows
abbrev pub RowsFollow : Type 0
RowsFollow = (g : Grid) (limits : Limits) (measures : ℕ → ℕ → Measures) (low middle high : ℕ) → low ≤ middle → middle ≤ high
    → rows_lines g limits measures low middle ++ rows_lines g limits measures middle high ≡ rows_lines g limits measures low high

-- the parts' reports, one after another, are the report
abbrev pub PartsMakeTheReport : Type 0
PartsMakeTheReport = (values : Values) (metal fill : PointSet) (count : ℕ) → 0 < count
    → flat_map (λ k. part_report values metal fill (part k count)) (range_with_len 0 count) ≡ fill_report values metal fill

abbrev pub PartsMakeTheCheck : Type 0
PartsMakeTheCheck = (values : Values) (metal : PointSet) (count : ℕ) → 0 < count
    → flat_map (λ k. part_check values metal (part k count)) (range_with_len 0 count) ≡ metal_report metal values

-- ---- what a chip needs

-- metal within the coordinates agrees with what of it lies between the sides and within the coordinates
abbrev pub ClippedAgrees : Type 0
ClippedAgrees = (s : Sides) (p : PointSet) → ((x y : ℤ) → p x y ≡ true → IsInRange x y) → AgreeInside s p (met_with (in_coordinates s) p)

-- the needed sides are enough, and the least that are
pub record AreLeast (plan : Plan) (s : Sides) : Type 0 where
  pub enough : IsEnough plan s
  pub least : (t : Sides) → IsEnough plan t → LieInside s t

abbrev pub NeededSidesAreLeast : Type 0
NeededSidesAreLeast = (plan : Plan) → IsPlan plan → AreLeast plan (needed_sides plan)

-- Of two sets of metal that agree between sides that are enough, all that a chip looks at is the same: the areas of its windows,
abbrev pub AreasAgree : Type 0
AreasAgree = (plan : Plan) (s : Sides) (p q : PointSet) → IsPlan plan → IsEnough plan s → AgreeInside s p q
    → (a b : ℕ) → a < plan.windows.across.count → b < plan.windows.up.count → window_area p plan.windows a b ≡ window_area q plan.windows a b

-- which of them are low,
abbrev pub LowWindowsAgree : Type 0
LowWindowsAgree = (plan : Plan) (s : Sides) (p q : PointSet) → IsPlan plan → IsEnough plan s → AgreeInside s p q
    → (a b : ℕ) → low_windows plan p a b ≡ low_windows plan q a b

-- its fill,
abbrev pub FillsAgree : Type 0
FillsAgree = (plan : Plan) (s : Sides) (p q : Layers) → IsPlan plan → IsEnough plan s → LayersAgree s p q → low_fill plan p ≡ low_fill plan q

-- and the lines of rows of its windows
abbrev pub LinesAgree : Type 0
LinesAgree = (values : Values) (rows : Rows) (below : ℕ) (s : Sides) (p q : Layers) → let plan = plan_of values in IsPlan plan → IsEnough plan s → LayersAgree s p q
    → rows.from ≤ rows.to → rows.to ≤ plan.windows.up.count
    → rows_told values rows below (drawn_squares p) (boxes_of plan (low_fill plan p)) ≡ rows_told values rows below (drawn_squares q) (boxes_of plan (low_fill plan q))

-- ---- edits

-- the same edit of metals that agree gives metals that agree
abbrev pub EditsAgree : Type 0
EditsAgree = (s : Sides) (edits : List Edit) (p q : Layers) → LayersAgree s p q → LayersAgree s (layers_with edits p) (layers_with edits q)

-- edits do what the changes of a script say
abbrev pub EditsAreChanges : Type 0
EditsAreChanges = (edits : List Edit) (layers : Layers) → layers_with edits layers ≡ layers_by (map change_of edits) layers

-- an edit of no square between the sides may be left out
abbrev pub EditsOutsideDoNothing : Type 0
EditsOutsideDoNothing = (s : Sides) (edit : Edit) (p : Layers) → ((x y : ℤ) → is_inside s x y ≡ true → squares (rect_of edit) x y ≡ false) → LayersAgree s p (layers_after edit p)

-- where the edits come first and then every tile, the layers are those after the edits, and the fill is all places that may be filled
-- and whose box lies wholly in a window that is low in it
pub record IsEditedFirst (plan : Plan) (layers : Layers) (edits : List Edit) (events : List Event) : Type 0 where
  pub layers_is : (replay plan layers events).layers ≡ layers_with edits layers
  pub fill_is : (replay plan layers events).fill ≡ low_fill plan (layers_with edits layers)

abbrev pub FillAfterEdits : Type 0
FillAfterEdits = (plan : Plan) (layers : Layers) (edits : List Edit) (commits : List Event) → IsPlan plan → edits_in commits ≡ []
    → IsComplete plan (replay plan layers (map event.Edit edits ++ commits)) → IsEditedFirst plan layers edits (map event.Edit edits ++ commits)

-- so edits that a test leaves out, all of which have no square between the sides, may be left out
abbrev pub EditsInsideSuffice : Type 0
EditsInsideSuffice = (s : Sides) (touches : Edit → Bool) (edits : List Edit) (p : Layers) → ((edit : Edit) → touches edit ≡ false → (x y : ℤ) → is_inside s x y ≡ true → squares (rect_of edit) x y ≡ false)
    → LayersAgree s (layers_with edits p) (layers_with (filter touches edits) p)

-- edits before any tile lead to a version that opens on what they leave, without a box
abbrev pub EditsOpenAnew : Type 0
EditsOpenAnew = (plan : Plan) (layers : Layers) (edits : List Edit) → replay plan layers (map event.Edit edits) ≡ opened plan (layers_with edits layers) no_places (length edits)

-- a part's fill is that of its tiles: in each the wanted places, by the windows that are low in metal and existing fill
abbrev pub PartFillIsWanted : Type 0
PartFillIsWanted = (plan : Plan) (layers : Layers) (k : Part) (i j : ℤ) → let tile = tile_of plan.raster i j in
    part_fill plan layers k i j ≡ wanted plan layers (low_windows plan (drawn_squares layers)) tile i j && has_tile plan k tile

-- ---- all parts together

-- a place is filled where it is in the fill of some part
abbrev pub PartsMakeTheFill : Type 0
PartsMakeTheFill = (plan : Plan) (layers : Layers) (count : ℕ) → IsPlanOfAnySize plan → 0 < count
    → (λ i j. some_below (λ k. part_fill plan layers (part k count) i j) count) ≡ low_fill plan layers

-- and no place is in the fill of two parts
abbrev pub PartsAreApart : Type 0
PartsAreApart = (plan : Plan) (layers : Layers) (count k l : ℕ) (i j : ℤ) → IsPlanOfAnySize plan → 0 < count
    → part_fill plan layers (part k count) i j ≡ true → part_fill plan layers (part l count) i j ≡ true → k ≡ l

-- ---- one part, whole

-- the fill of a smaller chip of such layers is the part's in these rows of tiles, and so are the lines of these rows of windows
pub record TellsPart (values : Values) (k : Part) (small : Values) (tiles windows : Rows) (below : ℕ) (near layers : Layers) : Type 0 where
  pub places : rows_fill (plan_of small) tiles (low_fill (plan_of small) near) ≡ part_fill (plan_of values) layers k
  pub lines : rows_told small windows below (drawn_squares near) (boxes_of (plan_of small) (low_fill (plan_of small) near)) ≡ part_report values (drawn_squares layers) (low_fill (plan_of values) layers) k

-- Of a design whose metal, existing fill and keep-outs lie within the coordinates, a chip that holds the part needs but what lies between its needed sides,
-- and of the edits those that have a square there.
abbrev pub ChipRunIsThePart : Type 0
ChipRunIsThePart = (values : Values) (k : Part) (small : Values) (tiles windows : Rows) (below : ℕ) (layers : Layers) (touches : Edit → Bool) (edits : List Edit) → let s = needed_sides (plan_of small) in
    HoldsPart values k small tiles windows below → IsPlan (plan_of small) → windows.from ≤ windows.to → windows.to ≤ (plan_of small).windows.up.count
    → ((x y : ℤ) → layers.metal x y ≡ true → IsInRange x y) → ((x y : ℤ) → layers.fill x y ≡ true → IsInRange x y) → ((x y : ℤ) → layers.keep x y ≡ true → IsInRange x y)
    → ((edit : Edit) → touches edit ≡ false → (x y : ℤ) → is_inside s x y ≡ true → squares (rect_of edit) x y ≡ false)
    → TellsPart values k small tiles windows below (layers_with (filter touches edits) (layers_met (in_coordinates s) layers)) (layers_by (map change_of edits) layers)

-- ---- a part as a smaller chip

-- A plan of some rows of tiles and of windows of a chip alone wants in each of its tiles the places that the chip's plan wants there, if
-- all windows level with the tile are among these rows. Its tiles are numbered without those below.
abbrev pub SmallerChipWantsTheSame : Type 0
SmallerChipWantsTheSame = (whole small : Plan) (rows windows : Rows) (layers : Layers) → AreAxes whole → AreSome rows (bands whole.raster.up) → windows.to ≤ whole.windows.up.count → IsSmaller whole small rows windows
    → (tile : ℕ) → tile < (rows.to - rows.from) * bands whole.raster.across → let there = rows.from * bands whole.raster.across + tile in
    ((b : ℕ) → b < whole.windows.up.count → is_level whole there b ≡ true → (windows.from ≤ b) × (b < windows.to))
    → wanted small layers (low_windows small (drawn_squares layers)) tile ≡ wanted whole layers (low_windows whole (drawn_squares layers)) there

-- The rules of some rows of tiles and of windows alone make such a plan, if the tiles cover what counts of the windows, or all counts of
-- these wherever the frame ends.
abbrev pub RulesAloneMakeASmallerChip : Type 0
RulesAloneMakeASmallerChip = (values : Values) (rows windows : Rows) → let plan = plan_of values in AreAxes plan → AreRowsOf rows (bands plan.raster.up) → AreSome windows plan.windows.up.count → (values.ignores ≡ true → Cover values rows windows)
    → IsSmaller plan (plan_of (rules_alone values rows windows)) rows windows

-- And a window measures in it what it measures in the chip: its metal and existing fill, and the boxes of a complete fill, if all tiles level with the
-- window are among the rows, and all windows level with these tiles.
abbrev pub SmallerChipMeasuresTheSame : Type 0
SmallerChipMeasuresTheSame = (whole small : Plan) (rows windows : Rows) (layers : Layers) → AreAxes whole → AreSome rows (bands whole.raster.up) → windows.to ≤ whole.windows.up.count → IsSmaller whole small rows windows
    → (a b : ℕ) → b < small.windows.up.count → ((tile : ℕ) → tile < tiles whole.raster → is_level whole tile (windows.from + b) ≡ true → IsHeldBy whole rows windows tile)
    → measures_of (drawn_squares layers) (boxes_of small (low_fill small layers)) small.windows a b ≡ measures_of (drawn_squares layers) (boxes_of whole (low_fill whole layers)) whole.windows a (windows.from + b)

-- The rows of a part that looks at any window are such rows.
abbrev pub PartIsASmallerChip : Type 0
PartIsASmallerChip = (values : Values) (k : Part) → let plan = plan_of values in AreAxes plan → some_below (looks_at plan k) plan.windows.up.count ≡ true → IsChipOf values k

-- A part that looks at none has no fill, and no line.
pub record HasNothing (values : Values) (k : Part) : Type 0 where
  pub fill : (layers : Layers) (i j : ℤ) → part_fill (plan_of values) layers k i j ≡ false
  pub windows : (b : ℕ) → b < (plan_of values).windows.up.count → has_windows (plan_of values) k b ≡ false

abbrev pub PartOfNoWindowHasNothing : Type 0
PartOfNoWindowHasNothing = (values : Values) (k : Part) → let plan = plan_of values in AreAxes plan → some_below (looks_at plan k) plan.windows.up.count ≡ false → HasNothing values k

-- A part's fill is that of its chip, of the part's own rows of tiles.
abbrev pub PartFillIsOfItsChip : Type 0
PartFillIsOfItsChip = (values : Values) (k : Part) (layers : Layers) → let plan = plan_of values in AreAxes plan → 0 < bands plan.raster.up → some_below (looks_at plan k) plan.windows.up.count ≡ true
    → (i j : ℤ) → part_fill plan layers k i j ≡ low_fill (chip_plan values k) layers i j && has_row k (bands plan.raster.up) (band_of plan.raster.up j)

-- And its lines are those of what its windows measure there, told with their rows in the whole chip.
abbrev pub PartLinesAreOfItsChip : Type 0
PartLinesAreOfItsChip = (values : Values) (k : Part) (layers : Layers) → let plan = plan_of values in let chip = chip_plan values k in AreAxes plan → IsPart k → 0 < bands plan.raster.up → some_below (looks_at plan k) plan.windows.up.count ≡ true
    → part_report values (drawn_squares layers) (low_fill plan layers) k
    ≡ part_lines (windows_of values) (limits_of values) (λ a b. measures_of (drawn_squares layers) (boxes_of chip (low_fill chip layers)) chip.windows a (b - (part_windows plan k).from)) k

-- The part's piece of the report is what its chip tells of the part's own windows, with so many rows more as lie below its chip.
abbrev pub PartLinesAreTold : Type 0
PartLinesAreTold = (values : Values) (k : Part) (layers : Layers) → let plan = plan_of values in let chip = chip_plan values k in let rows = part_windows plan k in
    AreAxes plan → IsPart k → 0 < bands plan.raster.up → some_below (looks_at plan k) plan.windows.up.count ≡ true
    → part_report values (drawn_squares layers) (low_fill plan layers) k
    ≡ lines_above rows.from chip.windows (limits_of values) (measures_of (drawn_squares layers) (boxes_of chip (low_fill chip layers)) chip.windows)
    ((first_row k plan.windows.up.count - rows.from) * chip.windows.across.count) ((past_row k plan.windows.up.count - first_row k plan.windows.up.count) * chip.windows.across.count)
