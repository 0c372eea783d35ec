-- What a run looks at: all of a chip, or a part of it as a smaller chip, near a rectangle.
use Rattle.std.specs.Prelude.{◌≡◌, ◌&&◌, ◌≤◌, ℕ, Bool, List, Option, Some, None, Ok, IfSome, int_lt}
use Rattle.std.specs.List.{filter}
use Rattle.fill_base.specs.Sides.{sides_of}
use Rattle.fill_base.specs.Squares.{squares}
use Rattle.fill_base.specs.declared.rect.Rect.{Rect}
use Rattle.fill_text.specs.Rules.{Values, windows_of}
use Rattle.fill_text.specs.declared.script.Edit.{Edit}
use Rattle.fill_job.specs.Plans.{Plan, PointSet, plan_of}
use Rattle.fill_parts.specs.Cuts.{Part}
use Rattle.fill_parts.specs.Needs.{in_coordinates, needed_sides}
use Rattle.fill_parts.specs.PartChip.{HoldsPart, part_rules, rows_fill, rows_told}
use Rattle.fill_parts.specs.PartFill.{rect_of}
use Rattle.fill_parts.specs.PartReport.{part_check}
use Rattle.fill_parts.specs.Told.{tiles_in, windows_in}
use Rattle.fill_parts.specs.declared.part_rules.ToldRows.{ToldRows}
use Rattle.fill_report.specs.BookReport.{boxes_of, fill_report}
use Rattle.fill_report.specs.Report.{nothing}
use Rattle.fill_report.specs.RulesReport.{metal_report}
use Rattle.gds_cells.specs.declared.error.FlattenError.{FlattenError}
use Rattle.densfill_engine.specs.Designs.{IsFaultBy, IsUncounted, IsUndrawn}
use Rattle.densfill_engine.specs.Inputs.{answer_of}
use Rattle.densfill_engine.specs.Scopes.{part_told, size_of}
use Rattle.densfill_engine.specs.declared.refusal.DesignError.{DesignError}
use Rattle.densfill_engine.specs.declared.refusal.InputFault.{InputFault}
use Rattle.densfill_engine.specs.declared.scope.Reach.{Reach}
use Rattle.densfill_engine.specs.declared.scope.Reach.TheVariants.{Windows, Needs}
use Rattle.densfill_engine.specs.declared.scope.Scope.{Scope}
use Rattle.densfill_engine.specs.declared.scope.Scope.TheVariants as asked
use Rattle.densfill_engine.specs.declared.view.Told.{Told}
use Rattle.densfill_engine.specs.declared.view.Told.TheVariants.{Everything, Rows}

-- ---- what is told: of all of a chip everything, of a part some rows of the smaller chip

-- the rows that are told are rows of windows of these rules
abbrev pub FitsIn : Values → Told → Type 0
FitsIn values told = (rows : ToldRows) → told ≡ Rows rows → (rows.windows.start ≤ rows.windows.end) × (rows.windows.end ≤ (windows_of values).up.count)

-- the lines of metal without fill
abbrev pub lines_told : Told → Values → PointSet → List ℕ
lines_told Everything values metal = metal_report metal values
lines_told (Rows rows) values metal = rows_told values (windows_in rows) rows.below metal nothing

-- the places of a fill
abbrev pub places_told : Told → Plan → PointSet → PointSet
places_told Everything plan fill = fill
places_told (Rows rows) plan fill = rows_fill plan (tiles_in rows) fill

-- the lines of metal and fill
abbrev pub report_told : Told → Values → PointSet → PointSet → List ℕ
report_told Everything values metal fill = fill_report values metal fill
report_told (Rows rows) values metal fill = rows_told values (windows_in rows) rows.below metal (boxes_of (plan_of values) fill)

-- ---- how far a part looks

-- of any metal, what lies within the rectangle gives the part's lines
abbrev pub Frames : Values → Part → Rect → Type 0
Frames values k frame = (metal : PointSet) → part_check values (λ x y. metal x y && squares frame x y) k ≡ part_check values metal k

-- the rectangle is the least round all that a chip of these rules looks at, as far as there are coordinates
abbrev pub HoldsChip : Values → Rect → Type 0
HoldsChip values frame = sides_of frame ≡ in_coordinates (needed_sides (plan_of values))

-- so of the part as a smaller chip
abbrev pub HoldsNeeds : Values → Part → Rect → Type 0
HoldsNeeds values k frame = (small : Values) × (part_rules values k ≡ Ok small) × HoldsChip small frame

-- the rectangle is enough for the part's lines, or for its fill
abbrev pub Suffices : Reach → Values → Part → Rect → Type 0
Suffices Windows values k frame = Frames values k frame
Suffices Needs values k frame = HoldsNeeds values k frame

-- and so the rectangle says of the smaller chip
abbrev pub IsFrameOf : Reach → Values → ToldRows → Rect → Type 0
IsFrameOf Windows small rows frame = (metal : PointSet) → lines_told (Rows rows) small (λ x y. metal x y && squares frame x y) ≡ lines_told (Rows rows) small metal
IsFrameOf Needs small rows frame = HoldsChip small frame

-- these are the rules of the part as a smaller chip, the rows that are told of it, and such a rectangle
pub record IsPartView (reach : Reach) (values : Values) (k : Part) (small : Values) (rows : ToldRows) (frame : Rect) : Type 0 where
  pub rules : part_rules values k ≡ Ok small
  pub holds : HoldsPart values k small (tiles_in rows) (windows_in rows) rows.below
  pub fits : FitsIn small (Rows rows)
  pub frame_is : IsFrameOf reach small rows frame

-- what is looked at, of a chip of these values
abbrev pub IsViewOf : Scope → Reach → Values → Values → Told → Option Rect → Type 0
IsViewOf asked.Whole reach values small told frame = (small ≡ values) × (told ≡ Everything) × (frame ≡ None)
IsViewOf (asked.Part k) reach values small told frame = (rows : ToldRows) × (rect : Rect) × (told ≡ Rows rows) × (frame ≡ Some rect) × IsPartView reach values k small rows rect

-- of the chip that the bytes of a rule file say, where they are known
abbrev pub IsView : Scope → Reach → Option (List ℕ) → Values → Told → Option Rect → Type 0
IsView scope reach rules small told frame = (values : Values) × IsViewOf scope reach values small told frame × IfSome rules (λ text. answer_of (size_of scope) text ≡ Ok values)

-- ---- edits

-- the rectangle of the edit shares a square with the other one
abbrev pub is_near : Rect → Edit → Bool
is_near frame edit =
    let r = rect_of edit in
    (int_lt r.x1 frame.x2 && int_lt frame.x1 r.x2) && (int_lt r.y1 frame.y2 && int_lt frame.y1 r.y2)

abbrev pub edits_near : Option Rect → List Edit → List Edit
edits_near None edits = edits
edits_near (Some frame) edits = filter (is_near frame) edits

-- ---- why there is nothing of a design

-- of a part, as it is told: a cause near a rectangle that suffices
pub record IsPartFault (reach : Reach) (refused : Option Rect → FlattenError → Type 0) (bytes : List ℕ) (values : Values) (k : Part) (fault : InputFault DesignError) : Type 0 where
  pub frame : Rect
  pub suffices : Suffices reach values k frame
  pub met : InputFault DesignError
  pub why : IsFaultBy (refused (Some frame)) bytes met
  pub told : fault ≡ part_told k met

abbrev pub IsFaultIn : Scope → Reach → (Option Rect → FlattenError → Type 0) → List ℕ → Values → InputFault DesignError → Type 0
IsFaultIn asked.Whole reach refused bytes values fault = IsFaultBy (refused None) bytes fault
IsFaultIn (asked.Part k) reach refused bytes values fault = IsPartFault reach refused bytes values k fault

-- why there is no metal, or no existing fill behind it
abbrev pub IsMetalFault : Scope → List ℕ → Values → InputFault DesignError → Type 0
IsMetalFault scope bytes values fault = IsFaultIn scope Windows (λ frame. IsUncounted frame bytes values) bytes values fault

-- why there is no metal, or behind it no existing fill, or none of the keep-outs behind both
abbrev pub IsDesignFault : Scope → List ℕ → Values → InputFault DesignError → Type 0
IsDesignFault scope bytes values fault = IsFaultIn scope Needs (λ frame. IsUndrawn frame bytes values) bytes values fault
