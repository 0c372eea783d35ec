-- How bytes lead from state to state, and where they stop.
use Rattle.std.specs.Prelude.{◌≡◌, ℕ, ◌-◌, Bool, true, false, List, [], ◌∷◌, ◌++◌, length, Option, Some, None}
use Rattle.std.specs.List.{flat_map, AllByRecursion}
use Rattle.gds_record.specs.Records.{Rec, IsRecord, spelling, IsBadLength, IsTruncated}
use Rattle.gds_grammar.specs.declared.element.Element.{Element}
use Rattle.gds_grammar.specs.declared.cell.CellStep.{CellStep}
use Rattle.gds_grammar.specs.declared.cell.CellStep.TheVariants as steps
use Rattle.gds_grammar.specs.declared.head.Part.{Part}
use Rattle.gds_grammar.specs.declared.head.Part.TheVariants as parts
use Rattle.gds_grammar.specs.declared.error.Refusal.{Refusal}
use Rattle.gds_grammar.specs.declared.error.Refusal.TheVariants.{Unexpected}
use Rattle.gds_grammar.specs.declared.error.Refusal.TheVariants as refusals
use Rattle.gds_grammar.specs.declared.error.LibraryError.{LibraryError}
use Rattle.gds_grammar.specs.declared.error.LibraryError.TheVariants as errors
use Rattle.gds_grammar.specs.declared.error.Cause.{Cause}
use Rattle.gds_grammar.specs.declared.error.Cause.TheVariants as causes
use Rattle.gds_grammar.specs.declared.error.Stop.{Stop}
use Rattle.gds_grammar.specs.declared.error.Stop.TheVariants as stops
use Rattle.gds_grammar.specs.Forms.{IsWell}
use Rattle.gds_grammar.specs.declared.element.ElementKind.{ElementKind}
use Rattle.gds_grammar.specs.Elements.{kinds_in, is_whole, are_points, is_closed, has_string, shapes_in}
use Rattle.gds_grammar.specs.Values.{Shape, Contents, shape_of}
use Rattle.gds_grammar.specs.Grammar.{all_rules}
use Rattle.gds_grammar.specs.Machine.{State, Dated, Titled, Between, Named, Within, Body, Tail, Done, behind_xy, with_cell, fine, refuse, next_state, step, run}

-- the bytes begin with well-formed records that lead from one state to the other, and with the rest
-- behind them
pub record Reaches (bytes : List ℕ) (s : State) (rest : List ℕ) (t : State) : Type 0 where
  pub taken : List Rec
  pub parts : bytes ≡ flat_map spelling taken ++ rest
  pub fit : AllByRecursion IsRecord taken
  pub runs : run all_rules s taken ≡ fine t

-- the record at the front
pub record IsNext (bytes : List ℕ) (r : Rec) (rest : List ℕ) : Type 0 where
  pub parts : bytes ≡ spelling r ++ rest
  pub fits : IsRecord r
  pub well : IsWell r

-- a library that has ended takes no more
abbrev pub IsOpen : State → Type 0
IsOpen s = (l : Contents) → s ≡ Done l → ⊥

pub record IsRefusedAt (s : State) (bytes : List ℕ) (e : Refusal) : Type 0 where
  pub faulty : Rec
  pub rest : List ℕ
  pub parts : bytes ≡ spelling faulty ++ rest
  pub fits : IsRecord faulty
  pub refused : step all_rules s faulty ≡ refuse e

-- no record stands there, or one that is refused
abbrev pub FailsAt : State → List ℕ → Cause → Type 0
FailsAt s bytes causes.Truncated = IsTruncated bytes
FailsAt s bytes causes.BadLength = IsBadLength bytes
FailsAt s bytes (causes.Refused e) = IsRefusedAt s bytes e

-- records lead to where reading fails, with so many bytes left
pub record FailsLater (bytes : List ℕ) (s : State) (cause : Cause) (left : ℕ) : Type 0 where
  pub at : State
  pub rest : List ℕ
  pub reached : Reaches bytes s rest at
  pub unfinished : IsOpen at
  pub here : length rest ≡ left
  pub fails : FailsAt at rest cause

abbrev pub Fails : List ℕ → State → Stop → Type 0
Fails bytes s stops.Memory = Unit {0}
Fails bytes s (stops.Fault cause left) = FailsLater bytes s cause left

-- only a record of this kind is taken
abbrev pub OnlyTakes : State → ℕ → Type 0
OnlyTakes s kind = (r : Rec) → (r.kind ≡ kind → ⊥) → next_state all_rules s r ≡ refuse Unexpected

-- an element that says something, or none
abbrev pub shapes_of : Option Element → List Shape
shapes_of None = []
shapes_of (Some e) = shape_of e ∷ []

-- the record at the front, by its kind and its data
pub record IsNextOf (bytes : List ℕ) (kind : ℕ) (body rest : List ℕ) : Type 0 where
  pub first : Rec
  pub next : IsNext bytes first rest
  pub kind_is : first.kind ≡ kind
  pub body_is : first.body ≡ body

-- among the library parts, with and without a LIBNAME so far
abbrev pub parts_state : Bool → List ℕ → State
parts_state true dates = Titled dates
parts_state false dates = Dated dates

abbrev pub after_part : Part → List ℕ → List ℕ → State
after_part (parts.More titled) dates body = parts_state titled dates
after_part parts.Last dates body = Between (record { dates = dates; units = body; cells = [] })

-- what an element has to have before it is made
pub record IsBody (element : ElementKind) (before : List Rec) (xy : List ℕ) : Type 0 where
  pub whole : is_whole element (kinds_in before) ≡ true
  pub points : are_points element xy ≡ true
  pub closed : is_closed element xy ≡ true

-- in an element, behind one more record, its XY or not
abbrev pub after_body : Bool → Contents → List ℕ → List Shape → ElementKind → List Rec → Rec → State
after_body true l name shapes element before r =
    behind_xy (has_string element) l name (shapes ++ shapes_in element before r.body)
after_body false l name shapes element before r = Body l name shapes element (before ++ r ∷ [])

-- behind XY and string: behind one property, or the element's end
abbrev pub after_tail : Bool → Contents → List ℕ → List Shape → State
after_tail true l name shapes = Within l name shapes
after_tail false l name shapes = Tail l name shapes

-- in a cell: right behind STRNAME, or later
abbrev pub cell_state : Bool → Contents → List ℕ → List Shape → State
cell_state true l name shapes = Named l name
cell_state false l name shapes = Within l name shapes

abbrev pub after_step : CellStep → Contents → List ℕ → List Shape → State
after_step steps.Class l name shapes = Within l name shapes
after_step (steps.Opens element) l name shapes = Body l name shapes element []
after_step steps.Ends l name shapes = Between (with_cell l name shapes)

-- behind one element, or the cell's end
abbrev pub after_elements : Bool → Contents → List ℕ → List Shape → State
after_elements true l name shapes = Between (with_cell l name shapes)
after_elements false l name shapes = Within l name shapes

-- behind one cell, or the library's end
abbrev pub after_cell : Bool → Contents → State
after_cell true l = Done l
after_cell false l = Between l

-- how a fault is told, for so many bytes in all
abbrev pub left_of : Stop → ℕ
left_of stops.Memory = 0
left_of (stops.Fault cause left) = left

abbrev pub error_of : Stop → ℕ → LibraryError
error_of stops.Memory total = errors.Memory
error_of (stops.Fault causes.Truncated left) total = errors.Truncated
error_of (stops.Fault causes.BadLength left) total = errors.BadLength
error_of (stops.Fault (causes.Refused refusals.Unexpected) left) total = errors.Unexpected (total - left)
error_of (stops.Fault (causes.Refused refusals.BadXY) left) total = errors.BadXY
error_of (stops.Fault (causes.Refused refusals.NotClosed) left) total = errors.NotClosed
error_of (stops.Fault (causes.Refused refusals.DuplicateCell) left) total = errors.DuplicateCell
