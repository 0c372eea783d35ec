-- The reader as a machine that takes one record after another.
use Rattle.std.specs.Prelude.{ℕ, Bool, true, false, cond, List, [], ◌∷◌, ◌++◌, Option, Some, None, Result, Ok, Err, ◌==◌}
use Rattle.fill_base.specs.Sequence.{◌>>=◌}
use Rattle.gds_record.specs.declared.kind.TheConstants as kinds
use Rattle.gds_record.specs.Records.{Rec}
use Rattle.gds_record.specs.Numbers.{trimmed}
use Rattle.gds_grammar.specs.declared.element.ElementKind.{ElementKind}
use Rattle.gds_grammar.specs.declared.error.Refusal.{Refusal}
use Rattle.gds_grammar.specs.declared.error.Refusal.TheVariants.{Unexpected, BadXY, NotClosed, DuplicateCell}
use Rattle.gds_grammar.specs.Forms.{among, is_well}
use Rattle.gds_grammar.specs.Values.{Shape, Contents}
use Rattle.gds_grammar.specs.Elements.{opening, may_stand, kinds_in, is_whole, has_string, shapes_in}
use Rattle.gds_grammar.specs.Grammar.{Rules, library_kinds}

-- what was read so far, and so what may come next
pub data State : Type 0 where
  Start : State
  Headed : State
  -- behind BGNLIB, without and with a LIBNAME
  Dated : (dates : List ℕ) → State
  Titled : (dates : List ℕ) → State
  -- between cells
  Between : (l : Contents) → State
  -- behind BGNSTR, and behind its STRNAME
  Opened : (l : Contents) → State
  Named : (l : Contents) (name : List ℕ) → State
  -- between elements
  Within : (l : Contents) (name : List ℕ) (shapes : List Shape) → State
  -- in an element, before XY, behind XY of a text, and behind all but properties
  Body : (l : Contents) (name : List ℕ) (shapes : List Shape) (element : ElementKind) (before : List Rec)
      → State
  Unlettered : (l : Contents) (name : List ℕ) (shapes : List Shape) → State
  Tail : (l : Contents) (name : List ℕ) (shapes : List Shape) → State
  -- behind PROPATTR
  Paired : (l : Contents) (name : List ℕ) (shapes : List Shape) → State
  Done : (l : Contents) → State

abbrev pub fine : State → Result State Refusal
fine s = Ok s

abbrev pub refuse : Refusal → Result State Refusal
refuse e = Err e

-- only a record of this kind may come
abbrev pub expect : ℕ → Rec → State → Result State Refusal
expect kind r s = cond (r.kind == kind) (fine s) (refuse Unexpected)

abbrev pub with_cell : Contents → List ℕ → List Shape → Contents
with_cell l name shapes = record {
  dates = l.dates;
  units = l.units;
  cells = l.cells ++ record { name = name; shapes = shapes } ∷ [];
}

-- where an element goes on behind XY
abbrev pub behind_xy : Bool → Contents → List ℕ → List Shape → State
behind_xy true l name shapes = Unlettered l name shapes
behind_xy false l name shapes = Tail l name shapes

abbrev pub opened : Contents → List ℕ → List Shape → Rec → Option ElementKind → Result State Refusal
opened l name shapes r (Some element) = fine (Body l name shapes element [])
opened l name shapes r None = expect kinds.ENDSTR r (Between (with_cell l name shapes))

-- between elements an element opens, or the cell ends
abbrev pub within : Contents → List ℕ → List Shape → Rec → Result State Refusal
within l name shapes r = opened l name shapes r (opening r.kind)

abbrev pub at_xy : Rules → Contents → List ℕ → List Shape → ElementKind → List Rec → List ℕ
    → Result State Refusal
at_xy ρ l name shapes element before xy =
    cond (is_whole element (kinds_in before))
    (cond (ρ.points element xy)
    (cond (ρ.closed element xy)
    (fine (behind_xy (has_string element) l name (shapes ++ shapes_in element before xy)))
    (refuse NotClosed))
    (refuse BadXY))
    (refuse Unexpected)

-- where a well-formed record leads
unfoldable pub next_state : Rules → State → Rec → Result State Refusal
next_state ρ Start r = expect kinds.HEADER r Headed
next_state ρ Headed r = expect kinds.BGNLIB r (Dated r.body)
next_state ρ (Dated dates) r =
    cond (r.kind == kinds.LIBNAME) (fine (Titled dates))
    (cond (among library_kinds r.kind) (fine (Dated dates)) (refuse Unexpected))
next_state ρ (Titled dates) r =
    cond (among library_kinds r.kind) (fine (Titled dates))
    (expect kinds.UNITS r (Between (record { dates = dates; units = r.body; cells = [] })))
next_state ρ (Between l) r =
    cond (r.kind == kinds.BGNSTR) (fine (Opened l)) (expect kinds.ENDLIB r (Done l))
next_state ρ (Opened l) r =
    cond (r.kind == kinds.STRNAME)
    (cond (ρ.taken l.cells (trimmed r.body)) (refuse DuplicateCell) (fine (Named l (trimmed r.body))))
    (refuse Unexpected)
next_state ρ (Named l name) r =
    cond (r.kind == kinds.STRCLASS) (fine (Within l name [])) (within l name [] r)
next_state ρ (Within l name shapes) r = within l name shapes r
next_state ρ (Body l name shapes element before) r =
    cond (r.kind == kinds.XY) (at_xy ρ l name shapes element before r.body)
    (cond (may_stand element (kinds_in before) r.kind)
    (fine (Body l name shapes element (before ++ r ∷ [])))
    (refuse Unexpected))
next_state ρ (Unlettered l name shapes) r = expect kinds.STRING r (Tail l name shapes)
next_state ρ (Tail l name shapes) r =
    cond (r.kind == kinds.PROPATTR) (fine (Paired l name shapes))
    (expect kinds.ENDEL r (Within l name shapes))
next_state ρ (Paired l name shapes) r = expect kinds.PROPVALUE r (Tail l name shapes)
next_state ρ (Done l) r = refuse Unexpected

-- where a record leads
abbrev pub step : Rules → State → Rec → Result State Refusal
step ρ s r = cond (is_well r) (next_state ρ s r) (refuse Unexpected)

-- where records lead, one after another
unfoldable pub run : Rules → State → List Rec → Result State Refusal
run ρ s [] = fine s
run ρ s (r ∷ rs) = step ρ s r >>= λ t. run ρ t rs
