-- The strips of a sheet.
use Rattle.std.proofs.Common.{◌≡◌, refl, sym, subst, ◌∙◌, ℕ, suc, ◌<◌, arith, inl, inr, ℤ, pos, ◌+ℤ◌, ◌≤ℤ◌, ◌<ℤ◌, Bool, true, false, ◌&&◌, List, [], ◌∷◌, map, get_or, Bor, Some, None}
use Rattle.std.specs.Prelude.{All, filter, if◌then◌else◌}
use Rattle.std.specs.List.{find}
use Rattle.std.proofs.Math.Path.{fun_ext}
use Rattle.std.proofs.lemmas.Bool.{cases_Bool}
use Rattle.std.proofs.lemmas.List.Folds.{list_any_none}
use Rattle.std.proofs.lemmas.Int.{ints}
use Rattle.std.proofs.lemmas.Option.{slice_get-get_or}
use Rattle.fill_raster.specs.Axes.{IsAxis, is_on, past}
use Rattle.fill_raster.specs.Lattice.{Lattice, in_raster}
use Rattle.fill_raster.specs.Marks.{Marked, is_marked}
use Rattle.fill_stacks.specs.Counting.{as_piece}
use Rattle.fill_stacks.specs.Places.{places_along, row_pieces}
use Rattle.fill_stacks.specs.declared.pieces.Piece.{Piece}
use Rattle.fill_stacks.specs.declared.pieces.Stack.{Stack}
use Rattle.gds_out.specs.Places.{AreOfTiles, marked_by}
use Rattle.gds_out.specs.Strips.{marked_if, marked_in, strip_at}
use Rattle.gds_out.specs.declared.sheet.Strip.{Strip}
use Rattle.gds_out.specs.steps.Ranges.{IsStackOf}
use Rattle.gds_out.proofs.Along.{unmarked}
use Rattle.gds_out.proofs.Corners.{on_axis}

-- what a search finds passes the test, and has what all have
pub found_all : {X : Type 0} (P : X → Type 0) (p : X → Bool) (xs : List X) (x : X) → All P xs → find p xs ≡ Some x → P x × (p x ≡ true)
found_all P p [] x all is = absurd (cc is)
found_all P p (y ∷ ys) x all is = elim (cases_Bool (p y)) [
  | inl here ↦ (let e : y ≡ x = cc (rw here at is) in (subst P e (all 0 y (omega arith)), subst (λ z. p z ≡ true) e here))
  | inr there ↦ found_all P p ys x (λ k d lt. all (suc k) d (omega (arith, lt))) (rw there at is)
]

-- a row of a strip is one of the sheet
pub row_same : (r : Lattice) (strips : List Strip) (s : Strip) (j : ℤ) → s.raster.across ≡ r.across → strip_at strips j ≡ Some s → row_pieces (marked_by s.marks.items) s.raster j ≡ row_pieces (marked_in strips) r j
row_same r strips s j columns is = rw (columns, is) refl

none_pass : {X : Type 0} (xs : List X) → filter (λ x. false) xs ≡ []
none_pass [] = refl
none_pass (x ∷ xs) = none_pass xs

pub no_row : (r : Lattice) (strips : List Strip) (j : ℤ) (list : List Piece) → list ≡ [] → strip_at strips j ≡ None → list ≡ map as_piece (row_pieces (marked_in strips) r j)
no_row r strips j list empty is = rw (empty, is, none_pass (places_along r.across)) refl

-- ---- one strip alone

off_raster : (r : Lattice) (marks : List (Bor Marked)) (i j : ℤ) → AreOfTiles r marks → in_raster r i j ≡ false → marked_by marks i j ≡ false
off_raster r marks i j are off = list_any_none (λ (x : Bor Marked). is_marked x.now i j) marks (λ k d lt. unmarked (get_or marks k d).now i j (are.places k (get_or marks k d) (slice_get-get_or marks k d lt) i j ∙ rw off refl))

pub one_strip : (s : Strip) → AreOfTiles s.raster s.marks.items → marked_in (s ∷ []) ≡ marked_by s.marks.items
one_strip s are = fun_ext (λ i. fun_ext (λ j. by i j (is_on s.raster.up j) refl))
  where
    no_and : (b c : Bool) → c ≡ false → (b && c) ≡ false
    no_and true c h = h
    no_and false c h = refl

    by : (i j : ℤ) (b : Bool) → is_on s.raster.up j ≡ b → marked_if (if b then Some s else None) i j ≡ marked_by s.marks.items i j
    by i j true is = refl
    by i j false is = sym (off_raster s.raster s.marks.items i j are (no_and (is_on s.raster.across i) (is_on s.raster.up j) is))

-- ---- the first place of a stack

before : (i : ℤ) (n : ℕ) (p : ℤ) → 0 < n → (i +ℤ pos n) ≤ℤ p → i <ℤ p
before i n p some to = omega (arith, ints)

pub column_on : (r : Lattice) (s : Stack) → IsAxis r.across → IsStackOf r s → is_on r.across s.column ≡ true
column_on r s is part = on_axis r.across s.column is part.left (before s.column s.columns (past r.across) part.wide part.right)

pub row_on : (r : Lattice) (s : Stack) → IsAxis r.up → IsStackOf r s → is_on r.up s.row ≡ true
row_on r s is part = on_axis r.up s.row is part.low (before s.row s.rows (past r.up) part.tall part.high)
