-- The fills of parts as one set, and as strips.
use Rattle.std.proofs.Common.{◌≡◌, refl, sym, ap, subst, ◌∙◌, ℕ, zero, suc, ◌<◌, arith, inl, inr, ℤ, Bool, true, false, ◌||◌, List, [], ◌∷◌, ◌++◌, length, Option, Some, None}
use Rattle.std.specs.Prelude.{All, slice_get, if◌then◌else◌}
use Rattle.std.specs.List.{find}
use Rattle.std.specs.Option.{option_or}
use Rattle.std.proofs.Math.Path.{fun_ext}
use Rattle.std.proofs.lemmas.Bool.{and_parts, cases_Bool}
use Rattle.std.proofs.lemmas.List.Folds.{find-append}
use Rattle.fill_raster.specs.Axes.{band_of, bands, is_on}
use Rattle.fill_raster.specs.Lattice.{in_raster}
use Rattle.fill_state.specs.Filling.{Filling, is_filled}
use Rattle.fill_text.specs.Rules.{Values, raster_of}
use Rattle.fill_parts.specs.Cuts.{has_row}
use Rattle.fill_parts.specs.Laws.{part}
use Rattle.fill_parts.proofs.Cutting.{row_of_is, same_part}
use Rattle.gds_out.specs.Places.{PlaceSet, marked_by}
use Rattle.gds_out.specs.Strips.{marked_if, marked_in, strip_at}
use Rattle.gds_out.specs.declared.sheet.Strip.{Strip}
use Rattle.gds_out.proofs.Sheets.{found_all}
use Rattle.gds_join.specs.Fills.{fill_at, filled_if, filled_in}
use Rattle.gds_join.specs.Joined.{IsFillBelow}
use Rattle.gds_join.specs.Joins.{Meets}
use Rattle.gds_join.specs.steps.Strips.{AreStripsOf, IsStripOf}

-- a filled place is on the fill's raster
pub on_fill : (f : Filling) (i j : ℤ) → is_filled f i j ≡ true → is_on f.raster.up j ≡ true
on_fill f i j h = (and_parts (is_on f.raster.across i) _ (and_parts (in_raster f.raster i j) _ h).0).1

-- ---- one fill more

module _ (values : Values) (count taken : ℕ) (fills : List Filling) (f : Filling) (some : 0 < count) (below : All (IsFillBelow values count taken) fills)
    (own : (j : ℤ) → is_on f.raster.up j ≡ true → has_row (part taken count) (bands (raster_of values.numbers).up) (band_of (raster_of values.numbers).up j) ≡ true) where
  -- no fill before it has one of its rows
  apart_row : (g : Filling) (j : ℤ) → fill_at fills j ≡ Some g → is_on f.raster.up j ≡ true → ⊥
  apart_row g j is on =
      let found = found_all (IsFillBelow values count taken) (λ (h : Filling). is_on h.raster.up j) fills g below is in
      let row = found.0.rows j found.1 in
      let same = same_part (bands (raster_of values.numbers).up) count row.number taken (band_of (raster_of values.numbers).up j) some (row_of_is _ _ _ row.has) (row_of_is _ _ _ (own j on)) in
      let lt = row.below in omega (arith, same, lt)

  pub fills_apart : Meets (is_filled f) (filled_in fills) → ⊥
  fills_apart m = by (fill_at fills m.j) refl m.second
    where
      by : (o : Option Filling) → fill_at fills m.j ≡ o → filled_if o m.i m.j ≡ true → ⊥
      by None is h = cc h
      by (Some g) is h = apart_row g m.j is (on_fill f m.i m.j m.first)

  pub fills_more : (i j : ℤ) → filled_in (fills ++ f ∷ []) i j ≡ filled_in fills i j || is_filled f i j
  fills_more i j = ap (λ (o : Option Filling). filled_if o i j) (find-append (λ (h : Filling). is_on h.raster.up j) fills (f ∷ [])) ∙ by (fill_at fills j) refl
    where
      unheld : (b : Bool) → b ≡ is_on f.raster.up j → filled_if (if b then Some f else None) i j ≡ is_filled f i j
      unheld true e = refl
      unheld false e = elim (cases_Bool (is_filled f i j)) [
        | inl filled ↦ absurd (let g : false ≡ true = e ∙ on_fill f i j filled in cc g)
        | inr empty ↦ sym empty
      ]

      never : (g : Filling) → fill_at fills j ≡ Some g → is_filled f i j ≡ false
      never g is = elim (cases_Bool (is_filled f i j)) [
        | inl filled ↦ absurd (apart_row g j is (on_fill f i j filled))
        | inr empty ↦ empty
      ]

      or_none : (b : Bool) → b ≡ b || false
      or_none true = refl
      or_none false = refl

      by : (o : Option Filling) → fill_at fills j ≡ o → filled_if (option_or o (find (λ (h : Filling). is_on h.raster.up j) (f ∷ []))) i j ≡ filled_if o i j || is_filled f i j
      by None is = unheld (is_on f.raster.up j) refl
      by (Some g) is = or_none (is_filled g i j) ∙ ap (λ b. is_filled g i j || b) (sym (never g is))

-- parts that are among the first so many are among more
pub below_more : (values : Values) (count taken more : ℕ) (fills : List Filling) → taken < more → All (IsFillBelow values count taken) fills → All (IsFillBelow values count more) fills
below_more values count taken more fills lt all k d within =
    let f = all k d within in
    record { columns = f.columns; rows = λ j on. (let row = f.rows j on in record { number = row.number; below = (let b = row.below in omega (arith, b, lt)); on = row.on; has = row.has }) }

pub all_push : {X : Type 0} (P : X → Type 0) (xs : List X) (x : X) → All P xs → P x → All P (xs ++ x ∷ [])
all_push P [] x all this zero d lt = this
all_push P [] x all this (suc k) d lt = absurd (omega (arith, lt))
all_push P (y ∷ ys) x all this zero d lt = all 0 d (omega arith)
all_push P (y ∷ ys) x all this (suc k) d lt = all_push P ys x (λ m e less. all (suc m) e (omega (arith, less))) this k d (omega (arith, lt))

-- ---- strips

pub same_places : (fills : List Filling) (strips : List Strip) → AreStripsOf fills strips → marked_in strips ≡ filled_in fills
same_places fills strips are = fun_ext (λ i. fun_ext (λ j. by fills strips are i j))
  where
    by : (fs : List Filling) (ss : List Strip) → AreStripsOf fs ss → (i j : ℤ) → marked_in ss i j ≡ filled_in fs i j
    by [] [] are i j = refl
    by [] (s ∷ ss) are i j = absurd (let c = are.count in omega (arith, c))
    by (f ∷ fs) [] are i j = absurd (let c = are.count in omega (arith, c))
    by (f ∷ fs) (s ∷ ss) are i j =
        let this = are.each 0 f s refl refl in
        let rest : AreStripsOf fs ss = record { count = (let c = are.count in omega (arith, c)); each = λ k g t at there. are.each (suc k) g t at there } in
        turn (is_on s.raster.up j) (is_on f.raster.up j) (ap (λ r. is_on r.up j) this.raster) (ap (λ (p : PlaceSet). p i j) this.marked) (by fs ss rest i j)
      where
        turn : (b c : Bool) → b ≡ c → marked_by s.marks.items i j ≡ is_filled f i j → marked_in ss i j ≡ filled_in fs i j
            → marked_if (if b then Some s else strip_at ss j) i j ≡ filled_if (if c then Some f else fill_at fs j) i j
        turn true true e here later = here
        turn false false e here later = later
        turn true false e here later = cc e
        turn false true e here later = cc e

pub strips_pushed : (fills : List Filling) (strips : List Strip) (s : Strip) (f : Filling) (k : ℕ) → length strips ≡ k → slice_get fills k ≡ Some f → IsStripOf f s
    → ((m : ℕ) (g : Filling) (t : Strip) → slice_get fills m ≡ Some g → slice_get strips m ≡ Some t → IsStripOf g t)
    → (m : ℕ) (g : Filling) (t : Strip) → slice_get fills m ≡ Some g → slice_get (strips ++ s ∷ []) m ≡ Some t → IsStripOf g t
strips_pushed fills [] s f k len at this before zero g t here there =
    let z : slice_get fills 0 ≡ Some f = rw (← len) at at in
    let e : f ≡ g = cc (sym z ∙ here) in let d : s ≡ t = cc there in
    subst (λ (x : Filling). IsStripOf x t) e (subst (λ (y : Strip). IsStripOf f y) d this)
strips_pushed fills [] s f k len at this before (suc m) g t here there = absurd (cc there)
strips_pushed [] (y ∷ ys) s f k len at this before m g t here there = absurd (cc here)
strips_pushed (x ∷ xs) (y ∷ ys) s f k len at this before zero g t here there = before 0 g t here there
strips_pushed (x ∷ xs) (y ∷ ys) s f zero len at this before (suc m) g t here there = absurd (omega (arith, len))
strips_pushed (x ∷ xs) (y ∷ ys) s f (suc k) len at this before (suc m) g t here there =
    strips_pushed xs ys s f k (omega (arith, len)) at this (λ l h u a b. before (suc l) h u a b) m g t here there
