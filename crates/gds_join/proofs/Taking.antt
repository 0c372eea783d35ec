-- A part's library is taken behind others.
use Rattle.std.proofs.Common.{◌≡◌, refl, sym, ap, ◌∙◌, subst, ◌+◌, ◌-◌, ◌<◌, ◌≤◌, arith, ◌||◌, ◌∷◌, [], ◌++◌, Bool, true, false, List, ℕ, zero, suc, ℤ, Option, Some, None, IfSome}
use Rattle.std.specs.Prelude.{All, if◌then◌else◌, nat_lt}
use Rattle.std.specs.Option.{unwrap_or}
use Rattle.fill_raster.specs.Axes.{IsAxis, band_of, bands, is_on}
use Rattle.fill_raster.specs.Lattice.{Lattice}
use Rattle.fill_raster.specs.declared.axis.Axis.{Axis}
use Rattle.fill_state.specs.Filling.{Filling, is_filled}
use Rattle.fill_text.specs.Rules.{Values, raster_of}
use Rattle.fill_text.specs.ValuesOfRules.{values_of}
use Rattle.fill_text.specs.declared.rules.Rules.{Rules}
use Rattle.fill_parts.specs.Cuts.{IsPart, Part, first_row, has_row, past_row}
use Rattle.fill_parts.specs.Laws.{part}
use Rattle.fill_parts.specs.PartChip.{own_alone}
use Rattle.gds_out.specs.FillText.{fill_text, fill_text_on}
use Rattle.gds_out.specs.Places.{AreOfTiles, PlaceSet}
use Rattle.gds_out.specs.Strips.{IsSheet, IsStripOf, marked_in}
use Rattle.gds_out.specs.declared.sheet.Sheet.{Sheet}
use Rattle.gds_out.specs.declared.sheet.Strip.{Strip}
use Rattle.gds_join.specs.Fills.{filled_in}
use Rattle.gds_join.specs.Joined.{IsFillBelow}
use Rattle.gds_join.specs.Joins.{Design, IsNoPart, IsOfDesign, IsPartRefused, IsPartText, IsTaken, IsUnread, IsUnreadOf}
use Rattle.gds_join.specs.declared.error.PartError.{PartError}
use Rattle.gds_join.specs.declared.error.PartError.TheVariants.{Library, Memory, NotAFill, OtherDesign, OtherRows, PlaceTwice, TooManyPlaces}
use Rattle.gds_join.specs.steps.Strips.{AreStripsOf, IsUnreadIf}
use Rattle.gds_join.proofs.Fills.{fills_apart, fills_more, same_places}
use Rattle.gds_join.proofs.Own.{own_row, text_of_part}

-- ---- reading

-- why a part's library is not read
pub unread_of : (values : Values) (k : Part) → IsAxis (raster_of values.numbers).across → IsAxis (raster_of values.numbers).up → IsPart k → (rules : Rules) (some : Bool) (bytes : List ℕ) (e : PartError)
    → values_of rules ≡ own_alone values k → some ≡ nat_lt (first_row k (bands (raster_of values.numbers).up)) (past_row k (bands (raster_of values.numbers).up)) → IsUnreadIf (values_of rules) some bytes e → IsUnreadOf values k bytes e
unread_of values k across up is rules some bytes Memory rules_are some_is why = why
unread_of values k across up is rules some bytes (Library e) rules_are some_is why = why
unread_of values k across up is rules some bytes NotAFill rules_are some_is why = λ units dates filled text.
    let t = text_of_part values k across up is bytes units dates filled text in
    why units dates filled (rw rules_are t.0) (λ none. t.1 (sym some_is ∙ none))
unread_of values k across up is rules some bytes TooManyPlaces rules_are some_is why = absurd why
unread_of values k across up is rules some bytes OtherDesign rules_are some_is why = why
unread_of values k across up is rules some bytes PlaceTwice rules_are some_is why = why
unread_of values k across up is rules some bytes OtherRows rules_are some_is why = why

-- a reading that may find places
pub unread_if : (values : Values) (bytes : List ℕ) (e : PartError) → IsUnreadIf values true bytes e → IsUnread values bytes e
unread_if values bytes Memory why = why
unread_if values bytes (Library e) why = why
unread_if values bytes NotAFill why = λ units dates filled is. why units dates filled is (λ e. absurd (let f : true ≡ false = e in cc f))
unread_if values bytes TooManyPlaces why = why
unread_if values bytes OtherDesign why = why
unread_if values bytes PlaceTwice why = why
unread_if values bytes OtherRows why = why

-- why what is no library of the next part is no fill library at all
pub unread_whole : (values : Values) (one : Bool) (k : Part) (design : Option Design) (earlier : PlaceSet) (bytes : List ℕ) (e : PartError) → IsNoPart values k bytes → IsUnread values bytes e → IsPartRefused values one k design earlier bytes e
unread_whole values one k design earlier bytes Memory other why = why
unread_whole values one k design earlier bytes (Library e) other why = why
unread_whole values one k design earlier bytes NotAFill other why = (other, λ is. why)
unread_whole values one k design earlier bytes TooManyPlaces other why = absurd why
unread_whole values one k design earlier bytes OtherDesign other why = absurd why
unread_whole values one k design earlier bytes PlaceTwice other why = absurd why
unread_whole values one k design earlier bytes OtherRows other why = absurd why

-- what is wrong with a part's library alone
pub refused_alone : (values : Values) (one : Bool) (k : Part) (design : Option Design) (earlier : PlaceSet) (bytes : List ℕ) (e : PartError) → (e ≡ NotAFill → ⊥) → IsUnreadOf values k bytes e → IsPartRefused values one k design earlier bytes e
refused_alone values one k design earlier bytes Memory other why = why
refused_alone values one k design earlier bytes (Library e) other why = why
refused_alone values one k design earlier bytes NotAFill other why = absurd (other refl)
refused_alone values one k design earlier bytes TooManyPlaces other why = why
refused_alone values one k design earlier bytes OtherDesign other why = absurd why
refused_alone values one k design earlier bytes PlaceTwice other why = absurd why
refused_alone values one k design earlier bytes OtherRows other why = absurd why

-- ---- taking

-- the part that is found by its number
pub part_is : (o : Option Part) (p : Part) (n count : ℕ) → o ≡ Some p → IfSome o (λ q. q ≡ record { number = (n + 1) - 1; count = count }) → p ≡ part n count
part_is o p n count is found =
    subst (λ x. IfSome x (λ q. q ≡ record { number = (n + 1) - 1; count = count })) is found ∙ ap (λ m. part m count) (back n)
  where
    back : (n : ℕ) → (n + 1) - 1 ≡ n
    back n = omega arith

pub first_is : (design : Option Design) (units dates : List ℕ) → IsOfDesign design units dates → unwrap_or design (units, dates) ≡ (units, dates)
first_is None units dates same = refl
first_is (Some first) units dates same = same

-- what holds of an option's value
pub of_some : {A : Type 0} (P : A → Type 0) (o : Option A) (x : A) → o ≡ Some x → IfSome o P → P x
of_some P o x e h = subst (λ (p : Option _). IfSome p P) e h

module _ (values : Values) (count taken : ℕ) (across : IsAxis (raster_of values.numbers).across) (up : IsAxis (raster_of values.numbers).up) (below : taken < count) (few : count ≤ 4096) where
  abbrev k : Part
  k = part taken count

  abbrev n : ℕ
  n = bands (raster_of values.numbers).up

  is_part : IsPart (part taken count)
  is_part = record { below = below; few = few }

  -- a part's fill has the chip's columns and the part's own rows
  pub own_fill : (f : Filling) (r : Lattice) (v : Values) → f.raster ≡ r → r ≡ raster_of v.numbers → v ≡ own_alone values (part taken count) → nat_lt (first_row (part taken count) n) (past_row (part taken count) n) ≡ true
      → IsFillBelow values count (taken + 1) f
  own_fill f r v f_is r_is v_is some =
      let e : f.raster ≡ raster_of (own_alone values (part taken count)).numbers = f_is ∙ (r_is ∙ ap (λ (w : Values). raster_of w.numbers) v_is) in
      record {
        columns = ap (λ (q : Lattice). q.across) e;
        rows = λ j on. (let row = own_row values (part taken count) across up is_part some j (subst (λ (q : Lattice). is_on q.up j ≡ true) e on) in record { number = taken; below = omega arith; on = row.0; has = row.1 });
      }

  -- it is taken behind the others
  pub taken_so : (has : Bool) (fills new : List Filling) (f : Filling) (design : Option Design) (bytes units dates : List ℕ) → has ≡ nat_lt (first_row (part taken count) n) (past_row (part taken count) n)
      → new ≡ (if has then fills ++ f ∷ [] else fills) → All (IsFillBelow values count taken) fills → f.raster ≡ raster_of (own_alone values (part taken count)).numbers
      → IsPartText values (part taken count) units dates bytes (is_filled f) → IsOfDesign design units dates → IsTaken values (part taken count) design (filled_in fills) (filled_in new) bytes (units, dates)
  taken_so true fills new f design bytes units dates has_is new_is all f_is is same = record {
    filled = is_filled f;
    is_part = is;
    same = same;
    union = λ i j. ap (λ (fs : List Filling). filled_in fs i j) new_is ∙ fills_more values count taken fills f (some_count below) all own i j;
    apart = λ m. fills_apart values count taken fills f (some_count below) all own m;
  }
    where
      some_count : taken < count → 0 < count
      some_count lt = omega (arith, lt)

      own : (j : ℤ) → is_on f.raster.up j ≡ true → has_row (part taken count) n (band_of (raster_of values.numbers).up j) ≡ true
      own j on = (own_row values (part taken count) across up is_part (sym has_is) j (subst (λ (q : Lattice). is_on q.up j ≡ true) f_is on)).1
  taken_so false fills new f design bytes units dates has_is new_is all f_is is same = record {
    filled = is_filled f;
    is_part = is;
    same = same;
    union = λ i j. ap (λ (fs : List Filling). filled_in fs i j) new_is ∙ no_more (filled_in fills i j) (is_filled f i j) (none i j);
    apart = λ m. absurd (let g : true ≡ false = sym m.first ∙ none m.i m.j in cc g);
  }
    where
      none : (i j : ℤ) → is_filled f i j ≡ false
      none = (text_of_part values (part taken count) across up is_part bytes units dates (is_filled f) is).1 (sym has_is)

      no_more : (a b : Bool) → b ≡ false → a ≡ a || b
      no_more true b h = refl
      no_more false b h = sym h

-- ---- writing

pub all_strips : (columns : Axis) (fills : List Filling) (strips : List Strip) → AreStripsOf fills strips → All (λ (f : Filling). f.raster.across ≡ columns) fills → All (IsStripOf columns) strips
all_strips columns fills [] are all k d lt = absurd (omega (arith, lt))
all_strips columns [] (s ∷ ss) are all k d lt = absurd (let c = are.count in omega (arith, c))
all_strips columns (f ∷ fs) (s ∷ ss) are all zero d lt =
    let this = are.each 0 f s refl refl in
    record { columns_are = ap (λ (r : Lattice). r.across) this.raster ∙ all 0 f (omega arith); tiles_are = subst (λ (r : Lattice). AreOfTiles r s.marks.items) (sym this.raster) this.tiles }
all_strips columns (f ∷ fs) (s ∷ ss) are all (suc k) d lt =
    all_strips columns fs ss (record { count = (let c = are.count in omega (arith, c)); each = λ m g t at there. are.each (suc m) g t at there }) (λ m e less. all (suc m) e (omega (arith, less))) k d (omega (arith, lt))

-- what is written is a sheet
pub is_sheet : (values : Values) (count taken : ℕ) (k : Part) (fills : List Filling) (s : Sheet) → values_of s.rules.now ≡ own_alone values k → IsAxis s.up → s.up ≡ (raster_of values.numbers).up → AreStripsOf fills s.strips.now
    → All (IsFillBelow values count taken) fills → IsSheet s
is_sheet values count taken k fills s rules_are axis up_is are all = record {
  up = axis;
  length = ap (λ (a : Axis). a.length) up_is ∙ sym (ap (λ (v : Values). (raster_of v.numbers).up.length) rules_are);
  step = ap (λ (a : Axis). a.step) up_is ∙ sym (ap (λ (v : Values). (raster_of v.numbers).up.step) rules_are);
  origin = ap (λ (a : Axis). a.origin) up_is ∙ sym (ap (λ (v : Values). (raster_of v.numbers).up.origin) rules_are);
  strips = all_strips (raster_of (values_of s.rules.now).numbers).across fills s.strips.now are (λ m d lt. (all m d lt).columns ∙ sym (ap (λ (v : Values). (raster_of v.numbers).across) rules_are));
}

-- the library that is written is the chip's
pub chip_text : (values : Values) (k : Part) (rules : Rules) (units dates : List ℕ) (fills : List Filling) (strips : List Strip) (up : Axis) → values_of rules ≡ own_alone values k → up ≡ (raster_of values.numbers).up → AreStripsOf fills strips
    → fill_text_on units dates (values_of rules) (record { across = (raster_of (values_of rules).numbers).across; up = up }) (marked_in strips) ≡ fill_text units dates values (filled_in fills)
chip_text values k rules units dates fills strips up rules_are up_is are =
    ap (λ (v : Values). fill_text_on units dates v (record { across = (raster_of v.numbers).across; up = up }) (marked_in strips)) rules_are
    ∙ (ap (λ (a : Axis). fill_text_on units dates (own_alone values k) (record { across = (raster_of values.numbers).across; up = a }) (marked_in strips)) up_is
    ∙ ap (fill_text_on units dates (own_alone values k) (raster_of values.numbers)) (same_places fills strips are))
