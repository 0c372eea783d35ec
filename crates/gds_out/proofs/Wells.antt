-- Each record of the text is one that the manual has, and fits its bytes.
use Rattle.std.proofs.Common.{◌≡◌, refl, ap, ℕ, zero, suc, ◌+◌, ◌%◌, ◌≤◌, ◌<◌, ℤ, pos, ◌+ℤ◌, ◌*ℤ◌, arith, Bool, true, false, ◌&&◌, not, List, [], ◌∷◌, ◌++◌, length}
use Rattle.std.specs.Prelude.{◌==◌, if◌then◌else◌, nat_lt, nat_le}
use Rattle.std.specs.List.{AllByRecursion}
use Rattle.std.proofs.lemmas.Bool.{and_parts, eqb-true, ne_eqb}
use Rattle.std.proofs.lemmas.List.{length-append}
use Rattle.gds_record.specs.Records.{Rec, IsRecord}
use Rattle.gds_record.specs.Numbers.{trimmed}
use Rattle.gds_grammar.specs.Forms.{IsWell, has_form, has_size, has_name_if_asked}
use Rattle.fill_raster.specs.Axes.{box_begin}
use Rattle.fill_raster.specs.Lattice.{Lattice}
use Rattle.fill_text.specs.Rules.{Values, is_fill_name, raster_of}
use Rattle.fill_text.specs.ValuesOfRules.{values_of}
use Rattle.fill_text.specs.declared.rules.Rules.{Rules}
use Rattle.gds_grammar.specs.Grammar.{AreWell}
use Rattle.gds_out.specs.FillText.{rec, padded, word_bytes, points_bytes, box_corners, cell_records, reference_records, array_records, stack_records, stacks_records, top_records, head_records, fill_records}
use Rattle.fill_stacks.specs.Places.{PlaceSet}
use Rattle.fill_stacks.specs.declared.pieces.Stack.{Stack}
use Rattle.fill_stacks.proofs.Lists.{all_append}
use Rattle.gds_out.proofs.ByStacks.{stacks_all}
use Rattle.gds_out.proofs.Names.{name_short}

pub record IsGood (r : Rec) : Type 0 where
  pub fits : IsRecord r
  pub well : IsWell r

all_fit : (rs : List Rec) → AllByRecursion IsGood rs → AllByRecursion IsRecord rs
all_fit [] h = tt
all_fit (r ∷ rs) h = (h.0.fits, all_fit rs h.1)

all_well : (rs : List Rec) → AllByRecursion IsGood rs → AllByRecursion IsWell rs
all_well [] h = tt
all_well (r ∷ rs) h = (h.0.well, all_well rs h.1)

-- a record with data of a length
good : (kind form : ℕ) (body : List ℕ) → kind < 256 → form < 256 → length body % 2 ≡ 0 → length body ≤ 65530 → IsWell (rec kind form body) → IsGood (rec kind form body)
good kind form body k f even short well = record { fits = record { kind_fits = k; form_fits = f; even = even; short = short }; well = well }

dated : (kind : ℕ) (dates : List ℕ) → length dates ≡ 24 → kind < 256 → IsWell (rec kind 0x02 dates) → IsGood (rec kind 0x02 dates)
dated kind dates len k well = good kind 0x02 dates k (omega arith) (rw len refl) (omega (arith, len)) well

padded_even : (name : List ℕ) → length (padded name) % 2 ≡ 0
padded_even name = by (length name % 2 == 0) refl
  where
    odd : (n : ℕ) → (n % 2 == 0) ≡ false → (n + 1) % 2 ≡ 0
    odd n e = grind arith

    by : (b : Bool) → (length name % 2 == 0) ≡ b → length (if b then name else name ++ 0 ∷ []) % 2 ≡ 0
    by true e = eqb-true _ _ e
    by false e = rw (length-append name (0 ∷ [])) (odd (length name) e)

padded_short : (name : List ℕ) → length name ≤ 32 → length (padded name) ≤ 65530
padded_short name short = by (length name % 2 == 0)
  where
    by : (b : Bool) → length (if b then name else name ++ 0 ∷ []) ≤ 65530
    by true = omega (arith, short)
    by false = rw (length-append name (0 ∷ [])) (omega (arith, short))

some : (n : ℕ) → not (suc n == 0) ≡ true
some n = ap not (ne_eqb (suc n) 0 (λ e. never n e))
  where
    never : (n : ℕ) → suc n ≡ 0 → ⊥
    never n e = omega (arith, e)

-- a name of the fill library begins with no zero byte
name_asked : (name : List ℕ) → is_fill_name name ≡ true → not (length (trimmed (padded name)) == 0) ≡ true
name_asked [] is = cc is
name_asked (zero ∷ bs) is = let e : false ≡ true = (and_parts (nat_lt 0 (suc (length bs)) && nat_le (suc (length bs)) 32) false is).1 in cc e
name_asked (suc b ∷ bs) is = by (length (suc b ∷ bs) % 2 == 0)
  where
    by : (t : Bool) → not (length (trimmed (if t then suc b ∷ bs else suc b ∷ (bs ++ 0 ∷ []))) == 0) ≡ true
    by true = some (length (trimmed bs))
    by false = some (length (trimmed (bs ++ 0 ∷ [])))

named : (kind : ℕ) (name : List ℕ) → kind < 256 → is_fill_name name ≡ true → IsWell (rec kind 0x06 (padded name)) → IsGood (rec kind 0x06 (padded name))
named kind name k is well = good kind 0x06 (padded name) k (omega arith) (padded_even name) (padded_short name (name_short name is)) well

reference_good : (cell : List ℕ) (x y : ℤ) → is_fill_name cell ≡ true → AllByRecursion IsGood (reference_records cell x y)
unfolding has_form has_size has_name_if_asked
reference_good cell x y is = (
  good 0x0a 0x00 [] (omega arith) (omega arith) refl (omega arith) refl,
  (
    named 0x12 cell (omega arith) is (name_asked cell is),
    (
      good 0x10 0x03 (points_bytes ((x, y) ∷ [])) (omega arith) (omega arith) refl (omega arith) refl,
      (good 0x11 0x00 [] (omega arith) (omega arith) refl (omega arith) refl, tt),
    ),
  ),
)

array_good : (cell : List ℕ) (n m : ℕ) (s t x y : ℤ) → is_fill_name cell ≡ true → AllByRecursion IsGood (array_records cell n m s t x y)
unfolding has_form has_size has_name_if_asked
array_good cell n m s t x y is = (
  good 0x0b 0x00 [] (omega arith) (omega arith) refl (omega arith) refl,
  (
    named 0x12 cell (omega arith) is (name_asked cell is),
    (
      good 0x13 0x02 (word_bytes n ++ word_bytes m) (omega arith) (omega arith) refl (omega arith) refl,
      (
        good 0x10 0x03 (points_bytes ((x, y) ∷ (x +ℤ (pos n *ℤ s), y) ∷ (x, y +ℤ (pos m *ℤ t)) ∷ [])) (omega arith) (omega arith) refl (omega arith) refl,
        (good 0x11 0x00 [] (omega arith) (omega arith) refl (omega arith) refl, tt),
      ),
    ),
  ),
)

stack_good : (cell : List ℕ) (r : Lattice) (s : Stack) → is_fill_name cell ≡ true → AllByRecursion IsGood (stack_records cell r s)
stack_good cell r s is = by ((s.columns == 1) && (s.rows == 1))
  where
    by : (b : Bool) → AllByRecursion IsGood (if b then reference_records cell (box_begin r.across s.column) (box_begin r.up s.row)
        else array_records cell s.columns s.rows r.across.step r.up.step (box_begin r.across s.column) (box_begin r.up s.row))
    by true = reference_good cell (box_begin r.across s.column) (box_begin r.up s.row) is
    by false = array_good cell s.columns s.rows r.across.step r.up.step (box_begin r.across s.column) (box_begin r.up s.row) is

stacks_good : (cell : List ℕ) (r : Lattice) (filled : PlaceSet) → is_fill_name cell ≡ true → AllByRecursion IsGood (stacks_records cell r filled)
stacks_good cell r filled is = stacks_all r filled IsGood (stack_records cell r) (λ s. stack_good cell r s is)

cell_good : (dates : List ℕ) (v : Values) → length dates ≡ 24 → is_fill_name v.fill_cell ≡ true → AllByRecursion IsGood (cell_records dates v)
unfolding has_form has_size has_name_if_asked
cell_good dates v len is = (
  dated 0x05 dates len (omega arith) (rw len refl),
  (
    named 0x06 v.fill_cell (omega arith) is (name_asked v.fill_cell is),
    (
      good 0x08 0x00 [] (omega arith) (omega arith) refl (omega arith) refl,
      (
        good 0x0d 0x02 (word_bytes _) (omega arith) (omega arith) refl (omega arith) refl,
        (
          good 0x0e 0x02 (word_bytes _) (omega arith) (omega arith) refl (omega arith) refl,
          (
            good 0x10 0x03 (points_bytes (box_corners (raster_of v.numbers))) (omega arith) (omega arith) refl (omega arith) refl,
            (
              good 0x11 0x00 [] (omega arith) (omega arith) refl (omega arith) refl,
              (good 0x07 0x00 [] (omega arith) (omega arith) refl (omega arith) refl, tt),
            ),
          ),
        ),
      ),
    ),
  ),
)

top_good : (dates : List ℕ) (v : Values) (filled : PlaceSet) → length dates ≡ 24 → is_fill_name v.fill_cell ≡ true → is_fill_name v.fill_top ≡ true → AllByRecursion IsGood (top_records dates v filled)
unfolding has_form has_size has_name_if_asked
top_good dates v filled len cell top = (
  dated 0x05 dates len (omega arith) (rw len refl),
  (
    named 0x06 v.fill_top (omega arith) top (name_asked v.fill_top top),
    all_append IsGood (stacks_records v.fill_cell (raster_of v.numbers) filled) (rec 0x07 0x00 [] ∷ []) (stacks_good v.fill_cell (raster_of v.numbers) filled cell)
        (good 0x07 0x00 [] (omega arith) (omega arith) refl (omega arith) refl, tt),
  ),
)

head_good : (units dates : List ℕ) (v : Values) → length units ≡ 16 → length dates ≡ 24 → is_fill_name v.fill_lib ≡ true → AllByRecursion IsGood (head_records units dates v)
unfolding has_form has_size has_name_if_asked
head_good units dates v size len is = (
  good 0x00 0x02 (0x02 ∷ 0x58 ∷ []) (omega arith) (omega arith) refl (omega arith) refl,
  (
    dated 0x01 dates len (omega arith) (rw len refl),
    (
      named 0x02 v.fill_lib (omega arith) is refl,
      (good 0x03 0x05 units (omega arith) (omega arith) (rw size refl) (omega (arith, size)) (rw size refl), tt),
    ),
  ),
)

pub records_are_well : (rules : Rules) (units dates : List ℕ) (filled : PlaceSet) → length units ≡ 16 → length dates ≡ 24 → AreWell (fill_records units dates (values_of rules) filled)
unfolding has_form has_size has_name_if_asked
records_are_well rules units dates filled size len =
    let v = values_of rules in
    let stop : AllByRecursion IsGood (rec 0x04 0x00 [] ∷ []) = (good 0x04 0x00 [] (omega arith) (omega arith) refl (omega arith) refl, tt) in
    let tops : AllByRecursion IsGood (top_records dates v filled ++ rec 0x04 0x00 [] ∷ []) =
    all_append IsGood (top_records dates v filled) (rec 0x04 0x00 [] ∷ []) (top_good dates v filled len rules.texts.fill_cell_allowed rules.texts.fill_top_allowed) stop in
    let cells : AllByRecursion IsGood (cell_records dates v ++ (top_records dates v filled ++ rec 0x04 0x00 [] ∷ [])) =
    all_append IsGood (cell_records dates v) (top_records dates v filled ++ rec 0x04 0x00 [] ∷ []) (cell_good dates v len rules.texts.fill_cell_allowed) tops in
    let all : AllByRecursion IsGood (fill_records units dates v filled) =
    all_append IsGood (head_records units dates v) (cell_records dates v ++ (top_records dates v filled ++ rec 0x04 0x00 [] ∷ [])) (head_good units dates v size len rules.texts.fill_lib_allowed) cells in
    record { fit = all_fit (fill_records units dates v filled) all; well = all_well (fill_records units dates v filled) all }
