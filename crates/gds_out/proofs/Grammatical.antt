-- The text spells what a fill library is to say: its records stand in the order of the grammar, and their data is that of the contents.
use Rattle.std.proofs.Common.{◌≡◌, refl, ap, sym, ◌∙◌, ℕ, zero, suc, ◌<◌, ◌≤◌, ℤ, pos, ◌≤ℤ◌, arith, Bool, true, false, ◌&&◌, List, [], ◌∷◌, ◌++◌, length, map}
use Rattle.std.specs.Prelude.{◌==◌, ◌%◌, if◌then◌else◌, nat_lt, nat_le}
use Rattle.std.specs.List.{flat_map, list_all, AllByRecursion}
use Rattle.std.proofs.lemmas.Bool.{and_parts}
use Rattle.std.proofs.lemmas.Int.{ints}
use Rattle.std.proofs.lemmas.List.{append-nil}
use Rattle.fill_base.specs.declared.layer.Layer.{Layer}
use Rattle.fill_base.specs.declared.place.Point.{Point}
use Rattle.gds_record.specs.Numbers.{trimmed, point_of, IsStored}
use Rattle.gds_grammar.specs.declared.element.ElementKind.TheVariants.{Boundary, Reference, Array}
use Rattle.gds_grammar.specs.Elements.{opening}
use Rattle.gds_grammar.specs.Grammar.{ElementPart, LibraryPart, element_records, element_shapes, IsElement, all_rules}
use Rattle.gds_grammar.specs.Values.{Shape, Contents, boundary, reference, array}
use Rattle.fill_base.specs.Limits.{IsLength}
use Rattle.fill_raster.specs.Axes.{IsAxis, box_begin}
use Rattle.fill_raster.specs.Lattice.{Lattice}
use Rattle.fill_text.specs.Rules.{Values, fill_layer, is_fill_name, is_name_byte, raster_of}
use Rattle.fill_text.specs.ValuesOfRules.{values_of}
use Rattle.fill_text.specs.declared.rules.Rules.{Rules}
use Rattle.gds_out.specs.FillText as text
use Rattle.gds_out.specs.FillText.{rec, padded, word_bytes, point_bytes, points_bytes, coordinates}
use Rattle.gds_out.specs.FillContents.{box_points, corner_of, stack_points, plain, stack_shapes}
use Rattle.gds_out.specs.Laws.{TextIsALibrary}
use Rattle.fill_stacks.specs.Laws.{IsOnRaster}
use Rattle.fill_stacks.specs.Places.{PlaceSet}
use Rattle.fill_stacks.specs.Stacks.{stacks}
use Rattle.fill_stacks.specs.declared.pieces.Stack.{Stack}
use Rattle.gds_out.specs.steps.Ranges.{at, IsArray}
use Rattle.gds_out.proofs.ByStacks.{part_of, stacks_same, stacks_all}
use Rattle.gds_out.proofs.Corners.{stack_array}
use Rattle.gds_out.proofs.ReadBack.{word_back, point_back, points_back}
use Rattle.gds_out.proofs.RuleAxes.{across_is, up_is, layer_few, data_type_few}
use Rattle.gds_out.proofs.Wells.{records_are_well}

-- ---- names

padded_trim : (name : List ℕ) → list_all is_name_byte name ≡ true → (trimmed name ≡ name) × (trimmed (name ++ 0 ∷ []) ≡ name)
padded_trim [] is = (refl, refl)
padded_trim (zero ∷ bs) is = cc is
padded_trim (suc b ∷ bs) is =
    let p = padded_trim bs (and_parts (is_name_byte (suc b)) (list_all is_name_byte bs) is).1 in
    (ap (λ t. suc b ∷ t) p.0, ap (λ t. suc b ∷ t) p.1)

name_kept : (name : List ℕ) → is_fill_name name ≡ true → trimmed (padded name) ≡ name
name_kept name is = by (length name % 2 == 0)
  where
    bytes : list_all is_name_byte name ≡ true
    bytes = (and_parts (nat_lt 0 (length name) && nat_le (length name) 32) (list_all is_name_byte name) is).1

    by : (b : Bool) → trimmed (if b then name else name ++ 0 ∷ []) ≡ name
    by true = (padded_trim name bytes).0
    by false = (padded_trim name bytes).1

-- ---- elements

abbrev reference_part : List ℕ → Point → ElementPart
reference_part cell p = record {
  element = Reference;
  start = rec 0x0a 0x00 [];
  before = rec 0x12 0x06 (padded cell) ∷ [];
  xy = rec 0x10 0x03 (points_bytes (coordinates p ∷ []));
  strings = [];
  properties = [];
  stop = rec 0x11 0x00 [];
}

abbrev array_part : List ℕ → ℕ → ℕ → List Point → ElementPart
array_part cell n m ps = record {
  element = Array;
  start = rec 0x0b 0x00 [];
  before = rec 0x12 0x06 (padded cell) ∷ rec 0x13 0x02 (word_bytes n ++ word_bytes m) ∷ [];
  xy = rec 0x10 0x03 (points_bytes (map coordinates ps));
  strings = [];
  properties = [];
  stop = rec 0x11 0x00 [];
}

abbrev box_part : Values → ElementPart
box_part v = record {
  element = Boundary;
  start = rec 0x08 0x00 [];
  before = rec 0x0d 0x02 (word_bytes (fill_layer v).layer) ∷ rec 0x0e 0x02 (word_bytes (fill_layer v).data_type) ∷ [];
  xy = rec 0x10 0x03 (points_bytes (map coordinates (box_points (raster_of v.numbers))));
  strings = [];
  properties = [];
  stop = rec 0x11 0x00 [];
}

abbrev stack_parts : List ℕ → Lattice → Stack → List ElementPart
stack_parts cell r s =
    if (s.columns == 1) && (s.rows == 1) then reference_part cell (corner_of r s.column s.row) ∷ []
    else array_part cell s.columns s.rows (stack_points r s) ∷ []

box_is : (v : Values) → IsElement all_rules (box_part v)
unfolding opening
box_is v = record { opens = refl; stand = (refl, (refl, tt)); whole = refl; xy = refl; points = refl; closed = refl; strings = tt; properties = tt; stop = refl }

stacks_are : (cell : List ℕ) (r : Lattice) (s : Stack) → AllByRecursion (IsElement all_rules) (stack_parts cell r s)
unfolding opening
stacks_are cell r s = by ((s.columns == 1) && (s.rows == 1))
  where
    by : (b : Bool) → AllByRecursion (IsElement all_rules) (if b then reference_part cell (corner_of r s.column s.row) ∷ [] else array_part cell s.columns s.rows (stack_points r s) ∷ [])
    by true = (record { opens = refl; stand = (refl, tt); whole = refl; xy = refl; points = refl; closed = refl; strings = tt; properties = tt; stop = refl }, tt)
    by false = (record { opens = refl; stand = (refl, (refl, tt)); whole = refl; xy = refl; points = refl; closed = refl; strings = tt; properties = tt; stop = refl }, tt)

stack_spelled : (cell : List ℕ) (r : Lattice) (s : Stack) → flat_map element_records (stack_parts cell r s) ≡ text.stack_records cell r s
stack_spelled cell r s = by ((s.columns == 1) && (s.rows == 1))
  where
    by : (b : Bool) → flat_map element_records (if b then reference_part cell (corner_of r s.column s.row) ∷ [] else array_part cell s.columns s.rows (stack_points r s) ∷ [])
        ≡ (if b then text.reference_records cell (box_begin r.across s.column) (box_begin r.up s.row)
        else text.array_records cell s.columns s.rows r.across.step r.up.step (box_begin r.across s.column) (box_begin r.up s.row))
    by true = refl
    by false = refl

-- ---- what the elements say

reference_says : (cell : List ℕ) (p : Point) → is_fill_name cell ≡ true → IsStored p → element_shapes (reference_part cell p) ≡ reference cell plain p ∷ []
reference_says cell p name stored =
    ap (λ c. reference c plain (point_of (point_bytes (coordinates p))) ∷ []) (name_kept cell name) ∙ ap (λ q. reference cell plain q ∷ []) (point_back p stored)

array_says : (cell : List ℕ) (n m : ℕ) (ps : List Point) → is_fill_name cell ≡ true → n < 65536 → m < 65536 → AllByRecursion IsStored ps
    → element_shapes (array_part cell n m ps) ≡ array cell plain n m ps ∷ []
array_says cell n m ps name few small stored = same (name_kept cell name) (word_back n few) (word_back m small) (points_back ps stored)
  where
    same : {a b : List ℕ} {m n k l : ℕ} {ps qs : List Point} → a ≡ b → m ≡ n → k ≡ l → ps ≡ qs → array a plain m k ps ∷ [] ≡ array b plain n l qs ∷ []
    same e f g h = cc

box_says : (rules : Rules) → let v : Values = values_of rules in element_shapes (box_part v) ≡ boundary (fill_layer v) (box_points (raster_of v.numbers)) ∷ []
box_says rules =
    let r = raster_of (values_of rules).numbers in
    same (word_back _ (layer_few rules)) (word_back _ (data_type_few rules)) (points_back (box_points r) (stored r.across.length r.up.length (across_is rules).length_is (up_is rules).length_is))
  where
    same : {a b : Layer} {ps qs : List Point} → a.layer ≡ b.layer → a.data_type ≡ b.data_type → ps ≡ qs → boundary a ps ∷ [] ≡ boundary b qs ∷ []
    same f g h = λ i. boundary (record { layer = f i; data_type = g i }) (h i) ∷ []

    corner : (x y : ℤ) → pos 0 ≤ℤ x → x ≤ℤ pos 1048576 → pos 0 ≤ℤ y → y ≤ℤ pos 1048576 → let p : Point = record { x = x; y = y } in IsStored p
    corner x y a b c d = record { left = omega (arith, ints); right = omega (arith, ints); low = omega (arith, ints); high = omega (arith, ints) }

    stored : (w h : ℤ) → IsLength w → IsLength h → let o : Point = record { x = pos 0; y = pos 0 } in let a : Point = record { x = pos 0; y = h } in
        let b : Point = record { x = w; y = h } in let c : Point = record { x = w; y = pos 0 } in AllByRecursion IsStored (o ∷ a ∷ b ∷ c ∷ o ∷ [])
    stored w h wide tall =
        let w0 : pos 0 ≤ℤ w = omega (arith, ints) in
        let h0 : pos 0 ≤ℤ h = omega (arith, ints) in
        let z0 : pos 0 ≤ℤ pos 0 = omega (arith, ints) in
        let z1 : pos 0 ≤ℤ pos 1048576 = omega (arith, ints) in
        (corner _ _ z0 z1 z0 z1, (corner _ _ z0 z1 h0 tall.most, (corner _ _ w0 wide.most h0 tall.most, (corner _ _ w0 wide.most z0 z1, (corner _ _ z0 z1 z0 z1, tt)))))

stack_says : (cell : List ℕ) (r : Lattice) (filled : PlaceSet) (s : Stack) → is_fill_name cell ≡ true → IsAxis r.across → IsAxis r.up → IsOnRaster filled r s
    → flat_map element_shapes (stack_parts cell r s) ≡ stack_shapes cell r s
stack_says cell r filled s name across up is = by ((s.columns == 1) && (s.rows == 1))
  where
    a : IsArray (at (box_begin r.across s.column) (box_begin r.up s.row)) (at r.across.step r.up.step) s.columns s.rows
    a = stack_array r s across up (part_of filled r s is)

    below : (n : ℕ) → n ≤ 32767 → n < 65536
    below n h = omega arith

    by : (b : Bool) → flat_map element_shapes (if b then reference_part cell (corner_of r s.column s.row) ∷ [] else array_part cell s.columns s.rows (stack_points r s) ∷ [])
        ≡ (if b then reference cell plain (corner_of r s.column s.row) ∷ [] else array cell plain s.columns s.rows (stack_points r s) ∷ [])
    by true = append-nil _ ∙ reference_says cell (corner_of r s.column s.row) name a.corner
    by false = append-nil _ ∙ array_says cell s.columns s.rows (stack_points r s) name (below s.columns is.narrow) (below s.rows is.few) (a.corner, (a.behind, (a.above, tt)))

-- ---- the library

fill_part : List ℕ → List ℕ → Values → PlaceSet → LibraryPart
fill_part units dates v filled = record {
  header = rec 0x00 0x02 (0x02 ∷ 0x58 ∷ []);
  start = rec 0x01 0x02 dates;
  before = [];
  name = rec 0x02 0x06 (padded v.fill_lib);
  after = [];
  units = rec 0x03 0x05 units;
  cells = record { start = rec 0x05 0x02 dates; name = rec 0x06 0x06 (padded v.fill_cell); class = []; elements = box_part v ∷ []; stop = rec 0x07 0x00 [] }
      ∷ record { start = rec 0x05 0x02 dates; name = rec 0x06 0x06 (padded v.fill_top); class = []; elements = flat_map (stack_parts v.fill_cell (raster_of v.numbers)) (stacks filled (raster_of v.numbers)); stop = rec 0x07 0x00 [] } ∷ [];
  stop = rec 0x04 0x00 [];
}

said : {dates units a b c d : List ℕ} {s t u w : List Shape} → a ≡ b → s ≡ t → c ≡ d → u ≡ w
    → let x : Contents = record { dates = dates; units = units; cells = record { name = a; shapes = s } ∷ record { name = c; shapes = u } ∷ [] } in
    let y : Contents = record { dates = dates; units = units; cells = record { name = b; shapes = t } ∷ record { name = d; shapes = w } ∷ [] } in x ≡ y
said e f g h = cc

pub is_a_library : TextIsALibrary
unfolding fill_part
is_a_library rules units dates filled size len =
    let v = values_of rules in
    let r = raster_of v.numbers in
    let top = name_kept v.fill_top rules.texts.fill_top_allowed in
    let cell = name_kept v.fill_cell rules.texts.fill_cell_allowed in
    let shapes = stacks_same r filled element_shapes (stack_parts v.fill_cell r) (stack_shapes v.fill_cell r) (λ s is. stack_says v.fill_cell r filled s rules.texts.fill_cell_allowed (across_is rules) (up_is rules) is) in
    let rows = stacks_same r filled element_records (stack_parts v.fill_cell r) (text.stack_records v.fill_cell r) (λ s is. stack_spelled v.fill_cell r s) in
    record {
      part = fill_part units dates v filled;
      spelled = ap (λ t. rec 0x00 0x02 (0x02 ∷ 0x58 ∷ []) ∷ rec 0x01 0x02 dates ∷ rec 0x02 0x06 (padded v.fill_lib) ∷ rec 0x03 0x05 units
          ∷ (text.cell_records dates v ++ (rec 0x05 0x02 dates ∷ rec 0x06 0x06 (padded v.fill_top) ∷ (t ++ rec 0x04 0x00 [] ∷ []))))
          (sym (append-nil _ ∙ ap (λ t. t ++ rec 0x07 0x00 [] ∷ []) rows));
      well = records_are_well rules units dates filled size len;
      is_library = record {
        header = refl;
        start = refl;
        before = tt;
        name = refl;
        after = tt;
        units = refl;
        cells = (
          record { start = refl; name = refl; class = tt; elements = (box_is v, tt); stop = refl },
          refl,
          (record { start = refl; name = refl; class = tt; elements = stacks_all r filled (IsElement all_rules) (stack_parts v.fill_cell r) (stacks_are v.fill_cell r); stop = refl }, rw (top, cell, rules.apart) refl, tt),
        );
        stop = refl;
      };
      says = sym (said cell (append-nil _ ∙ box_says rules) top shapes);
    }
