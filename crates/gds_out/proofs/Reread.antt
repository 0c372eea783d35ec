-- The shape copies of the library that the text spells.
use Rattle.std.proofs.Common.{◌≡◌, refl, ap, sym, subst, ◌∙◌, ℕ, ◌*◌, ◌/◌, ◌%◌, ℤ, Bool, true, false, ◌&&◌, List, [], ◌∷◌, map}
use Rattle.std.specs.Prelude.{◌==◌, if◌then◌else◌}
use Rattle.std.specs.List.{flat_map, range_with_len, AllByRecursion}
use Rattle.std.specs.List.Sorted.{IsPermutation}
use Rattle.std.specs.Str.{bytes_eq}
use Rattle.std.proofs.lemmas.Slice.Eq.{bytes_eq-Decides}
use Rattle.std.proofs.lemmas.List.{append-nil}
use Rattle.std.proofs.lemmas.List.Concat.{flat_map_single}
use Rattle.std.proofs.lemmas.List.Sorted.{IsPermutation-map}
use Rattle.std.proofs.lemmas.Simd.{map-map}
use Rattle.fill_base.specs.declared.place.Point.{Point}
use Rattle.gds_record.specs.Records.{Rec, spelling}
use Rattle.gds_grammar.specs.Grammar.{all_rules, IsLibrary}
use Rattle.gds_grammar.specs.Outcomes.{Spells}
use Rattle.gds_grammar.specs.Values.{Cell, Contents, reference, array}
use Rattle.gds_grammar.proofs.Back.{library_runs}
use Rattle.gds_grammar.proofs.Unique.{one_value}
use Rattle.gds_cells.specs.declared.placement.Placement.{Placement}
use Rattle.gds_cells.specs.Copies.{copies, own_copy, carry_copy, copy_covers}
use Rattle.gds_cells.specs.Designs.{Entry, index_of, hierarchy_of, copies_of}
use Rattle.gds_cells.specs.Placements.{carried, shift}
use Rattle.gds_cells.specs.References.{placement_of, grid_point}
use Rattle.gds_cells.specs.Shapes.{covers_of}
use Rattle.gds_cells.proofs.Composing.{composed_still}
use Rattle.fill_raster.specs.Axes.{box_begin}
use Rattle.fill_raster.specs.Lattice.{Lattice, box_squares}
use Rattle.fill_text.specs.Rules.{Values, fill_layer, raster_of}
use Rattle.fill_text.specs.ValuesOfRules.{values_of}
use Rattle.fill_text.specs.declared.rules.Rules.{Rules}
use Rattle.gds_out.specs.FillContents.{box_points, corner_of, stack_points, plain, stack_shapes, box_cell, top_cell}
use Rattle.gds_out.specs.FillText.{fill_records}
use Rattle.gds_out.specs.Laws.{stack_corners, BoxesAreThePlaces}
use Rattle.fill_stacks.specs.Places.{PlaceSet, filled_places}
use Rattle.fill_stacks.specs.Stacks.{stack_places, stacks}
use Rattle.fill_stacks.specs.declared.pieces.Stack.{Stack}
use Rattle.fill_stacks.proofs.Stacking.{hold_each_once}
use Rattle.gds_out.proofs.Boxed.{box_moved}
use Rattle.gds_out.proofs.ByStacks.{all_on, stacks_same, stacks_all}
use Rattle.gds_out.proofs.Entries.{singles_of, singles_by_shape, IsLink, links_draw_nothing, one_boundary, carried_copies}
use Rattle.gds_out.proofs.Grammatical.{is_a_library}
use Rattle.gds_out.proofs.RuleAxes.{across_is, up_is}
use Rattle.gds_out.proofs.Standing.{corners_of}

-- a library that is spelled in these records says this
one_contents : (records : List Rec) (v w : Contents) → IsLibrary all_rules records v → Spells (flat_map spelling records) w → v ≡ w
one_contents records v w library k =
    one_value (flat_map spelling records) [] v w (record { taken = records; parts = sym (append-nil _); fit = library.well.fit; runs = library_runs all_rules records v library }) k

-- a reference to the cell with the index 0, moved to a point
abbrev moved_to : Point → ℕ × Placement
moved_to c = (0, shift c.x c.y)

moved_all : (n : ℕ) (f : ℕ → Point) (ks : List ℕ) → n ≡ 0 → map (λ (p : Placement). (n, p)) (map (λ k. placement_of plain (f k)) ks) ≡ map moved_to (map f ks)
moved_all n f [] is = refl
moved_all n f (k ∷ ks) is = ap (λ m. (m, shift (f k).x (f k).y) ∷ map (λ (p : Placement). (n, p)) (map (λ k. placement_of plain (f k)) ks)) is ∙ ap (λ t. moved_to (f k) ∷ t) (moved_all n f ks is)

stack_singles : (cells : List Entry) (cell : List ℕ) (r : Lattice) (s : Stack) → index_of cells cell ≡ 0 → flat_map (singles_of cells) (stack_shapes cell r s) ≡ map moved_to (stack_corners r s)
stack_singles cells cell r s is = by ((s.columns == 1) && (s.rows == 1))
  where
    by : (b : Bool) → flat_map (singles_of cells) (if b then reference cell plain (corner_of r s.column s.row) ∷ [] else array cell plain s.columns s.rows (stack_points r s) ∷ [])
        ≡ map moved_to (if b then corner_of r s.column s.row ∷ []
        else map (λ k. grid_point (stack_points r s) s.columns s.rows (k % s.columns) (k / s.columns)) (range_with_len 0 (s.columns * s.rows)))
    by true = ap (λ (m : ℕ). (m, shift (box_begin r.across s.column) (box_begin r.up s.row)) ∷ []) is
    by false = append-nil _ ∙ moved_all (index_of cells cell) (λ k. grid_point (stack_points r s) s.columns s.rows (k % s.columns) (k / s.columns)) (range_with_len 0 (s.columns * s.rows)) is

stacks_link : (cell : List ℕ) (r : Lattice) (s : Stack) → AllByRecursion IsLink (stack_shapes cell r s)
stacks_link cell r s = by ((s.columns == 1) && (s.rows == 1))
  where
    by : (b : Bool) → AllByRecursion IsLink (if b then reference cell plain (corner_of r s.column s.row) ∷ [] else array cell plain s.columns s.rows (stack_points r s) ∷ [])
    by true = (tt, tt)
    by false = (tt, tt)

-- the reference to the box of a place
abbrev placed_at : Lattice → ℤ × ℤ → Placement
placed_at r q = shift (box_begin r.across q.0) (box_begin r.up q.1)

all_singles : (rules : Rules) (filled : PlaceSet) (cells : List Entry) → let v : Values = values_of rules in let r : Lattice = raster_of v.numbers in index_of cells v.fill_cell ≡ 0
    → flat_map (singles_of cells) (flat_map (stack_shapes v.fill_cell r) (stacks filled r)) ≡ map (λ q. (0, placed_at r q)) (flat_map stack_places (stacks filled r))
all_singles rules filled cells is =
    let v = values_of rules in
    let r = raster_of v.numbers in
    let carried_to = stacks_same r filled (λ c. moved_to c ∷ []) (stack_corners r) (λ s. map moved_to (stack_corners r s)) (λ s _. flat_map_single moved_to (stack_corners r s)) in
    stacks_same r filled (singles_of cells) (stack_shapes v.fill_cell r) (λ s. map moved_to (stack_corners r s)) (λ s _. stack_singles cells v.fill_cell r s is)
    ∙ (sym carried_to ∙ (flat_map_single moved_to (flat_map (stack_corners r) (stacks filled r))
    ∙ (ap (map moved_to) (corners_of filled r (stacks filled r) (all_on filled r)) ∙ map-map moved_to (λ (q : ℤ × ℤ). corner_of r q.0 q.1) (flat_map stack_places (stacks filled r)))))

-- the boxes of a library of these two cells
module _ (rules : Rules) (filled : PlaceSet) (first second : Entry) (first_is : first ≡ box_cell (values_of rules)) (second_is : second ≡ top_cell (values_of rules) filled) where
  names_first : first.name ≡ (values_of rules).fill_cell
  names_first = ap (λ (c : Cell). c.name) first_is

  names_second : second.name ≡ (values_of rules).fill_top
  names_second = ap (λ (c : Cell). c.name) second_is

  same : (xs : List ℕ) → bytes_eq xs xs ≡ true
  same xs = (bytes_eq-Decides xs xs).1 refl

  box_index : index_of (first ∷ second ∷ []) (values_of rules).fill_cell ≡ 0
  box_index = rw (names_first, same (values_of rules).fill_cell) refl

  top_index : index_of (first ∷ second ∷ []) (values_of rules).fill_top ≡ 1
  top_index = rw (names_first, names_second, rules.apart, same (values_of rules).fill_top) refl

  pub boxes_of_two : map copy_covers (copies_of (first ∷ second ∷ []) (values_of rules).fill_top (fill_layer (values_of rules) ∷ []))
      ≡ map (λ p. box_squares (raster_of (values_of rules).numbers) p.0 p.1) (flat_map stack_places (stacks filled (raster_of (values_of rules).numbers)))
  boxes_of_two =
      let v = values_of rules in
      let r = raster_of v.numbers in
      let cells = first ∷ second ∷ [] in
      let box = one_boundary (fill_layer v) (box_points r) first.shapes (ap (λ (c : Cell). c.shapes) first_is) in
      let rows : second.shapes ≡ flat_map (stack_shapes v.fill_cell r) (stacks filled r) = ap (λ (c : Cell). c.shapes) second_is in
      let links = subst (AllByRecursion IsLink) (sym rows) (stacks_all r filled IsLink (stack_shapes v.fill_cell r) (stacks_link v.fill_cell r)) in
      let singles = singles_by_shape cells second.shapes ∙ (ap (flat_map (singles_of cells)) rows ∙ all_singles rules filled cells box_index) in
      let each = λ (q : ℤ × ℤ). ap (λ p. carried p (covers_of box.element)) (composed_still (placed_at r q))
      ∙ (ap (λ s. carried (placed_at r q) s) box.squares ∙ (λ i. λ x y. box_moved r (across_is rules).length_is.least (up_is rules).length_is.least q.0 q.1 x y i)) in
      let all = carried_copies (hierarchy_of cells (fill_layer v ∷ [])) 254 box.element (placed_at r) (flat_map stack_places (stacks filled r)) box.own (box.singles cells)
      (links_draw_nothing (fill_layer v ∷ []) second.shapes links) singles in
      ap (λ k. map copy_covers (copies (hierarchy_of cells (fill_layer v ∷ [])) 256 k)) top_index
      ∙ (ap (map copy_covers) all
      ∙ (map-map copy_covers (λ q. carry_copy (placed_at r q) (own_copy box.element)) (flat_map stack_places (stacks filled r)) ∙ (λ i. map (λ q. each q i) (flat_map stack_places (stacks filled r)))))

pub boxes_are_places : BoxesAreThePlaces
boxes_are_places rules units dates filled library size len spelled =
    let v = values_of rules in
    let r = raster_of v.numbers in
    let cells = ap (λ (x : Contents). x.cells) (one_contents (fill_records units dates v filled) _ _ (is_a_library rules units dates filled size len) spelled) in
    let boxes = ap (λ es. map copy_covers (copies_of es v.fill_top (fill_layer v ∷ []))) (sym cells) ∙ boxes_of_two rules filled (box_cell v) (top_cell v filled) refl refl in
    subst (λ bs. IsPermutation bs (map (λ p. box_squares r p.0 p.1) (filled_places filled r))) (sym boxes)
    (IsPermutation-map (λ (p : ℤ × ℤ). box_squares r p.0 p.1) (flat_map stack_places (stacks filled r)) (filled_places filled r) (hold_each_once filled r))
