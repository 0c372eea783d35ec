use Rattle.std.proofs.Common.{◌≡◌, refl, sym, ap, ◌∙◌, ℕ, ◌+◌, ◌<◌, ◌≤◌, length, arith, ◌||◌, map, take}
use Rattle.std.specs.List.{flat_map}
use Rattle.std.proofs.lemmas.List.{length-map, take_all}
use Rattle.fill_state.specs.Filling.{is_filled}
use Rattle.gds_cells.specs.Designs.{elements_at}
use Rattle.gds_grammar.specs.Values.{Cell, cell_of}
use Rattle.gds_out.specs.Laws.{raster_in}
use Rattle.gds_join.specs.Reading.{corners_of}
use Rattle.gds_join.specs.steps.Far.{stands_at}
use Rattle.gds_join.proofs.Marking.{one_cell_more, stands_both, stands_none}
use Rattle.gds_join.proofs.reading.fill_library_places.Goals as goal

pub loop-index-init : goal.loop-index-init
loop-index-init c = record { raster = c.requires.raster; filled = λ i j. stands_none (raster_in c.args.rules.now) i j (is_filled c.args.filled.now i j) }

below : (i n m : ℕ) → i < n → n ≡ m → i < m
below i n m lt e = omega (arith, lt, e)

least : (i n m : ℕ) → n ≤ i → n ≡ m → m ≤ i
least i n m le e = omega (arith, le, e)

pub elements_at-requires : goal.elements_at-requires
elements_at-requires c = below c.loop-index.index c.len-cells.result (length c.args.library.now.cells.entries) c.loop-index-test.true c.len-cells.ensures.len

pub loop-index-preserved : goal.loop-index-preserved
loop-index-preserved c =
    let cs = map cell_of c.args.library.now.cells.entries in
    let k = c.loop-index.index in
    let lt = below k c.len-cells.result (length cs) c.loop-index-test.true (c.len-cells.ensures.len ∙ sym (length-map c.args.library.now.cells.entries cell_of)) in
    record {
      raster = c.fill_elements.ensures.raster ∙ c.loop-index.invariant.raster;
      filled = λ i j.
          stands_both (raster_in c.args.rules.now) (flat_map corners_of (flat_map (λ (c : Cell). c.shapes) (take k cs))) (flat_map corners_of (elements_at cs k)) i j
          (is_filled c.args.filled.now i j) (is_filled c.loop-index.filled i j) (is_filled c.fill_elements.new.filled i j) (c.loop-index.invariant.filled i j)
          (c.fill_elements.ensures.filled i j ∙ ap (λ xs. is_filled c.loop-index.filled i j || stands_at (raster_in c.args.rules.now) (flat_map corners_of xs) i j) c.elements_at.ensures)
          ∙ ap (λ ps. is_filled c.args.filled.now i j || stands_at (raster_in c.args.rules.now) ps i j) (sym (one_cell_more cs k (k + 1) refl lt));
    }

pub returns-clause-filled : goal.returns-clause-filled
returns-clause-filled c = λ i j.
    let cs = map cell_of c.args.library.now.cells.entries in
    c.loop-index.invariant.filled i j
    ∙ ap (λ xs. is_filled c.args.filled.now i j || stands_at (raster_in c.args.rules.now) (flat_map corners_of (flat_map (λ (c : Cell). c.shapes) xs)) i j)
    (take_all c.loop-index.index cs (least c.loop-index.index c.len-cells.result (length cs) c.loop-index-test.false (c.len-cells.ensures.len ∙ sym (length-map c.args.library.now.cells.entries cell_of))))
