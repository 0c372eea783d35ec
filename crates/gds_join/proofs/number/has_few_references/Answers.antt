use Rattle.std.proofs.Common.{◌≡◌, refl, sym, ap, ◌∙◌, ℕ, ◌+◌, ◌<◌, arith, length, map, min, take}
use Rattle.std.specs.List.{flat_map}
use Rattle.std.proofs.lemmas.List.{length-append, length-map}
use Rattle.gds_cells.specs.Designs.{elements_at}
use Rattle.gds_grammar.specs.Values.{Cell, cell_of}
use Rattle.gds_join.specs.Reading.{corners_of}
use Rattle.gds_join.proofs.Marking.{one_cell_more}
use Rattle.gds_join.proofs.Numbering.{cut_again}
use Rattle.gds_join.proofs.number.has_few_references.Goals as goal

below : (i n m : ℕ) → i < n → n ≡ m → i < m
below i n m lt e = omega (arith, lt, e)

pub loop-index-preserved : goal.loop-index-preserved
loop-index-preserved c =
    let cs = map cell_of c.args.library.now.cells.entries in
    let k = c.loop-index.index in
    let lt = below k c.len-index-end.result (length cs) c.loop-index-test.true (c.len-index-end.ensures.len ∙ sym (length-map c.args.library.now.cells.entries cell_of)) in
    let before = flat_map corners_of (flat_map (λ (c : Cell). c.shapes) (take k cs)) in
    let these = flat_map corners_of (elements_at cs k) in
    cut_again (length before) (length these) c.loop-index.count c.references_with-count.result (length (flat_map corners_of (flat_map (λ (c : Cell). c.shapes) (take (k + 1) cs))))
    c.loop-index.invariant
    (c.references_with-count.ensures ∙ ap (λ es. min (c.loop-index.count + length (flat_map corners_of es)) 4294967295) c.elements_at.ensures)
    (ap length (one_cell_more cs k (k + 1) refl lt) ∙ length-append before these)
