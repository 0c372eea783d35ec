use Rattle.std.proofs.Common.{◌<◌, ◌∙◌, List, ap, map, max, subst, sym, arith}
use Rattle.std.specs.Borrow.{Bor}
use Rattle.std.specs.List.{AllZip}
use Rattle.std.proofs.lemmas.Result.{IfOk-weaker, IfErr-weaker}
use Rattle.rayon.specs.Lists.{chunks_of}
use Rattle.rayon.proofs.ToStd.{slice-AllZip}
use Rattle.gds_grammar.specs.declared.element.Element.{Element}
use Rattle.gds_grammar.specs.Values.{cell_of, shape_of}
use Rattle.gds_cells.specs.steps.Built.{AreChunks}
use Rattle.gds_cells.proofs.Chunking.{IsSliceChunk, chunks_are}
use Rattle.gds_cells.proofs.elements.cell_by_chunks.Goals as goal

-- what the chunks came to
all_chunks : (g : _) (c : goal.After-joined g) → AreChunks (map cell_of c.args.cells.now.entries) c.args.layers.now c.max-size.result (map shape_of c.args.elements.now) c.in_ok-chunks.chunks.items
all_chunks g c =
    let entries = map cell_of c.args.cells.now.entries in
    let elements = c.args.elements.now in
    let size = c.max-size.result in
    let some : 0 < size = omega (arith, c.max-size.ensures) in
    let h = c.in_ok-chunks.ensures in
    let cut = h.1.1 ∙ ap (λ it. chunks_of (max it.size 1) it.slice.now) c.map.ensures.base ∙ (λ i. chunks_of (max (c.par_chunks.ensures.size i) 1) (c.par_chunks.ensures.slice i)) in
    let came = subst (λ f. AllZip (λ (slice : Bor (List Element)) one. IsSliceChunk shape_of (map cell_of f.1.now.entries) f.2.now slice.now one) h.1.0 h.0) c.map.ensures.f h.1.2 in
    let each = slice-AllZip h.1.0 (chunks_of (max size 1) elements) cut (IsSliceChunk shape_of entries c.args.layers.now) h.0 came in
    subst (λ rs. AreChunks entries c.args.layers.now size (map shape_of elements) rs) (sym h.2) (chunks_are shape_of entries c.args.layers.now size elements h.0 some each)

pub returns-clause-built : goal.returns-clause-built
returns-clause-built g c = IfOk-weaker c.joined.result _ _ (λ cell told. told _ _ _ _ (all_chunks g c)) c.joined.ensures.built

pub returns-clause-fine : goal.returns-clause-fine
returns-clause-fine g c = IfOk-weaker c.joined.result _ _ (λ cell told. told _ _ _ _ (all_chunks g c)) c.joined.ensures.fine

pub returns-clause-refused : goal.returns-clause-refused
returns-clause-refused g c = IfErr-weaker c.joined.result _ _ (λ e told. told _ _ _ _ (all_chunks g c)) c.joined.ensures.refused
