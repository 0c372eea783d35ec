use Rattle.std.proofs.Common.{◌≡◌, ◌∙◌, ap, refl, subst, sym, arith, length}
use Rattle.std.specs.Prelude.{filter}
use Rattle.std.specs.Global.{Vec}
use Rattle.std.specs.List.{AllZip, flat_map}
use Rattle.std.specs.Vec.{vec_items}
use Rattle.gds_cells.specs.declared.shape.Shape.{Shape}
use Rattle.gds_flatten.specs.steps.Idle.{is_drawn}
use Rattle.gds_flatten.proofs.Busy.{changed_none, changed_next, changed_all, written_back}
use Rattle.gds_flatten.proofs.Sparse.{chunks_filtered}
use Rattle.gds_flatten.proofs.idle.drop_bare_from.Goals as goal

abbrev Filtered : Vec Shape → Vec Shape → Type 0
Filtered v w = w.items ≡ filter is_drawn v.items

pub chunks-init : goal.chunks-init
chunks-init c = changed_none Filtered c.deref_mut-chunk-items.result.now

pub chunks-preserved : goal.chunks-preserved
chunks-preserved c =
    let long = c.chunks.auto.chunk-items in
    let lt = c.chunks-test.true in
    changed_next Filtered c.deref_mut-chunk-items.result.now c.chunks.chunk-items c.chunks.chunk-index c.drop_bare_shapes.new.shapes c.chunk-item.result
    (omega (arith, long, lt)) c.chunks.invariant c.chunk-item.is (subst (λ x. Filtered x c.drop_bare_shapes.new.shapes) (sym c.chunk-item.is) c.drop_bare_shapes.ensures)

pub returns : goal.returns
returns c =
    let long = c.chunks.auto.chunk-items in
    let ended = c.chunks-test.false in
    let vec = c.args.cell.now.shapes in
    let wide = c.deref_mut-chunk-items.ensures.len in
    let all = changed_all Filtered c.deref_mut-chunk-items.result.now c.chunks.chunk-items c.chunks.chunk-index (λ lt. omega (arith, lt, long, ended)) c.chunks.invariant in
    let is = written_back vec.len c.chunks.chunk-items vec.items (omega (arith, long, wide)) (ap length (sym c.deref_mut-chunk-items.ensures.value) ∙ wide) in record {
      shapes = ap (flat_map vec_items) is ∙ chunks_filtered vec.items c.chunks.chunk-items (subst (λ vs. AllZip Filtered vs c.chunks.chunk-items) c.deref_mut-chunk-items.ensures.value all);
      links = refl;
    }
