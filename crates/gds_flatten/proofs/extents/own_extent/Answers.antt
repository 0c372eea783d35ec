use Rattle.std.proofs.Common.{map, take, subst, sym}
use Rattle.std.specs.List.{flat_map}
use Rattle.std.specs.Vec.{vec_items}
use Rattle.gds_cells.specs.Copies.{own_copy}
use Rattle.gds_cells.specs.steps.Built.{own_of}
use Rattle.gds_flatten.specs.steps.Framing.{IsHeld, IsRight, Fits, FitAll}
use Rattle.std.specs.Prelude.{◌↔◌}
use Rattle.gds_flatten.proofs.Holding.{held_both, chunks_more}
use Rattle.gds_flatten.proofs.Tight.{none_fit, tight_next}
use Rattle.gds_flatten.proofs.extents.own_extent.Goals as goal

pub chunks-init : goal.chunks-init
chunks-init c = record { fine = λ no. no; right = record { held = λ x y seen. absurd cc; tight = λ w. ((λ h. none_fit w), (λ h. tt)) } }

pub chunks-preserved : goal.chunks-preserved
chunks-preserved c =
    let told = c.with_shapes-extent.ensures in
    let chunk = c.chunk-item.result in
    let new = c.with_shapes-extent.result in
    let one = subst (λ ss. IsHeld (map own_copy (own_of ss)) new) c.deref.ensures.value told.held in
    record {
      fine = told.fine;
      right = subst (λ cs. IsRight cs new) (sym (chunks_more c.args.chunks.now c.chunks.chunk-index chunk c.chunks-test.true c.chunk-item.is))
          (record {
            held = held_both (map own_copy (own_of (flat_map vec_items (take c.chunks.chunk-index c.args.chunks.now)))) (map own_copy (own_of chunk.items)) c.chunks.extent new new c.chunks.invariant.right.held one told.kept (λ x y h. h);
            tight = tight_next (map own_copy (own_of (flat_map vec_items (take c.chunks.chunk-index c.args.chunks.now)))) (map own_copy (own_of chunk.items)) c.chunks.extent new c.chunks.invariant.right.tight
                (λ w. subst (λ ss. Fits w new ↔ (Fits w c.chunks.extent × FitAll w (map own_copy (own_of ss)))) c.deref.ensures.value (told.tight w));
          });
    }
