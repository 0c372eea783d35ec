use Rattle.std.proofs.Common.{◌∙◌}
use Rattle.std.specs.List.{flat_map}
use Rattle.std.specs.Result.{IfOk}
use Rattle.std.specs.Vec.{vec_items}
use Rattle.std.proofs.lemmas.Result.{IfOk-weaker}
use Rattle.rayon.proofs.ToStd.{slice-AllZip}
use Rattle.fill_measure.specs.steps.Chunks.{IsChunk}
use Rattle.fill_region.proofs.Collecting.{values_of}
use Rattle.fill_measure.proofs.Chunking.{part_lists}
use Rattle.fill_measure.proofs.lists.by_chunks.Goals as goal

pub returns : goal.returns
returns g c =
    let up = c.args.up.now in
    let chunks = c.in_ok-chunks_of.field-0.items in
    let h = c.in_ok-collect.ensures in
    let chain = rw (c.map.ensures.base, c.map.ensures.f, c.with_min_len.ensures.base) at h.1 in
    let listed = slice-AllZip chain.0 chunks (chain.1 ∙ c.par_iter.ensures) (λ chunk one. IfOk one (IsChunk up chunk.now)) h.0 chain.2 in
    IfOk-weaker c.in_ok-collect.field-0 _ _ (λ v is. part_lists up (flat_map vec_items c.args.lists.now) chunks h.0 v.items is listed c.in_ok-chunks_of.ensures.whole) (values_of vec_items h.0 c.in_ok-collect.field-0 h.2)
