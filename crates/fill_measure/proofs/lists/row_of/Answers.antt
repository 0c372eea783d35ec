use Rattle.std.proofs.Common.{◌<◌, ap, subst, sym, ◌∙◌, length}
use Rattle.std.proofs.lemmas.List.{take_all}
use Rattle.fill_measure.specs.steps.Chunks.{listed_by_chunks}
use Rattle.fill_measure.proofs.Chunking.{listed_more}
use Rattle.fill_measure.proofs.lists.row_of.Goals as goal

pub loop-chunk-preserved : goal.loop-chunk-preserved
loop-chunk-preserved c =
    let chunk = c.chunk-item.result in
    let j_in : c.args.j < length chunk.rows.items = subst (λ v. c.args.j < length v.rows.items) (sym c.chunk-item.is) (c.requires c.loop-chunk.chunk-index chunk c.loop-chunk-test.true) in
    listed_more c.args.chunks.now chunk c.loop-chunk.row.items c.put_listed.new.row.items c.index.result.now _ c.loop-chunk.chunk-index c.args.j c.loop-chunk-test.true c.chunk-item.is j_in c.index.ensures c.deref.ensures.value
    c.in_ok-put_listed.ensures c.loop-chunk.invariant

pub returns : goal.returns
returns c = λ x y. c.loop-chunk.invariant x y ∙ ap (λ ps. listed_by_chunks c.args.j ps x y) (take_all c.loop-chunk.chunk-index c.args.chunks.now c.loop-chunk-test.false)
