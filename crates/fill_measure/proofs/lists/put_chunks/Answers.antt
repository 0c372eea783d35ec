use Rattle.std.proofs.Common.{◌^◌, ◌≤◌, ◌||◌, length, arith}
use Rattle.std.proofs.lemmas.List.Elements.{All-push}
use Rattle.fill_region.specs.Squares.{covered}
use Rattle.fill_measure.specs.steps.Chunks.{covered_by_chunks}
use Rattle.fill_measure.proofs.Chunking.{part_more, part_last}
use Rattle.fill_measure.proofs.lists.put_chunks.Goals as goal

pub loop-chunk-preserved : goal.loop-chunk-preserved
loop-chunk-preserved c =
    let kept = c.in-Some.ensures.steps.0 in
    record {
      some = let before = c.loop-chunk.invariant.some in omega (arith, kept, before);
      most = let before = c.loop-chunk.invariant.most in omega (arith, kept, before);
      few = rw c.in_ok-push.ensures.items (All-push (λ chunk. length chunk.now ≤ 2 ^ 32) c.loop-chunk.chunks.items c.in-Some.chunk c.loop-chunk.invariant.few
          (let short = c.in-Some.ensures.steps.1.1 in let most = c.loop-chunk.invariant.most in omega (arith, short, most)));
      whole = part_more (λ x y. covered_by_chunks c.args.chunks.now.items x y || covered c.args.list.now x y) c.loop-chunk.chunks.items c.push.new.self.items c.in-Some.chunk _ _ c.in-Some.ensures.steps.1.0 c.in_ok-push.ensures.items c.loop-chunk.invariant.whole;
    }

pub returns-clause-whole : goal.returns-clause-whole
returns-clause-whole c = part_last (λ x y. covered_by_chunks c.args.chunks.now.items x y || covered c.args.list.now x y) c.loop-chunk.chunks.items _ c.in-None.ensures.steps.1.0 c.loop-chunk.invariant.whole
