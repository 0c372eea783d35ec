use Rattle.std.proofs.Common.{arith}
use Rattle.fill_measure.proofs.Chunking.{put_more, none_more}
use Rattle.fill_measure.proofs.lists.put_listed.Goals.{in-Some+in_ok-push, in_default}
use Rattle.fill_measure.proofs.lists.put_listed.Goals as goal

pub loop-place-preserved : goal.loop-place-preserved
loop-place-preserved c = elim c.match-get.branch [
  | in-Some+in_ok-push w ↦ rw w.row-is (put_more c.args.rects.now c.args.row.now.items c.loop-place.row.items w.push.new.self.items c.args.places.now c.loop-place.place-index w.in-Some.rect.now c.loop-place-test.true w.in-Some.ensures.lookup.3.0 w.in-Some.ensures.lookup.1 w.in_ok-push.ensures.items c.loop-place.invariant)
  | in_default w ↦ rw w.row-is (none_more c.args.rects.now c.args.row.now.items c.loop-place.row.items c.args.places.now c.loop-place.place-index c.loop-place-test.true (let past = w.in_default.ensures.lookup in omega (arith, past)) c.loop-place.invariant)
]
