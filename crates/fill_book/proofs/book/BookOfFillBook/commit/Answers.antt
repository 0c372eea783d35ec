use Rattle.std.proofs.Common.{rules, ◌≡◌, refl, ap, sym, subst, ◌∙◌, ◌<◌, ◌^◌, List, [], ◌∷◌, ◌++◌}
use Rattle.fill_state.specs.Layers.{is_drawn}
use Rattle.fill_area.specs.Grid.{Grid}
use Rattle.fill_raster.specs.Marks.{Marked, is_marked}
use Rattle.fill_job.specs.Basis.{read_by}
use Rattle.fill_job.specs.Plans.{plan_of}
use Rattle.fill_core.specs.Accounts.{Account, state_of, with_entry}
use Rattle.fill_core.specs.Histories.{entries_of, placed_by, withdrawn_by}
use Rattle.fill_core.specs.Machine.{reply_of}
use Rattle.fill_core.specs.declared.event.Entry.{Entry}
use Rattle.fill_core.specs.declared.event.Event.TheVariants as event
use Rattle.fill_book.specs.Standing.{squares_in}
use Rattle.fill_book.proofs.Accounted.{IsBrought, IsDone, clear_by_commit, commit_done, counted_as, keeps_commit, marks_in_tile, moved_as, none_few, not_full, placed_room, same_now, withdrawn_room}
use Rattle.fill_book.proofs.book.BookOfFillBook.commit.Given as given
use Rattle.fill_book.proofs.book.BookOfFillBook.commit.Goals as goal

pub returns-then-is_full-clause-written : goal.returns-then-is_full-clause-written
returns-then-is_full-clause-written g c = tt

pub returns-then-is_full-clause-full : goal.returns-then-is_full-clause-full
returns-then-is_full-clause-full g c = (λ _. c.is_full.ensures.0 c.if-is_full.true, λ _. refl)

pub returns-then-is_full-clause-err : goal.returns-then-is_full-clause-err
returns-then-is_full-clause-err g c = (refl, refl)

pub returns-then-is_full-clause-seen : goal.returns-then-is_full-clause-seen
returns-then-is_full-clause-seen g c = tt

done : (g : given.Over) (c : goal.After-push g) → IsDone (record { rules = c.self.inside.origin.rules; opening = c.self.inside.origin.opening; existing = c.self.inside.origin.existing; keep = c.self.inside.origin.keep; history = entries_of c.self.inside.history; most = c.self.inside.origin.most })
    c.self.inside.stored c.take_in-placed.new.self c.version-version.result c.tile-tile.result (read_by c.args.proposal.now.basis) c.is_same-same.result c.marks-marks.result.now c.take_in-placed.result c.answer-reply.result
done g c =
    let p = c.args.proposal.now in let made = c.take_in-placed.ensures in
    commit_done c.self.invariant.0 c.take_in-placed.new.self c.version-version.result c.tile-tile.result (read_by p.basis) c.is_same-same.result c.marks-marks.result.now c.take_in-placed.result c.refusal-refusal.result c.answer-reply.result
    (rw (c.version-version.ensures, c.tile-tile.ensures) (record { is_same = c.is_same-same.ensures; marked = λ i j. ap (λ (q : Marked). is_marked q i j) c.marks-marks.ensures ∙ p.marked i j }))
    (record { drawn = made.drawn; keep = made.keep; pieces = made.pieces; existing_pieces = made.existing_pieces; keep_pieces = made.keep_pieces; low = made.low; version = made.version; raster = made.raster; bits = made.bits; filled = made.filled; tiles = made.tiles; placed_is = made.placed })
    c.refusal-refusal.ensures c.answer-reply.ensures

pub take_in-placed-requires-clause-marked : goal.take_in-placed-requires-clause-marked
take_in-placed-requires-clause-marked g c =
    let v = c.version-version.result in let t = c.tile-tile.result in let p = c.args.proposal.now in let same = c.is_same-same.result in
    let m = c.marks-marks.result.now in let s = c.self.inside.stored in
    let is : IsBrought c.self.inside.origin.rules s v t (read_by p.basis) same m =
    rw (c.version-version.ensures, c.tile-tile.ensures) (record { is_same = c.is_same-same.ensures; marked = λ i j. ap (λ (q : Marked). is_marked q i j) c.marks-marks.ensures ∙ p.marked i j }) in
    marks_in_tile c.self.inside.origin.rules s v t (read_by p.basis) same m c.self.invariant.0.fits is

pub note-requires-clause-placed : goal.note-requires-clause-placed
note-requires-clause-placed g c = let few : c.from.result < 2 ^ 32 = search rules in placed_room c.self.invariant.0 c.from.result few

pub note-requires-clause-withdrawn : goal.note-requires-clause-withdrawn
note-requires-clause-withdrawn g c = withdrawn_room c.self.invariant.0 0 none_few

pub invariant_of-self : goal.invariant_of-self
invariant_of-self g c = rw c.reserve.ensures.same c.self.invariant

pub invariant_of-self-2 : goal.invariant_of-self-2
invariant_of-self-2 g c =
    let v = c.version-version.result in let t = c.tile-tile.result in let same = c.is_same-same.result in
    let reply = c.answer-reply.result in
    let d = done g c in
    let history = c.push.ensures ∙ ap (λ (h : List Entry). h ++ record { event = event.Commit v t same; reply = reply } ∷ []) c.reserve.ensures.same in (
      rw history (keeps_commit c.self.invariant.0 c.note.new.self c.take_in-placed.new.self v t (read_by c.args.proposal.now.basis) same c.marks-marks.result.now c.take_in-placed.result reply (not_full c.self.view_is c.is_full.result c.is_full.ensures c.if-is_full.false) d.brought d.taken d.answer
          (counted_as c.self.inside.books c.note.new.self c.from.result (placed_by reply) 0 (withdrawn_by reply) c.note.ensures.books (c.from.ensures ∙ d.counts.0) d.counts.1)),
      subst (λ (w : Grid). g.T.Totals.stand_for c.take_in-placed.new.totals w (is_drawn c.take_in-placed.new.self.drawn) (squares_in c.take_in-placed.new.self)) c.windows-windows.ensures c.take_in-placed.ensures.stands,
    )

pub take_in-placed-requires-clause-clear : goal.take_in-placed-requires-clause-clear
take_in-placed-requires-clause-clear g c =
    let v = c.version-version.result in let t = c.tile-tile.result in let p = c.args.proposal.now in let same = c.is_same-same.result in
    let m = c.marks-marks.result.now in
    clear_by_commit c.self.invariant.0 v t (read_by p.basis) same m
    (rw (c.version-version.ensures, c.tile-tile.ensures) (record { is_same = c.is_same-same.ensures; marked = λ i j. ap (λ (q : Marked). is_marked q i j) c.marks-marks.ensures ∙ p.marked i j }))

pub returns-clause-written : goal.returns-clause-written
returns-clause-written g c =
    let v = c.version-version.result in let t = c.tile-tile.result in let same = c.is_same-same.result in
    let reply = c.answer-reply.result in
    let d = done g c in
    let history = c.push.ensures ∙ ap (λ (h : List Entry). h ++ record { event = event.Commit v t same; reply = reply } ∷ []) c.reserve.ensures.same in
    rw (sym c.version-version.ensures, sym c.tile-tile.ensures) (record {
      same = same;
      is_same = same_now c.self.invariant.0 c.self.view_is v t (read_by c.args.proposal.now.basis) same d.brought.is_same;
      writes = record {
        answer = subst (λ (a : Account). reply ≡ reply_of (plan_of a.rules) (state_of a) (event.Commit v t same)) c.self.view_is d.answer;
        written = ap (λ (h : List Entry). record { rules = c.self.inside.origin.rules; opening = c.self.inside.origin.opening; existing = c.self.inside.origin.existing; keep = c.self.inside.origin.keep; history = h; most = c.self.inside.origin.most }) history
            ∙ ap (λ (a : Account). with_entry a (event.Commit v t same) reply) c.self.view_is;
        shares = moved_as c.args.pass.now c.note.new.pass c.from.result (placed_by reply) 0 (withdrawn_by reply) c.note.ensures.pass (c.from.ensures ∙ d.counts.0) d.counts.1;
      };
    })
