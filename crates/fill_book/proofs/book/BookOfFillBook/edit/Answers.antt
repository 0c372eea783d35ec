use Rattle.std.proofs.Common.{ap, sym, ◌∙◌, ℕ, ◌<◌, ◌^◌, List, [], ◌∷◌, ◌++◌, rules}
use Rattle.fill_job.specs.Plans.{plan_of}
use Rattle.fill_core.specs.Accounts.{Account, with_entry}
use Rattle.fill_core.specs.Shares.{counted, moved_by}
use Rattle.fill_core.specs.declared.event.Entry.{Entry}
use Rattle.fill_core.specs.declared.event.Event.TheVariants as event
use Rattle.fill_core.specs.declared.event.Reply.TheVariants.{Withdrawn}
use Rattle.fill_book.proofs.Accounted.{changed_stands, clear_by_edit, clear_stored, edit_answer, keeps_edit, none_few, not_full, placed_room, withdrawn_room}
use Rattle.fill_book.proofs.Kept.{IsChanged, IsOf}
use Rattle.fill_book.proofs.book.BookOfFillBook.edit.Goals as goal

pub change_by-requires-clause-clear : goal.change_by-requires-clause-clear
change_by-requires-clause-clear g c = clear_by_edit c.self.invariant.0 c.args.edit

pub note-requires-clause-placed : goal.note-requires-clause-placed
note-requires-clause-placed g c = placed_room c.self.invariant.0 0 none_few

pub note-requires-clause-withdrawn : goal.note-requires-clause-withdrawn
note-requires-clause-withdrawn g c = let few : c.from.result < 2 ^ 32 = search rules in withdrawn_room c.self.invariant.0 c.from.result few

pub invariant_of-self : goal.invariant_of-self
invariant_of-self g c = rw c.reserve.ensures.same c.self.invariant

pub invariant_of-self-2 : goal.invariant_of-self-2
invariant_of-self-2 g c =
    let plan = plan_of c.self.inside.origin.rules in
    let of : IsOf plan c.self.inside.stored c.args.edit c.in_ok-change.change = record { metal = c.in_ok-change.ensures.metal; existing = c.in_ok-change.ensures.existing; keep = c.in_ok-change.ensures.keep; pieces = c.in_ok-change.ensures.pieces; keep_pieces = c.in_ok-change.ensures.keep_pieces; filled = c.in_ok-change.ensures.left; low = c.in_ok-change.ensures.low } in
    let made = c.change-withdrawn.ensures in
    let is : IsChanged c.self.inside.stored c.change-withdrawn.new.self c.in_ok-change.change c.change-withdrawn.result =
    record { drawn = made.drawn; keep = made.keep; pieces = made.pieces; existing_pieces = made.existing_pieces; keep_pieces = made.keep_pieces; low = made.low; version = made.version; raster = made.raster; bits = made.bits; filled = made.filled; tiles = made.tiles; withdrawn_is = made.withdrawn } in
    let history = c.push.ensures ∙ ap (λ (h : List Entry). h ++ record { event = event.Edit c.args.edit; reply = Withdrawn c.change-withdrawn.result } ∷ []) c.reserve.ensures.same in (
      rw history (keeps_edit c.self.invariant.0 c.note.new.self c.change-withdrawn.new.self c.args.edit c.in_ok-change.change c.change-withdrawn.result
          (not_full c.self.view_is c.is_full.result c.is_full.ensures c.if-is_full.false) of is (c.note.ensures.books ∙ ap (λ (n : ℕ). counted c.self.inside.books 0 n) c.from.ensures)),
      changed_stands (g.T.Totals.stand_for c.change_by.new.totals plan.windows) c.self.inside.stored c.change-withdrawn.new.self c.in_ok-change.change c.change-withdrawn.result is c.in_ok-change.ensures.stands,
    )

pub change_by-requires-clause-clear_now : goal.change_by-requires-clause-clear_now
change_by-requires-clause-clear_now g c = clear_stored c.self.invariant.0

pub returns-clause-written : goal.returns-clause-written
returns-clause-written g c =
    let plan = plan_of c.self.inside.origin.rules in
    let of : IsOf plan c.self.inside.stored c.args.edit c.in_ok-change.change = record { metal = c.in_ok-change.ensures.metal; existing = c.in_ok-change.ensures.existing; keep = c.in_ok-change.ensures.keep; pieces = c.in_ok-change.ensures.pieces; keep_pieces = c.in_ok-change.ensures.keep_pieces; filled = c.in_ok-change.ensures.left; low = c.in_ok-change.ensures.low } in
    let made = c.change-withdrawn.ensures in
    let is : IsChanged c.self.inside.stored c.change-withdrawn.new.self c.in_ok-change.change c.change-withdrawn.result =
    record { drawn = made.drawn; keep = made.keep; pieces = made.pieces; existing_pieces = made.existing_pieces; keep_pieces = made.keep_pieces; low = made.low; version = made.version; raster = made.raster; bits = made.bits; filled = made.filled; tiles = made.tiles; withdrawn_is = made.withdrawn } in
    let history = c.push.ensures ∙ ap (λ (h : List Entry). h ++ record { event = event.Edit c.args.edit; reply = Withdrawn c.change-withdrawn.result } ∷ []) c.reserve.ensures.same in
    record {
      answer = rw (sym c.self.view_is) (edit_answer c.self.invariant.0 c.change-withdrawn.new.self c.args.edit c.in_ok-change.change c.change-withdrawn.result of is);
      written = ap (λ (h : List Entry). record { rules = c.self.inside.origin.rules; opening = c.self.inside.origin.opening; existing = c.self.inside.origin.existing; keep = c.self.inside.origin.keep; history = h; most = c.self.inside.origin.most }) history
          ∙ ap (λ (a : Account). with_entry a (event.Edit c.args.edit) (Withdrawn c.change-withdrawn.result)) c.self.view_is;
      shares = c.note.ensures.pass ∙ ap (λ (n : ℕ). moved_by c.args.pass.now 0 n) c.from.ensures;
    }
