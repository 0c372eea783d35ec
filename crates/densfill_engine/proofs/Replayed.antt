-- The last change of a square's metal, and the changes one after another.
use Rattle.std.proofs.Common.{◌≡◌, ◌∙◌, ◌&&◌, ◌||◌, ℤ, Bool, true, false, not, List, [], ◌∷◌, Option, Some, None, map, ap, refl, if◌then◌else◌}
use Rattle.fill_text.specs.Script.{change_of}
use Rattle.fill_text.specs.declared.script.Edit.{Edit}
use Rattle.fill_text.specs.declared.script.Edit.TheVariants as edit
use Rattle.fill_base.specs.Squares.{squares}
use Rattle.fill_job.specs.Plans.{Plan}
use Rattle.fill_core.specs.Machine.{State, metal_after, edit_step, replay_from, opening}
use Rattle.fill_core.specs.declared.event.Event.TheVariants as event
use Rattle.densfill_engine.specs.Laws.{MetalIsReplayed, no_layers}
use Rattle.densfill_engine.specs.Metal.{is_added, is_within, last_change, later, makes_metal}

-- what a square is that was metal or not before the last change, if there is one
abbrev pub settled : Option Bool → Bool → Bool
settled None before = before
settled (Some metal) before = metal

pub settled_later : (a b : Option Bool) (before : Bool) → settled (later a b) before ≡ settled a (settled b before)
settled_later None b before = refl
settled_later (Some k) b before = refl

added : (s before : Bool) → settled (if s then Some true else None) before ≡ before || s
added true true = refl
added true false = refl
added false true = refl
added false false = refl

cut : (s before : Bool) → settled (if s then Some false else None) before ≡ before && not s
cut true true = refl
cut true false = refl
cut false true = refl
cut false false = refl

kept : (s before : Bool) → settled (if s then None else None) before ≡ before
kept true before = refl
kept false before = refl

pub one_edit : (e : Edit) (metal : ℤ → ℤ → Bool) (x y : ℤ)
    → settled (if is_within (change_of e).rect x y then makes_metal (change_of e).kind else None) (metal x y) ≡ metal_after e metal x y
one_edit (edit.Add r) metal x y = added (squares r x y) (metal x y)
one_edit (edit.Cut r) metal x y = cut (squares r x y) (metal x y)
one_edit (edit.Keep r) metal x y = kept (squares r x y) (metal x y)

replayed_from : (plan : Plan) (s : State) (edits : List Edit) (x y : ℤ)
    → settled (last_change (map change_of edits) x y) (s.layers.metal x y) ≡ (replay_from plan s (map event.Edit edits)).layers.metal x y
unfolding last_change replay_from
replayed_from plan s [] x y = refl
replayed_from plan s (e ∷ es) x y =
    settled_later (last_change (map change_of es) x y) (if is_within (change_of e).rect x y then makes_metal (change_of e).kind else None) (s.layers.metal x y)
    ∙ (ap (settled (last_change (map change_of es) x y)) (one_edit e s.layers.metal x y) ∙ replayed_from plan (edit_step plan s e) es x y)

is_settled : (o : Option Bool) → is_added o ≡ settled o false
is_settled None = refl
is_settled (Some metal) = refl

pub metal_replayed : MetalIsReplayed
metal_replayed plan edits x y = is_settled (last_change (map change_of edits) x y) ∙ replayed_from plan (opening plan no_layers) edits x y
