-- What stays as it is while there is no edit, and whatever edits come.
use Rattle.std.proofs.Common.{◌≡◌, refl, ap, ◌∙◌, ℕ, inl, inr, List, [], ◌∷◌, Bool, true, false}
use Rattle.std.proofs.Math.Path.{fun_ext}
use Rattle.std.proofs.lemmas.Bool.{cases_Bool}
use Rattle.fill_text.specs.declared.script.Edit.{Edit}
use Rattle.fill_job.specs.Plans.{Layers, Plan}
use Rattle.fill_core.specs.Histories.{edits_in}
use Rattle.fill_core.specs.Laws.{CompleteFillWithoutEdits, ExistingFillStays}
use Rattle.fill_core.specs.Machine.{State, is_accepted, opening, replay, replay_from, step}
use Rattle.fill_core.specs.declared.event.Event.{Event}
use Rattle.fill_core.specs.declared.event.Event.TheVariants as event
use Rattle.fill_core.proofs.Replays.{complete_fill, opening_low}

-- two states of one version
pub record AreOfOneVersion (s t : State) : Type 0 where
  pub layers : t.layers ≡ s.layers
  pub low : t.low ≡ s.low
  pub base : t.base ≡ s.base
  pub version : t.version ≡ s.version

pub committed_stays : (plan : Plan) (s : State) (version tile : ℕ) (same : Bool) → AreOfOneVersion s (step plan s (event.Commit version tile same))
committed_stays plan s version tile same = elim (cases_Bool (is_accepted s version tile same)) [
  | inl h ↦ rw h (record { layers = refl; low = refl; base = refl; version = refl })
  | inr h ↦ rw h (record { layers = refl; low = refl; base = refl; version = refl })
]

stays_from : (plan : Plan) (s : State) (events : List Event) → edits_in events ≡ [] → AreOfOneVersion s (replay_from plan s events)
unfolding replay_from
stays_from plan s [] e = record { layers = refl; low = refl; base = refl; version = refl }
stays_from plan s (event.Commit version tile same ∷ es) e =
    let one = committed_stays plan s version tile same in
    let rest = stays_from plan (step plan s (event.Commit version tile same)) es e in
    record { layers = rest.layers ∙ one.layers; low = rest.low ∙ one.low; base = rest.base ∙ one.base; version = rest.version ∙ one.version }
stays_from plan s (event.Edit edit ∷ es) e = absurd (let f : false ≡ true = ap is_empty e in cc)
  where
    is_empty : List Edit → Bool
    is_empty [] = true
    is_empty (x ∷ xs) = false

pub complete_unedited : CompleteFillWithoutEdits
complete_unedited plan layers events is e all =
    let stays = stays_from plan (opening plan layers) events e in
    let s = replay plan layers events in
    complete_fill plan layers events is all
    ∙ fun_ext (λ i. fun_ext (λ j. rw (stays.layers, stays.base, stays.low, opening_low plan layers) refl))

-- ---- the existing fill

fill_stays : (plan : Plan) (s : State) (e : Event) → (step plan s e).layers.fill ≡ s.layers.fill
fill_stays plan s (event.Commit version tile same) = ap (λ (l : Layers). l.fill) (committed_stays plan s version tile same).layers
fill_stays plan s (event.Edit edit) = refl

fill_stays_from : (plan : Plan) (s : State) (events : List Event) → (replay_from plan s events).layers.fill ≡ s.layers.fill
unfolding replay_from
fill_stays_from plan s [] = refl
fill_stays_from plan s (e ∷ es) = fill_stays_from plan (step plan s e) es ∙ fill_stays plan s e

pub existing_stays : ExistingFillStays
existing_stays plan layers events = fill_stays_from plan (opening plan layers) events
