-- Edits first, and then the events of what they leave.
use Rattle.std.proofs.Common.{◌≡◌, refl, ap, sym, subst, ◌∙◌, ℕ, ◌+◌, ◌≤◌, arith, Bool, true, false, not, ◌&&◌, ◌==◌, List, [], ◌∷◌, ◌++◌, length, map, Option, if◌then◌else◌}
use Rattle.std.proofs.lemmas.Bool.Decides.{nat_tests}
use Rattle.std.proofs.lemmas.Grind.{flat_map-append}
use Rattle.std.proofs.lemmas.List.{append-nil, length-append, length-map, map-append}
use Rattle.fill_text.specs.Rules.{Values}
use Rattle.fill_text.specs.Script.{Change, change_of}
use Rattle.fill_text.specs.declared.script.Edit.{Edit}
use Rattle.fill_job.specs.Plans.{Layers, Plan, drawn_squares, plan_of}
use Rattle.fill_core.specs.Boxes.{no_places}
use Rattle.fill_core.specs.Histories.{edits_by, edits_in}
use Rattle.fill_core.specs.Machine.{State, fill_after, is_accepted, layers_after, opened, opening, replay, replay_from, step, with_tile}
use Rattle.fill_core.specs.Soundness.{IsSound}
use Rattle.fill_core.specs.declared.event.Event.{Event}
use Rattle.fill_core.specs.declared.event.Event.TheVariants as event
use Rattle.fill_core.proofs.Calling.{replay_from_append}
use Rattle.fill_parts.specs.Laws.{EditsAreChanges, EditsOpenAnew}
use Rattle.fill_parts.specs.PartFill.{layers_by, layers_with}
use Rattle.gds_out.specs.FillText.{fill_text}
use Rattle.densfill_engine.specs.Fills.{IsAllWanted, IsFillOf, IsOnlyFillOf}
use Rattle.densfill_engine.specs.Runs.{most_commits}
use Rattle.densfill_engine.specs.Views.{places_told, report_told}
use Rattle.densfill_engine.specs.declared.view.Told.{Told}

-- ---- versions that are counted from another one

-- the event at a version that is so many later
abbrev later : ℕ → Event → Event
later n (event.Commit version tile same) = event.Commit (version + n) tile same
later n (event.Edit edit) = event.Edit edit

-- a state whose version is so many later
abbrev raised : ℕ → State → State
raised n s = record s { version = s.version + n }

same_version : (a b n : ℕ) → ((a + n) == (b + n)) ≡ (a == b)
same_version a b n = grind (arith, nat_tests)

commit_raised : (plan : Plan) (n : ℕ) (s : State) (tile : ℕ) (b c : Bool) → b ≡ c → (if b then with_tile plan (raised n s) tile else raised n s) ≡ raised n (if c then with_tile plan s tile else s)
commit_raised plan n s tile b true is = rw is refl
commit_raised plan n s tile b false is = rw is refl

step_raised : (plan : Plan) (n : ℕ) (s : State) (e : Event) → step plan (raised n s) (later n e) ≡ raised n (step plan s e)
step_raised plan n s (event.Commit version tile same) =
    commit_raised plan n s tile (is_accepted (raised n s) (version + n) tile same) (is_accepted s version tile same) (ap (λ b. b && (not (s.tiles_in tile) && same)) (same_version version s.version n))
step_raised plan n s (event.Edit edit) = ap (opened plan (layers_after edit s.layers) (fill_after plan edit s.fill)) (swapped s.version n)
  where
    swapped : (v n : ℕ) → (v + n) + 1 ≡ (v + 1) + n
    swapped v n = omega arith

replay_raised : (plan : Plan) (n : ℕ) (s : State) (events : List Event) → replay_from plan (raised n s) (map (later n) events) ≡ raised n (replay_from plan s events)
unfolding replay_from
replay_raised plan n s [] = refl
replay_raised plan n s (e ∷ es) = ap (λ (t : State). replay_from plan t (map (later n) es)) (step_raised plan n s e) ∙ replay_raised plan n (step plan s e) es

edits_later : (n : ℕ) (events : List Event) → edits_in (map (later n) events) ≡ edits_in events
edits_later n [] = refl
edits_later n (event.Commit version tile same ∷ es) = edits_later n es
edits_later n (event.Edit edit ∷ es) = ap (λ l. edit ∷ l) (edits_later n es)

-- ---- edits first

abbrev behind : List Edit → List Event → List Event
behind edits events = map event.Edit edits ++ map (later (length edits)) events

-- what events make of the layers that edits leave, they make behind the edits, some versions later
behind_edits : (plan : Plan) (layers : Layers) (edits : List Edit) (events : List Event) → EditsOpenAnew
    → replay plan layers (behind edits events) ≡ raised (length edits) (replay plan (layers_with edits layers) events)
behind_edits plan layers edits events law =
    replay_from_append plan (opening plan layers) (map event.Edit edits) (map (later (length edits)) events)
    ∙ (ap (λ (s : State). replay_from plan s (map (later (length edits)) events)) (law plan layers edits ∙ ap (opened plan (layers_with edits layers) no_places) (from_none (length edits)))
    ∙ replay_raised plan (length edits) (opening plan (layers_with edits layers)) events)
  where
    from_none : (n : ℕ) → n ≡ 0 + n
    from_none n = omega arith

edits_of_edits : (edits : List Edit) → edits_in (map event.Edit edits) ≡ edits
edits_of_edits [] = refl
edits_of_edits (e ∷ es) = ap (λ l. e ∷ l) (edits_of_edits es)

edits_behind : (edits : List Edit) (events : List Event) → edits_in (behind edits events) ≡ edits ++ edits_in events
edits_behind edits events =
    flat_map-append edits_by (map event.Edit edits) (map (later (length edits)) events)
    ∙ (ap (λ l. l ++ edits_in (map (later (length edits)) events)) (edits_of_edits edits) ∙ ap (λ l. edits ++ l) (edits_later (length edits) events))

length_behind : (edits : List Edit) (events : List Event) → length (behind edits events) ≡ length edits + length events
length_behind edits events =
    both _ _ _ _ _ (length-append (map event.Edit edits) (map (later (length edits)) events)) (length-map edits event.Edit) (length-map events (later (length edits)))
  where
    both : (n a b c d : ℕ) → n ≡ a + b → a ≡ c → b ≡ d → n ≡ c + d
    both n a b c d e f g = omega (arith, e, f, g)

-- ---- the texts of what the edits leave

nothing_made : (layers : Layers) → layers_by [] layers ≡ layers
unfolding layers_by
nothing_made layers = refl

-- are those of the layers and the edits
pub behind_fill : (told : Told) (values : Values) (layers after : Layers) (edits : List Edit) (workers : ℕ) (limit : Option ℕ) (u units d dates library report : List ℕ) → EditsOpenAnew → EditsAreChanges
    → after ≡ layers_with edits layers → u ≡ units → d ≡ dates → workers ≡ 1 → IsFillOf told values after u d [] 1 limit library report → IsFillOf told values layers units dates (map change_of edits) workers limit library report
behind_fill told values layers after edits workers limit u units d dates library report law changes is units_are dates_are one given = record {
  events = behind edits fill.events;
  changed = ap (map change_of) (edits_behind edits fill.events) ∙ (map-append change_of edits (edits_in fill.events)
      ∙ (ap (λ l. map change_of edits ++ l) fill.changed ∙ append-nil (map change_of edits)));
  brief = few _ _ _ _ _ _ (length_behind edits fill.events) (length-map edits change_of) fill.brief (ap (λ n. most_commits values n limit) one);
  complete = λ tile lt. ap (λ (s : State). s.tiles_in tile) run ∙ fill.complete tile lt;
  sound = subst (λ (s : State). IsSound (plan_of values) s.layers s.fill) (sym run) fill.sound;
  whole = subst (λ (s : State). IsAllWanted (plan_of values) s) (sym run) fill.whole;
  library_is = fill.library_is ∙ ap (λ (s : State). fill_text units dates values (places_told told (plan_of values) s.fill)) (sym run);
  report_is = fill.report_is ∙ ap (λ (s : State). report_told told values (drawn_squares s.layers) s.fill) (sym run);
  unedited = λ none. subst (λ (l : Layers). IsOnlyFillOf told values l units dates library report) (ap (λ (c : List Change). layers_by c layers) none ∙ nothing_made layers) only;
  alone = λ _. only;
  together = λ many. absurd (omega (arith, many, one));
} where
  fill : IsFillOf told values (layers_with edits layers) units dates [] 1 limit library report
  fill = subst (λ (l : Layers). IsFillOf told values l units dates [] 1 limit library report) is
      (subst (λ (x : List ℕ). IsFillOf told values after units x [] 1 limit library report) dates_are (subst (λ (x : List ℕ). IsFillOf told values after x d [] 1 limit library report) units_are given))

  run : replay (plan_of values) layers (behind edits fill.events) ≡ raised (length edits) (replay (plan_of values) (layers_with edits layers) fill.events)
  run = behind_edits (plan_of values) layers edits fill.events law

  only : IsOnlyFillOf told values (layers_by (map change_of edits) layers) units dates library report
  only = subst (λ (l : Layers). IsOnlyFillOf told values l units dates library report) (nothing_made (layers_with edits layers) ∙ changes edits layers) (fill.alone refl)

  few : (n e c k m u : ℕ) → n ≡ e + k → c ≡ e → k ≤ 0 + m → u ≡ m → n ≤ c + u
  few n e c k m u same made le turns = omega (arith, same, made, le, turns)
