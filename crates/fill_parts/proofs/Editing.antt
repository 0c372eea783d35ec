-- Edits that come first.
use Rattle.std.proofs.Common.{◌≡◌, refl, ap, sym, ◌∙◌, ℕ, suc, ◌+◌, arith, Bool, true, false, ◌&&◌, ◌||◌, not, if◌then◌else◌, List, [], ◌∷◌, ◌++◌, length, map}
use Rattle.std.specs.List.{filter}
use Rattle.std.proofs.Math.Path.{fun_ext}
use Rattle.fill_base.specs.Sides.{Sides}
use Rattle.fill_base.specs.Squares.{squares}
use Rattle.fill_text.specs.Script.{change_of}
use Rattle.fill_text.specs.declared.script.Edit.{Edit}
use Rattle.fill_text.specs.declared.script.Edit.TheVariants.{Add, Cut, Keep}
use Rattle.fill_job.specs.Plans.{Plan, Layers, drawn_squares, low_windows}
use Rattle.fill_core.specs.Boxes.{no_places, with_boxes}
use Rattle.fill_core.specs.Histories.{edits_in}
use Rattle.fill_core.specs.Machine.{State, is_accepted, layers_after, opened, replay, replay_from, step, with_tile}
use Rattle.fill_core.specs.declared.event.Event.{Event}
use Rattle.fill_core.specs.declared.event.Event.TheVariants as event
use Rattle.fill_core.proofs.Replays.{complete_fill, low_of_opening, no_boxes}
use Rattle.fill_parts.specs.Needs.{LayersAgree}
use Rattle.fill_parts.specs.PartFill.{change_after, layers_by, layers_with}
use Rattle.fill_parts.specs.Laws.{EditsAgree, EditsAreChanges, EditsInsideSuffice, EditsOpenAnew, EditsOutsideDoNothing, FillAfterEdits}

agree_after : (s : Sides) (edit : Edit) (p q : Layers) → LayersAgree s p q → LayersAgree s (layers_after edit p) (layers_after edit q)
agree_after s (Add r) p q agree = record { metal = λ x y inside. rw (agree.metal x y inside) refl; fill = agree.fill; keep = agree.keep }
agree_after s (Cut r) p q agree = record { metal = λ x y inside. rw (agree.metal x y inside) refl; fill = agree.fill; keep = agree.keep }
agree_after s (Keep r) p q agree = record { metal = agree.metal; fill = agree.fill; keep = λ x y inside. rw (agree.keep x y inside) refl }

pub edits_agree : EditsAgree
unfolding layers_with
edits_agree s [] p q agree = agree
edits_agree s (edit ∷ edits) p q agree = edits_agree s edits (layers_after edit p) (layers_after edit q) (agree_after s edit p q agree)

one_change : (edit : Edit) (layers : Layers) → layers_after edit layers ≡ change_after (change_of edit) layers
one_change (Add r) layers = refl
one_change (Cut r) layers = refl
one_change (Keep r) layers = refl

pub edits_changes : EditsAreChanges
unfolding layers_with layers_by
edits_changes [] layers = refl
edits_changes (edit ∷ edits) layers = edits_changes edits (layers_after edit layers) ∙ ap (layers_by (map change_of edits)) (one_change edit layers)

or_none : (a b : Bool) → b ≡ false → a ≡ a || b
or_none true b h = refl
or_none false b h = sym h

but_none : (a b : Bool) → b ≡ false → a ≡ a && not b
but_none true b h = rw h refl
but_none false b h = refl

pub outside_nothing : EditsOutsideDoNothing
outside_nothing s (Add r) p outside = record { metal = λ x y inside. or_none (p.metal x y) (squares r x y) (outside x y inside); fill = λ x y inside. refl; keep = λ x y inside. refl }
outside_nothing s (Cut r) p outside = record { metal = λ x y inside. but_none (p.metal x y) (squares r x y) (outside x y inside); fill = λ x y inside. refl; keep = λ x y inside. refl }
outside_nothing s (Keep r) p outside = record { metal = λ x y inside. refl; fill = λ x y inside. refl; keep = λ x y inside. or_none (p.keep x y) (squares r x y) (outside x y inside) }

pub both_agree : (s : Sides) (p q r : Layers) → LayersAgree s p q → LayersAgree s q r → LayersAgree s p r
both_agree s p q r a b = record { metal = λ x y inside. a.metal x y inside ∙ b.metal x y inside; fill = λ x y inside. a.fill x y inside ∙ b.fill x y inside; keep = λ x y inside. a.keep x y inside ∙ b.keep x y inside }

self_agrees : (s : Sides) (p : Layers) → LayersAgree s p p
self_agrees s p = record { metal = λ x y inside. refl; fill = λ x y inside. refl; keep = λ x y inside. refl }

pub turned : (s : Sides) (p q : Layers) → LayersAgree s p q → LayersAgree s q p
turned s p q a = record { metal = λ x y inside. sym (a.metal x y inside); fill = λ x y inside. sym (a.fill x y inside); keep = λ x y inside. sym (a.keep x y inside) }

pub inside_suffice : EditsInsideSuffice
unfolding layers_with
inside_suffice s touches [] p outside = self_agrees s p
inside_suffice s touches (edit ∷ edits) p outside = by (touches edit) refl (inside_suffice s touches edits (layers_after edit p) outside) (inside_suffice s touches edits p outside)
  where
    by : (b : Bool) → touches edit ≡ b → LayersAgree s (layers_with edits (layers_after edit p)) (layers_with (filter touches edits) (layers_after edit p)) → LayersAgree s (layers_with edits p) (layers_with (filter touches edits) p)
        → LayersAgree s (layers_with edits (layers_after edit p)) (layers_with (if b then edit ∷ filter touches edits else filter touches edits) p)
    by true is with_it without = with_it
    by false is with_it without =
        both_agree s (layers_with edits (layers_after edit p)) (layers_with edits p) (layers_with (filter touches edits) p)
        (edits_agree s edits (layers_after edit p) p (turned s p (layers_after edit p) (outside_nothing s edit p (outside edit is)))) without

-- ---- edits on a version without boxes

edit_opened : (plan : Plan) (layers : Layers) (version : ℕ) (edit : Edit) → step plan (opened plan layers no_places version) (event.Edit edit) ≡ opened plan (layers_after edit layers) no_places (version + 1)
edit_opened plan layers version (Add r) = refl
edit_opened plan layers version (Cut r) = refl
edit_opened plan layers version (Keep r) = refl

-- after the edits there is a version that opened on the metal after them, without a box
record IsOpened (plan : Plan) (layers : Layers) (edits : List Edit) (version : ℕ) (events : List Event) : Type 0 where
  at : ℕ
  same : replay_from plan (opened plan layers no_places version) (map event.Edit edits ++ events) ≡ replay_from plan (opened plan (layers_with edits layers) no_places at) events

edits_opened : (plan : Plan) (layers : Layers) (edits : List Edit) (version : ℕ) (events : List Event) → IsOpened plan layers edits version events
unfolding replay_from layers_with
edits_opened plan layers [] version events = record { at = version; same = refl }
edits_opened plan layers (edit ∷ edits) version events =
    let rest = edits_opened plan (layers_after edit layers) edits (version + 1) events in
    record { at = rest.at; same = ap (λ (t : State). replay_from plan t (map event.Edit edits ++ events)) (edit_opened plan layers version edit) ∙ rest.same }

-- ---- commits leave the metal, and the fill that the version opened with

record Stays (s t : State) : Type 0 where
  layers : t.layers ≡ s.layers
  base : t.base ≡ s.base

commit_stays : (plan : Plan) (s : State) (version tile : ℕ) (same : Bool) → Stays s (step plan s (event.Commit version tile same))
commit_stays plan s version tile same = by (is_accepted s version tile same)
  where
    by : (b : Bool) → Stays s (if b then with_tile plan s tile else s)
    by true = record { layers = refl; base = refl }
    by false = record { layers = refl; base = refl }

commits_stay : (plan : Plan) (s : State) (events : List Event) → edits_in events ≡ [] → Stays s (replay_from plan s events)
unfolding replay_from
commits_stay plan s [] e = record { layers = refl; base = refl }
commits_stay plan s (event.Commit version tile same ∷ es) e =
    let one = commit_stays plan s version tile same in
    let rest = commits_stay plan (step plan s (event.Commit version tile same)) es e in
    record { layers = rest.layers ∙ one.layers; base = rest.base ∙ one.base }
commits_stay plan s (event.Edit edit ∷ es) e = absurd (let f : false ≡ true = ap is_empty e in cc)
  where
    is_empty : List Edit → Bool
    is_empty [] = true
    is_empty (x ∷ xs) = false

-- the metal, the opening fill and the low windows once the edits are made and some tiles are in
pub record IsAfter (plan : Plan) (layers : Layers) (edits : List Edit) (s : State) : Type 0 where
  pub layers_is : s.layers ≡ layers_with edits layers
  pub base_is : s.base ≡ no_places
  pub low_is : s.low ≡ low_windows plan (drawn_squares (layers_with edits layers))

pub is_after : (plan : Plan) (layers : Layers) (edits : List Edit) (commits : List Event) → edits_in commits ≡ [] → IsAfter plan layers edits (replay plan layers (map event.Edit edits ++ commits))
is_after plan layers edits commits none =
    let first = edits_opened plan layers edits 0 commits in
    let stays = commits_stay plan (opened plan (layers_with edits layers) no_places first.at) commits none in
    let events = map event.Edit edits ++ commits in
    let s = replay plan layers events in
    let m : s.layers ≡ layers_with edits layers = ap (λ (t : State). t.layers) first.same ∙ stays.layers in
    let b : s.base ≡ no_places = ap (λ (t : State). t.base) first.same ∙ stays.base in
    record {
      layers_is = m;
      base_is = b;
      low_is = low_of_opening plan layers events ∙ (ap (λ f. low_windows plan (with_boxes plan (drawn_squares s.layers) f)) b
          ∙ (ap (λ (d : Layers). low_windows plan (with_boxes plan (drawn_squares d) no_places)) m ∙ ap (low_windows plan) (no_boxes plan (drawn_squares (layers_with edits layers)))));
    }

pub fill_after : FillAfterEdits
fill_after plan layers edits commits is none all =
    let after = is_after plan layers edits commits none in
    record {
      layers_is = after.layers_is;
      fill_is = complete_fill plan layers (map event.Edit edits ++ commits) is all ∙ fun_ext (λ i. fun_ext (λ j. rw (after.low_is, after.base_is, after.layers_is) refl));
    }

opened_by : (plan : Plan) (layers : Layers) (edits : List Edit) (version : ℕ) → replay_from plan (opened plan layers no_places version) (map event.Edit edits) ≡ opened plan (layers_with edits layers) no_places (version + length edits)
unfolding replay_from layers_with
opened_by plan layers [] version = ap (opened plan layers no_places) (none version)
  where
    none : (n : ℕ) → n ≡ n + 0
    none n = omega arith
opened_by plan layers (edit ∷ edits) version =
    ap (λ (t : State). replay_from plan t (map event.Edit edits)) (edit_opened plan layers version edit)
    ∙ (opened_by plan (layers_after edit layers) edits (version + 1) ∙ ap (opened plan (layers_with edits (layers_after edit layers)) no_places) (more version (length edits)))
  where
    more : (n m : ℕ) → (n + 1) + m ≡ n + suc m
    more n m = omega arith

pub opens_anew : EditsOpenAnew
opens_anew plan layers edits = opened_by plan layers edits 0 ∙ ap (opened plan (layers_with edits layers) no_places) (none (length edits))
  where
    none : (n : ℕ) → 0 + n ≡ n
    none n = omega arith
