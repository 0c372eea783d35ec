-- Which edits a history has, and what a run leaves.
use Rattle.std.proofs.Common.{◌≡◌, ◌∙◌, sym, ap, refl, subst, arith, ℕ, zero, ◌+◌, ◌<◌, ◌≤◌, ◌⊎◌, List, [], ◌∷◌, ◌++◌, length, map, take, take_all, suc, slice_index_or, append_assoc}
use Rattle.std.specs.Prelude.{drop, get_or}
use Rattle.std.proofs.lemmas.Grind.{flat_map-append}
use Rattle.std.proofs.lemmas.List.{length-map, length-take-le, map-append, take-append-drop, take_more}
use Rattle.fill_text.specs.Rules.{Values}
use Rattle.fill_text.specs.Script.{Change, change_of}
use Rattle.fill_text.specs.declared.script.Edit.{Edit}
use Rattle.fill_job.specs.Plans.{Plan, plan_of}
use Rattle.fill_core.specs.Accounts.{Account, IsKeeping, opening_of, state_of, terms_of}
use Rattle.fill_core.specs.Boxes.{low_fill}
use Rattle.fill_core.specs.Histories.{edits_by, edits_in, events_in}
use Rattle.fill_core.specs.Machine.{State, IsComplete, opening as start, replay_from, step}
use Rattle.fill_core.specs.Shares.{Held}
use Rattle.fill_core.specs.Terms.{Terms, layers_at}
use Rattle.fill_core.specs.declared.event.Entry.{Entry}
use Rattle.fill_core.specs.declared.event.Event.{Event}
use Rattle.fill_core.specs.declared.event.Event.TheVariants as event
use Rattle.fill_core.proofs.Counts.{version_counts}
use Rattle.fill_core.proofs.Unedited.{committed_stays, complete_unedited}
use Rattle.fill_shared.specs.Passes.{HasCounted}
use Rattle.fill_shared.specs.Runs.{IsFinished, IsLeft, IsNoBeginning, IsUnedited, IsUnfinished, changes_in}

-- no change, no edit
pub no_change : (xs : List Edit) → map change_of xs ≡ [] → xs ≡ []
no_change [] e = refl
no_change (x ∷ xs) e = absurd (let f : suc (length (map change_of xs)) ≡ 0 = ap length e in omega (arith, f))

pub left_by : (a : Account) (pass : Held) (t : Terms) (edits : List Edit) → terms_of a ≡ t → changes_in a.history ≡ map change_of edits → IsKeeping a → HasCounted a pass → IsLeft t edits a pass
left_by a pass t edits u e keeping counted = record {
  under = u;
  edited = e;
  version = version_counts (plan_of a.rules) (opening_of a) (events_in a.history) ∙ (sym (length-map (edits_in (events_in a.history)) change_of) ∙ (ap length e ∙ length-map edits change_of));
  keeping = keeping;
  counted = counted;
}

pub finished_by : (a : Account) (pass : Held) (t : Terms) (edits : List Edit) (history : List Entry) (made : ℕ) → terms_of a ≡ t → history ≡ a.history
    → changes_in history ≡ map change_of (take made edits) → length edits ≤ made → IsKeeping a → HasCounted a pass → IsComplete (plan_of a.rules) (state_of a) → IsFinished t edits a pass
finished_by a pass t edits history made same h e most keeping counted complete = record {
  left = left_by a pass t edits same (ap changes_in (sym h) ∙ (e ∙ ap (map change_of) (take_all made edits most))) keeping counted;
  complete = complete;
}

pub unfinished_by : (a : Account) (pass : Held) (t : Terms) (edits : List Edit) (history : List Entry) (made : ℕ) → terms_of a ≡ t → history ≡ a.history → changes_in history ≡ map change_of (take made edits) → made ≤ length edits
    → IsKeeping a → HasCounted a pass → ((made < length edits) ⊎ (¬ IsComplete (plan_of a.rules) (state_of a))) → IsUnfinished t edits a pass
unfinished_by a pass t edits history made same h e most keeping counted lacking =
    let left = left_by a pass t (take made edits) same (ap changes_in (sym h) ∙ e) keeping counted in
    record { made = made; most = most; left = left; lacking = lacking }

pub layers_stay : (plan : Plan) (s : State) (events : List Event) → edits_in events ≡ [] → (replay_from plan s events).layers ≡ s.layers
unfolding replay_from
layers_stay plan s [] e = refl
layers_stay plan s (event.Commit version tile same ∷ es) e = layers_stay plan (step plan s (event.Commit version tile same)) es e ∙ (committed_stays plan s version tile same).layers
layers_stay plan s (event.Edit edit ∷ es) e = absurd (let f : suc (length (edits_in es)) ≡ 0 = ap length e in omega (arith, f))

-- without edits the design stays, and the fill is one function of it and the rules
pub unedited_fill : (t : Terms) (edits : List Edit) (a : Account) (pass : Held) → edits ≡ [] → IsFinished t edits a pass → IsUnedited t (state_of a)
unedited_fill t edits a pass none is =
    let left = is.left in
    let rules_are : a.rules ≡ t.rules = ap (λ (u : Terms). u.rules) left.under in
    let unedited : edits_in (events_in a.history) ≡ [] = no_change (edits_in (events_in a.history)) (left.edited ∙ ap (map change_of) none) in
    record {
      layers = layers_stay (plan_of a.rules) (start (plan_of a.rules) (opening_of a)) (events_in a.history) unedited ∙ ap layers_at left.under;
      fill = complete_unedited (plan_of a.rules) (opening_of a) (events_in a.history) left.keeping.plan unedited is.complete
          ∙ (ap (λ (v : Values). low_fill (plan_of v) (opening_of a)) rules_are ∙ ap (λ (u : Terms). low_fill (plan_of t.rules) (layers_at u)) left.under);
    }

-- the change at a place of a beginning is that of the edit there
change_at : (pre rest : List Change) (x : Change) (edits : List Edit) (m : ℕ) (d : Edit) → pre ++ x ∷ rest ≡ map change_of (take m edits) → (length pre < length edits) × (x ≡ change_of (slice_index_or edits (length pre) d))
change_at [] rest x [] zero d e = absurd (cc e)
change_at [] rest x [] (suc m) d e = absurd (cc e)
change_at [] rest x (y ∷ ys) zero d e = absurd (cc e)
change_at [] rest x (y ∷ ys) (suc m) d e = (omega arith, cc e)
change_at (p ∷ pre) rest x [] zero d e = absurd (cc e)
change_at (p ∷ pre) rest x [] (suc m) d e = absurd (cc e)
change_at (p ∷ pre) rest x (y ∷ ys) zero d e = absurd (cc e)
change_at (p ∷ pre) rest x (y ∷ ys) (suc m) d e = let r = change_at pre rest x ys m d (cc e) in (omega (arith, r.0), r.1)

changes_append : (xs ys : List Entry) → changes_in (xs ++ ys) ≡ changes_in xs ++ changes_in ys
changes_append xs ys =
    ap (λ (es : List Event). map change_of (edits_in es)) (map-append (λ (x : Entry). x.event) xs ys)
    ∙ (ap (map change_of) (flat_map-append edits_by (events_in xs) (events_in ys)) ∙ map-append change_of (edits_in (events_in xs)) (edits_in (events_in ys)))

pub no_beginning : (entries : List Entry) (edits : List Edit) (i made : ℕ) (entry : Entry) (edit : Edit) → i < length entries → entry ≡ get_or entries i entry → entry.event ≡ event.Edit edit
    → changes_in (take i entries) ≡ map change_of (take made edits) → made ≤ length edits → ((made < length edits) × (change_of edit ≡ change_of (slice_index_or edits made edit)) → ⊥) → IsNoBeginning entries edits
no_beginning entries edits i made entry edit lt at is before most other n e =
    let pre = changes_in (take i entries) in let rest = changes_in (drop (i + 1) entries) in
    let one : changes_in (entry ∷ drop (i + 1) entries) ≡ change_of edit ∷ rest = ap (λ (v : Event). map change_of (edits_in (v ∷ events_in (drop (i + 1) entries)))) is in
    let all : entries ≡ take i entries ++ entry ∷ drop (i + 1) entries =
    sym (take-append-drop (i + 1) entries) ∙ (ap (λ (es : List Entry). es ++ drop (i + 1) entries) (take_more entries i entry lt ∙ ap (λ (x : Entry). take i entries ++ x ∷ []) (sym at)) ∙ append_assoc (take i entries) (entry ∷ []) (drop (i + 1) entries)) in
    let split : pre ++ change_of edit ∷ rest ≡ map change_of (take n edits) =
    ap (λ (cs : List Change). pre ++ cs) (sym one) ∙ (sym (changes_append (take i entries) (entry ∷ drop (i + 1) entries)) ∙ (ap changes_in (sym all) ∙ e)) in
    let count : length pre ≡ made = ap length before ∙ (length-map (take made edits) change_of ∙ length-take-le made edits most) in
    let r = change_at pre rest (change_of edit) edits n edit split in
    other (subst (λ (k : ℕ). (k < length edits) × (change_of edit ≡ change_of (slice_index_or edits k edit))) count r)
