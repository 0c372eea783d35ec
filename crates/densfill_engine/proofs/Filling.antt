-- A book that is opened, edited and filled gives the texts of a fill, or was given too few turns or too little history.
use Rattle.std.proofs.Common.{◌≡◌, refl, ap, ap₂, sym, subst, ◌∙◌, ℕ, ◌+◌, ◌*◌, ◌^◌, ◌≤◌, ◌<◌, ◌&&◌, ◌||◌, arith, inl, inr, List, [], length, map, Option}
use Rattle.std.proofs.lemmas.List.{length-map}
use Rattle.fill_region.specs.Runs.{Sides}
use Rattle.fill_text.specs.Rules.{Values}
use Rattle.fill_text.specs.Script.{change_of}
use Rattle.fill_text.specs.declared.script.Edit.{Edit}
use Rattle.fill_job.specs.Plans.{IsPlan, Layers, Plan, PointSet, WindowSet, allowed, drawn_squares, in_window_of, plan_of}
use Rattle.fill_core.specs.Accounts.{Account, state_of, terms_of}
use Rattle.fill_core.specs.Histories.{edits_in, events_in}
use Rattle.fill_core.specs.Machine.{IsComplete, State, opening as start, replay, replay_from}
use Rattle.fill_core.specs.Shares.{Held, nothing_with}
use Rattle.fill_core.specs.Terms.{Terms, layers_at}
use Rattle.fill_core.specs.declared.event.Entry.{Entry}
use Rattle.fill_core.specs.declared.event.Event.{Event}
use Rattle.fill_parts.specs.PartFill.{layers_by}
use Rattle.gds_out.specs.FillText.{fill_text}
use Rattle.gds_out.specs.Places.{PlaceSet}
use Rattle.fill_core.proofs.Replays.{complete_fill, low_of_opening}
use Rattle.fill_core.proofs.Sound.{low_sound, replay_sound}
use Rattle.fill_core.proofs.Unedited.{complete_unedited}
use Rattle.fill_shared.specs.Rounds.{HasRun}
use Rattle.fill_shared.specs.Runs.{IsFinished, changes_in}
use Rattle.fill_shared.proofs.Edited.{layers_stay, no_change}
use Rattle.densfill_engine.specs.Fills.{IsAllWanted, IsFillOf, IsOnlyFillOf}
use Rattle.densfill_engine.specs.Runs.{IsBack, IsFresh, IsRun, IsTooShort, Leaves, most_commits, most_turns, tile_count}
use Rattle.densfill_engine.specs.Views.{places_told, report_told}
use Rattle.densfill_engine.specs.declared.view.Told.{Told}
use Rattle.densfill_engine.proofs.TileTurns.{run_brief, run_unedited}

-- what a fill opens its book with
abbrev pub fill_terms : Values → List Sides → List Sides → List Sides → Terms
fill_terms values metal existing keep = record { rules = values; opening = metal; existing = existing; keep = keep; most = 2 ^ 32 }

-- a book with no history yet
abbrev pub blank : Terms → Account
blank t = record { rules = t.rules; opening = t.opening; existing = t.existing; keep = t.keep; history = []; most = t.most }

pub blank_fresh : (t : Terms) (a : Account) → a ≡ blank t → IsFresh (state_of a)
unfolding replay_from
blank_fresh t a is tile = ap (λ (x : Account). (state_of x).tiles_in tile) is

-- without an edit there is one fill only
only_fill : (told : Told) (t : Terms) (b : Account) (units dates library report : List ℕ) → IsPlan (plan_of t.rules) → edits_in (events_in b.history) ≡ []
    → library ≡ fill_text units dates t.rules (places_told told (plan_of t.rules) (replay (plan_of t.rules) (layers_at t) (events_in b.history)).fill)
    → report ≡ report_told told t.rules (drawn_squares (replay (plan_of t.rules) (layers_at t) (events_in b.history)).layers) (replay (plan_of t.rules) (layers_at t) (events_in b.history)).fill
    → IsComplete (plan_of t.rules) (replay (plan_of t.rules) (layers_at t) (events_in b.history)) → IsOnlyFillOf told t.rules (layers_at t) units dates library report
only_fill told t b units dates library report plan unedited l r complete =
    let fill_is = complete_unedited (plan_of t.rules) (layers_at t) (events_in b.history) plan unedited complete in
    let layers_are = layers_stay (plan_of t.rules) (start (plan_of t.rules) (layers_at t)) (events_in b.history) unedited in
    record {
      library_is = l ∙ ap (λ (f : PointSet). fill_text units dates t.rules (places_told told (plan_of t.rules) f)) fill_is;
      report_is = r ∙ ap₂ (λ (l : Layers) (f : PointSet). report_told told t.rules (drawn_squares l) f) layers_are fill_is;
      sound = low_sound (plan_of t.rules) (layers_at t) plan;
    }

-- where every tile is in, all that is wanted is filled
all_wanted : (plan : Plan) (layers : Layers) (events : List Event) → IsPlan plan → IsComplete plan (replay plan layers events) → IsAllWanted plan (replay plan layers events)
all_wanted plan layers events is complete i j =
    let s = replay plan layers events in
    ap (λ (f : PointSet). f i j) (complete_fill plan layers events is complete)
    ∙ ap (λ (low : WindowSet). s.base i j || (allowed plan s.layers i j && in_window_of plan low i j)) (low_of_opening plan layers events)

-- what came back of a book that was opened blank
pub came_back : (Left : Leaves) (t : Terms) (a b : Account) (edits : List Edit) (pass after : Held) (workers : ℕ) (limit : Option ℕ) → t.most ≡ 2 ^ 32 → a ≡ blank t → pass ≡ nothing_with 1024
    → Left (terms_of a) edits b after → HasRun (terms_of a) edits workers (most_turns a.rules limit) pass b after → IsBack Left t.rules (layers_at t) (map change_of edits) workers limit
came_back Left t a b edits pass after workers limit room is fresh left rounds = record {
  terms = t;
  rules_are = refl;
  opened_on = refl;
  room = room;
  edits = edits;
  edits_are = refl;
  book = b;
  pass = after;
  left = subst (λ (u : Terms). Left u edits b after) (ap terms_of is) left;
  rounds = subst (λ (p : Held). HasRun t edits workers (most_turns t.rules limit) p b after) fresh
      (subst (λ (x : Account). HasRun (terms_of x) edits workers (most_turns x.rules limit) pass b after) is rounds);
}

-- the texts of a book in which every tile is in, whose edits are these
fill_by : (told : Told) (t : Terms) (b : Account) (edits : List Edit) (workers : ℕ) (limit : Option ℕ) (units dates library report : List ℕ) → IsPlan (plan_of t.rules) → terms_of b ≡ t
    → changes_in b.history ≡ map change_of edits → length b.history ≤ length (map change_of edits) + most_commits t.rules workers limit → IsComplete (plan_of b.rules) (state_of b)
    → library ≡ fill_text units dates b.rules (places_told told (plan_of b.rules) (state_of b).fill) → report ≡ report_told told b.rules (drawn_squares (state_of b).layers) (state_of b).fill
    → (workers ≡ 1 → IsComplete (plan_of t.rules) (replay (plan_of t.rules) (layers_at t) (events_in b.history))
    → library ≡ fill_text units dates t.rules (places_told told (plan_of t.rules) (replay (plan_of t.rules) (layers_at t) (events_in b.history)).fill)
    → report ≡ report_told told t.rules (drawn_squares (replay (plan_of t.rules) (layers_at t) (events_in b.history)).layers) (replay (plan_of t.rules) (layers_at t) (events_in b.history)).fill
    → IsOnlyFillOf told t.rules (layers_by (map change_of edits) (layers_at t)) units dates library report)
    → (1 < workers → (back : IsBack IsFinished t.rules (layers_at t) (map change_of edits) workers limit) × (events_in back.book.history ≡ events_in b.history))
    → IsFillOf told t.rules (layers_at t) units dates (map change_of edits) workers limit library report
fill_by told t b edits workers limit units dates library report plan under made brief complete library_is report_is alone together =
    let events = events_in b.history in let values = t.rules in
    let rules : b.rules ≡ values = ap (λ (u : Terms). u.rules) under in
    let state : state_of b ≡ replay (plan_of values) (layers_at t) events = ap (λ (u : Terms). replay (plan_of u.rules) (layers_at u) events) under in
    let library_then = library_is ∙ (ap (λ (v : Values). fill_text units dates v (places_told told (plan_of v) (state_of b).fill)) rules ∙ ap (λ (s : State). fill_text units dates values (places_told told (plan_of values) s.fill)) state) in
    let report_then = report_is ∙ (ap (λ (v : Values). report_told told v (drawn_squares (state_of b).layers) (state_of b).fill) rules ∙ ap (λ (s : State). report_told told values (drawn_squares s.layers) s.fill) state) in
    let complete_then = subst (λ (s : State). IsComplete (plan_of values) s) state (subst (λ (v : Values). IsComplete (plan_of v) (state_of b)) rules complete) in
    record {
      events = events;
      changed = made;
      brief = subst (λ n. n ≤ length (map change_of edits) + most_commits t.rules workers limit) (sym (length-map b.history (λ (x : Entry). x.event))) brief;
      complete = complete_then;
      sound = replay_sound (plan_of values) (layers_at t) events plan;
      whole = all_wanted (plan_of values) (layers_at t) events plan complete_then;
      library_is = library_then;
      report_is = report_then;
      unedited = λ none. only_fill told t b units dates library report plan (no_change (edits_in events) (made ∙ none)) library_then report_then complete_then;
      alone = λ one. alone one complete_then library_then report_then;
      together = together;
    }

-- the texts of a book that many workers filled
pub texts_of_run : (told : Told) (t : Terms) (a b : Account) (pass : Held) (edits : List Edit) (workers : ℕ) (limit : Option ℕ) (units dates library report : List ℕ) → IsPlan (plan_of t.rules)
    → 1 < workers → t.most ≡ 2 ^ 32 → a ≡ blank t → pass ≡ nothing_with 1024
    → (after : Held) × IsFinished (terms_of a) edits b after × HasRun (terms_of a) edits workers (most_turns a.rules limit) pass b after × (after.calls ≤ pass.calls + (length edits + 2 * (workers * most_turns a.rules limit)))
    → library ≡ fill_text units dates b.rules (places_told told (plan_of b.rules) (state_of b).fill) → report ≡ report_told told b.rules (drawn_squares (state_of b).layers) (state_of b).fill
    → IsFillOf told t.rules (layers_at t) units dates (map change_of edits) workers limit library report
unfolding came_back
texts_of_run told t a b pass edits workers limit units dates library report plan many room is fresh (after, done, rounds, brief) library_is report_is =
    let left = done.left in
    let turns : 2 * (workers * most_turns a.rules limit) ≡ most_commits t.rules workers limit = ap (λ (x : Account). 2 * (workers * most_turns x.rules limit)) is in
    fill_by told t b edits workers limit units dates library report plan (left.under ∙ ap terms_of is) left.edited
    (few (length b.history) after.calls pass.calls (length edits) (length (map change_of edits)) _ _ (sym left.counted.calls) brief (ap (λ (h : Held). h.calls) fresh) (length-map edits change_of) turns) done.complete library_is report_is
    (λ one complete l r. absurd (omega (arith, many, one)))
    (λ _. (came_back IsFinished t a b edits pass after workers limit room is fresh done rounds, refl))
  where
    few : (n m c e f o u : ℕ) → n ≡ m → m ≤ c + (e + o) → c ≡ 0 → f ≡ e → o ≡ u → n ≤ f + u
    few n m c e f o u same le zero lengths turns = omega (arith, same, le, zero, lengths, turns)

unmade : (layers : Layers) → layers ≡ layers_by [] layers
unfolding layers_by
unmade layers = refl

module _ (t : Terms) (a : Account) (limit : Option ℕ) (is : a ≡ blank t) where
  -- the texts of a book that one worker filled
  pub texts_alone : (told : Told) (c : Account) (units dates library report : List ℕ) → IsPlan (plan_of t.rules) → IsRun a c (2 * most_turns a.rules limit) → IsComplete (plan_of c.rules) (state_of c)
      → library ≡ fill_text units dates c.rules (places_told told (plan_of c.rules) (state_of c).fill) → report ≡ report_told told c.rules (drawn_squares (state_of c).layers) (state_of c).fill
      → IsFillOf told t.rules (layers_at t) units dates [] 1 limit library report
  texts_alone told c units dates library report plan filled complete library_is report_is =
      fill_by told t c [] 1 limit units dates library report plan under (ap (map change_of) unedited)
      (all (length c.history) (length a.history) _ _ (run_brief a c _ filled) (ap (λ (x : Account). length x.history) is) turns) complete library_is report_is
      (λ one whole l r. subst (λ (p : Layers). IsOnlyFillOf told t.rules p units dates library report) (unmade (layers_at t)) (only_fill told t c units dates library report plan unedited l r whole))
      (λ many. absurd (omega (arith, many)))
    where
      same : terms_of c ≡ terms_of a
      same = λ k. record { rules = filled.rules k; opening = filled.opening k; existing = filled.existing k; keep = filled.keep k; most = filled.most k }

      under : terms_of c ≡ t
      under = same ∙ ap terms_of is

      unedited : edits_in (events_in c.history) ≡ []
      unedited = run_unedited a c _ filled ∙ ap (λ (x : Account). edits_in (events_in x.history)) is

      turns : 2 * most_turns a.rules limit ≡ most_commits t.rules 1 limit
      turns = ap (λ (x : Account). 2 * most_turns x.rules limit) is ∙ once (most_turns t.rules limit)
        where
          once : (m : ℕ) → 2 * m ≡ 2 * (1 * m)
          once m = omega arith

      all : (m h o u : ℕ) → m ≤ h + o → h ≡ 0 → o ≡ u → m ≤ 0 + u
      all m h o u le none same = omega (arith, le, none, same)

  -- tiles are left, or there is no room for them
  pub tiles_short : IsTooShort a.rules limit (length a.history) a.most → IsTooShort t.rules limit 0 t.most
  tiles_short short = subst (λ (x : Account). IsTooShort x.rules limit (length x.history) x.most) is short

-- edits take room as well
pub edits_short : (values : Values) (limit : Option ℕ) (edits most : ℕ) → IsTooShort values limit 0 most → IsTooShort values limit edits most
edits_short values limit edits most (inl few) = inl few
edits_short values limit edits most (inr full) = inr (more most edits (tile_count values) full)
  where
    more : (m n t : ℕ) → m < 0 + t → m < n + t
    more m n t full = omega (arith, full)

-- not above one, and not none
pub only_one : (workers : ℕ) → 0 < workers → workers ≤ 1 → workers ≡ 1
only_one workers some few = omega (arith, some, few)

-- the text is that of these rules and these places
pub text_is : (text units dates : List ℕ) (v w : Values) (p q : PlaceSet) → text ≡ fill_text units dates v p → v ≡ w → p ≡ q → text ≡ fill_text units dates w q
text_is text units dates v w p q is rules places =
    is ∙ (ap (λ (x : Values). fill_text units dates x p) rules ∙ ap (λ (x : PlaceSet). fill_text units dates w x) places)
