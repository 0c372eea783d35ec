-- What holds in every interleaving of callers' steps.
use Rattle.std.proofs.Common.{◌≡◌, refl, ap, sym, subst, ◌∙◌, ℕ, ◌+◌, ◌≤◌, arith, inl, inr, List, [], ◌∷◌, ◌++◌, length, Bool, true, false}
use Rattle.std.specs.Prelude.{◌==◌, drop, take}
use Rattle.std.specs.List.{All}
use Rattle.std.proofs.lemmas.Bool.{cases_Bool}
use Rattle.std.proofs.lemmas.Bool.Decides.{nat_tests}
use Rattle.std.proofs.lemmas.List.Elements.{All-append, All-cons, All-contains, All-drop, All-same, All-tail, All-take, All-head, All-weaker}
use Rattle.std.proofs.lemmas.List.{drop_at, take_at}
use Rattle.fill_text.specs.Rules.{Values}
use Rattle.fill_text.specs.declared.script.Edit.{Edit}
use Rattle.fill_job.specs.Plans.{Layers, Plan, plan_of}
use Rattle.fill_job.specs.ReadSets.{ReadSet, read_set, wanted_of}
use Rattle.fill_job.proofs.ReadSets.{same_wanted}
use Rattle.fill_core.specs.Accounts.{state_of}
use Rattle.fill_core.specs.Callers.{Job, Proposal, World, Step, IsMarked, Moves, Runs, commit_of, events_by, events_of, job_on, proposal_of, start}
use Rattle.fill_core.specs.Callers.Step.{Look, Propose, Bring, Commit, Change, Ask}
use Rattle.fill_core.specs.Machine.{State, is_accepted, opening, replay_from, step}
use Rattle.fill_core.specs.RunLaws.{AcceptedMarksAreWanted, CommitIsAStep, EditIsAStep, OwnProposalIsPlaced, RefusedCommitChangesNothing, RunIsAReplay, RunIsSound, StaleChangesNothing}
use Rattle.fill_core.specs.Soundness.{IsSound}
use Rattle.fill_core.specs.declared.event.Event.{Event}
use Rattle.fill_core.specs.declared.event.Event.TheVariants as event
use Rattle.fill_core.proofs.Replays.{refused_nothing}
use Rattle.fill_core.proofs.Sound.{replay_sound}
use Rattle.fill_core.proofs.Written.{state_with}

-- ---- the state is a replay

state_after : (rules : Values) (w v : World) (x : Step) → Moves rules w x v → v.state ≡ replay_from (plan_of rules) w.state (events_by x)
unfolding replay_from
state_after rules w v (Look caller tile) m = ap (λ (u : World). u.state) m.1
state_after rules w v (Propose job) m = ap (λ (u : World). u.state) m.3
state_after rules w v (Bring p) m = ap (λ (u : World). u.state) m.2
state_after rules w v (Commit p same) m = ap (λ (u : World). u.state) m.2
state_after rules w v (Change caller edit) m = ap (λ (u : World). u.state) m
state_after rules w v (Ask caller) m = ap (λ (u : World). u.state) m

pub replay_from_append : (plan : Plan) (s : State) (first rest : List Event) → replay_from plan s (first ++ rest) ≡ replay_from plan (replay_from plan s first) rest
unfolding replay_from
replay_from_append plan s [] rest = refl
replay_from_append plan s (e ∷ es) rest = replay_from_append plan (step plan s e) es rest

run_from : (rules : Values) (w v : World) (steps : List Step) → Runs rules w steps v → v.state ≡ replay_from (plan_of rules) w.state (events_of steps)
unfolding Runs replay_from
run_from rules w v [] r = ap (λ (u : World). u.state) (sym r)
run_from rules w v (x ∷ xs) r =
    let plan = plan_of rules in
    run_from rules r.0 v xs r.2 ∙ (ap (λ s. replay_from plan s (events_of xs)) (state_after rules w r.0 x r.1) ∙ sym (replay_from_append plan w.state (events_by x) (events_of xs)))

pub run_replay : RunIsAReplay
run_replay rules layers steps w r = run_from rules (start rules layers) w steps r

pub run_sound : RunIsSound
run_sound rules layers steps w is r =
    let plan = plan_of rules in
    subst (λ (s : State). IsSound plan s.layers s.fill) (sym (run_replay rules layers steps w r)) (replay_sound plan layers (events_of steps) is)

-- ---- refused commits

pub refused_commit : RefusedCommitChangesNothing
refused_commit rules w v p same m refused = m.2 ∙ ap (λ (s : State). record w { state = s }) (refused_nothing (plan_of rules) w.state (commit_of p.job same) refused)

nat_eq_is : (a b : ℕ) → (a == b) ≡ true → a ≡ b
nat_eq_is a b h = grind (arith, nat_tests)

nat_eq_from : (a b : ℕ) → a ≡ b → (a == b) ≡ true
nat_eq_from a b h = grind (arith, nat_tests)

nat_eq_not : (a b : ℕ) → (a ≡ b → ⊥) → (a == b) ≡ false
nat_eq_not a b other = elim (cases_Bool (a == b)) [
  | inl same ↦ absurd (other (nat_eq_is a b same))
  | inr h ↦ h
]

pub stale_nothing : StaleChangesNothing
stale_nothing rules w v p same m other =
    let stale = nat_eq_not p.job.version w.state.version other in
    (rw stale refl, m.2 ∙ rw stale refl)

-- ---- what callers hold

-- no job is of a later version, and one of the book's version has the book's read set
record IsHeld (rules : Values) (s : State) (job : Job) : Type 0 where
  pub sooner : job.own ≡ true → job.version ≤ s.version
  pub current : job.own ≡ true → job.version ≡ s.version → job.read ≡ read_set rules s.layers s.low job.tile

record AreHeld (rules : Values) (w : World) : Type 0 where
  pub jobs : All (IsHeld rules w.state) w.jobs
  pub proposals : All (λ p. IsHeld rules w.state p.job) w.proposals
  pub marks : All IsMarked w.proposals

-- a commit changes neither metal nor low windows nor version
record IsNext (s t : State) : Type 0 where
  pub layers : t.layers ≡ s.layers
  pub low : t.low ≡ s.low
  pub version : t.version ≡ s.version

committed : (plan : Plan) (s : State) (version tile : ℕ) (same : Bool) → IsNext s (step plan s (event.Commit version tile same))
committed plan s version tile same = elim (cases_Bool (is_accepted s version tile same)) [
  | inl h ↦ rw h (record { layers = refl; low = refl; version = refl })
  | inr h ↦ rw h (record { layers = refl; low = refl; version = refl })
]

held_committed : (rules : Values) (s : State) (version tile : ℕ) (same : Bool) (job : Job) → IsHeld rules s job → IsHeld rules (step (plan_of rules) s (event.Commit version tile same)) job
held_committed rules s version tile same job h =
    let n = committed (plan_of rules) s version tile same in
    record {
      sooner = λ own. rw (n.version) (h.sooner own);
      current = λ own at. rw (n.layers, n.low) (h.current own (at ∙ n.version));
    }

later : (a b : ℕ) → a ≤ b → a ≤ b + 1
later a b le = omega arith

not_later : (a b : ℕ) → a ≤ b → a ≡ b + 1 → ⊥
not_later a b le e = omega arith

held_edited : (rules : Values) (s : State) (edit : Edit) (job : Job) → IsHeld rules s job → IsHeld rules (step (plan_of rules) s (event.Edit edit)) job
held_edited rules s edit job h = record {
  sooner = λ own. later job.version s.version (h.sooner own);
  current = λ own at. absurd (not_later job.version s.version (h.sooner own) at);
}

foreign_held : (rules : Values) (s : State) (job : Job) → job.own ≡ false → IsHeld rules s job
foreign_held rules s job other = record { sooner = λ own. absurd (let e : true ≡ false = sym own ∙ other in cc); current = λ own. absurd (let e : true ≡ false = sym own ∙ other in cc) }

-- ---- one step

all_before : {X : Type 0} (P : X → Type 0) (before rest : List X) → All P (before ++ rest) → All P before
all_before P before rest all = All-same P before (take (length before) (before ++ rest)) (sym (take_at before rest (length before) refl)) (All-take P (length before) (before ++ rest) all)

all_rest : {X : Type 0} (P : X → Type 0) (before rest : List X) → All P (before ++ rest) → All P rest
all_rest P before rest all = All-same P rest (drop (length before) (before ++ rest)) (sym (drop_at before rest (length before) refl)) (All-drop P (length before) (before ++ rest) all)

-- the jobs but one, and that one
pub record Apart (P : Job → Type 0) (before after : List Job) (job : Job) : Type 0 where
  pub others : All P (before ++ after)
  pub this : P job

apart_from : (P : Job → Type 0) (jobs before after : List Job) (job : Job) → jobs ≡ before ++ job ∷ after → All P jobs → Apart P before after job
apart_from P jobs before after job e all =
    let whole : All P (before ++ job ∷ after) = All-same P (before ++ job ∷ after) jobs (sym e) all in
    let rest : All P (job ∷ after) = all_rest P before (job ∷ after) whole in
    record { others = All-append P before after (all_before P before (job ∷ after) whole) (All-tail P job after rest); this = All-head P job after rest }

looked_up : (rules : Values) (s : State) (caller tile : ℕ) → IsHeld rules s (job_on rules s caller tile)
looked_up rules s caller tile = record { sooner = λ own. same s.version; current = λ own at. refl }
  where
    same : (n : ℕ) → n ≤ n
    same n = omega arith

held_by_move : (rules : Values) (w : World) (x : Step) (v : World) → AreHeld rules w → Moves rules w x v → AreHeld rules v
held_by_move rules w (Look caller tile) v h m = subst (AreHeld rules) (sym m.1) (record {
  jobs = All-cons (IsHeld rules w.state) (job_on rules w.state caller tile) w.jobs (looked_up rules w.state caller tile) h.jobs;
  proposals = h.proposals;
  marks = h.marks;
})
held_by_move rules w (Propose job) v h m =
    let a = apart_from (IsHeld rules w.state) w.jobs m.0 m.1 job m.2 h.jobs in
    subst (AreHeld rules) (sym m.3) (record {
      jobs = a.others;
      proposals = All-cons (λ (p : Proposal). IsHeld rules w.state p.job) (proposal_of job) w.proposals a.this h.proposals;
      marks = All-cons IsMarked (proposal_of job) w.proposals refl h.marks;
    })
held_by_move rules w (Bring p) v h m = subst (AreHeld rules) (sym m.2) (record {
  jobs = h.jobs;
  proposals = All-cons (λ (q : Proposal). IsHeld rules w.state q.job) p w.proposals (foreign_held rules w.state p.job m.0) h.proposals;
  marks = All-cons IsMarked p w.proposals m.1 h.marks;
})
held_by_move rules w (Commit p same) v h m =
    let s = w.state in let t = step (plan_of rules) s (commit_of p.job same) in
    subst (AreHeld rules) (sym m.2) (record {
      jobs = All-weaker (IsHeld rules s) (IsHeld rules t) (λ j k. held_committed rules s p.job.version p.job.tile same j k) w.jobs h.jobs;
      proposals = All-weaker (λ (q : Proposal). IsHeld rules s q.job) (λ (q : Proposal). IsHeld rules t q.job) (λ q k. held_committed rules s p.job.version p.job.tile same q.job k) w.proposals h.proposals;
      marks = h.marks;
    })
held_by_move rules w (Change caller edit) v h m =
    let s = w.state in let t = step (plan_of rules) s (event.Edit edit) in
    subst (AreHeld rules) (sym m) (record {
      jobs = All-weaker (IsHeld rules s) (IsHeld rules t) (λ j k. held_edited rules s edit j k) w.jobs h.jobs;
      proposals = All-weaker (λ (q : Proposal). IsHeld rules s q.job) (λ (q : Proposal). IsHeld rules t q.job) (λ q k. held_edited rules s edit q.job k) w.proposals h.proposals;
      marks = h.marks;
    })
held_by_move rules w (Ask caller) v h m = subst (AreHeld rules) (sym m) h

none_held : {X : Type 0} (P : X → Type 0) → All P []
none_held P k d lt = absurd (omega (arith, lt))

held_from : (rules : Values) (w v : World) (steps : List Step) → AreHeld rules w → Runs rules w steps v → AreHeld rules v
unfolding Runs
held_from rules w v [] h r = subst (AreHeld rules) r h
held_from rules w v (x ∷ xs) h r = held_from rules r.0 v xs (held_by_move rules w x r.0 h r.1) r.2

held_in_run : (rules : Values) (layers : Layers) (steps : List Step) (w : World) → Runs rules (start rules layers) steps w → AreHeld rules w
held_in_run rules layers steps w r = held_from rules (start rules layers) w steps (record { jobs = none_held (IsHeld rules (opening (plan_of rules) layers)); proposals = none_held (λ (p : Proposal). IsHeld rules (opening (plan_of rules) layers) p.job); marks = none_held IsMarked }) r

-- ---- commits that are accepted

pub own_placed : OwnProposalIsPlaced
own_placed rules layers steps w v p same r m own at out =
    let all = held_in_run rules layers steps w r in
    let held : IsHeld rules w.state p.job = All-contains (λ (q : Proposal). IsHeld rules w.state q.job) w.proposals p all.proposals m.0 in
    let equal : same ≡ true = m.1.1 (at, out, held.current own at) in
    let here = nat_eq_from p.job.version w.state.version at in
    (rw (here, out, equal) refl, ap (λ (u : World). u.state) m.2 ∙ rw (here, out, equal) refl)

pub accepted_wanted : AcceptedMarksAreWanted
accepted_wanted rules layers steps w v p is r m =
    let all = held_in_run rules layers steps w r in
    let marked : IsMarked p = All-contains IsMarked w.proposals p all.marks m.0 in
    let equal : p.job.read ≡ read_set rules w.state.layers w.state.low p.job.tile = (m.1.0 refl).2 in
    marked ∙ (ap (λ (read : ReadSet). wanted_of read p.job.tile) equal ∙ same_wanted rules w.state.layers w.state.low p.job.tile is)

-- ---- what a call writes is a step

pub commit_step_of : CommitIsAStep
commit_step_of old new held after p reply jobs proposals is_there is =
    let e = commit_of p.job is.same in
    let state : state_of new ≡ step (plan_of old.rules) (state_of old) e = ap state_of is.writes.written ∙ state_with old e reply in
    (is.same, is.writes.written, (is_there, is.is_same, ap (λ (s : State). record { state = s; jobs = jobs; proposals = proposals }) state))

pub edit_step_of : EditIsAStep
edit_step_of old new held after caller edit reply jobs proposals is =
    let e = event.Edit edit in
    let state : state_of new ≡ step (plan_of old.rules) (state_of old) e = ap state_of is.written ∙ state_with old e reply in
    (is.written, ap (λ (s : State). record { state = s; jobs = jobs; proposals = proposals }) state)
