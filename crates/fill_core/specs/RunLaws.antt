-- What holds in every interleaving of callers' steps.
use Rattle.std.specs.Prelude.{◌≡◌, ℕ, Bool, true, false, List, Contains}
use Rattle.fill_text.specs.Rules.{Values}
use Rattle.fill_text.specs.declared.script.Edit.{Edit}
use Rattle.fill_job.specs.Plans.{IsPlan, Layers, plan_of, wanted}
use Rattle.fill_core.specs.Accounts.{Account, IsCommitted, IsEdited, state_of, with_entry}
use Rattle.fill_core.specs.Callers.{Job, Proposal, Step, World, Moves, Runs, start, commit_of, events_of}
use Rattle.fill_core.specs.Callers.Step.{Commit, Change}
use Rattle.fill_core.specs.Laws.{IsRefusal}
use Rattle.fill_core.specs.Machine.{newly_placed, replay, reply_of, with_tile}
use Rattle.fill_core.specs.Shares.{Held}
use Rattle.fill_core.specs.Soundness.{IsSound}
use Rattle.fill_core.specs.declared.event.Event.TheVariants as event
use Rattle.fill_core.specs.declared.event.Reply.{Reply}
use Rattle.fill_core.specs.declared.event.Reply.TheVariants.{Placed, Stale}

-- the state is the replay of the commits and edits, so all that holds of every replay holds here
abbrev pub RunIsAReplay : Type 0
RunIsAReplay = (rules : Values) (layers : Layers) (steps : List Step) (w : World) → Runs rules (start rules layers) steps w → w.state ≡ replay (plan_of rules) layers (events_of steps)

abbrev pub RunIsSound : Type 0
RunIsSound = (rules : Values) (layers : Layers) (steps : List Step) (w : World) → IsPlan (plan_of rules) → Runs rules (start rules layers) steps w
    → IsSound (plan_of rules) w.state.layers w.state.fill

-- a proposal of another version is stale and changes nothing, whatever the callers hold
abbrev pub StaleChangesNothing : Type 0
StaleChangesNothing = (rules : Values) (w v : World) (p : Proposal) (same : Bool) → Moves rules w (Commit p same) v → ¬ (p.job.version ≡ w.state.version)
    → (reply_of (plan_of rules) w.state (commit_of p.job same) ≡ Stale w.state.version) × (v ≡ w)

-- nor does any other commit that is refused
abbrev pub RefusedCommitChangesNothing : Type 0
RefusedCommitChangesNothing = (rules : Values) (w v : World) (p : Proposal) (same : Bool) → Moves rules w (Commit p same) v
    → IsRefusal (reply_of (plan_of rules) w.state (commit_of p.job same)) → v ≡ w

-- a proposal that was looked up on this book, committed at its version while its tile isn't in, is placed and never foreign
abbrev pub OwnProposalIsPlaced : Type 0
OwnProposalIsPlaced = (rules : Values) (layers : Layers) (steps : List Step) (w v : World) (p : Proposal) (same : Bool) → Runs rules (start rules layers) steps w → Moves rules w (Commit p same) v
    → p.job.own ≡ true → p.job.version ≡ w.state.version → w.state.tiles_in p.job.tile ≡ false
    → (reply_of (plan_of rules) w.state (commit_of p.job same) ≡ Placed (newly_placed (plan_of rules) w.state p.job.tile)) × (v.state ≡ with_tile (plan_of rules) w.state p.job.tile)

-- the marks of a proposal that is the same as the book's, of this book or of another, are the places wanted now
abbrev pub AcceptedMarksAreWanted : Type 0
AcceptedMarksAreWanted = (rules : Values) (layers : Layers) (steps : List Step) (w v : World) (p : Proposal) → IsPlan (plan_of rules) → Runs rules (start rules layers) steps w → Moves rules w (Commit p true) v
    → p.marks ≡ wanted (plan_of rules) w.state.layers w.state.low p.job.tile

-- ---- what a call writes is a step

-- the state of a book, among callers that hold these
abbrev pub world_at : Account → List Job → List Proposal → World
world_at a jobs proposals = record { state = state_of a; jobs = jobs; proposals = proposals }

-- a commit that a book wrote is a step of its caller, by the event that stands last in the history now
abbrev pub CommitIsAStep : Type 0
CommitIsAStep = (old new : Account) (held after : Held) (p : Proposal) (reply : Reply) (jobs : List Job) (proposals : List Proposal) → Contains proposals p
    → IsCommitted old new held after p.job.version p.job.tile p.job.read reply
    → (same : Bool) × (new ≡ with_entry old (commit_of p.job same) reply) × Moves old.rules (world_at old jobs proposals) (Commit p same) (world_at new jobs proposals)

-- and so is an edit
abbrev pub EditIsAStep : Type 0
EditIsAStep = (old new : Account) (held after : Held) (caller : ℕ) (edit : Edit) (reply : Reply) (jobs : List Job) (proposals : List Proposal) → IsEdited old new held after edit reply
    → (new ≡ with_entry old (event.Edit edit) reply) × Moves old.rules (world_at old jobs proposals) (Change caller edit) (world_at new jobs proposals)
