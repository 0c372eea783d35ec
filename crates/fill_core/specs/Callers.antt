-- What any number of callers may do with a book, one step after another. Between two steps nothing happens, and each step is one
-- caller's.
use Rattle.std.specs.Prelude.{◌≡◌, ℕ, ◌<◌, Bool, true, false, List, [], ◌∷◌, ◌++◌, Contains, flat_map}
use Rattle.fill_raster.specs.Lattice.{tiles}
use Rattle.fill_text.specs.Rules.{Values}
use Rattle.fill_text.specs.declared.script.Edit.{Edit}
use Rattle.fill_job.specs.Plans.{Layers, PointSet, plan_of}
use Rattle.fill_job.specs.ReadSets.{ReadSet, read_set, wanted_of}
use Rattle.fill_core.specs.Accounts.{IsSame}
use Rattle.fill_core.specs.Machine.{State, opening, step}
use Rattle.fill_core.specs.declared.event.Event.{Event}
use Rattle.fill_core.specs.declared.event.Event.TheVariants as event

-- the work on a tile that a caller holds, and whether it was looked up on this book
pub record Job : Type 0 where
  pub caller : ℕ
  pub own : Bool
  pub version : ℕ
  pub tile : ℕ
  pub read : ReadSet

pub record Proposal : Type 0 where
  pub job : Job
  pub marks : PointSet

-- the book's state, and what the callers hold
pub record World : Type 0 where
  pub state : State
  pub jobs : List Job
  pub proposals : List Proposal

-- a caller looks up a tile; makes a proposal of a job; brings one of another book; commits one, with whether it is the same as
-- the book's; edits; or asks for a total
pub data Step : Type 0 where
  Look : ℕ → ℕ → Step
  Propose : Job → Step
  Bring : Proposal → Step
  Commit : Proposal → Bool → Step
  Change : ℕ → Edit → Step
  Ask : ℕ → Step

-- the marks are the wanted places of what was read
abbrev pub IsMarked : Proposal → Type 0
IsMarked p = p.marks ≡ wanted_of p.job.read p.job.tile

abbrev pub job_on : Values → State → ℕ → ℕ → Job
job_on rules s caller tile = record { caller = caller; own = true; version = s.version; tile = tile; read = read_set rules s.layers s.low tile }

abbrev pub proposal_of : Job → Proposal
proposal_of job = record { job = job; marks = wanted_of job.read job.tile }

abbrev pub commit_of : Job → Bool → Event
commit_of job same = event.Commit job.version job.tile same

-- the step leads from one world to the other
abbrev pub Moves : Values → World → Step → World → Type 0
Moves rules w (Look caller tile) v = (tile < tiles (plan_of rules).raster) × (v ≡ record w { jobs = job_on rules w.state caller tile ∷ w.jobs })
Moves rules w (Propose job) v = (before after : List Job) × (w.jobs ≡ before ++ job ∷ after) × (v ≡ record w { jobs = before ++ after; proposals = proposal_of job ∷ w.proposals })
Moves rules w (Bring p) v = (p.job.own ≡ false) × IsMarked p × (v ≡ record w { proposals = p ∷ w.proposals })
Moves rules w (Commit p same) v = Contains w.proposals p × IsSame rules w.state p.job.version p.job.tile p.job.read same × (v ≡ record w { state = step (plan_of rules) w.state (commit_of p.job same) })
Moves rules w (Change caller edit) v = v ≡ record w { state = step (plan_of rules) w.state (event.Edit edit) }
Moves rules w (Ask caller) v = v ≡ w

-- so do the steps, one after another
unfoldable pub Runs : Values → World → List Step → World → Type 0
Runs rules w [] v = w ≡ v
Runs rules w (x ∷ xs) v = (u : World) × Moves rules w x u × Runs rules u xs v

-- the book opens, and nobody holds anything
abbrev pub start : Values → Layers → World
start rules layers = record { state = opening (plan_of rules) layers; jobs = []; proposals = [] }

-- the events among the steps
abbrev pub events_by : Step → List Event
events_by (Look caller tile) = []
events_by (Propose job) = []
events_by (Bring p) = []
events_by (Commit p same) = commit_of p.job same ∷ []
events_by (Change caller edit) = event.Edit edit ∷ []
events_by (Ask caller) = []

abbrev pub events_of : List Step → List Event
events_of steps = flat_map events_by steps
