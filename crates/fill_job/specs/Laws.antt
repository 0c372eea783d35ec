-- What holds of wanted places and read sets.
use Rattle.std.specs.Prelude.{◌≡◌, ◌↔◌, ℕ, ℤ, List, Ok, IsTrue}
use Rattle.fill_raster.specs.Lattice.{box_squares}
use Rattle.fill_area.specs.Sharing.{ShareASquare}
use Rattle.fill_size.specs.Distance.{InConflict}
use Rattle.fill_text.specs.Rules.{Values, rules_of}
use Rattle.fill_job.specs.Plans.{Plan, IsPlan, Layers, PointSet, WindowSet, blocked, crowded, plan_of, conflicts, wanted}
use Rattle.fill_job.specs.ReadSets.{read_set, wanted_of}

-- the values of a rule file that is accepted make a plan: each number is in its range, and the steps keep the boxes apart
abbrev pub AcceptedRulesMakeAPlan : Type 0
AcceptedRulesMakeAPlan = (file : List ℕ) (values : Values) → rules_of file ≡ Ok values → IsPlan (plan_of values)

-- the read set of a tile has all that its wanted places depend on
abbrev pub WantedIsOfTheReadSet : Type 0
WantedIsOfTheReadSet = (rules : Values) (layers : Layers) (low : WindowSet) (tile : ℕ) → IsPlan (plan_of rules) → wanted_of (read_set rules layers low tile) tile ≡ wanted (plan_of rules) layers low tile

-- two designs with equal read sets of a tile want the same places of it
abbrev pub EqualReadSetsWantTheSame : Type 0
EqualReadSetsWantTheSame = (rules other : Values) (layers changed : Layers) (low risen : WindowSet) (tile : ℕ) → IsPlan (plan_of rules)
    → read_set rules layers low tile ≡ read_set other changed risen tile → wanted (plan_of rules) layers low tile ≡ wanted (plan_of other) changed risen tile

-- a place is in conflict where some square of the set and some square of its box keep less than the spacing
abbrev pub ConflictsAreOfSquares : Type 0
ConflictsAreOfSquares = (plan : Plan) (p : PointSet) (i j : ℤ) → IsPlan plan → IsTrue (conflicts plan p i j) ↔ InConflict p (box_squares plan.raster i j) plan.spacing

-- it is crowded where they keep less than the fill spacing
abbrev pub CrowdingIsOfSquares : Type 0
CrowdingIsOfSquares = (plan : Plan) (p : PointSet) (i j : ℤ) → IsPlan plan → IsTrue (crowded plan p i j) ↔ InConflict p (box_squares plan.raster i j) plan.fill_spacing

-- and it is blocked where a square is both in the set and in its box
abbrev pub BlockedIsSharing : Type 0
BlockedIsSharing = (plan : Plan) (p : PointSet) (i j : ℤ) → IsPlan plan → IsTrue (blocked plan p i j) ↔ ShareASquare p (box_squares plan.raster i j)
