-- What a survey of the cells that the top reaches has found.
use Rattle.std.specs.Prelude.{ℕ, ◌<◌, length}
use Rattle.gds_cells.specs.declared.error.FlattenError.{FlattenError}
use Rattle.gds_cells.specs.declared.error.FlattenError.TheVariants.{Memory, MissingCell, Cycle, TooDeep}
use Rattle.gds_cells.specs.Graphs.{Graph, item, IsReached, IsCyclic, IsTooDeep}
use Rattle.gds_cells.specs.steps.Searches.{State, IsIn, IsOrdered}

-- the cells are there, none refers to itself, no chain is too long, and they stand in an order
pub record IsSurveyed (g : Graph) (top : ℕ) (s : State) : Type 0 where
  pub complete : IsReached g top (length g) → ⊥
  pub acyclic : IsCyclic g top → ⊥
  pub shallow : IsTooDeep g top → ⊥
  pub marked : (c : ℕ) → 0 < item s.steps c → IsReached g top c
  pub found : (c : ℕ) → IsReached g top c → 0 < item s.steps c
  pub order : (q : ℕ) → q < length s.order → IsReached g top (item s.order q)
  pub within : (q : ℕ) → q < length s.order → item s.order q < length g
  pub all : (c : ℕ) → IsReached g top c → IsIn s.order c
  pub ordered : IsOrdered g s.order

-- why the cells can't be put in order, the first cause
abbrev pub IsUnsound : Graph → ℕ → FlattenError → Type 0
IsUnsound g top Memory = Unit {0}
IsUnsound g top MissingCell = IsReached g top (length g)
IsUnsound g top Cycle = (IsReached g top (length g) → ⊥) × IsCyclic g top
IsUnsound g top TooDeep = (IsReached g top (length g) → ⊥) × (IsCyclic g top → ⊥) × IsTooDeep g top
IsUnsound g top e = ⊥
