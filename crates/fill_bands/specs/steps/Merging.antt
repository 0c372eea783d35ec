-- The step of a sweep over two lists of bands.
use Rattle.std.specs.Prelude.{◌≡◌, ℕ, ◌<◌, ℤ, ◌⊎◌, Bool, false, List, [], ◌∷◌, ◌++◌, take}
use Rattle.fill_spans.specs.declared.operation.Operation.{Operation}
use Rattle.fill_spans.specs.Spans.{inside, IsCanonical}
use Rattle.fill_spans.specs.Operations.{applied}
use Rattle.fill_bands.specs.Bands.{Band, last_row}

-- `row` has the members that the operation makes of two rows
pub record IsRowOf (op : Operation) (a b row : List ℤ) : Type 0 where
  pub canonical : IsCanonical row
  pub members : (x : ℤ) → inside row x ≡ applied op (inside a x) (inside b x)

-- the bands have a band with this row at `at` more, unless their last row is that row already
abbrev pub RowPut : ℤ → List ℤ → List Band → List Band → Type 0
RowPut at row old new =
    ((last_row [] old ≡ row) × (new ≡ old)) ⊎ ((last_row [] old ≡ row → ⊥) × (new ≡ old ++ (at, row) ∷ []))

-- a turn of the sweep: the row that the operation makes, put at `at`
pub record IsTurn (op : Operation) (a b : List ℤ) (at : ℤ) (old new : List Band) : Type 0 where
  pub row : List ℤ
  pub made : IsRowOf op a b row
  pub put : RowPut at row old new

-- the second list has no row before `j`, and the row of the first before `i` is kept and is not the last that was put
pub record IsBeside (op : Operation) (a : List Band) (i : ℕ) (b : List Band) (j : ℕ) (out : List Band) : Type 0 where
  pub some : 0 < i
  pub canonical : IsCanonical (last_row [] (take i a))
  pub nothing : last_row [] (take j b) ≡ []
  pub keeps : (x : Bool) → applied op x false ≡ x
  pub other : last_row [] out ≡ last_row [] (take i a) → ⊥
