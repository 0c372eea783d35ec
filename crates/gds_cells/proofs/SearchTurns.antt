-- One turn of a search, as the code takes it.
use Rattle.std.proofs.Common.{◌≡◌, ℕ, ◌+◌, ◌-◌, ◌<◌, ◌≤◌, Bool, List, length, sym, ap, subst, arith, ◌∙◌}
use Rattle.std.specs.Prelude.{not, ◌==◌}
use Rattle.std.specs.List.{sum}
use Rattle.gds_cells.specs.Graphs.{Graph, next, item, IsWhole}
use Rattle.gds_cells.specs.steps.Searches.{State, opened, passed, closed, IsSearch}
use Rattle.gds_cells.specs.steps.Rows.{left}
use Rattle.gds_cells.proofs.Searching.{last_of, here_open, opened_search, passed_search, closed_search}
use Rattle.gds_cells.proofs.Searched.{steps_bounded, one_more}

module _ (g : Graph) (t : ℕ) (s : State) (h : IsSearch g t s) (on : 0 < length s.trail) (cell steps : ℕ) (row : List ℕ)
    (is_last : cell ≡ last_of s) (is_row : row ≡ next g cell) (is_steps : steps ≡ item s.steps cell) where
  some : 0 < item s.steps cell
  some = subst (λ x. 0 < item s.steps x) (sym is_last) ((here_open g t s h on).0)

  pub closes : (r : State) → steps - 1 ≡ length row → r ≡ closed cell s → IsSearch g t r
  closes r full e =
      let len : length row ≡ length (next g cell) = ap length is_row in
      let filled = some in
      rw e (closed_search g t s h on cell (sym is_last) (omega (arith, full, len, is_steps, filled)))

  -- the reference that comes next
  in_row : (steps - 1 ≡ length row → ⊥) → steps - 1 < length (next g cell)
  in_row other =
      let len : length row ≡ length (next g cell) = ap length is_row in
      let filled = some in
      let wide = (subst (λ x. item s.steps x < length (next g x) + 2) (sym is_last) ((here_open g t s h on).1)) in
      omega (arith, other, len, is_steps, filled, wide)

  found_is : (found : ℕ) → found ≡ item row (steps - 1) → item (next g cell) (steps - 1) ≡ found
  found_is found e = ap (λ r. item r (steps - 1)) (sym is_row) ∙ sym e

  found_whole : IsWhole g → (found : ℕ) → found ≡ item row (steps - 1) → (steps - 1 ≡ length row → ⊥) → found ≤ length g
  found_whole whole found e other = subst (λ x. x ≤ length g) (found_is found e) (whole cell (steps - 1) (in_row other))

  pub opens : IsWhole g → (found : ℕ) (r : State) → (steps - 1 ≡ length row → ⊥) → found ≡ item row (steps - 1)
      → item s.steps found ≡ 0 → r ≡ opened found s → IsSearch g t r
  opens whole found r other e fresh is = rw is
      (opened_search g t s h on found (steps - 1)
      (subst (λ x. steps - 1 < length (next g x)) is_last (in_row other))
      (subst (λ x. item (next g x) (steps - 1) ≡ found) is_last (found_is found e))
      (found_whole whole found e other) fresh)

  pub opens_one : IsWhole g → (found : ℕ) (r : State) → (steps - 1 ≡ length row → ⊥) → found ≡ item row (steps - 1)
      → item s.steps found ≡ 0 → r ≡ opened found s → sum r.steps ≡ sum s.steps + 1
  opens_one whole found r other e fresh is =
      let long = h.long in
      let inside = found_whole whole found e other in
      rw is (one_more s.steps found 1 (omega (arith, long, inside)) (omega (arith, fresh)))

  pub passes : (found : ℕ) (again : Bool) (r : State) → (steps - 1 ≡ length row → ⊥) → found ≡ item row (steps - 1)
      → (item s.steps found ≡ 0 → ⊥) → again ≡ not (item s.steps found == length (next g found) + 2)
      → r ≡ passed cell again s → IsSearch g t r
  passes found again r other e old told is =
      let filled = some in
      rw is (passed_search g t s h on cell found (steps - 1) (sym is_last) (omega (arith, is_steps, filled)) (in_row other)
      (found_is found e) (omega (arith, old)) again told)

-- a step less is left
pub less_left : (g : Graph) (t : ℕ) (s r : State) → IsSearch g t r → sum r.steps ≡ sum s.steps + 1 → left g r < left g s
less_left g t s r h e = let most = steps_bounded g t r h in omega (arith, most, e)
