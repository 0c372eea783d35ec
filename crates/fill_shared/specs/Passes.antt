-- How the 1,024 parts of a book, and what its callers counted, are shared out and taken together.
use Rattle.std.specs.Prelude.{◌≡◌, ℕ, ◌+◌, ◌-◌, List, ◌∷◌, length, replicate, sum_by}
use Rattle.fill_job.specs.Plans.{plan_of}
use Rattle.fill_core.specs.Accounts.{Account, state_of}
use Rattle.fill_core.specs.Boxes.{count_places}
use Rattle.fill_core.specs.Shares.{Held, IsWhole, nothing_with, totals_of}

-- how many parts they hold together, and how many calls they have counted
abbrev pub parts_of : List Held → ℕ
parts_of passes = sum_by (λ p. p.parts) passes

abbrev pub calls_of : List Held → ℕ
calls_of passes = sum_by (λ p. p.calls) passes

-- the first keeps what was counted, and each of the others has one part and counts from 0
abbrev pub split_among : Held → ℕ → List Held
split_among pass callers = record pass { parts = pass.parts - (callers - 1) } ∷ replicate (callers - 1) (nothing_with 1)

-- the sums over all of them
abbrev pub together : List Held → Held
together passes = record {
  parts = parts_of passes;
  calls = calls_of passes;
  placed = sum_by (λ p. p.placed) passes;
  withdrawn = sum_by (λ p. p.withdrawn) passes;
}

-- the pass has all parts, and has counted all that happened: its calls are the events, and what it placed less what it withdrew
-- the filled places
pub record HasCounted (a : Account) (pass : Held) : Type 0 where
  pub all : pass.parts ≡ 1024
  pub whole : IsWhole pass (totals_of a.history)
  pub calls : pass.calls ≡ length a.history
  pub boxes : count_places (plan_of a.rules).raster (state_of a).fill + pass.withdrawn ≡ pass.placed
