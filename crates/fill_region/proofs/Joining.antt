-- The runs below and above a level line, joined.
use Rattle.std.proofs.Common.{◌≡◌, ℤ, Bool, true, false, ◌||◌, List, ◌++◌, sym, ◌∙◌, ap, refl, ⊎_elim}
use Rattle.std.specs.List.{All}
use Rattle.std.proofs.lemmas.Int.{by_lt_z}
use Rattle.std.proofs.lemmas.List.Elements.{All-append, All-contains, All-weaker, All-contains_itself}
use Rattle.std.specs.List.{Contains}
use Rattle.fill_base.specs.declared.rect.Rect.{Rect}
use Rattle.fill_base.specs.Sides.{sides_of}
use Rattle.fill_bands.specs.Squares.{covered}
use Rattle.fill_region.specs.Runs.{IsRun}
use Rattle.fill_region.specs.Steps.{AreRunsOf, before, behind, AreParted, MeetAt, AreStacked}
use Rattle.fill_region.specs.declared.lines.Line.TheVariants.{Level}
use Rattle.fill_region.specs.declared.edges.Edge.TheVariants.{Bottom, Top}
use Rattle.fill_region.proofs.Members.{either, or_left, or_right, covered_either, covered_same, last_part, runs_permuted}
use Rattle.fill_region.proofs.Levels.{below_same, above_same, lower_run, upper_run}
use Rattle.fill_region.proofs.Stacking.{meet}

-- what is so of two lists, element by element
pub both_all : (P Q R : Rect → Type 0) (xs : List Rect) → All P xs → All Q xs → ((r : Rect) → P r → Q r → R r) → All R xs
both_all P Q R xs ps qs f = All-weaker (Contains xs) R (λ r among. f r (All-contains P xs r ps among) (All-contains Q xs r qs among)) xs (All-contains_itself xs)

-- the runs on both sides that touch the line
pub parted_meet : (p : ℤ → ℤ → Bool) (at : ℤ) (lower upper ending ended beginning others : List Rect) → AreRunsOf (before (Level at) p) lower → AreRunsOf (behind (Level at) p) upper
    → AreParted Top at lower ending ended → AreParted Bottom at upper beginning others → MeetAt p at ending beginning
parted_meet p at lower upper ending ended beginning others low high parted_low parted_high =
    meet p at ending ended beginning others (runs_permuted (before (Level at) p) lower (ending ++ ended) parted_low.same low) parted_low.are_there parted_low.are_not
    (runs_permuted (behind (Level at) p) upper (beginning ++ others) parted_high.same high) parted_high.are_there parted_high.are_not

-- all runs, once those that meet are joined
pub joined_runs : (p : ℤ → ℤ → Bool) (at : ℤ) (lower upper ending ended beginning others going_on all_ended : List Rect) → AreRunsOf (before (Level at) p) lower → AreRunsOf (behind (Level at) p) upper
    → AreParted Top at lower ending ended → AreParted Bottom at upper beginning others → AreStacked p ending beginning ended going_on all_ended → AreRunsOf p ((all_ended ++ others) ++ going_on)
joined_runs p at lower upper ending ended beginning others going_on all_ended low high parted_low parted_high s = record {
  each = All-append is_run (all_ended ++ others) going_on (All-append is_run all_ended others (s.ended_runs ended_runs) other_runs) s.are_runs;
  all = λ x y is. by_lt_z y at (λ lt. below x y (low.all x y (below_same p at x y lt ∙ is))) (λ le. above x y (high.all x y (above_same p at x y le ∙ is)));
}
  where
    is_run : Rect → Type 0
    is_run r = IsRun p (sides_of r)

    ended_runs : All (λ r. IsRun p (sides_of r)) ended
    ended_runs = both_all (λ r. IsRun (before (Level at) p) (sides_of r)) (λ r. r.y2 ≡ at → ⊥) (λ r. IsRun p (sides_of r)) ended
        (last_part (λ r. IsRun (before (Level at) p) (sides_of r)) ending ended (runs_permuted (before (Level at) p) lower (ending ++ ended) parted_low.same low).each) parted_low.are_not
        (λ r run not. lower_run p at (sides_of r) run (λ is i. not is))

    other_runs : All (λ r. IsRun p (sides_of r)) others
    other_runs = both_all (λ r. IsRun (behind (Level at) p) (sides_of r)) (λ r. r.y1 ≡ at → ⊥) (λ r. IsRun p (sides_of r)) others
        (last_part (λ r. IsRun (behind (Level at) p) (sides_of r)) beginning others (runs_permuted (behind (Level at) p) upper (beginning ++ others) parted_high.same high).each) parted_high.are_not
        (λ r run not. upper_run p at (sides_of r) run (λ is i. not is))

    all_covered : (x y : ℤ) → covered ((all_ended ++ others) ++ going_on) x y ≡ ((covered all_ended x y || covered others x y) || covered going_on x y)
    all_covered x y = covered_either (all_ended ++ others) going_on x y ∙ ap (λ b. b || covered going_on x y) (covered_either all_ended others x y)

    place : (g e o : Bool) → (g || e) ≡ true → ((e || o) || g) ≡ true
    place true e o is = or_right (e || o) true refl
    place false e o is = or_left (e || o) false (or_left e o is)

    stacked : (x y : ℤ) → ((covered ending x y || covered beginning x y) || covered ended x y) ≡ true → covered ((all_ended ++ others) ++ going_on) x y ≡ true
    stacked x y is = all_covered x y ∙ place (covered going_on x y) (covered all_ended x y) (covered others x y) (s.all_in x y is)

    below : (x y : ℤ) → covered lower x y ≡ true → covered ((all_ended ++ others) ++ going_on) x y ≡ true
    below x y is = ⊎_elim (λ a. stacked x y (or_left (covered ending x y || covered beginning x y) (covered ended x y) (or_left (covered ending x y) (covered beginning x y) a)))
        (λ a. stacked x y (or_right (covered ending x y || covered beginning x y) (covered ended x y) a))
        (either (covered ending x y) (covered ended x y) (sym (covered_either ending ended x y) ∙ (sym (covered_same lower (ending ++ ended) x y parted_low.same) ∙ is)))

    above : (x y : ℤ) → covered upper x y ≡ true → covered ((all_ended ++ others) ++ going_on) x y ≡ true
    above x y is = ⊎_elim (λ a. stacked x y (or_left (covered ending x y || covered beginning x y) (covered ended x y) (or_right (covered ending x y) (covered beginning x y) a)))
        (λ a. all_covered x y ∙ or_left (covered all_ended x y || covered others x y) (covered going_on x y) (or_right (covered all_ended x y) (covered others x y) a))
        (either (covered beginning x y) (covered others x y) (sym (covered_either beginning others x y) ∙ (sym (covered_same upper (beginning ++ others) x y parted_high.same) ∙ is)))
