use Rattle.std.proofs.Common.{◌≡◌, ◌∙◌, ◌<◌, ◌≤◌, ◌⊎◌, ℕ, inl, inr, rules, sym, None, Some, arith, codes, length, map}
use Rattle.clap.specs.Words.{found_of, rows_of}
use Rattle.clap.proofs.WalkLemmas.{first_value-rows, raw_values-rows}
use Rattle.densfill_args.specs.Grammar.{join}
use Rattle.densfill_args.proofs.Parts.{few_joined, not_joined}
use Rattle.densfill_args.proofs.Saying.{joined_is, no_join_out, no_join_parts, no_join_rules}
use Rattle.densfill_args.proofs.joined_in.Goals as goal

pub returns-in_err-rules-clause-paths : goal.returns-in_err-rules-clause-paths
returns-in_err-rules-clause-paths c =
    let none : c.from_residual.result ≡ None = search rules in
    rw none (no_join_rules (rows_of (found_of c.args.found.now))
    (sym (first_value-rows (found_of c.args.found.now) (codes "RULES")) ∙ sym c.in_err-rules.ensures))

pub returns-in_err-out-clause-paths : goal.returns-in_err-out-clause-paths
returns-in_err-out-clause-paths c =
    let none : c.from_residual-in_err-out.result ≡ None = search rules in
    rw none (no_join_out (rows_of (found_of c.args.found.now)) c.in_ok-rules.rules.now
    (sym (first_value-rows (found_of c.args.found.now) (codes "RULES")) ∙ sym c.in_ok-rules.ensures)
    (sym (first_value-rows (found_of c.args.found.now) (codes "OUT")) ∙ sym c.in_err-out.ensures))

pub returns-in_err-parts-clause-paths : goal.returns-in_err-parts-clause-paths
returns-in_err-parts-clause-paths c =
    let none : c.from_residual-in_err-parts.result ≡ None = search rules in
    rw none (no_join_parts (rows_of (found_of c.args.found.now)) c.in_ok-rules.rules.now c.in_ok-out.out.now
    (sym (first_value-rows (found_of c.args.found.now) (codes "RULES")) ∙ sym c.in_ok-rules.ensures)
    (sym (first_value-rows (found_of c.args.found.now) (codes "OUT")) ∙ sym c.in_ok-out.ensures)
    (sym (raw_values-rows (found_of c.args.found.now) (codes "PART")) ∙ sym c.in_err-parts.ensures))

pub returns-then-parts-le-MOST_PARTS-clause-paths : goal.returns-then-parts-le-MOST_PARTS-clause-paths
returns-then-parts-le-MOST_PARTS-clause-paths c =
    let parts = c.in_ok-parts.parts.now in
    joined_is (rows_of (found_of c.args.found.now)) c.in_ok-rules.rules.now c.in_ok-out.out.now (map (λ q. q.now) parts) (Some (join c.in_ok-rules.rules.now c.in_ok-out.out.now (map (λ q. q.now) parts)))
    (sym (first_value-rows (found_of c.args.found.now) (codes "RULES")) ∙ sym c.in_ok-rules.ensures)
    (sym (first_value-rows (found_of c.args.found.now) (codes "OUT")) ∙ sym c.in_ok-out.ensures)
    (sym (raw_values-rows (found_of c.args.found.now) (codes "PART")) ∙ sym c.in_ok-parts.ensures)
    (few_joined c.in_ok-rules.rules.now c.in_ok-out.out.now (λ q. q.now) parts (omega arith) (omega arith))

pub returns-else-parts-ge1-clause-paths : goal.returns-else-parts-ge1-clause-paths
returns-else-parts-ge1-clause-paths c =
    let parts = c.in_ok-parts.parts.now in
    joined_is (rows_of (found_of c.args.found.now)) c.in_ok-rules.rules.now c.in_ok-out.out.now (map (λ q. q.now) parts) None
    (sym (first_value-rows (found_of c.args.found.now) (codes "RULES")) ∙ sym c.in_ok-rules.ensures)
    (sym (first_value-rows (found_of c.args.found.now) (codes "OUT")) ∙ sym c.in_ok-out.ensures)
    (sym (raw_values-rows (found_of c.args.found.now) (codes "PART")) ∙ sym c.in_ok-parts.ensures)
    (not_joined c.in_ok-rules.rules.now c.in_ok-out.out.now (λ q. q.now) parts (neither (length parts) c.else-parts-ge1.either))
  where
    neither : (n : ℕ) → ((1 ≤ n) × (4096 < n)) ⊎ (n < 1) → 1 ≤ n → n ≤ 4096 → ⊥
    neither n (inl (some, many)) least most = omega (arith, many, most)
    neither n (inr none) least most = omega (arith, none, least)
