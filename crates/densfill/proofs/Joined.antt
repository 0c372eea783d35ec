-- Why parts are not joined, behind those that are taken.
use Rattle.std.proofs.Common.{◌≡◌, refl, sym, ap, subst, ℕ, ◌+◌, inl, inr, List, Option, Some, None, Result, Ok, IfSome, IsOk}
use Rattle.std.specs.Prelude.{is_some}
use Rattle.fill_text.specs.ValuesOfChips.{chip_values}
use Rattle.fill_text.specs.declared.chip.ChipRules.{ChipRules}
use Rattle.fill_text.specs.declared.rules.Rules.{Rules as WholeRules}
use Rattle.densfill_engine.specs.Inputs.{chip_answer}
use Rattle.densfill_engine.specs.Joiners.{AreJoined, IsJoinReason, IsPartReason, IsUnjoined, OpensFor}
use Rattle.densfill_engine.specs.declared.joining.Joiner.{Joiner}
use Rattle.densfill_engine.specs.declared.refusal.RunFault.TheVariants as run
use Rattle.densfill_engine.specs.declared.refusal.Refusal.{Refusal}
use Rattle.densfill_engine.specs.declared.refusal.Refusal.TheVariants.{Rules, TooLarge, Design, Script, Part, Run, Out, Report}
use Rattle.densfill.specs.Outcomes.{IsUnopenedPart}

-- a reason is one for any joiner of the same rules and number of parts
pub same_reason : (j k : Joiner) (texts : List (List ℕ)) (e : Refusal) → j.parts.chip ≡ k.parts.chip → j.parts.whole ≡ k.parts.whole → j.parts.count ≡ k.parts.count → IsPartReason j texts e → IsPartReason k texts e
same_reason j k texts (Rules fault) chip whole count why = why
same_reason j k texts (TooLarge fault number parts) chip whole count why = why
same_reason j k texts (Design fault) chip whole count why = why
same_reason j k texts (Script fault) chip whole count why = why
same_reason j k texts (Part number fault) chip whole count why =
    subst (λ (c : ChipRules). IsUnjoined (chip_values c) (is_some k.parts.whole) k.parts.count texts number fault) chip
    (subst (λ (w : Option WholeRules). IsUnjoined (chip_values j.parts.chip) (is_some w) k.parts.count texts number fault) whole
    (subst (λ n. IsUnjoined (chip_values j.parts.chip) (is_some j.parts.whole) n texts number fault) count why))
same_reason j k texts (Run fault) chip whole count why = why
same_reason j k texts Out chip whole count why = why
same_reason j k texts Report chip whole count why = why

-- the library of the next part could not be opened
pub unopened_reason : (j : Joiner) (texts : List (List ℕ)) (e : Refusal) → IsUnopenedPart (j.parts.taken + 1) e → AreJoined texts j → IsPartReason j texts e
unopened_reason j texts e (inl is) joined =
    subst (IsPartReason j texts) (sym is) (inl (ap (λ n. n + 1) joined.count, record { design = _; earlier = _; taken = joined.taken; unopened = inl refl }))
unopened_reason j texts e (inr is) joined =
    subst (IsPartReason j texts) (sym is) (inl (ap (λ n. n + 1) joined.count, record { design = _; earlier = _; taken = joined.taken; unopened = inr refl }))

-- a part's reason is one for the whole
pub join_reason : (j : Joiner) (r : List ℕ) (texts : List (List ℕ)) (count : ℕ) (e : Refusal) → OpensFor r j → j.parts.count ≡ count → IsPartReason j texts e → IsJoinReason r texts count e
join_reason j r texts count (Rules fault) opens is why = absurd why
join_reason j r texts count (TooLarge fault number parts) opens is why = why
join_reason j r texts count (Design fault) opens is why = why
join_reason j r texts count (Script fault) opens is why = why
join_reason j r texts count (Part number fault) opens is why = (chip_values j.parts.chip, opens.0, subst (λ b. IsUnjoined (chip_values j.parts.chip) b count texts number fault) opens.1 (subst (λ n. IsUnjoined (chip_values j.parts.chip) (is_some j.parts.whole) n texts number fault) is why))
join_reason j r texts count (Run fault) opens is why = absurd why
join_reason j r texts count Out opens is why = absurd why
join_reason j r texts count Report opens is why = why

-- an answer with a value is none of a refusal
is_ok_of : {A E : Type 0} (r : Result A E) (x : A) → r ≡ Ok x → IsOk r
is_ok_of r x e = rw e refl

-- want of memory
pub memory_reason : (j : Joiner) (r : List ℕ) (texts : List (List ℕ)) (count : ℕ) (e : Refusal) → OpensFor r j → e ≡ Run run.Memory → IsJoinReason r texts count e
memory_reason j r texts count e opens is = subst (IsJoinReason r texts count) (sym is) (is_ok_of (chip_answer r) (chip_values j.parts.chip) opens.0)

-- what is known of the rules and of the parts
pub both_known : (P : List ℕ → Type 0) (Q : List (List ℕ) → Type 0) (R : List ℕ → List (List ℕ) → Type 0) (rules : Option (List ℕ)) (files : Option (List (List ℕ))) → ((r : List ℕ) (xs : List (List ℕ)) → P r → Q xs → R r xs)
    → IfSome rules P → IfSome files Q → IfSome rules (λ r. IfSome files (R r))
both_known P Q R None files f p q = tt
both_known P Q R (Some r) None f p q = tt
both_known P Q R (Some r) (Some xs) f p q = f r xs p q
