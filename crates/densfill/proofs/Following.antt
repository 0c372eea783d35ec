-- What follows where the bytes of three files are known, and from how a text was written.
use Rattle.std.proofs.Common.{◌≡◌, ◌⊎◌, ◌↔◌, ℕ, List, Bool, true, false, Option, Some, None, Result, Ok, Err, IfSome, OnOk, inl, inr, refl, arith}
use Rattle.densfill_engine.specs.declared.refusal.RunFault.TheVariants as run
use Rattle.densfill_engine.specs.declared.refusal.Refusal.{Refusal}
use Rattle.densfill_engine.specs.declared.refusal.Refusal.TheVariants.{Run, Out, Report}

pub if_three : {P Q : (r d s : List ℕ) → Type 0} (rules design edits : Option (List ℕ)) → ((r d s : List ℕ) → P r d s → Q r d s)
    → IfSome rules (λ r. IfSome design (λ d. IfSome edits (λ s. P r d s))) → IfSome rules (λ r. IfSome design (λ d. IfSome edits (λ s. Q r d s)))
if_three None design edits f p = p
if_three (Some r) None edits f p = p
if_three (Some r) (Some d) None f p = p
if_three (Some r) (Some d) (Some s) f p = f r d s p

-- a text that is whole unless its writer failed is whole where all went well
pub whole : {A : Type 0} (P Q : Type 0) (result : Result A Refusal) (failed : Bool) → (result ≡ Err Out) ↔ (failed ≡ true) → (failed ≡ false → P) → OnOk result Q → OnOk result (P × Q)
whole P Q (Ok x) false exactly given q = (given refl, q)
whole P Q (Ok x) true exactly given q = absurd (no (exactly.1 refl))
  where
    no : Ok x ≡ Err Out → ⊥
    no h = grind (arith, h)
whole P Q (Err e) failed exactly given q = q

-- a file that wasn't created
pub uncreated : (e : Refusal) → (e ≡ Out) ⊎ (e ≡ Run run.Memory) → (e ≡ Run run.Memory) ⊎ (e ≡ Out) ⊎ (e ≡ Report)
uncreated e (inl out) = inr (inl out)
uncreated e (inr memory) = inl memory
