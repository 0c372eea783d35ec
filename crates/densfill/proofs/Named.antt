-- A part by its number.
use Rattle.std.proofs.Common.{◌≡◌, ◌∙◌, sym, ap, subst, ℕ, ◌-◌, Option, Some, None, IfSome, refl}
use Rattle.fill_parts.specs.Cuts.{Part}
use Rattle.densfill_args.specs.Grammar.{Said}
use Rattle.densfill_args.specs.Grammar as line
use Rattle.densfill_engine.specs.declared.refusal.RunFault.TheVariants as run
use Rattle.densfill_engine.specs.declared.refusal.Refusal.TheVariants.{Run}
use Rattle.densfill_engine.specs.declared.scope.Scope.TheVariants as asked
use Rattle.densfill.specs.Outcomes.{path_of, scope_named}

pub is_named : (said : Option (ℕ × ℕ)) (o : Option Part) (p : Part) (number count : ℕ) → said ≡ Some (number, count) → o ≡ Some p
    → IfSome o (λ q. q ≡ record { number = number - 1; count = count }) → asked.Part p ≡ scope_named said
is_named said o p number count names is found =
    ap asked.Part (subst (λ x. IfSome x (λ q. q ≡ record { number = number - 1; count = count })) is found) ∙ sym (ap scope_named names)

-- want of memory has no path
pub no_path : (said : Option Said) → path_of said (Run run.Memory) ≡ None
no_path None = refl
no_path (Some (line.rects rules script)) = refl
no_path (Some (line.check rules design part)) = refl
no_path (Some (line.join rules out parts)) = refl
no_path (Some (line.fill rules design script out part workers limit)) = refl
