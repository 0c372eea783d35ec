use Rattle.std.proofs.Common.{◌⊎◌, refl, inl, inr, sym, subst, map, List, ℕ, Option}
use Rattle.std.specs.Process.{exit_status}
use Rattle.densfill_io.specs.Taps.{has_failed, under}
use Rattle.densfill_args.specs.Grammar.{said_in}
use Rattle.densfill_engine.specs.declared.refusal.RunFault.TheVariants as run
use Rattle.densfill_engine.specs.declared.refusal.Refusal.TheVariants.{Run}
use Rattle.densfill.specs.Outcomes.{GaveUp, IsToldOf}
use Rattle.densfill.proofs.Named.{no_path}
use Rattle.densfill.proofs.status_of.Goals as goal

-- one way more
widened : {A B P Q : Type 0} → (P → Q) → A ⊎ P → A ⊎ B ⊎ Q
widened f (inl a) = inl a
widened f (inr p) = inr (inr (f p))

pub returns-in-Ok-clause-refused : goal.returns-in-Ok-clause-refused
returns-in-Ok-clause-refused g c =
    widened (subst (λ said. GaveUp g.R.File.Read.remaining said (g.E.Write.contents (under c.args.err.now)) (g.E.Write.contents (under c.line_status.new.err))
    (has_failed c.line_status.new.err) (exit_status c.line_status.result)) (sym c.in-Ok.ensures.line)) c.line_status.ensures.refused

pub returns-in-Err-Memory-clause-refused : goal.returns-in-Err-Memory-clause-refused
returns-in-Err-Memory-clause-refused g c =
    let said = said_in (map g.S.AsStr.text c.args.words.now) in
    inr (inr (
      Run run.Memory,
      inr refl,
      subst (λ (p : Option (List ℕ)). IsToldOf (g.E.Write.contents (under c.args.err.now)) (g.E.Write.contents (under c.ended.new.err)) (has_failed c.ended.new.err) (exit_status c.ended.result) p (Run run.Memory)) (sym (no_path said)) c.ended.ensures.told,
    ))
