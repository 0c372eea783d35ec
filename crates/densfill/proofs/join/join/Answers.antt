use Rattle.std.proofs.Common.{◌≡◌, ◌∙◌, sym, subst, inr, List, ℕ, length, map}
use Rattle.std.proofs.lemmas.Result.{on_ok_weaker, IfErr-weaker}
use Rattle.std.proofs.lemmas.List.{length-map}
use Rattle.std.specs.Io.KnownBytes.{Appends}
use Rattle.densfill_engine.specs.Joiners.{IsJoinOf}
use Rattle.densfill.specs.Outcomes.{all_known}
use Rattle.densfill.proofs.Knowing.{counted, known_weaker}
use Rattle.densfill.proofs.join.join.Goals as goal

pub returns-clause-written : goal.returns-clause-written
returns-clause-written g c =
    let made = c.in_ok-library.ensures.joined in
    let lib = c.in_ok-library.library.items in
    on_ok_weaker c.settle.result (λ appended. (
      made.0,
      made.1,
      made.2,
      known_weaker _ _ (g.R.File.Read.remaining made.0) (λ r h. known_weaker (λ texts. IsJoinOf r texts lib) _ (all_known (map g.R.File.Read.remaining made.1)) (λ texts k. (
        lib,
        k,
        (c.in_ok-out.out.inner.file, c.settle.new.out.inner.file, subst (λ (t : List ℕ). Appends (g.R.File.Write.contents c.in_ok-out.out.inner.file) (g.R.File.Write.contents c.settle.new.out.inner.file) t) c.deref-2.ensures.value appended),
      )) h) made.3,
    )) c.settle.ensures.library

pub returns-clause-refused : goal.returns-clause-refused
returns-clause-refused g c =
    let made = c.in_ok-library.ensures.joined in
    let lib = c.in_ok-library.library.items in
    let count = length-map c.args.parts.now (λ p. p.now) in
    IfErr-weaker c.settle.result _ _ (λ e is. inr (
      made.0,
      made.1,
      known_weaker _ _ (g.R.File.Read.remaining made.0) (λ r h. known_weaker (λ texts. IsJoinOf r texts lib × (length texts ≡ length (map g.R.File.Read.remaining made.1))) _ (all_known (map g.R.File.Read.remaining made.1))
          (λ texts k. inr (k.1 ∙ (length-map made.1 g.R.File.Read.remaining ∙ (made.2 ∙ sym count)), ((lib, k.0), inr is))) (counted (λ texts. IsJoinOf r texts lib) (map g.R.File.Read.remaining made.1) h)) made.3,
    )) c.settle.ensures.refused
