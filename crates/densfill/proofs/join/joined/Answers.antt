use Rattle.std.proofs.Common.{◌∙◌, sym, ap, inr, [], length, map, Ok}
use Rattle.std.proofs.lemmas.Result.{err_from_is_err_and}
use Rattle.std.specs.Prelude.{is_some}
use Rattle.fill_text.specs.ValuesOfChips.{chip_values}
use Rattle.fill_text.specs.declared.chip.ChipRules.{ChipRules}
use Rattle.densfill_engine.specs.Joiners.{AreJoined, IsJoinOf, IsJoinReason, IsPartReason, OpensFor}
use Rattle.densfill_engine.specs.declared.refusal.Refusal.TheVariants.{Run}
use Rattle.densfill.specs.Outcomes.{all_known}
use Rattle.densfill.proofs.Joined.{both_known, join_reason, memory_reason}
use Rattle.densfill.proofs.Knowing.{known_weaker, none_known}
use Rattle.densfill.proofs.join.joined.Goals as goal

pub returns-in_err-joiner-clause-refused : goal.returns-in_err-joiner-clause-refused
returns-in_err-joiner-clause-refused g c =
    let p = err_from_is_err_and c.from_residual-in_err-joiner.result c.from_residual-in_err-joiner.ensures.1 in
    let e = c.in_err-joiner.field-0.0 in
    let n = length c.args.parts.now in
    rw (p.1, p.2) (inr (c.in_ok-rules.rules.inner, [], known_weaker (λ r. IsJoinReason r [] n e) _ (g.R.File.Read.remaining c.in_ok-rules.rules.inner) (λ r why. none_known (λ texts. IsJoinReason r texts n e) why) c.in_err-joiner.ensures.refused))

pub returns-in_err-joiner-2-clause-refused : goal.returns-in_err-joiner-2-clause-refused
returns-in_err-joiner-2-clause-refused g c =
    let p = err_from_is_err_and c.from_residual-in_err-joiner-2.result c.from_residual-in_err-joiner-2.ensures.1 in
    let e = c.in_err-joiner-2.field-0.0 in
    let j = c.in_ok-joiner.joiner in
    let n = length c.args.parts.now in
    let why = c.in_err-joiner-2.ensures.refused in
    rw (p.1, p.2) (inr (
      c.in_ok-rules.rules.inner,
      why.0,
      both_known (λ r. OpensFor r j) (λ texts. IsPartReason j texts e) (λ r texts. IsJoinReason r texts n e)
          (g.R.File.Read.remaining c.in_ok-rules.rules.inner) (all_known (map g.R.File.Read.remaining why.0)) (λ r texts opens h. join_reason j r texts n e opens c.in_ok-joiner.ensures.begun.1 h) c.in_ok-joiner.ensures.begun.2 why.1,
    ))

pub returns-in_err-text-clause-refused : goal.returns-in_err-text-clause-refused
returns-in_err-text-clause-refused g c =
    let p = err_from_is_err_and c.from_residual-in_err-text.result c.from_residual-in_err-text.ensures.1 in
    let j = c.in_ok-joiner.joiner in
    let n = length c.args.parts.now in
    let all = c.in_ok-joiner-2.ensures.joined in
    rw (p.1, p.2) (inr (
      c.in_ok-rules.rules.inner,
      all.0,
      both_known (λ r. OpensFor r j) (λ texts. AreJoined texts c.in_ok-joiner-2.joiner) (λ r texts. IsJoinReason r texts n (Run c.in_err-text.field-0.0))
          (g.R.File.Read.remaining c.in_ok-rules.rules.inner) (all_known (map g.R.File.Read.remaining all.0)) (λ r texts opens h. memory_reason j r texts n (Run c.in_err-text.field-0.0) opens (ap Run c.in_err-text.ensures.refused)) c.in_ok-joiner.ensures.begun.2 all.2,
    ))

pub returns-clause-joined : goal.returns-clause-joined
returns-clause-joined g c =
    let j = c.in_ok-joiner.joiner in
    let k = c.in_ok-joiner-2.joiner in
    let all = c.in_ok-joiner-2.ensures.joined in (
      c.in_ok-rules.rules.inner,
      all.0,
      all.1,
      both_known (λ r. OpensFor r j) (λ texts. AreJoined texts k) (λ r texts. IsJoinOf r texts c.in_ok-text.text.items)
          (g.R.File.Read.remaining c.in_ok-rules.rules.inner) (all_known (map g.R.File.Read.remaining all.0))
          (λ r texts opens h. c.in_ok-text.ensures.joined r texts (opens.0 ∙ ap (λ (q : ChipRules). Ok (chip_values q)) (sym c.in_ok-joiner-2.ensures.whole.0), ap is_some c.in_ok-joiner-2.ensures.whole.1 ∙ opens.1) h) c.in_ok-joiner.ensures.begun.2 all.2,
    )
