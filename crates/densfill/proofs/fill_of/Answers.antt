use Rattle.std.proofs.Common.{inl, inr}
use Rattle.std.proofs.lemmas.Result.{err_from_is_err_and, on_ok_weaker, IfErr-weaker}
use Rattle.densfill_io.specs.Taps.{has_failed}
use Rattle.densfill.proofs.Following.{if_three, uncreated, whole}
use Rattle.densfill.proofs.fill_of.Goals as goal

pub returns-in_err-filled-clause-refused : goal.returns-in_err-filled-clause-refused
returns-in_err-filled-clause-refused g c =
    let p = err_from_is_err_and c.from_residual-in_err-filled.result c.from_residual-in_err-filled.ensures.1 in
    rw (p.1, p.2) (inr (
      c.in_ok-inputs.inputs.rules.inner,
      c.in_ok-inputs.inputs.design.inner,
      c.in_ok-inputs.inputs.script.inner,
      if_three (g.R.File.Read.remaining c.in_ok-inputs.inputs.rules.inner) (g.R.File.Read.remaining c.in_ok-inputs.inputs.design.inner) (g.R.File.Read.remaining c.in_ok-inputs.inputs.script.inner) (λ r d s why. inl why) c.in_err-filled.ensures.refused,
    ))

pub returns-in_err-library-clause-refused : goal.returns-in_err-library-clause-refused
returns-in_err-library-clause-refused g c =
    let p = err_from_is_err_and c.from_residual-in_err-library.result c.from_residual-in_err-library.ensures.1 in
    rw (p.1, p.2) (inr (
      c.in_ok-inputs.inputs.rules.inner,
      c.in_ok-inputs.inputs.design.inner,
      c.in_ok-inputs.inputs.script.inner,
      if_three (g.R.File.Read.remaining c.in_ok-inputs.inputs.rules.inner) (g.R.File.Read.remaining c.in_ok-inputs.inputs.design.inner) (g.R.File.Read.remaining c.in_ok-inputs.inputs.script.inner)
          (λ r d s is. inr ((c.in_ok-filled.filled.library.items, c.in_ok-filled.filled.report.items, is), uncreated c.in_err-library.field-0.0 c.in_err-library.ensures.fault)) c.in_ok-filled.ensures.filled,
    ))

pub returns-clause-written : goal.returns-clause-written
returns-clause-written g c =
    on_ok_weaker c.deliver.result (λ p. (
      c.in_ok-inputs.inputs.rules.inner,
      c.in_ok-inputs.inputs.design.inner,
      c.in_ok-inputs.inputs.script.inner,
      if_three (g.R.File.Read.remaining c.in_ok-inputs.inputs.rules.inner) (g.R.File.Read.remaining c.in_ok-inputs.inputs.design.inner) (g.R.File.Read.remaining c.in_ok-inputs.inputs.script.inner)
          (λ r d s is. (c.in_ok-filled.filled.library.items, c.in_ok-filled.filled.report.items, is, (c.in_ok-library.library.inner.file, c.deliver.new.out.inner.file, p.0), p.1)) c.in_ok-filled.ensures.filled,
    ))
    (whole _ _ c.deliver.result (has_failed c.deliver.new.out) c.deliver.ensures.out_device c.deliver.ensures.library c.deliver.ensures.report)

pub returns-clause-refused : goal.returns-clause-refused
returns-clause-refused g c =
    IfErr-weaker c.deliver.result _ _ (λ e p. inr (
      c.in_ok-inputs.inputs.rules.inner,
      c.in_ok-inputs.inputs.design.inner,
      c.in_ok-inputs.inputs.script.inner,
      if_three (g.R.File.Read.remaining c.in_ok-inputs.inputs.rules.inner) (g.R.File.Read.remaining c.in_ok-inputs.inputs.design.inner) (g.R.File.Read.remaining c.in_ok-inputs.inputs.script.inner)
          (λ r d s is. inr ((c.in_ok-filled.filled.library.items, c.in_ok-filled.filled.report.items, is), inr p)) c.in_ok-filled.ensures.filled,
    )) c.deliver.ensures.refused
