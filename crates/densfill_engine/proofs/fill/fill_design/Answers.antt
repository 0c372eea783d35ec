use Rattle.std.proofs.Common.{◌≡◌, ◌<◌, ◌≤◌, ℕ, List, arith, length, map, subst}
use Rattle.std.proofs.lemmas.Result.{IfOk-weaker}
use Rattle.fill_job.specs.Basis.{layers_in}
use Rattle.fill_text.specs.Script.{change_of}
use Rattle.fill_text.specs.ValuesOfRules.{values_of}
use Rattle.fill_text.specs.declared.script.Edit.{Edit}
use Rattle.densfill_engine.specs.Fills.{IsFillOf}
use Rattle.densfill_engine.proofs.Filling.{edits_short, only_one}
use Rattle.densfill_engine.proofs.Later.{behind_fill}
use Rattle.densfill_engine.proofs.fill.fill_design.Goals as goal

many : (workers : ℕ) → 1 < workers → workers ≡ 1 → ⊥
many workers some one = omega (arith, some, one)

few : (workers : ℕ) → workers ≤ 1 → 1 < workers → ⊥
few workers most some = omega (arith, most, some)

pub returns-then-crew-gt1-clause-unfinished : goal.returns-then-crew-gt1-clause-unfinished
returns-then-crew-gt1-clause-unfinished g c = λ is. ((λ one. absurd (many c.args.crew.workers c.if-crew-gt1.true one)), (λ _. c.fill_by_many.ensures.unfinished is))

pub returns-then-crew-gt1-clause-mixed : goal.returns-then-crew-gt1-clause-mixed
returns-then-crew-gt1-clause-mixed g c = λ is. ((λ one. many c.args.crew.workers c.if-crew-gt1.true one), (λ _. c.fill_by_many.ensures.mixed is))

pub returns-clause-filled : goal.returns-clause-filled
returns-clause-filled g c =
    let crew = c.args.crew in
    let values = values_of c.args.task.view.rules in
    let drawn = c.args.task.design in
    let design = c.in_ok-design.design in
    IfOk-weaker c.fill_alone.result _ _ (λ f given.
    subst (λ (l : List Edit). IsFillOf c.args.task.view.told values (layers_in drawn.metal drawn.fill drawn.keep) drawn.units drawn.dates (map change_of l) crew.workers crew.limit f.library.items f.report.items) c.deref.ensures.value
    (behind_fill c.args.task.view.told values (layers_in drawn.metal drawn.fill drawn.keep) (layers_in design.metal design.fill design.keep) c.deref.result.now crew.workers crew.limit
    design.units drawn.units design.dates drawn.dates f.library.items f.report.items c.edits_open_anew.ensures c.edits_are_changes.ensures c.in_ok-design.ensures.layers c.in_ok-design.ensures.units
    c.in_ok-design.ensures.dates (only_one crew.workers c.requires.workers.0 c.if-crew-gt1.false) given)) c.fill_alone.ensures.filled

pub returns-clause-short : goal.returns-clause-short
returns-clause-short g c = λ is one. c.fill_alone.ensures.unfinished is

pub returns-then-crew-gt1-clause-short : goal.returns-then-crew-gt1-clause-short
returns-then-crew-gt1-clause-short g c = λ is one. absurd (many c.args.crew.workers c.if-crew-gt1.true one)

pub returns-clause-unfinished : goal.returns-clause-unfinished
returns-clause-unfinished g c = λ is. (
  (λ one. edits_short (values_of c.args.task.view.rules) c.args.crew.limit (length (map change_of c.args.task.edits.items)) 4294967296 (c.fill_alone.ensures.unfinished is)),
  (λ some. absurd (few c.args.crew.workers c.if-crew-gt1.false some)),
)

pub returns-clause-mixed : goal.returns-clause-mixed
returns-clause-mixed g c = λ is. absurd (c.fill_alone.ensures.mixed is)
