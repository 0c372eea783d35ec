use Rattle.std.proofs.Common.{◌≡◌, subst}
use Rattle.std.specs.Prelude.{IfOk}
use Rattle.fill_text.specs.ValuesOfRules.{values_of}
use Rattle.gds_out.specs.FillText.{fill_text}
use Rattle.gds_out.specs.Places.{PlaceSet}
use Rattle.gds_join.proofs.fill.fill_text.Goals as goal

pub returns-clause-text : goal.returns-clause-text
returns-clause-text c =
    subst (λ (p : PlaceSet). IfOk c.fill_library.result (λ text. text.items ≡ fill_text c.args.units.now c.args.dates.now (values_of c.args.rules.now) p)) c.in_ok-marks.ensures.marked c.fill_library.ensures
