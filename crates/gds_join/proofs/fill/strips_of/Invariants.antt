-- There is a strip for each fill so far.
use Rattle.std.proofs.Common.{◌≡◌, ℕ, length, Some}
use Rattle.std.specs.Prelude.{slice_get}
use Rattle.fill_state.specs.Filling.{Filling}
use Rattle.gds_out.specs.declared.sheet.Strip.{Strip}
use Rattle.gds_join.specs.steps.Strips.{IsStripOf}
use Rattle.gds_join.proofs.fill.strips_of.Given as goal

abbrev pub invariant-loop-fill : goal.invariant-loop-fill
invariant-loop-fill l = record {
  count : length l.strips.items ≡ l.fill-index;
  each : (k : ℕ) (f : Filling) (s : Strip) → slice_get l.fills k ≡ Some f → slice_get l.strips.items k ≡ Some s → IsStripOf f s;
}
