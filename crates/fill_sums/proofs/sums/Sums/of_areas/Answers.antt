use Rattle.std.proofs.Common.{◌∙◌}
use Rattle.fill_region.specs.Runs.{holds}
use Rattle.fill_sums.proofs.Changing.{measured_numbers}
use Rattle.fill_sums.proofs.sums.Sums.of_areas.Goals as goal

pub invariant_of-result : goal.invariant_of-result
invariant_of-result c =
    let drawn = measured_numbers (holds c.args.metal.now) c.args.windows.now c.args.areas.items c.requires.measured in
    record { drawn = drawn; total = rw (c.in_ok-total.ensures.items ∙ c.as_slice.ensures.value) drawn }
