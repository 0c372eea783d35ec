use Rattle.fill_region.proofs.RowCuts.{height_read}
use Rattle.fill_region.proofs.region.Region.of.Goals as goal

pub invariant_of-result : goal.invariant_of-result
invariant_of-result c =
    let tall = rw (c.deref.ensures.value) at c.tallest-height.ensures in
    (c.requires, rw (height_read c.args.runs.items c.tallest-height.result tall) tall)
