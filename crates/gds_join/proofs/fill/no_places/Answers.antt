use Rattle.std.proofs.Common.{ℤ, pos, ◌+ℤ◌, ◌≤ℤ◌, arith}
use Rattle.std.proofs.lemmas.Int.{ints}
use Rattle.gds_join.proofs.fill.no_places.Goals as goal

kept : (n s t : ℤ) → (n +ℤ s) ≤ℤ t → pos 0 ≤ℤ s → (n +ℤ pos 0) ≤ℤ t
kept n s t h k = omega (arith, ints)

pub none-requires : goal.none-requires
none-requires c = (kept _ _ _ c.raster.ensures.pitch.0 c.rules_make_a_plan.ensures.fill_spacing.least, kept _ _ _ c.raster.ensures.pitch.1 c.rules_make_a_plan.ensures.fill_spacing.least)
