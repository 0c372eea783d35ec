use Rattle.std.proofs.Common.{refl}
use Rattle.fill_base.proofs.Signed.{read_is}
use Rattle.fill_raster.proofs.Tiling.{not_held}
use Rattle.fill_raster.proofs.raster.Raster.checked.Goals as goal

pub returns-then-not-keep_pitch-clause-too_many : goal.returns-then-not-keep_pitch-clause-too_many
returns-then-not-keep_pitch-clause-too_many c = (λ e. absurd cc, λ h. absurd (not_held c.keep_pitch.result (rw (read_is c.args.fill_spacing c.ranges.fill_spacing) at c.keep_pitch.ensures) c.if-not-keep_pitch.true h.0))

pub returns-then-not-are_few-clause-bad_pitch : goal.returns-then-not-are_few-clause-bad_pitch
returns-then-not-are_few-clause-bad_pitch c = (λ e. absurd cc, λ h. absurd (h ((rw (read_is c.args.fill_spacing c.ranges.fill_spacing) at c.keep_pitch.ensures).0 c.if-not-keep_pitch.false)))

pub returns-then-not-are_few-clause-too_many : goal.returns-then-not-are_few-clause-too_many
returns-then-not-are_few-clause-too_many c =
    (λ e. ((rw (read_is c.args.fill_spacing c.ranges.fill_spacing) at c.keep_pitch.ensures).0 c.if-not-keep_pitch.false, not_held c.are_few.result c.are_few.ensures c.if-not-are_few.true), λ h. refl)

pub invariant_of-result : goal.invariant_of-result
invariant_of-result c = record { across = c.requires.across; up = c.requires.up; few = c.are_few.ensures.0 c.if-not-are_few.false }

pub returns-clause-ok : goal.returns-clause-ok
returns-clause-ok c = (λ e. ((rw (read_is c.args.fill_spacing c.ranges.fill_spacing) at c.keep_pitch.ensures).0 c.if-not-keep_pitch.false, c.are_few.ensures.0 c.if-not-are_few.false), λ h. refl)

pub returns-clause-bad_pitch : goal.returns-clause-bad_pitch
returns-clause-bad_pitch c = (λ e. absurd cc, λ h. absurd (h ((rw (read_is c.args.fill_spacing c.ranges.fill_spacing) at c.keep_pitch.ensures).0 c.if-not-keep_pitch.false)))
