use Rattle.std.proofs.Common.{◌≡◌, refl, sym, subst, ◌∙◌, ℤ, pos, ◌+ℤ◌}
use Rattle.std.specs.Int.{int_max}
use Rattle.fill_base.proofs.Signed.{read}
use Rattle.fill_raster.specs.Axes.{first}
use Rattle.fill_raster.proofs.Reading.{first_read, first_reckoned, last_reckoned, last_next, past_reckoned}
use Rattle.gds_out.proofs.sheet.Sheet.rows.Goals as goal

pub overflow_sub-first : goal.overflow_sub-first
overflow_sub-first c = (first_reckoned c.args.self.now.up c.div_euclid-first.result c.requires c.div_euclid-first.ensures).0

pub overflow_add-last : goal.overflow_add-last
overflow_add-last c = (last_next c.args.self.now.up c.div_euclid-last.result c.requires (last_reckoned c.args.self.now.up c.div_euclid-last.result c.requires c.div_euclid-last.ensures)).0

pub returns-clause-first : goal.returns-clause-first
returns-clause-first c = (first_reckoned c.args.self.now.up c.div_euclid-first.result c.requires c.div_euclid-first.ensures).1

pub returns-clause-past : goal.returns-clause-past
returns-clause-past c =
    let a = c.args.self.now.up in
    let e = (first_reckoned a c.div_euclid-first.result c.requires c.div_euclid-first.ensures).1 ∙ sym (first_read a c.requires) in
    past_reckoned a (first a) c.div_euclid-last.result c.max.result c.requires refl (last_reckoned a c.div_euclid-last.result c.requires c.div_euclid-last.ensures)
    (subst (λ (z : ℤ). c.max.result ≡ int_max z (read (read c.div_euclid-last.result +ℤ pos 1))) e c.max.ensures.value)
