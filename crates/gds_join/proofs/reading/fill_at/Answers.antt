use Rattle.std.proofs.Common.{sym, ap, ◌∙◌, ◌||◌}
use Rattle.fill_state.specs.Filling.{is_filled}
use Rattle.gds_out.specs.Laws.{raster_in}
use Rattle.gds_out.proofs.RuleAxes.{across_is, up_is}
use Rattle.gds_join.proofs.Marking.{no_place, one_place}
use Rattle.gds_join.proofs.Places.{far_read}
use Rattle.gds_join.proofs.reading.fill_at.Goals as goal

pub returns-in-Some-clause-filled : goal.returns-in-Some-clause-filled
returns-in-Some-clause-filled c = λ i j.
    c.set.ensures.filled i j
    ∙ ap (λ b. is_filled c.args.filled.now i j || b) (one_place (raster_in c.args.rules.now) c.in-Some.place.i c.in-Some.place.j c.args.x c.args.y i j (across_is c.args.rules.now) (up_is c.args.rules.now) c.in-Some.ensures.some.0 (c.in-Some.ensures.some.1 ∙ far_read c.args.x c.requires.x) (c.in-Some.ensures.some.2 ∙ far_read c.args.y c.requires.y))

pub returns-in_default-clause-filled : goal.returns-in_default-clause-filled
returns-in_default-clause-filled c = λ i j. no_place (raster_in c.args.rules.now) c.args.x c.args.y i j (λ on left bottom. c.in_default.ensures.none i j on (left ∙ sym (far_read c.args.x c.requires.x)) (bottom ∙ sym (far_read c.args.y c.requires.y))) (is_filled c.args.filled.now i j)
