use Rattle.std.proofs.Common.{◌≡◌, sym, ap, ◌∙◌, true, false}
use Rattle.std.proofs.lemmas.Bool.{and_parts}
use Rattle.fill_base.proofs.Signed.{read}
use Rattle.fill_raster.specs.Axes.{box_begin, is_on}
use Rattle.fill_raster.specs.Lattice.{Lattice, in_raster}
use Rattle.gds_out.specs.Laws.{raster_in}
use Rattle.gds_out.proofs.RuleAxes.{across_is, up_is}
use Rattle.gds_join.proofs.Places.{bottom_high, candidate, left_high, other_edge, same_edge}
use Rattle.gds_join.proofs.reading.place_at.Goals as goal

pub returns-then-not-has-clause-none : goal.returns-then-not-has-clause-none
returns-then-not-has-clause-none c = λ i j raster left bottom.
    let r = raster_in c.args.rules.now in
    let on = and_parts (is_on r.across i) (is_on r.up j) raster in
    let x_is : read c.div_euclid-i.result ≡ i = candidate r.across c.args.x i c.origin_x.result c.step_x.result c.div_euclid-i.result (across_is c.args.rules.now) c.requires.x c.origin_x.ensures.value c.step_x.ensures.value c.div_euclid-i.ensures on.0 left in
    let y_is : read c.div_euclid-j.result ≡ j = candidate r.up c.args.y j c.origin_y.result c.step_y.result c.div_euclid-j.result (up_is c.args.rules.now) c.requires.y c.origin_y.ensures.value c.step_y.ensures.value c.div_euclid-j.ensures on.1 bottom in
    let had : c.has.result ≡ in_raster r (read c.div_euclid-i.result) (read c.div_euclid-j.result) = c.has.ensures ∙ ap (λ (s : Lattice). in_raster s (read c.div_euclid-i.result) (read c.div_euclid-j.result)) c.raster-raster.ensures.raster in
    let gone : in_raster r i j ≡ false = rw (← x_is, ← y_is) (sym had ∙ c.if-not-has.true) in
    let e : true ≡ false = sym raster ∙ gone in cc

pub returns-then-x1-x-clause-none : goal.returns-then-x1-x-clause-none
returns-then-x1-x-clause-none c = λ i j raster left bottom.
    let r = raster_in c.args.rules.now in
    let on = and_parts (is_on r.across i) (is_on r.up j) raster in
    let x_is : read c.div_euclid-i.result ≡ i = candidate r.across c.args.x i c.origin_x.result c.step_x.result c.div_euclid-i.result (across_is c.args.rules.now) c.requires.x c.origin_x.ensures.value c.step_x.ensures.value c.div_euclid-i.ensures on.0 left in
    let y_is : read c.div_euclid-j.result ≡ j = candidate r.up c.args.y j c.origin_y.result c.step_y.result c.div_euclid-j.result (up_is c.args.rules.now) c.requires.y c.origin_y.ensures.value c.step_y.ensures.value c.div_euclid-j.ensures on.1 bottom in
    let edge : c.box_of-corner.result.x1 ≡ box_begin r.across (read c.div_euclid-i.result) = c.box_of-corner.ensures.left ∙ ap (λ (s : Lattice). box_begin s.across (read c.div_euclid-i.result)) c.raster-raster.ensures.raster in
    other_edge c.x1.result c.box_of-corner.result.x1 c.args.x c.x1.ensures c.if-x1-x.true (edge ∙ (ap (box_begin r.across) x_is ∙ left))

pub returns-then-y1-y-clause-none : goal.returns-then-y1-y-clause-none
returns-then-y1-y-clause-none c = λ i j raster left bottom.
    let r = raster_in c.args.rules.now in
    let on = and_parts (is_on r.across i) (is_on r.up j) raster in
    let x_is : read c.div_euclid-i.result ≡ i = candidate r.across c.args.x i c.origin_x.result c.step_x.result c.div_euclid-i.result (across_is c.args.rules.now) c.requires.x c.origin_x.ensures.value c.step_x.ensures.value c.div_euclid-i.ensures on.0 left in
    let y_is : read c.div_euclid-j.result ≡ j = candidate r.up c.args.y j c.origin_y.result c.step_y.result c.div_euclid-j.result (up_is c.args.rules.now) c.requires.y c.origin_y.ensures.value c.step_y.ensures.value c.div_euclid-j.ensures on.1 bottom in
    let edge : c.box_of-corner.result.y1 ≡ box_begin r.up (read c.div_euclid-j.result) = c.box_of-corner.ensures.bottom ∙ ap (λ (s : Lattice). box_begin s.up (read c.div_euclid-j.result)) c.raster-raster.ensures.raster in
    other_edge c.y1.result c.box_of-corner.result.y1 c.args.y c.y1.ensures c.if-y1-y.true (edge ∙ (ap (box_begin r.up) y_is ∙ bottom))

pub returns-clause-some : goal.returns-clause-some
returns-clause-some c =
    let r = raster_in c.args.rules.now in
    let had : c.has.result ≡ in_raster r (read c.div_euclid-i.result) (read c.div_euclid-j.result) = c.has.ensures ∙ ap (λ (s : Lattice). in_raster s (read c.div_euclid-i.result) (read c.div_euclid-j.result)) c.raster-raster.ensures.raster in
    let left : c.box_of-corner.result.x1 ≡ box_begin r.across (read c.div_euclid-i.result) = c.box_of-corner.ensures.left ∙ ap (λ (s : Lattice). box_begin s.across (read c.div_euclid-i.result)) c.raster-raster.ensures.raster in
    let bottom : c.box_of-corner.result.y1 ≡ box_begin r.up (read c.div_euclid-j.result) = c.box_of-corner.ensures.bottom ∙ ap (λ (s : Lattice). box_begin s.up (read c.div_euclid-j.result)) c.raster-raster.ensures.raster in (
      sym had ∙ c.if-not-has.false,
      sym left ∙ same_edge c.x1.result c.box_of-corner.result.x1 c.args.x c.x1.ensures c.box_of-corner.result.left (left_high c.box_of-corner.result) c.requires.x c.if-x1-x.false,
      sym bottom ∙ same_edge c.y1.result c.box_of-corner.result.y1 c.args.y c.y1.ensures c.box_of-corner.result.bottom (bottom_high c.box_of-corner.result) c.requires.y c.if-y1-y.false,
    )
