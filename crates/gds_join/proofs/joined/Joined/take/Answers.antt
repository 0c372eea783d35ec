use Rattle.std.proofs.Common.{◌≡◌, refl, sym, ap, subst, ◌∙◌, nat_lt, true, Option, Some}
use Rattle.fill_state.specs.Filling.{is_filled}
use Rattle.fill_raster.specs.Axes.{bands}
use Rattle.fill_text.specs.Rules.{Values, raster_of}
use Rattle.fill_text.specs.ValuesOfChips.{chip_values}
use Rattle.fill_text.specs.ValuesOfRules.{values_of}
use Rattle.fill_parts.specs.Cuts.{Part, first_row, past_row}
use Rattle.fill_parts.specs.Laws.{part}
use Rattle.fill_parts.specs.PartChip.{own_alone}
use Rattle.gds_out.specs.Laws.{raster_in}
use Rattle.gds_join.specs.Joined.{design_of}
use Rattle.gds_join.specs.Joins.{Design, IsOfDesign, IsPartText, IsUnreadOf}
use Rattle.gds_join.proofs.Taking.{first_is, own_fill, part_is, taken_so}
use Rattle.gds_join.proofs.joined.Joined.take.Goals as goal

pub refusal-requires-clause-unread : goal.refusal-requires-clause-unread
refusal-requires-clause-unread c =
    let j = c.args.self in
    let is : c.unwrap-part.result ≡ part j.taken j.count = part_is c.new.result c.unwrap-part.result j.taken j.count c.unwrap-part.ensures c.new.ensures.part in
    subst (λ (k : Part). IsUnreadOf (chip_values j.chip) k c.args.bytes.now c.in-Err.error) is c.in-Err.ensures.refused

pub with-requires-clause-fill : goal.with-requires-clause-fill
with-requires-clause-fill c = λ some.
    let j = c.args.self in let v = chip_values j.chip in let numbers = c.keeps_faultless.ensures.numbers in
    let is : c.unwrap-part.result ≡ part j.taken j.count = part_is c.new.result c.unwrap-part.result j.taken j.count c.unwrap-part.ensures c.new.ensures.part in
    own_fill v j.count j.taken numbers.places_across numbers.places_up c.requires.more c.requires.joined.few c.in-Ok.own.fill.filled (raster_in c.in-Ok.own.rules) (values_of c.in-Ok.own.rules)
    c.in-Ok.ensures.raster refl (c.in-Ok.ensures.rules ∙ ap (own_alone v) is)
    (subst (λ (k : Part). nat_lt (first_row k (bands (raster_of v.numbers).up)) (past_row k (bands (raster_of v.numbers).up)) ≡ true) is (sym c.has_tiles-has_tiles.ensures ∙ some))

pub returns-clause-taken : goal.returns-clause-taken
returns-clause-taken c =
    let j = c.args.self in let v = chip_values j.chip in let numbers = c.keeps_faultless.ensures.numbers in
    let own = c.in-Ok.own in let f = own.fill.filled in let design = design_of j.first in
    let is : c.unwrap-part.result ≡ part j.taken j.count = part_is c.new.result c.unwrap-part.result j.taken j.count c.unwrap-part.ensures c.new.ensures.part in
    let same : IsOfDesign design own.fill.units own.fill.dates = subst (λ (o : Option Design). IsOfDesign o own.fill.units own.fill.dates) c.design.ensures (c.is_of_design.ensures.same c.if-not-is_of_design.false) in
    let raster : f.raster ≡ raster_of (own_alone v (part j.taken j.count)).numbers = c.in-Ok.ensures.raster ∙ ap (λ (w : Values). raster_of w.numbers) (c.in-Ok.ensures.rules ∙ ap (own_alone v) is) in (
      (own.fill.units, own.fill.dates),
      c.in_ok-joined.ensures.design ∙ ap Some (first_is design own.fill.units own.fill.dates same),
      taken_so v j.count j.taken numbers.places_across numbers.places_up c.requires.more c.requires.joined.few c.has_tiles-has_tiles.result j.fills.items c.in_ok-joined.joined.fills.items f design c.args.bytes.now own.fill.units own.fill.dates
          (subst (λ (k : Part). c.has_tiles-has_tiles.result ≡ nat_lt (first_row k (bands (raster_of v.numbers).up)) (past_row k (bands (raster_of v.numbers).up))) is c.has_tiles-has_tiles.ensures)
          c.in_ok-joined.ensures.fills c.requires.joined.fills raster (subst (λ (k : Part). IsPartText v k own.fill.units own.fill.dates c.args.bytes.now (is_filled f)) is c.in-Ok.ensures.fill) same,
    )
