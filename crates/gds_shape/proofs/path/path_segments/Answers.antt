use Rattle.std.proofs.Common.{◌≡◌, ◌∙◌, sym, arith, None}
use Rattle.std.specs.Prelude.{All}
use Rattle.std.proofs.lemmas.Int.{ints}
use Rattle.fill_base.proofs.Signed.{read}
use Rattle.gds_record.specs.Numbers.{IsStored}
use Rattle.gds_shape.specs.Paths.{fault_among}
use Rattle.gds_shape.proofs.Cornered.{corners_all}
use Rattle.gds_shape.proofs.Near.{near_made}
use Rattle.gds_grammar.specs.Values.{wire_of}
use Rattle.gds_shape.proofs.path.path_segments.Goals as goal

pub segments_along-requires-clause-stored : goal.segments_along-requires-clause-stored
segments_along-requires-clause-stored c =
    rw (c.deref-3.ensures.value, c.in_ok-corners.ensures, c.deref.ensures.value) (corners_all IsStored c.in_ok-points.points.items c.in_ok-points.ensures.stored)

pub returns-clause-near : goal.returns-clause-near
returns-clause-near c =
    let path = wire_of c.args.path.now in
    let half : read c.half_of-half.result ≡ c.half_of-half.result = omega (arith, ints) in
    let begin : read c.begin_of.result ≡ c.begin_of.result = omega (arith, ints) in
    let end : read c.end_of.result ≡ c.end_of.result = omega (arith, ints) in
    let same : c.deref-2.result.now ≡ c.deref-3.result.now = c.deref-2.ensures.value ∙ sym c.deref-3.ensures.value in
    let fine : None ≡ fault_among path c.deref-3.result.now = rw same at c.in_default.ensures in
    let stored : All IsStored c.deref-3.result.now =
    rw (c.deref-3.ensures.value, c.in_ok-corners.ensures, c.deref.ensures.value) (corners_all IsStored c.in_ok-points.points.items c.in_ok-points.ensures.stored) in
    near_made path c.deref-3.result.now c.in_ok-segments.segments.items fine (rw c.half_of-half.ensures.value at c.half_of-half.ensures.small)
    (rw c.begin_of.ensures.value at c.begin_of.ensures.small) (rw c.end_of.ensures.value at c.end_of.ensures.small) stored
    (rw (half ∙ c.half_of-half.ensures.value, begin ∙ c.begin_of.ensures.value, end ∙ c.end_of.ensures.value) at c.in_ok-segments.ensures)
