use Rattle.std.proofs.Common.{[], ap}
use Rattle.fill_base.specs.declared.layer.Layer.{Layer}
use Rattle.fill_text.specs.Rules.{fill_layer, raster_of}
use Rattle.fill_text.specs.ValuesOfRules.{values_of}
use Rattle.gds_out.specs.FillText.{rec, padded, word_bytes, points_bytes, box_corners}
use Rattle.gds_out.proofs.Appending.{eight, with_data}
use Rattle.gds_out.proofs.Corners.{size_read, box_stored, box_bytes}
use Rattle.gds_out.proofs.elements.put_cell.Goals as goal

pub put_points-requires-clause-stored : goal.put_points-requires-clause-stored
put_points-requires-clause-stored c =
    box_stored c.box_w-width.result c.box_h-height.result c.box_w-width.ensures.range.0 c.box_w-width.ensures.range.1 c.box_h-height.ensures.range.0 c.box_h-height.ensures.range.1

pub returns : goal.returns
returns c =
    let v = values_of c.args.rules.now in
    let w = size_read _ _ c.box_w-width.ensures.value c.box_w-width.ensures.range.0 c.box_w-width.ensures.range.1 in
    let h = size_read _ _ c.box_h-height.ensures.value c.box_h-height.ensures.range.0 c.box_h-height.ensures.range.1 in
    let layer = ap (λ (l : Layer). word_bytes l.layer) c.fill_layer-layer.ensures in
    let data_type = ap (λ (l : Layer). word_bytes l.data_type) c.fill_layer-layer.ensures in
    eight _ _ _ _ _ _ _ _ _ (rec 0x05 0x02 c.args.dates.now) (rec 0x06 0x06 (padded v.fill_cell)) (rec 0x08 0x00 []) (rec 0x0d 0x02 (word_bytes (fill_layer v).layer))
    (rec 0x0e 0x02 (word_bytes (fill_layer v).data_type)) (rec 0x10 0x03 (points_bytes (box_corners (raster_of v.numbers)))) (rec 0x11 0x00 []) (rec 0x07 0x00 [])
    c.in_ok-put.ensures (with_data _ _ 0x06 0x06 _ _ (ap padded c.fill_cell.ensures.value) c.in_ok-put_name.ensures) c.in_ok-put-2.ensures
    (with_data _ _ 0x0d 0x02 _ _ layer c.in_ok-put_word.ensures) (with_data _ _ 0x0e 0x02 _ _ data_type c.in_ok-put_word-2.ensures)
    (with_data _ _ 0x10 0x03 _ _ (box_bytes (raster_of v.numbers) c.box_w-width.result c.box_h-height.result w h) c.in_ok-put_points.ensures)
    c.in_ok-put-3.ensures c.in_ok-put-4.ensures
