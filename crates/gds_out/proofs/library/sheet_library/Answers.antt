use Rattle.std.proofs.Common.{[], ◌∷◌}
use Rattle.fill_text.specs.ValuesOfRules.{values_of}
use Rattle.gds_out.specs.FillText.{rec, head_records, cell_records, top_records_on}
use Rattle.gds_out.specs.Strips.{marked_in, sheet_raster}
use Rattle.gds_out.proofs.Appending.{whole}
use Rattle.gds_out.proofs.library.sheet_library.Goals as goal

pub returns : goal.returns
returns c =
    let sheet = c.args.sheet.now in let v = values_of sheet.rules.now in
    whole _ _ _ _ _ (head_records c.args.units.now c.args.dates.now v) (cell_records c.args.dates.now v) (top_records_on c.args.dates.now v (sheet_raster sheet) (marked_in sheet.strips.now)) (rec 0x04 0x00 [] ∷ [])
    c.new-writer.ensures c.in_ok-put_head.ensures c.in_ok-put_cell.ensures c.in_ok-put_top.ensures c.in_ok-put.ensures
