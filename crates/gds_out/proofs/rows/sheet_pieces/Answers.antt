use Rattle.std.proofs.Common.{◌≡◌, ap, sym, subst, ◌∙◌, List, map, Bor, Option, Some, None, ℤ, true}
use Rattle.std.specs.Prelude.{All, IfOk, option_map}
use Rattle.fill_base.proofs.Signed.{read, read_is}
use Rattle.fill_raster.specs.Axes.{is_on}
use Rattle.fill_raster.specs.Marks.{Marked}
use Rattle.fill_raster.specs.declared.axis.Axis.{Axis}
use Rattle.fill_stacks.specs.Counting.{as_piece}
use Rattle.fill_stacks.specs.Places.{row_pieces}
use Rattle.fill_stacks.specs.declared.pieces.Piece.{Piece}
use Rattle.gds_out.specs.Places.{AreOfTiles, marked_by}
use Rattle.gds_out.specs.Strips.{IsStripOf, sheet_raster, strip_at}
use Rattle.gds_out.specs.declared.sheet.Strip.{Strip}
use Rattle.gds_out.proofs.Sheets.{found_all, no_row, row_same}
use Rattle.gds_out.proofs.rows.sheet_pieces.Goals as goal

-- what was found is the strip that has the row
is_strip : (o : Option (Bor Strip)) (x : Option Strip) (s : Bor Strip) → option_map (λ (b : Bor Strip). b.now) o ≡ x → o ≡ Some s → x ≡ Some s.now
is_strip o x s e f = sym e ∙ ap (option_map (λ (b : Bor Strip). b.now)) f

is_none : (o : Option (Bor Strip)) (x : Option Strip) → option_map (λ (b : Bor Strip). b.now) o ≡ x → o ≡ None → x ≡ None
is_none o x e f = sym e ∙ ap (option_map (λ (b : Bor Strip). b.now)) f

found : (columns : Axis) (strips : List Strip) (j : ℤ) (s : Strip) → All (IsStripOf columns) strips → strip_at strips j ≡ Some s → IsStripOf columns s × (is_on s.raster.up j ≡ true)
found columns strips j s all is = found_all (IsStripOf columns) (λ (t : Strip). is_on t.raster.up j) strips s all is

pub pieces_of_row-requires-clause-tiles : goal.pieces_of_row-requires-clause-tiles
pieces_of_row-requires-clause-tiles c =
    let s = c.in-Some.strip.now in
    subst (λ (ms : List (Bor Marked)). AreOfTiles s.raster ms) (sym c.deref.ensures.value)
    (found _ c.args.sheet.now.strips.now _ s c.requires.strips (is_strip c.strip_at.result _ c.in-Some.strip c.strip_at.ensures c.in-Some.is)).0.tiles_are

pub pieces_of_row-requires-clause-row : goal.pieces_of_row-requires-clause-row
pieces_of_row-requires-clause-row c = (found _ c.args.sheet.now.strips.now _ c.in-Some.strip.now c.requires.strips (is_strip c.strip_at.result _ c.in-Some.strip c.strip_at.ensures c.in-Some.is)).1

pub returns-in-Some : goal.returns-in-Some
returns-in-Some c =
    let s = c.in-Some.strip.now in let r = sheet_raster c.args.sheet.now in let strips = c.args.sheet.now.strips.now in
    let jr : read c.args.j ≡ c.args.j = read_is _ c.ranges.j in
    let is : strip_at strips c.args.j ≡ Some s = rw jr at (is_strip c.strip_at.result _ c.in-Some.strip c.strip_at.ensures c.in-Some.is) in
    let columns = (found _ strips c.args.j s c.requires.strips is).0.columns_are in
    subst (λ (ps : List Piece). IfOk c.pieces_of_row.result (λ v. v.items ≡ ps)) (ap (λ (ms : List (Bor Marked)). map as_piece (row_pieces (marked_by ms) s.raster c.args.j)) c.deref.ensures.value ∙ ap (map as_piece) (row_same r strips s c.args.j columns is)) (rw jr at c.pieces_of_row.ensures)

pub returns-in-None : goal.returns-in-None
returns-in-None c =
    let jr : read c.args.j ≡ c.args.j = read_is _ c.ranges.j in
    no_row (sheet_raster c.args.sheet.now) c.args.sheet.now.strips.now c.args.j c.new.result.items c.new.ensures.items (rw jr at (is_none c.strip_at.result _ c.strip_at.ensures c.in-None.is))
