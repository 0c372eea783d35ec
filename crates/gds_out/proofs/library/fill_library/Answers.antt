use Rattle.std.proofs.Common.{◌≡◌, ap, sym, subst, ◌∙◌, List, [], ◌∷◌, ℕ}
use Rattle.std.specs.Prelude.{IfOk}
use Rattle.fill_raster.specs.Lattice.{Lattice}
use Rattle.fill_raster.specs.declared.axis.Axis.{Axis}
use Rattle.fill_text.specs.Rules.{raster_of}
use Rattle.fill_text.specs.ValuesOfRules.{values_of}
use Rattle.gds_out.specs.FillText.{fill_text_on}
use Rattle.gds_out.specs.Places.{AreOfTiles}
use Rattle.gds_out.specs.Strips.{marked_in}
use Rattle.gds_out.specs.declared.sheet.Strip.{Strip}
use Rattle.gds_out.proofs.Sheets.{one_strip}
use Rattle.gds_out.proofs.library.fill_library.Goals as goal

pub returns : goal.returns
returns c =
    let v = values_of c.args.rules.now in let r = raster_of v.numbers in
    let strip : Strip = record { raster = c.raster.result; marks = c.args.marks } in
    let are : AreOfTiles c.raster.result c.args.marks.items = subst (λ (q : Lattice). AreOfTiles q c.args.marks.items) (sym c.raster.ensures.raster) c.requires in
    subst (λ (t : List ℕ). IfOk c.sheet_library.result (λ text. text.items ≡ t))
    (ap (λ (a : Axis). fill_text_on c.args.units.now c.args.dates.now v (record { across = r.across; up = a }) (marked_in (strip ∷ []))) c.rows_of.ensures
    ∙ ap (fill_text_on c.args.units.now c.args.dates.now v r) (one_strip strip are)) c.sheet_library.ensures
