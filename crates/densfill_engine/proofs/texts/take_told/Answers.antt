use Rattle.std.proofs.Common.{◌≡◌, ◌∙◌, ◌/◌, ap, sym, subst, Bool, true, false, ◌&&◌, ◌||◌, refl}
use Rattle.std.proofs.lemmas.Bool.{and_parts}
use Rattle.fill_raster.specs.Axes.{bands}
use Rattle.fill_raster.specs.Lattice.{Lattice, in_tile}
use Rattle.fill_text.specs.Rules.{Values, raster_of}
use Rattle.fill_job.specs.Plans.{plan_of}
use Rattle.fill_core.specs.Accounts.{state_of}
use Rattle.fill_state.specs.Filling.{is_filled}
use Rattle.fill_parts.specs.Needs.{row_of}
use Rattle.fill_parts.specs.PartChip.{is_row_in}
use Rattle.fill_parts.specs.Told.{tiles_in}
use Rattle.densfill_engine.proofs.texts.take_told.Goals as goal

with_true : (a b : Bool) → b ≡ true → a ≡ a && b
with_true true b h = sym h
with_true false b h = refl

with_false : (s a b : Bool) → b ≡ false → s ≡ s || (a && b)
with_false true a b h = refl
with_false false true b h = sym h
with_false false false b h = refl

pub take_in-requires-clause-marked : goal.take_in-requires-clause-marked
take_in-requires-clause-marked g c =
    let a = g.B.FillBook.account c.args.book.now in
    λ i j marked. subst (λ (r : Lattice). in_tile r c.args.tile i j ≡ true) (sym c.requires.raster) (and_parts (in_tile (plan_of a.rules).raster c.args.tile i j) ((state_of a).fill i j) (sym (c.marks.ensures.marked i j) ∙ marked)).0

pub returns-then-is_told-clause-told : goal.returns-then-is_told-clause-told
returns-then-is_told-clause-told g c =
    let a = g.B.FillBook.account c.args.book.now in
    let plan = plan_of a.rules in
    let raster : c.raster.result ≡ plan.raster = c.raster.ensures.raster ∙ ap (λ (v : Values). raster_of v.numbers) c.rules.ensures in
    let row : c.tile_row.result ≡ row_of plan.raster c.args.tile = c.tile_row.ensures.row ∙ ap (λ (r : Lattice). c.args.tile / bands r.across) raster in
    let told : is_row_in (tiles_in c.args.told.now) (row_of plan.raster c.args.tile) ≡ true = sym (ap (is_row_in (tiles_in c.args.told.now)) row) ∙ (sym c.is_told.ensures ∙ c.if-is_told.true) in
    λ i j. c.take_in.ensures.filled i j
    ∙ ap (λ b. is_filled c.args.filled.now i j || b) (c.marks.ensures.marked i j ∙ with_true (in_tile plan.raster c.args.tile i j && (state_of a).fill i j) _ told)

pub returns-else-is_told-clause-told : goal.returns-else-is_told-clause-told
returns-else-is_told-clause-told g c =
    let a = g.B.FillBook.account c.args.book.now in
    let plan = plan_of a.rules in
    let raster : c.raster.result ≡ plan.raster = c.raster.ensures.raster ∙ ap (λ (v : Values). raster_of v.numbers) c.rules.ensures in
    let row : c.tile_row.result ≡ row_of plan.raster c.args.tile = c.tile_row.ensures.row ∙ ap (λ (r : Lattice). c.args.tile / bands r.across) raster in
    let other : is_row_in (tiles_in c.args.told.now) (row_of plan.raster c.args.tile) ≡ false = sym (ap (is_row_in (tiles_in c.args.told.now)) row) ∙ (sym c.is_told.ensures ∙ c.if-is_told.false) in
    λ i j. with_false (is_filled c.args.filled.now i j) (in_tile plan.raster c.args.tile i j && (state_of a).fill i j) _ other
