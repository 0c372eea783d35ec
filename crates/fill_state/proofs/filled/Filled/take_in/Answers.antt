use Rattle.std.proofs.Common.{◌≡◌, ap, sym, ◌∙◌, ◌||◌}
use Rattle.fill_base.specs.Counts.{is_between}
use Rattle.fill_raster.specs.Lattice.{in_tile}
use Rattle.fill_raster.specs.Marks.{is_marked}
use Rattle.fill_state.specs.Filling.{is_filled}
use Rattle.fill_state.proofs.FillRows.{all_marked}
use Rattle.fill_state.proofs.filled.Filled.take_in.Goals as goal

pub fill_rows-requires-clause-places : goal.fill_rows-requires-clause-places
fill_rows-requires-clause-places c =
    let r_is : c.self.inside.raster ≡ c.args.self.now.raster = ap (λ f. f.raster) c.self.view_is in
    let places = rw r_is at c.places.ensures.places in
    λ i j h. sym (places i j) ∙ h

pub returns-clause-filled : goal.returns-clause-filled
returns-clause-filled c =
    let r_is : c.self.inside.raster ≡ c.args.self.now.raster = ap (λ f. f.raster) c.self.view_is in
    let places = rw r_is at c.places.ensures.places in
    let m = c.args.marks.now in
    λ i j. c.fill_rows.ensures.filled i j ∙ ap (λ b. is_filled c.args.self.now i j || b)
    (all_marked (in_tile c.args.self.now.raster c.args.tile i j) (is_between c.places.result.0.start c.places.result.0.end i) (is_between c.places.result.1.start c.places.result.1.end j)
    (is_marked m i j) (places i j) (c.requires.marked i j))
