use Rattle.std.proofs.Common.{◌≡◌, ap, sym, subst, refl, ◌∙◌, pos}
use Rattle.std.specs.Prelude.{◌↔◌, IsTrue}
use Rattle.fill_state.specs.Layers.{in_layer}
use Rattle.fill_region.specs.Runs.{holds}
use Rattle.fill_raster.specs.Lattice.{tiles}
use Rattle.fill_text.specs.Rules.{Values}
use Rattle.fill_text.specs.ValuesOfRules.{values_of}
use Rattle.fill_job.specs.Basis.{layers_in, read_by, windows_in}
use Rattle.fill_job.specs.Plans.{plan_of}
use Rattle.fill_job.specs.ReadSets.{layers_near, read_set}
use Rattle.fill_core.specs.Boxes.{no_places}
use Rattle.fill_book.specs.Keeping.{state_by, stored_layers}
use Rattle.fill_book.proofs.Answering.{near_pieces, other_version, same_reads}
use Rattle.fill_state.proofs.HaloMetal.{below, piece_at}
use Rattle.fill_book.proofs.stored.Stored.is_same.Goals as goal

pub returns-then-version-self : goal.returns-then-version-self
returns-then-version-self c =
    other_version c.args.rules.now (state_by no_places c.args.self.now) c.args.proposal.now.version c.version.result c.args.proposal.now.tile (read_by c.args.proposal.now.basis) c.version.ensures c.if-version-self.true

pub returns : goal.returns
returns c =
    let rules = c.args.rules.now in let s = c.args.self.now in let p = c.args.proposal.now in let plan = plan_of rules in
    let end : c.tiles.result ≡ tiles plan.raster = c.tiles.ensures ∙ ap tiles c.raster.ensures.raster in
    let t = c.tile-tile.result in let lt = below _ _ _ c.if-tile-tiles.false end in
    let metal = piece_at plan.raster plan.spacing (in_layer s.drawn.metal) s.pieces.items t c.index.result.now c.index.result.now c.requires.pieces lt c.index.ensures in
    let fill = piece_at plan.raster plan.fill_spacing (holds s.drawn.existing) s.existing_pieces.items t c.index-2.result.now c.index-2.result.now c.requires.existing_pieces lt c.index-2.ensures in
    let keep = piece_at plan.raster (pos 0) (in_layer s.keep) s.keep_pieces.items t c.index-3.result.now c.index-3.result.now c.requires.keep_pieces lt c.index-3.ensures in
    let near : layers_in c.region-metal.result.now c.region-fill.result.now c.region-keep.result.now ≡ layers_near plan (stored_layers s) p.tile =
    rw (c.region-metal.ensures, c.region-fill.ensures, c.region-keep.ensures, sym c.tile-tile.ensures) (near_pieces plan (stored_layers s) t c.index.result.now c.index-2.result.now c.index-3.result.now metal fill keep) in
    let rules_is : values_of c.rules.result.now ≡ rules = c.rules.ensures in
    let there = subst (λ (v : Values). layers_in c.region-metal.result.now c.region-fill.result.now c.region-keep.result.now ≡ layers_near (plan_of v) (stored_layers s) p.tile) (sym rules_is) near in
    let reads = subst (λ (v : Values). IsTrue c.matches.result ↔ (read_by p.basis ≡ read_set v (stored_layers s) (windows_in s.low) p.tile)) rules_is (c.matches.ensures (stored_layers s) there) in
    same_reads rules (state_by no_places s) p.version c.version.result p.tile (read_by p.basis) (read_set rules (stored_layers s) (windows_in s.low) p.tile) c.matches.result
    c.version.ensures c.if-version-self.false (rw c.tile-tile.ensures at (sym c.has.ensures ∙ c.if-has.false)) refl reads
