-- Places of one tile, counted over its block.
use Rattle.std.proofs.Common.{◌≡◌, sym, ◌∙◌, ℕ, ℤ, pos, ◌-ℤ◌, ◌≤ℤ◌, ◌<ℤ◌, arith, true, ◌&&◌}
use Rattle.std.specs.Prelude.{◌==◌}
use Rattle.std.proofs.lemmas.Bool.{and_from, and_parts}
use Rattle.std.proofs.lemmas.Int.{ints}
use Rattle.fill_base.specs.Counts.{is_between}
use Rattle.fill_base.proofs.Between.{is_between_true, is_between_bounds}
use Rattle.fill_raster.specs.Axes.{first, past}
use Rattle.fill_raster.specs.Lattice.{Lattice, IsLattice, in_raster, in_tile, tile_of}
use Rattle.fill_raster.specs.Marks.{IsBlock, in_block}
use Rattle.fill_raster.specs.declared.block.Block.{Block}
use Rattle.fill_raster.proofs.RasterLaws.{places_range}
use Rattle.fill_core.specs.Laws.{CountedInABlock, IsPart}
use Rattle.fill_core.proofs.Counts.{counted_in_part}

-- a place of the block is within the raster's range
within : (r : Lattice) (tile : ℕ) (b : Block) → IsLattice r → ((i j : ℤ) → in_block b i j ≡ in_tile r tile i j) → (i j : ℤ) → is_between b.left b.right i ≡ true → is_between b.bottom b.top j ≡ true
    → is_between (first r.across) (past r.across) i && is_between (first r.up) (past r.up) j ≡ true
within r tile b is same i j column row =
    let on : in_tile r tile i j ≡ true = sym (same i j) ∙ and_from _ _ column row in
    sym (places_range r is i j) ∙ (and_parts (in_raster r i j) (tile_of r i j == tile) on).0

least_in : (lo hi : ℤ) → lo <ℤ hi → is_between lo hi lo ≡ true
least_in lo hi lt = is_between_true lo hi lo (omega (arith, ints)) lt

last_in : (lo hi : ℤ) → lo <ℤ hi → is_between lo hi (hi -ℤ pos 1) ≡ true
last_in lo hi lt = is_between_true lo hi (hi -ℤ pos 1) (omega (arith, ints)) (omega (arith, ints))

before_end : (hi past : ℤ) → (hi -ℤ pos 1) <ℤ past → hi ≤ℤ past
before_end hi past lt = omega (arith, ints)

ordered : (lo hi : ℤ) → lo <ℤ hi → lo ≤ℤ hi
ordered lo hi lt = omega (arith, ints)

block_part : (r : Lattice) (tile : ℕ) (b : Block) → IsLattice r → IsBlock b → ((i j : ℤ) → in_block b i j ≡ in_tile r tile i j)
    → IsPart (first r.across) (first r.up) (past r.across) (past r.up) b.left b.bottom b.right b.top
block_part r tile b is block same =
    let lower = and_parts _ _ (within r tile b is same b.left b.bottom (least_in b.left b.right block.columns) (least_in b.bottom b.top block.rows)) in
    let upper = and_parts _ _ (within r tile b is same (b.right -ℤ pos 1) (b.top -ℤ pos 1) (last_in b.left b.right block.columns) (last_in b.bottom b.top block.rows)) in
    record {
      from_left = (is_between_bounds (first r.across) (past r.across) b.left lower.0).0;
      columns = ordered b.left b.right block.columns;
      to_right = before_end b.right (past r.across) (is_between_bounds (first r.across) (past r.across) (b.right -ℤ pos 1) upper.0).1;
      from_bottom = (is_between_bounds (first r.up) (past r.up) b.bottom lower.1).0;
      rows = ordered b.bottom b.top block.rows;
      to_top = before_end b.top (past r.up) (is_between_bounds (first r.up) (past r.up) (b.top -ℤ pos 1) upper.1).1;
    }

pub counted_in_block : CountedInABlock
counted_in_block r tile b p is block same inside =
    counted_in_part p (first r.across) (first r.up) (past r.across) (past r.up) b.left b.bottom b.right b.top (block_part r tile b is block same) (λ i j h. same i j ∙ inside i j h)
