use Rattle.std.proofs.Common.{◌≤◌, ◌+◌, ◌≡◌, arith, rules, subst}
use Rattle.fill_raster.specs.Lattice.{IsLattice, tiles}
use Rattle.fill_state.specs.steps.Empty.{AreNone}
use Rattle.fill_state.proofs.Making.{none_counted, none_filled, none_more, with_marks}
use Rattle.fill_state.proofs.filled.Filled.none.Goals as goal

pub loop-tile-preserved : goal.loop-tile-preserved
loop-tile-preserved c =
    let next : c.loop-tile.tile + 1 ≤ tiles c.args.raster = grind (arith, rules) in record {
      to = next;
      none = none_more c.args.raster c.loop-tile.tiles.items c.push.new.self.items c.in_ok-none.field-0 c.loop-tile.tile c.in_ok-push.ensures.items c.loop-tile.invariant.none c.in_ok-none.ensures.tile c.in_ok-none.ensures.none;
    }

all : (c : goal.After-loop-tile) → AreNone (with_marks c.args.raster c.loop-tile.tiles.items) (tiles c.args.raster)
all c =
    let past : c.loop-tile.tile ≡ tiles c.args.raster = grind (arith, rules) in
    subst (AreNone (with_marks c.args.raster c.loop-tile.tiles.items)) past c.loop-tile.invariant.none

pub invariant_of-result : goal.invariant_of-result
invariant_of-result c =
    let is : IsLattice c.args.raster = search rules in
    none_counted (with_marks c.args.raster c.loop-tile.tiles.items) is c.requires (all c)

pub returns-clause-none : goal.returns-clause-none
returns-clause-none c =
    let is : IsLattice c.args.raster = search rules in
    none_filled (with_marks c.args.raster c.loop-tile.tiles.items) is (all c)
