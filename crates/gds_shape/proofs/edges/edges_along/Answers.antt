use Rattle.std.proofs.Common.{sym, subst, map}
use Rattle.gds_shape.specs.Winding.{IsPoint}
use Rattle.gds_shape.specs.Moves.{moved}
use Rattle.gds_shape.proofs.Along.{from_point, to_point, along_next, along_ended}
use Rattle.gds_shape.proofs.edges.edges_along.Goals as goal

pub moved-to-requires : goal.moved-to-requires
moved-to-requires c = to_point (map (moved c.args.by) c.args.points.now) c.args.by _ c.edges.rest.now c.edges.edges.items c.edges.invariant c.edges-test.true

pub edge_between-requires-clause-begins : goal.edge_between-requires-clause-begins
edge_between-requires-clause-begins c =
    subst IsPoint (sym c.moved-from.ensures) (from_point (map (moved c.args.by) c.args.points.now) c.args.by _ c.edges.rest.now c.edges.edges.items c.edges.invariant c.edges-test.true)

pub edge_between-requires-clause-ends : goal.edge_between-requires-clause-ends
edge_between-requires-clause-ends c =
    subst IsPoint (sym c.moved-to.ensures) (to_point (map (moved c.args.by) c.args.points.now) c.args.by _ c.edges.rest.now c.edges.edges.items c.edges.invariant c.edges-test.true)

pub edges-preserved : goal.edges-preserved
edges-preserved c = along_next (map (moved c.args.by) c.args.points.now) c.args.by _ c.edges.rest.now c.split_at.result.1.now c.edges.edges.items c.put.new.edges.items
    c.moved-from.result c.moved-to.result c.edge_between.result c.edges.invariant c.edges-test.true c.moved-from.ensures c.moved-to.ensures
    c.edge_between.ensures.some c.edge_between.ensures.none c.in_ok-put.ensures c.split_at.ensures.back

pub returns : goal.returns
returns c = along_ended (map (moved c.args.by) c.args.points.now) c.args.by c.edges.rest.now c.edges.edges.items c.edges.invariant c.edges-test.false
