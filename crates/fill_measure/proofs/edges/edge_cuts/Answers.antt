use Rattle.std.specs.List.{flat_map}
use Rattle.std.specs.Vec.{vec_items}
use Rattle.fill_measure.proofs.Edging.{clip_among, edges_uniform}
use Rattle.fill_measure.proofs.edges.edge_cuts.Goals as goal

pub returns-clause-among : goal.returns-clause-among
returns-clause-among c =
    let held = c.in_ok-numbers.ensures in
    let same = c.cuts_at.ensures.same in
    clip_among c.cuts_at.result.items c.args.parts (c.cuts_at.ensures.cuts _ _ held.low held.high c.requires.some) ((same _).0 held.low) ((same _).0 held.high) c.requires.some

pub returns-clause-uniform : goal.returns-clause-uniform
returns-clause-uniform c =
    let held = c.in_ok-numbers.ensures in
    edges_uniform c.args.direction (flat_map vec_items c.args.lists.now) c.in_ok-edges.edges.items c.cuts_at.result.items c.args.parts (c.cuts_at.ensures.cuts _ _ held.low held.high c.requires.some)
    (λ z has. (c.cuts_at.ensures.same z).0 (held.kept z has)) c.in_ok-edges.ensures.edges
