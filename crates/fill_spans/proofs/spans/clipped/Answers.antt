use Rattle.fill_spans.proofs.Clipping.{IsPart, part_put, part_canonical, part_members}
use Rattle.fill_spans.proofs.spans.clipped.Goals as goal

made : (c : goal.In_ok-put_edge-2) → IsPart c.args.edges.now c.args.lo c.args.hi c.put_edge-2.new.out.items
made c = part_put c.args.edges.now c.args.lo c.args.hi c.first_above-from.result c.first_above-to.result c.in_ok-part.part.items c.put_edge.new.out.items c.extend_from_slice.new.self.items _
    c.requires.canonical c.ranges.lo c.ranges.hi c.requires.ordered c.requires.low c.requires.high c.first_above-from.ensures c.first_above-to.ensures
    c.in_ok-part.ensures.items c.in_ok-put_edge.ensures c.in_ok-extend_from_slice.ensures.items c.in_ok-put_edge-2.ensures

pub returns-clause-canonical : goal.returns-clause-canonical
returns-clause-canonical c = part_canonical c.args.edges.now c.args.lo c.args.hi _ c.requires.low c.requires.high (made c)

pub returns-clause-members : goal.returns-clause-members
returns-clause-members c = part_members c.args.edges.now c.args.lo c.args.hi _ c.requires.ordered (made c)
