use Rattle.fill_region.proofs.Clipping.{clipped_are_runs}
use Rattle.fill_region.proofs.clips.clipped_runs.Goals as goal

pub returns : goal.returns
returns c = rw (c.in_ok-append.ensures.items)
    (clipped_are_runs c.args.runs.now c.args.frame.now c.in_ok-clipped.clipped.items c.in_ok-clipped.beside.items c.in_ok-joined.joined.items c.requires c.in_ok-clipped.ensures c.in_ok-joined.ensures)
