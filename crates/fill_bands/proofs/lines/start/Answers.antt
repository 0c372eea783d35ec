use Rattle.std.proofs.Common.{[]}
use Rattle.fill_bands.proofs.UpwardSweep.{started, at_read}
use Rattle.fill_bands.proofs.lines.start.Goals as goal

pub returns : goal.returns
returns c =
    let s = started c.args.rects.now c.in_ok-sorted.sorted.items c.first_bottom-line.result c.in_ok-sorted.ensures.same c.in_ok-sorted.ensures.rising (rw (c.deref.ensures.value) at c.first_bottom-line.ensures) in
    rw (at_read c.in_ok-sorted.sorted.items [] c.first_bottom-line.result s.at) s
