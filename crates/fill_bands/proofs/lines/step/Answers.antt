use Rattle.fill_base.proofs.Signed.{read_is}
use Rattle.fill_bands.proofs.UpwardSweep.{stepped, at_read}
use Rattle.fill_bands.proofs.lines.step.Goals as goal

pub returns : goal.returns
returns c =
    let line = read_is c.args.line c.ranges.line in
    let s = stepped c.args.later.now c.split_at.result.0.now c.split_at.result.1.now c.args.crossing.now.items c.cross.new.crossing.items c.args.line c.next_line-next.result c.begun_at.result
    c.requires.at c.requires.low c.begun_at.ensures.within (rw (line) at c.begun_at.ensures.parted) c.split_at.ensures.front c.split_at.ensures.back
    (rw (line) at c.in_ok-cross.ensures) (rw (c.deref.ensures.value) at c.next_line-next.ensures) in
    rw (at_read c.split_at.result.1.now c.cross.new.crossing.items c.next_line-next.result s.at) s
