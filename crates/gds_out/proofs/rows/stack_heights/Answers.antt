use Rattle.std.proofs.Common.{◌≡◌, ◌∙◌, ap, sym, subst}
use Rattle.fill_base.proofs.Signed.{read, is_lt, not_lt}
use Rattle.fill_raster.specs.Axes.{first, past}
use Rattle.fill_raster.proofs.Ranges.{first_bounded, past_bounded, first_past}
use Rattle.fill_raster.proofs.Reading.{first_read, past_read}
use Rattle.fill_raster.proofs.Searching.{here}
use Rattle.fill_stacks.specs.Counting.{AreRising}
use Rattle.fill_stacks.proofs.RowPieces.{heights_rise}
use Rattle.gds_out.specs.Strips.{marked_in, sheet_raster}
use Rattle.gds_out.proofs.RowStacks.{below_read, from_below, to_past, one_less, no_heights, none_down, heights_next, down_next, down_done}
use Rattle.gds_out.proofs.rows.stack_heights.Goals as goal

pub loop-j-init : goal.loop-j-init
loop-j-init c =
    let r = sheet_raster c.args.sheet.now in
    let p : read c.rows-rows.result.end ≡ past r.up = ap read c.rows-rows.ensures.past ∙ past_read r.up c.requires.up in
    rw p (record {
      from = first_past r.up;
      to = here (past r.up);
      above = c.new-above.ensures.items ∙ no_heights (marked_in c.args.sheet.now.strips.now) r;
      list = c.new-list.ensures.items ∙ none_down (marked_in c.args.sheet.now.strips.now) r (past r.up);
    })

pub heights-requires : goal.heights-requires
heights-requires c =
    let filled = marked_in c.args.sheet.now.strips.now in
    let e = c.deref-in-loop-j.ensures.value ∙ (rw c.loop-j.j-is at c.loop-j.invariant).above in
    subst AreRising (sym e) (heights_rise filled (sheet_raster c.args.sheet.now) c.loop-j.j)

pub loop-j-smaller : goal.loop-j-smaller
loop-j-smaller c =
    let r = sheet_raster c.args.sheet.now in
    let s : read c.rows-rows.result.start ≡ first r.up = ap read c.rows-rows.ensures.first ∙ first_read r.up c.requires.up in
    let inv = rw c.loop-j.j-is at c.loop-j.invariant in
    let lt = is_lt (first r.up) c.loop-j.j (rw (c.loop-j.j-is, s) at c.loop-j-test.true) in
    let down = below_read (first r.up) c.loop-j.j (past r.up) (first_bounded r.up c.requires.up).least (past_bounded r.up c.requires.up).most lt inv.to in
    rw (c.loop-j.j-is, down) (one_less (first r.up) c.loop-j.j lt)

pub loop-j-preserved : goal.loop-j-preserved
loop-j-preserved c =
    let r = sheet_raster c.args.sheet.now in
    let filled = marked_in c.args.sheet.now.strips.now in
    let s : read c.rows-rows.result.start ≡ first r.up = ap read c.rows-rows.ensures.first ∙ first_read r.up c.requires.up in
    let inv = rw c.loop-j.j-is at c.loop-j.invariant in
    let lt = is_lt (first r.up) c.loop-j.j (rw (c.loop-j.j-is, s) at c.loop-j-test.true) in
    let down = below_read (first r.up) c.loop-j.j (past r.up) (first_bounded r.up c.requires.up).least (past_bounded r.up c.requires.up).most lt inv.to in
    let above = heights_next filled r c.loop-j.j _ _ _ inv.to (c.deref-in-loop-j.ensures.value ∙ inv.above) (c.deref.ensures.value ∙ rw (c.loop-j.j-is, down) at c.in_ok-row.ensures) c.in_ok-above.ensures in
    rw (c.loop-j.j-is, down) (record {
      from = from_below (first r.up) c.loop-j.j lt;
      to = to_past c.loop-j.j (past r.up) inv.to;
      above = above;
      list = down_next filled r c.loop-j.j _ _ _ inv.to inv.list (c.deref-in-loop-j-2.ensures.value ∙ above) c.in_ok-push_counts.ensures;
    })

pub returns : goal.returns
returns c =
    let r = sheet_raster c.args.sheet.now in
    let s : read c.rows-rows.result.start ≡ first r.up = ap read c.rows-rows.ensures.first ∙ first_read r.up c.requires.up in
    let inv = rw c.loop-j.j-is at c.loop-j.invariant in
    let over = not_lt (first r.up) c.loop-j.j (rw (c.loop-j.j-is, s) at c.loop-j-test.false) in
    down_done (marked_in c.args.sheet.now.strips.now) r (first r.up) c.loop-j.j (past r.up) _ inv.from over inv.list
