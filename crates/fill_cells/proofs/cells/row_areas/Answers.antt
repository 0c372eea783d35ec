use Rattle.std.proofs.Common.{arith, subst, sym, ◌≡◌, ℕ, ◌+◌, ◌-◌, ◌<◌, ◌∙◌, ℤ, pos, List, length, vec_len}
use Rattle.std.specs.Global.{Vec}
use Rattle.std.proofs.lemmas.Grind.{common_steps}
use Rattle.fill_base.specs.declared.rect.Rect.{Rect}
use Rattle.fill_base.proofs.Signed.{read, read_is}
use Rattle.fill_region.specs.Squares.{covered}
use Rattle.fill_cells.specs.Mesh.{gaps}
use Rattle.fill_cells.specs.steps.Within.{AreWithin}
use Rattle.fill_cells.proofs.Gaps.{cut_read}
use Rattle.fill_cells.proofs.RowAreas.{first_none, first_more, first_all, left_all, left_more, cell_is}
use Rattle.fill_cells.proofs.cells.row_areas.Goals as goal

-- as many lists as gaps
number : (across : List ℤ) (lists : Vec (Vec Rect)) (n : ℕ) → n ≡ vec_len lists → length lists.items ≡ gaps across → n ≡ gaps across
number across lists n is count = grind (arith, common_steps)

in_gaps : (across : List ℤ) (lists : Vec (Vec Rect)) (n i : ℕ) → n ≡ vec_len lists → length lists.items ≡ gaps across → i < n → i < gaps across
in_gaps across lists n i is count lt = omega (arith, number across lists n is count, lt)

pub loop-i-init : goal.loop-i-init
loop-i-init c = record {
  areas = first_none (covered c.args.rects.items) c.args.across.now (read c.args.from) (read c.args.to) c.in_ok-areas.areas.items c.in_ok-areas.ensures.items;
  left = left_all c.share_out.new.lists.items;
}

pub from_edges-part-requires-clause-wide : goal.from_edges-part-requires-clause-wide
from_edges-part-requires-clause-wide c =
    let across = c.args.across.now in
    let i = c.loop-i.i in
    let i_in : i < gaps across = in_gaps across c.share_out.new.lists c.len-i-end.result i c.len-i-end.ensures c.in_ok-share_out.ensures.count c.loop-i-test.true in
    rw (cut_read across i (pos 0) c.requires.across (omega (arith, i_in)), cut_read across (i + 1) (pos 0) c.requires.across (omega (arith, i_in)))
    (c.requires.across.rising i (i + 1) (pos 0) (omega arith) (omega (arith, i_in)))

pub from_edges-part-requires-clause-right : goal.from_edges-part-requires-clause-right
from_edges-part-requires-clause-right c =
    let across = c.args.across.now in
    let i = c.loop-i.i in
    let i_in : i < gaps across = in_gaps across c.share_out.new.lists c.len-i-end.result i c.len-i-end.ensures c.in_ok-share_out.ensures.count c.loop-i-test.true in
    rw (cut_read across (i + 1) (pos 0) c.requires.across (omega (arith, i_in))) (c.requires.across.coordinates (i + 1) (pos 0) (omega (arith, i_in))).most

pub loop-i-preserved : goal.loop-i-preserved
loop-i-preserved c =
    let across = c.args.across.now in
    let i = c.loop-i.i in
    let cell = c.index_mut.result.now in
    let i_in : i < gaps across = in_gaps across c.share_out.new.lists c.len-i-end.result i c.len-i-end.ensures c.in_ok-share_out.ensures.count c.loop-i-test.true in
    record {
      areas = first_more (covered c.args.rects.items) across (read c.args.from) (read c.args.to) i c.loop-i.areas.items c.push.new.self.items (read c.in_ok-area.area)
          c.in_ok-push.ensures.items
          (cell_is across c.from_edges-row.result c.from_edges-part.result (read c.args.from) (read c.args.to) c.in_ok-area.area i (covered c.args.rects.items) c.deref.result.now c.deref_mut.result.now c.share_out.new.lists.items cell
          c.requires.across i_in
          (c.from_edges-row.ensures.0 ∙ cut_read across 0 (pos 0) c.requires.across (omega (arith, i_in)))
          (c.from_edges-row.ensures.2 ∙ cut_read across (length across - 1) (pos 0) c.requires.across (omega (arith, i_in)))
          c.from_edges-row.ensures.1 c.from_edges-row.ensures.3 (
            c.from_edges-part.ensures.0 ∙ cut_read across i (pos 0) c.requires.across (omega (arith, i_in)),
            c.from_edges-part.ensures.1,
            c.from_edges-part.ensures.2 ∙ cut_read across (i + 1) (pos 0) c.requires.across (omega (arith, i_in)),
            c.from_edges-part.ensures.3,
          )
          (subst (AreWithin c.from_edges-row.result (covered c.args.rects.items)) (sym c.deref.ensures.value) c.in_ok-listed.ensures) c.in_ok-share_out.ensures
          (c.index_mut.ensures.value ∙ c.loop-i.invariant.left.later i cell (omega arith)) c.deref_mut.ensures.value c.in_ok-area.ensures)
          c.loop-i.invariant.areas;
      left = left_more i c.share_out.new.lists.items c.loop-i.lists.items _ c.loop-i.invariant.left;
    }

pub returns : goal.returns
returns c = first_all (covered c.args.rects.items) c.args.across.now c.args.from c.args.to (read c.args.from) (read c.args.to) c.loop-i.i c.len-i-end.result c.loop-i.areas.items
    (read_is c.args.from c.ranges.from) (read_is c.args.to c.ranges.to) (number c.args.across.now c.share_out.new.lists c.len-i-end.result c.len-i-end.ensures c.in_ok-share_out.ensures.count)
    c.loop-i-test.false c.loop-i.auto.i-end c.loop-i.invariant.areas
