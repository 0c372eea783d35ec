use Rattle.std.proofs.Common.{◌≡◌, ◌∙◌, ◌-◌, ◌+◌, ap, sym, subst, pos, ◌+ℤ◌, ◌-ℤ◌, arith, length, vec_len, rules}
use Rattle.std.specs.List.{flat_map}
use Rattle.std.proofs.lemmas.Grind.{common_steps}
use Rattle.std.proofs.lemmas.Int.{ints}
use Rattle.fill_base.proofs.Signed.{read, read_is, is_lt, not_lt}
use Rattle.fill_raster.specs.Axes.{first, past}
use Rattle.fill_raster.specs.Lattice.{Lattice}
use Rattle.fill_raster.proofs.Ranges.{past_bounded, first_past}
use Rattle.fill_raster.proofs.Reading.{first_read, past_read}
use Rattle.fill_raster.proofs.Searching.{here, one_on, step_fits}
use Rattle.fill_text.specs.ValuesOfRules.{values_of}
use Rattle.fill_stacks.specs.Counting.{AreRising, levels_at}
use Rattle.fill_stacks.specs.Places.{places_along}
use Rattle.fill_stacks.specs.Stacks.{row_stacks}
use Rattle.fill_stacks.proofs.RowPieces.{levels_rise}
use Rattle.fill_stacks.proofs.Stacking.{flat_flat}
use Rattle.gds_out.specs.FillText.{stack_records}
use Rattle.gds_out.specs.Strips.{marked_in, sheet_raster}
use Rattle.gds_out.proofs.RowStacks.{IsRow, begun_from, enough, from_index, levels_next, no_levels, row_of}
use Rattle.gds_out.proofs.RowTurns.{rows_begin, rows_more, rows_done, next_to}
use Rattle.gds_out.proofs.rows.put_rows.Goals.{After-len-in-loop-j}
use Rattle.gds_out.proofs.rows.put_rows.Goals as goal

pub loop-j-init : goal.loop-j-init
loop-j-init c =
    let r = sheet_raster c.args.sheet.now in
    let filled = marked_in c.args.sheet.now.strips.now in
    let s : read c.rows-rows.result.start ≡ first r.up = ap read c.rows-rows.ensures.first ∙ first_read r.up c.requires.up in
    rw s (record {
      from = here (first r.up);
      to = first_past r.up;
      rows = rows_begin (λ k. flat_map (stack_records (values_of c.args.sheet.now.rules.now).fill_cell r) (row_stacks filled r k)) (first r.up) _;
      left = c.in_ok-left.ensures;
      below = c.new-below.ensures.items ∙ no_levels filled r;
    })

pub levels-requires : goal.levels-requires
levels-requires c =
    let r = sheet_raster c.args.sheet.now in
    let filled = marked_in c.args.sheet.now.strips.now in
    let e = c.deref-in-loop-j.ensures.value ∙ (rw c.loop-j.j-is at c.loop-j.invariant).below in
    subst AreRising (sym e) (levels_rise filled r (c.loop-j.j -ℤ pos 1))

-- the row's levels
levels_are : (c : After-len-in-loop-j) → c.in_ok-below.below.items ≡ levels_at (marked_in c.args.sheet.now.strips.now) (sheet_raster c.args.sheet.now) c.loop-j.j
levels_are c =
    let r = sheet_raster c.args.sheet.now in
    let inv = rw c.loop-j.j-is at c.loop-j.invariant in
    levels_next (marked_in c.args.sheet.now.strips.now) r c.loop-j.j _ _ _ inv.from (c.deref-in-loop-j.ensures.value ∙ inv.below)
    (c.deref.ensures.value ∙ rw c.loop-j.j-is at c.in_ok-row.ensures) c.in_ok-below.ensures

-- as many heights are left as there are pieces in the rows from this one on
counted : (c : After-len-in-loop-j) → let r : Lattice = sheet_raster c.args.sheet.now in
    (c.len-in-loop-j.result + (c.len.result - c.len-in-loop-j.result) ≡ c.len.result) × IsRow (marked_in c.args.sheet.now.strips.now) r c.loop-j.j c.in_ok-below.below.items c.loop-j.left.items (c.len.result - c.len-in-loop-j.result)
counted c =
    let r = sheet_raster c.args.sheet.now in
    let filled = marked_in c.args.sheet.now.strips.now in
    let p : read c.rows-rows.result.end ≡ past r.up = ap read c.rows-rows.ensures.past ∙ past_read r.up c.requires.up in
    let lt = is_lt c.loop-j.j (past r.up) (rw (c.loop-j.j-is, p) at c.loop-j-test.true) in
    let inv = rw c.loop-j.j-is at c.loop-j.invariant in
    let long = enough filled r c.loop-j.j c.in_ok-below.below.items c.loop-j.left.items inv.from lt (levels_are c) inv.left in
    let a : length c.loop-j.left.items ≡ vec_len c.loop-j.left = grind (arith, common_steps) in
    let b : length c.in_ok-below.below.items ≡ vec_len c.in_ok-below.below = grind (arith, common_steps) in
    let m = c.len.ensures in
    let n = c.len-in-loop-j.ensures in
    (omega (arith, long, a, b, m, n), row_of filled r c.loop-j.j c.in_ok-below.below.items c.loop-j.left.items (c.len.result - c.len-in-loop-j.result) inv.from lt (levels_are c) inv.left (omega (arith, long, a, b, m, n)))

pub overflow_sub-others : goal.overflow_sub-others
overflow_sub-others c = let sum = (counted ((goal.at.overflow_sub-others c).After-len-in-loop-j)).0 in omega (arith, sum)

pub put_row-requires-clause-begun : goal.put_row-requires-clause-begun
put_row-requires-clause-begun c =
    let row = (counted ((goal.at.put_row-requires-clause-begun c).After-len-in-loop-j)).1 in
    let r = sheet_raster c.args.sheet.now in
    rw c.loop-j.j-is (from_index r c.loop-j.j _ _ _ _ _ c.deref-in-loop-j-2.ensures.value c.deref-in-loop-j-3.ensures.value row.are)

pub loop-j-preserved : goal.loop-j-preserved
loop-j-preserved c =
    let at = (goal.at.loop-j-preserved c).After-len-in-loop-j in
    let row = (counted at).1 in
    let r = sheet_raster c.args.sheet.now in
    let filled = marked_in c.args.sheet.now.strips.now in
    let f = stack_records (values_of c.args.sheet.now.rules.now).fill_cell r in
    let p : read c.rows-rows.result.end ≡ past r.up = ap read c.rows-rows.ensures.past ∙ past_read r.up c.requires.up in
    let lt = is_lt c.loop-j.j (past r.up) (rw (c.loop-j.j-is, p) at c.loop-j-test.true) in
    let inv = rw c.loop-j.j-is at c.loop-j.invariant in
    let next : read (c.loop-j.j +ℤ pos 1) ≡ c.loop-j.j +ℤ pos 1 = read_is _ (step_fits c.loop-j.j (past r.up) (search rules) lt (past_bounded r.up c.requires.up).most) in
    let back : c.loop-j.j ≡ (c.loop-j.j +ℤ pos 1) -ℤ pos 1 = omega (arith, ints) in
    let begun = begun_from c.loop-j.j _ _ _ _ _ _ c.deref-in-loop-j-2.ensures.value c.deref-in-loop-j-3.ensures.value row.stacks in
    rw (c.loop-j.j-is, next) (record {
      from = one_on _ _ inv.from;
      to = next_to c.loop-j.j (past r.up) lt;
      rows = rows_more (λ k. flat_map f (row_stacks filled r k)) (first r.up) c.loop-j.j _ _ _ inv.from inv.rows (rw (c.loop-j.j-is, begun) at c.in_ok-put_row.ensures);
      left = c.truncate.ensures.items ∙ row.rest;
      below = levels_are at ∙ ap (levels_at filled r) back;
    })

pub returns : goal.returns
returns c =
    let r = sheet_raster c.args.sheet.now in
    let filled = marked_in c.args.sheet.now.strips.now in
    let f = stack_records (values_of c.args.sheet.now.rules.now).fill_cell r in
    let p : read c.rows-rows.result.end ≡ past r.up = ap read c.rows-rows.ensures.past ∙ past_read r.up c.requires.up in
    let over = not_lt c.loop-j.j (past r.up) (rw (c.loop-j.j-is, p) at c.loop-j-test.false) in
    let inv = rw c.loop-j.j-is at c.loop-j.invariant in
    let all = flat_flat f (row_stacks filled r) (places_along r.up) in
    rw all (rows_done (λ k. flat_map f (row_stacks filled r k)) (first r.up) c.loop-j.j (past r.up) _ _ inv.to over inv.rows)
