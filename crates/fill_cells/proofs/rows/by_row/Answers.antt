use Rattle.std.proofs.Common.{ℕ, subst, sym, take, ◌+◌, ◌∙◌, get_or}
use Rattle.std.specs.Global.{Vec}
use Rattle.fill_region.specs.Squares.{covered}
use Rattle.fill_cells.specs.Mesh.{covered_at, row_squares, AreListsOf}
use Rattle.fill_cells.specs.steps.Parts.{AreListed}
use Rattle.fill_cells.proofs.Listing.{at_place}
use Rattle.fill_cells.proofs.Sharing.{lists_more, kept_after}
use Rattle.fill_cells.proofs.rows.by_row.Goals as goal

pub loop-place-preserved : goal.loop-place-preserved
loop-place-preserved c =
    let rects = c.args.rects.now in
    let place = c.loop-place.place in
    let q = at_place rects place c.loop-place-test.true in
    kept_after (λ xs. AreListsOf (Vec ℕ) (λ v. covered_at rects v.items) row_squares c.args.up.now (covered (take (place + 1) rects)) xs) c.loop-place.lists.len c.put.new.lists _
    (sym c.deref_mut.ensures.len ∙ sym c.put.auto.lists)
    (lists_more (Vec ℕ) (λ v. covered_at rects v.items) row_squares c.args.up.now rects q.0 place c.loop-place.lists.items c.put.new.lists c.loop-place-test.true q.1 c.loop-place.invariant
    (subst (λ r. AreListed rects c.args.up.now r c.loop-place.lists.items c.put.new.lists) (sym q.1)
    (subst (λ xs. AreListed rects c.args.up.now (get_or rects place q.0) xs c.put.new.lists) c.deref_mut.ensures.value (c.in_ok-put.ensures q.0))))
