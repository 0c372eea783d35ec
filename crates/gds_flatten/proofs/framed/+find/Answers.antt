use Rattle.std.proofs.Common.{◌≡◌, ◌<◌, ◌-◌, map, length, get_or, subst, sym, arith}
use Rattle.std.specs.List.{flat_map}
use Rattle.std.specs.Vec.{vec_items}
use Rattle.std.proofs.lemmas.Result.{err_from_is_err_and, IfOk-weaker, IfErr-weaker}
use Rattle.gds_cells.specs.Copies.{carry_copy, copies}
use Rattle.gds_cells.specs.steps.Ranges.{IsWithin}
use Rattle.gds_cells.specs.steps.Walks.{hierarchy, shapes_in, shape_copies, link_copies}
use Rattle.gds_cells.proofs.Capping.{counts_below}
use Rattle.gds_flatten.specs.steps.Finding.{IsFound, IsRefusalOn}
use Rattle.gds_flatten.specs.steps.Roots.{turns_copies}
use Rattle.gds_flatten.proofs.Drawing.{deeper, all_copies}
use Rattle.gds_flatten.proofs.Missed.{found_none, found_more, found_next, found_all, many_first, many_later, many_next}
use Rattle.gds_flatten.proofs.Seen.{held_below}
use Rattle.gds_flatten.proofs.framed.+find.Goals as goal

-- ---- a cell

pub find_cell-returns-in_default-clause-found : goal.find_cell-returns-in_default-clause-found
find_cell-returns-in_default-clause-found t c =
    subst (λ cs. IsFound c.args.framed.now (map (carry_copy c.args.at.now) cs) c.args.found.now c.args.found.now) (sym c.in_default.ensures.none) (found_none c.args.framed.now c.args.found.now)

pub find_cell-returns-in_err-find_own-clause-refused : goal.find_cell-returns-in_err-find_own-clause-refused
find_cell-returns-in_err-find_own-clause-refused t c =
    let p = err_from_is_err_and c.from_residual.result c.from_residual.ensures.1 in
    let some = c.in-Some.ensures.some in
    let w = c.args.framed.now in
    let at = c.args.at.now in
    let e = c.in_err-find_own.field-0.0 in
    let below = copies (hierarchy w.cells.now) (c.args.depth - 1) in
    rw (p.1, p.2) (subst (λ cs. IsRefusalOn w.frame.now cs c.args.found.now e) (sym (all_copies w.cells.now c.args.depth c.args.index c.in-Some.cell.now at some.0 some.1))
    (many_first w.frame.now (flat_map (shape_copies at) (shapes_in c.in-Some.cell.now)) (flat_map (link_copies at below) c.in-Some.cell.now.links.items) c.args.found.now e
    (subst (λ rs. IsRefusalOn w.frame.now (flat_map (shape_copies at) (flat_map vec_items rs)) c.args.found.now e) c.as_slice.ensures.value c.in_err-find_own.ensures.refused)))

pub find_cell-turns_of-requires-clause-within : goal.find_cell-turns_of-requires-clause-within
find_cell-turns_of-requires-clause-within t c =
    let some = c.in-Some.ensures.some in
    let less : 256 - (c.args.depth - 1) ≡ 257 - c.args.depth = omega (arith, some.0, c.requires.deep) in
    subst (λ n. IsWithin n c.args.at.now) (sym less) c.requires.within

pub find_cell-find_turns-requires : goal.find_cell-find_turns-requires
find_cell-find_turns-requires t c =
    let some = c.in-Some.ensures.some in
    let made = c.turns_of.ensures in
    let w = c.args.framed.now in
    let lt = subst (λ xs. c.links.link-index < length xs) c.as_slice-links.ensures.value c.links-test.true in
    let is = subst (λ xs. c.link-item.result ≡ get_or xs c.links.link-index c.link-item.result) c.as_slice-links.ensures.value c.link-item.is in (
      omega (arith, c.decreases, some.0, made.depth),
      (
        c.requires.ready,
        (
          rw (made.depth, made.cell) (counts_below w.cells.now w.counts.now c.args.depth c.args.index c.links.link-index c.in-Some.cell.now c.link-item.result some.0 some.1 lt is c.requires.counted),
          rw (made.depth, made.cell) (held_below w.cells.now w.extents.now c.args.depth c.args.index c.links.link-index c.in-Some.cell.now c.link-item.result some.0 some.1 lt is c.requires.held),
        ),
      ),
    )

pub find_cell-returns-in_err-find_turns-clause-refused : goal.find_cell-returns-in_err-find_turns-clause-refused
find_cell-returns-in_err-find_turns-clause-refused t c =
    let p = err_from_is_err_and c.from_residual-in_err-find_turns.result c.from_residual-in_err-find_turns.ensures.1 in
    let some = c.in-Some.ensures.some in
    let w = c.args.framed.now in
    let at = c.args.at.now in
    let e = c.in_err-find_turns.field-0.0 in
    let below = copies (hierarchy w.cells.now) (c.args.depth - 1) in
    let own = subst (λ rs. IsFound w (flat_map (shape_copies at) (flat_map vec_items rs)) c.args.found.now c.find_own.new.found) c.as_slice.ensures.value c.in_ok-find_own.ensures.found in
    let one = subst (λ cs. IsRefusalOn w.frame.now cs c.links.found e) (c.turns_of.ensures.copies w.cells.now) c.in_err-find_turns.ensures.refused in
    let links = many_next w (link_copies at below) c.as_slice-links.result.now c.links.link-index c.link-item.result c.find_own.new.found c.links.found e c.links-test.true c.links.invariant
    (subst (λ l. IsRefusalOn w.frame.now (link_copies at below l) c.links.found e) c.link-item.is one) in
    rw (p.1, p.2) (subst (λ cs. IsRefusalOn w.frame.now cs c.args.found.now e) (sym (all_copies w.cells.now c.args.depth c.args.index c.in-Some.cell.now at some.0 some.1))
    (many_later w (flat_map (shape_copies at) (shapes_in c.in-Some.cell.now)) (flat_map (link_copies at below) c.in-Some.cell.now.links.items) c.args.found.now c.find_own.new.found e own
    (subst (λ ls. IsRefusalOn w.frame.now (flat_map (link_copies at below) ls) c.find_own.new.found e) c.as_slice-links.ensures.value links)))

pub find_cell-links-init : goal.find_cell-links-init
find_cell-links-init t c = found_none c.args.framed.now c.find_own.new.found

pub find_cell-links-preserved : goal.find_cell-links-preserved
find_cell-links-preserved t c =
    let w = c.args.framed.now in
    let draws = link_copies c.args.at.now (copies (hierarchy w.cells.now) (c.args.depth - 1)) in
    found_next w draws c.as_slice-links.result.now c.links.link-index c.link-item.result c.find_own.new.found c.links.found c.find_turns.new.found c.links-test.true c.links.invariant
    (subst (λ l. IsFound w (draws l) c.links.found c.find_turns.new.found) c.link-item.is
    (subst (λ cs. IsFound w cs c.links.found c.find_turns.new.found) (c.turns_of.ensures.copies w.cells.now) c.in_ok-find_turns.ensures.found))

pub find_cell-returns-clause-found : goal.find_cell-returns-clause-found
find_cell-returns-clause-found t c =
    let some = c.in-Some.ensures.some in
    let w = c.args.framed.now in
    let at = c.args.at.now in
    let below = copies (hierarchy w.cells.now) (c.args.depth - 1) in
    let own = subst (λ rs. IsFound w (flat_map (shape_copies at) (flat_map vec_items rs)) c.args.found.now c.find_own.new.found) c.as_slice.ensures.value c.in_ok-find_own.ensures.found in
    let links = subst (λ ls. IsFound w (flat_map (link_copies at below) ls) c.find_own.new.found c.links.found) c.as_slice-links.ensures.value
    (found_all w (link_copies at below) c.as_slice-links.result.now c.links.link-index c.find_own.new.found c.links.found (omega (arith, c.links-test.false)) c.links.invariant) in
    subst (λ cs. IsFound w cs c.args.found.now c.links.found) (sym (all_copies w.cells.now c.args.depth c.args.index c.in-Some.cell.now at some.0 some.1))
    (found_more w (flat_map (shape_copies at) (shapes_in c.in-Some.cell.now)) (flat_map (link_copies at below) c.in-Some.cell.now.links.items) c.args.found.now c.find_own.new.found c.links.found own links)

-- ---- single references

pub find_turns-find_cell-requires : goal.find_turns-find_cell-requires
find_turns-find_cell-requires t c =
    let turns = c.args.turns.now in (
      omega (arith, c.decreases),
      (
        turns.deep,
        (
          deeper turns.depth turns.placement c.single.result c.after-inner.result turns.deep turns.near c.single.ensures.near c.after-inner.ensures,
          (c.requires.ready, (c.requires.counted, c.requires.held)),
        ),
      ),
    )

pub find_turns-returns-in_err-find_turns-clause-refused : goal.find_turns-returns-in_err-find_turns-clause-refused
find_turns-returns-in_err-find_turns-clause-refused t c =
    let p = err_from_is_err_and c.from_residual.result c.from_residual.ensures.1 in
    let w = c.args.framed.now in
    let e = c.in_err-find_turns.field-0.0 in
    rw (p.1, p.2) (subst (λ cs. IsRefusalOn w.frame.now cs c.args.found.now e) (sym (c.halves.ensures.copies w.cells.now))
    (many_first w.frame.now (turns_copies w.cells.now c.halves.result.0) (turns_copies w.cells.now c.halves.result.1) c.args.found.now e c.in_err-find_turns.ensures.refused))

pub find_turns-returns-clause-found : goal.find_turns-returns-clause-found
find_turns-returns-clause-found t c =
    let w = c.args.framed.now in
    IfOk-weaker c.find_turns-2.result _ _ (λ v back. subst (λ cs. IsFound w cs c.args.found.now c.find_turns-2.new.found) (sym (c.halves.ensures.copies w.cells.now))
    (found_more w (turns_copies w.cells.now c.halves.result.0) (turns_copies w.cells.now c.halves.result.1) c.args.found.now c.find_turns.new.found c.find_turns-2.new.found c.in_ok-find_turns.ensures.found back)) c.find_turns-2.ensures.found

pub find_turns-returns-clause-refused : goal.find_turns-returns-clause-refused
find_turns-returns-clause-refused t c =
    let w = c.args.framed.now in
    IfErr-weaker c.find_turns-2.result _ _ (λ e why. subst (λ cs. IsRefusalOn w.frame.now cs c.args.found.now e) (sym (c.halves.ensures.copies w.cells.now))
    (many_later w (turns_copies w.cells.now c.halves.result.0) (turns_copies w.cells.now c.halves.result.1) c.args.found.now c.find_turns.new.found e c.in_ok-find_turns.ensures.found why)) c.find_turns-2.ensures.refused
