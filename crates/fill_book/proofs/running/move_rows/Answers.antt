use Rattle.std.proofs.Common.{◌≡◌, refl, sym, subst, ◌∙◌, pos, ◌+ℤ◌, rules, FitsSigned, w64}
use Rattle.std.proofs.lemmas.Bool.{and_from}
use Rattle.fill_base.proofs.Between.{is_between_true}
use Rattle.fill_base.proofs.Signed.{read, read_is, is_lt}
use Rattle.fill_area.specs.Grid.{Grid}
use Rattle.fill_sums.specs.Numbers.{AreNumbers, IsMovedBy, StaysBy}
use Rattle.fill_job.proofs.Marking.{next_fits, not_lt}
use Rattle.fill_book.specs.steps.Following.{is_moved, taken_of_row}
use Rattle.fill_state.proofs.BoxSums.{same_le}
use Rattle.fill_book.proofs.SumsMoved.{all_passed, next_moved, next_numbers, next_stays, next_up, none_moved}
use Rattle.fill_book.proofs.running.move_rows.Goals as goal

pub loop-j-init : goal.loop-j-init
loop-j-init c =
    let p = c.args.places.now in
    let bottom : FitsSigned w64 p.rows.start = search rules in
    rw (read_is p.rows.start bottom) (record {
      from = same_le p.rows.start;
      to = c.requires.upwards;
      windows = refl;
      drawn = refl;
      total = none_moved c.args.boxes.now.way (λ j. taken_of_row c.args.boxes.now.raster (is_moved c.args.boxes.now.moved) c.args.sums.now.windows p.columns.start p.columns.end j) c.args.sums.now.windows p.rows.start c.args.sums.now.total;
    })

pub move_row-requires-clause-places : goal.move_row-requires-clause-places
move_row-requires-clause-places c =
    let p = c.args.places.now in
    let top : FitsSigned w64 p.rows.end = search rules in
    let inv = rw c.loop-j.j-is at c.loop-j.invariant in
    let lt = is_lt c.loop-j.j p.rows.end (rw (c.loop-j.j-is, read_is p.rows.end top) at c.loop-j-test.true) in
    rw c.loop-j.j-is (λ i inside. c.requires.places i c.loop-j.j (and_from _ _ inside (is_between_true p.rows.start p.rows.end c.loop-j.j inv.from lt)))

pub move_row-requires-clause-numbers : goal.move_row-requires-clause-numbers
move_row-requires-clause-numbers c =
    let p = c.args.places.now in
    let top : FitsSigned w64 p.rows.end = search rules in
    let inv = rw c.loop-j.j-is at c.loop-j.invariant in
    let lt = is_lt c.loop-j.j p.rows.end (rw (c.loop-j.j-is, read_is p.rows.end top) at c.loop-j-test.true) in
    let g = c.args.sums.now.windows in
    subst (λ (w : Grid). AreNumbers w c.loop-j.sums.total) (sym inv.windows)
    (next_numbers c.args.boxes.now.way (λ j. taken_of_row c.args.boxes.now.raster (is_moved c.args.boxes.now.moved) g p.columns.start p.columns.end j) g p.rows.start c.loop-j.j p.rows.end c.args.sums.now.total c.loop-j.sums.total c.requires.numbers c.requires.stays inv.total inv.from lt)

pub move_row-requires-clause-stays : goal.move_row-requires-clause-stays
move_row-requires-clause-stays c =
    let p = c.args.places.now in
    let top : FitsSigned w64 p.rows.end = search rules in
    let inv = rw c.loop-j.j-is at c.loop-j.invariant in
    let lt = is_lt c.loop-j.j p.rows.end (rw (c.loop-j.j-is, read_is p.rows.end top) at c.loop-j-test.true) in
    let g = c.args.sums.now.windows in
    rw c.loop-j.j-is
    (subst (λ (w : Grid). StaysBy c.args.boxes.now.way (taken_of_row c.args.boxes.now.raster (is_moved c.args.boxes.now.moved) w p.columns.start p.columns.end c.loop-j.j) w c.loop-j.sums.total) (sym inv.windows)
    (next_stays c.args.boxes.now.way (λ j. taken_of_row c.args.boxes.now.raster (is_moved c.args.boxes.now.moved) g p.columns.start p.columns.end j) g p.rows.start c.loop-j.j p.rows.end c.args.sums.now.total c.loop-j.sums.total c.requires.numbers c.requires.stays inv.total inv.from lt))

pub loop-j-preserved : goal.loop-j-preserved
loop-j-preserved c =
    let p = c.args.places.now in
    let bottom : FitsSigned w64 p.rows.start = search rules in
    let top : FitsSigned w64 p.rows.end = search rules in
    let inv = rw c.loop-j.j-is at c.loop-j.invariant in
    let j = c.loop-j.j in let g = c.args.sums.now.windows in
    let lt = is_lt j p.rows.end (rw (c.loop-j.j-is, read_is p.rows.end top) at c.loop-j-test.true) in
    let next : read (j +ℤ pos 1) ≡ j +ℤ pos 1 = read_is (j +ℤ pos 1) (next_fits p.rows.start p.rows.end j bottom top inv.from lt) in
    let step = next_up p.rows.start p.rows.end j inv.from lt in
    let total = rw c.loop-j.j-is at c.move_row.ensures.total in
    let moved = subst (λ (w : Grid). IsMovedBy c.args.boxes.now.way (taken_of_row c.args.boxes.now.raster (is_moved c.args.boxes.now.moved) w p.columns.start p.columns.end j) w c.loop-j.sums.total c.move_row.new.sums.total) inv.windows total in
    rw (c.loop-j.j-is, next) (record {
      from = step.0;
      to = step.1;
      windows = c.move_row.ensures.windows ∙ inv.windows;
      drawn = c.move_row.ensures.drawn ∙ inv.drawn;
      total = next_moved c.args.boxes.now.way (λ j. taken_of_row c.args.boxes.now.raster (is_moved c.args.boxes.now.moved) g p.columns.start p.columns.end j) g p.rows.start j c.args.sums.now.total c.loop-j.sums.total c.move_row.new.sums.total inv.from inv.total moved;
    })

pub returns-clause-total : goal.returns-clause-total
returns-clause-total c =
    let p = c.args.places.now in
    let top : FitsSigned w64 p.rows.end = search rules in
    let inv = rw c.loop-j.j-is at c.loop-j.invariant in
    let past = not_lt c.loop-j.j p.rows.end (rw (c.loop-j.j-is, read_is p.rows.end top) at c.loop-j-test.false) in
    all_passed c.args.boxes.now.way (λ j. taken_of_row c.args.boxes.now.raster (is_moved c.args.boxes.now.moved) c.args.sums.now.windows p.columns.start p.columns.end j) c.args.sums.now.windows p.rows.start c.loop-j.j p.rows.end c.args.sums.now.total c.loop-j.sums.total inv.to past inv.total
