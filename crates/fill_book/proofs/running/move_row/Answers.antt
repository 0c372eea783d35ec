use Rattle.std.proofs.Common.{◌≡◌, refl, ap, sym, subst, ◌∙◌, ℕ, pos, ◌+ℤ◌, true, rules, FitsSigned, w64}
use Rattle.fill_base.specs.Squares.{squares}
use Rattle.fill_base.proofs.Between.{is_between_true}
use Rattle.fill_base.proofs.Signed.{read, read_is, is_lt}
use Rattle.fill_area.specs.Density.{window_area}
use Rattle.fill_area.specs.Grid.{Grid}
use Rattle.fill_sums.specs.Numbers.{IsMovedBy, StaysBy, WindowNumbers}
use Rattle.fill_job.proofs.Marking.{next_fits, not_lt}
use Rattle.fill_book.specs.steps.Following.{is_moved, taken_at}
use Rattle.fill_state.proofs.BoxSums.{same_le}
use Rattle.fill_book.proofs.SumsMoved.{all_of, all_passed, box_area, next_moved, next_passed, next_stays, next_up, no_box, none_moved}
use Rattle.fill_book.proofs.running.move_row.Goals as goal
use Rattle.fill_book.proofs.running.move_row.Goals.{then-has, else-has}

pub loop-i-init : goal.loop-i-init
loop-i-init c =
    let p = c.args.columns.now in
    let left : FitsSigned w64 p.start = search rules in
    rw (read_is p.start left, read_is c.args.j c.ranges.j) (record {
      from = same_le p.start;
      to = c.requires.ordered;
      windows = refl;
      drawn = refl;
      total = none_moved c.args.boxes.now.way (λ i. taken_at c.args.boxes.now.raster (is_moved c.args.boxes.now.moved) c.args.sums.now.windows i c.args.j) c.args.sums.now.windows p.start c.args.sums.now.total;
    })

pub box_of-requires : goal.box_of-requires
box_of-requires c =
    let p = c.args.columns.now in
    let right : FitsSigned w64 p.end = search rules in
    let inv = rw (c.loop-i.i-is, read_is c.args.j c.ranges.j) at c.loop-i.invariant in
    let lt = is_lt c.loop-i.i p.end (rw (c.loop-i.i-is, read_is p.end right) at c.loop-i-test.true) in
    rw (c.loop-i.i-is, read_is c.args.j c.ranges.j) (c.requires.places c.loop-i.i (is_between_true p.start p.end c.loop-i.i inv.from lt))

pub move_box-requires : goal.move_box-requires
move_box-requires c =
    let p = c.args.columns.now in
    let right : FitsSigned w64 p.end = search rules in
    let inv = rw (c.loop-i.i-is, read_is c.args.j c.ranges.j) at c.loop-i.invariant in
    let lt = is_lt c.loop-i.i p.end (rw (c.loop-i.i-is, read_is p.end right) at c.loop-i-test.true) in
    let r = c.args.boxes.now.raster in let fill = is_moved c.args.boxes.now.moved in let g = c.args.sums.now.windows in let i = c.loop-i.i in let j = c.args.j in
    let here : fill i j ≡ true = sym (rw (c.loop-i.i-is, read_is j c.ranges.j) at c.has.ensures) ∙ c.if-has.true in
    let stays = next_stays c.args.boxes.now.way (λ i. taken_at r fill g i j) g p.start i p.end c.args.sums.now.total c.loop-i.sums.total c.requires.numbers c.requires.stays inv.total inv.from lt in
    record {
      stays = subst (λ (w : Grid). StaysBy c.args.boxes.now.way (window_area (squares c.box_of.result) w) w c.loop-i.sums.total) (sym inv.windows)
          (subst (λ (f : ℕ → ℕ → ℕ). StaysBy c.args.boxes.now.way f g c.loop-i.sums.total) (sym (box_area r fill g i j c.box_of.result here (rw (c.loop-i.i-is, read_is j c.ranges.j) at c.box_of.ensures.squares))) stays);
    }

pub loop-i-preserved : goal.loop-i-preserved
loop-i-preserved c =
    let p = c.args.columns.now in
    let left : FitsSigned w64 p.start = search rules in
    let right : FitsSigned w64 p.end = search rules in
    let inv = rw (c.loop-i.i-is, read_is c.args.j c.ranges.j) at c.loop-i.invariant in
    let lt = is_lt c.loop-i.i p.end (rw (c.loop-i.i-is, read_is p.end right) at c.loop-i-test.true) in
    let r = c.args.boxes.now.raster in let fill = is_moved c.args.boxes.now.moved in let g = c.args.sums.now.windows in let i = c.loop-i.i in let j = c.args.j in
    let old = c.args.sums.now.total in
    let next : read (i +ℤ pos 1) ≡ i +ℤ pos 1 = read_is (i +ℤ pos 1) (next_fits p.start p.end i left right inv.from lt) in
    let step = next_up p.start p.end i inv.from lt in
    let has : c.has.result ≡ fill i j = rw (c.loop-i.i-is, read_is j c.ranges.j) at c.has.ensures in
    rw (c.loop-i.i-is, read_is j c.ranges.j, next) (record {
      from = step.0;
      to = step.1;
      windows = elim c.if-has.branch [
        | then-has w ↦ ap (λ (s : WindowNumbers). s.windows) w.sums-is ∙ (w.move_box.ensures.windows ∙ inv.windows)
        | else-has w ↦ ap (λ (s : WindowNumbers). s.windows) w.sums-is ∙ inv.windows
      ];
      drawn = elim c.if-has.branch [
        | then-has w ↦ ap (λ (s : WindowNumbers). s.drawn) w.sums-is ∙ (w.move_box.ensures.drawn ∙ inv.drawn)
        | else-has w ↦ ap (λ (s : WindowNumbers). s.drawn) w.sums-is ∙ inv.drawn
      ];
      total = elim c.if-has.branch [
        | then-has w ↦
            let moved = subst (λ (v : Grid). IsMovedBy c.args.boxes.now.way (window_area (squares w.box_of.result) v) v c.loop-i.sums.total w.move_box.new.self.total) inv.windows w.move_box.ensures.total in
            let box = subst (λ (f : ℕ → ℕ → ℕ). IsMovedBy c.args.boxes.now.way f g c.loop-i.sums.total w.move_box.new.self.total) (box_area r fill g i j w.box_of.result (sym has ∙ w.if-has.true) (rw (c.loop-i.i-is, read_is j c.ranges.j) at w.box_of.ensures.squares)) moved in
            subst (λ (s : WindowNumbers). IsMovedBy c.args.boxes.now.way (all_of (λ k. taken_at r fill g k j) p.start (i +ℤ pos 1)) g old s.total) (sym w.sums-is)
            (next_moved c.args.boxes.now.way (λ k. taken_at r fill g k j) g p.start i old c.loop-i.sums.total w.move_box.new.self.total inv.from inv.total box)
        | else-has w ↦
            subst (λ (s : WindowNumbers). IsMovedBy c.args.boxes.now.way (all_of (λ k. taken_at r fill g k j) p.start (i +ℤ pos 1)) g old s.total) (sym w.sums-is)
            (next_passed c.args.boxes.now.way (λ k. taken_at r fill g k j) g p.start i old c.loop-i.sums.total inv.from inv.total (no_box r fill g i j (sym has ∙ w.if-has.false)))
      ];
    })

pub returns-clause-total : goal.returns-clause-total
returns-clause-total c =
    let p = c.args.columns.now in
    let right : FitsSigned w64 p.end = search rules in
    let inv = rw (c.loop-i.i-is, read_is c.args.j c.ranges.j) at c.loop-i.invariant in
    let past = not_lt c.loop-i.i p.end (rw (c.loop-i.i-is, read_is p.end right) at c.loop-i-test.false) in
    all_passed c.args.boxes.now.way (λ i. taken_at c.args.boxes.now.raster (is_moved c.args.boxes.now.moved) c.args.sums.now.windows i c.args.j) c.args.sums.now.windows p.start c.loop-i.i p.end c.args.sums.now.total c.loop-i.sums.total inv.to past inv.total
