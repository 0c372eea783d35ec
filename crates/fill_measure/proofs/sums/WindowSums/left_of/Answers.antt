use Rattle.std.proofs.Common.{◌≡◌, ◌+◌, ◌<◌, pos, get_or, arith}
use Rattle.std.proofs.Math.Logic.{∥∥₁_elim}
use Rattle.std.proofs.Props.{props}
use Rattle.fill_measure.proofs.Amid.{at_cut, gap_is, left_grown, left_rises, left_small, most_read, rises_read, some_read}
use Rattle.fill_measure.proofs.SumsAbove.{block_small, count_read}
use Rattle.fill_measure.proofs.sums.WindowSums.left_of.Goals as goal

pub returns-then-column-eq0 : goal.returns-then-column-eq0
returns-then-column-eq0 c p are d =
    let sums = c.args.self.now in
    let none : c.args.column.past ≡ 0 = omega (arith, c.if-column-eq0.true) in
    rw (at_cut sums.across.items c.args.column d none)
    (count_read _ _ (c.number-count.ensures p are d) (block_small p sums.across.items sums.up.items 0 0 c.args.column.cut c.args.j d sums.across_cuts sums.up_cuts (omega arith) c.requires.column.within (omega arith) c.requires.cut))

pub grown-requires-clause-some : goal.grown-requires-clause-some
grown-requires-clause-some c =
    let sums = c.args.self.now in
    ∥∥₁_elim sums.measured (hlevel props) (λ x. some_read _ _ (c.number-count.ensures x.0 x.1 (pos 0))
    (block_small x.0 sums.across.items sums.up.items 0 0 c.args.column.cut c.args.j (pos 0) sums.across_cuts sums.up_cuts (omega arith) c.requires.column.within (omega arith) c.requires.cut))

pub grown-requires-clause-rising : goal.grown-requires-clause-rising
grown-requires-clause-rising c =
    let sums = c.args.self.now in
    let some : 0 < c.args.column.past = omega (arith, c.if-column-eq0.false) in
    let next = c.requires.column.next some in
    ∥∥₁_elim sums.measured (hlevel props) (λ x. rises_read _ _ _ _ (c.number-count.ensures x.0 x.1 (pos 0)) (c.number-next.ensures x.0 x.1 (pos 0))
    (left_rises x.0 sums.across.items (get_or sums.up.items 0 (pos 0)) (get_or sums.up.items c.args.j (pos 0)) c.args.column.cut (pos 0) sums.across_cuts next)
    (block_small x.0 sums.across.items sums.up.items 0 0 (c.args.column.cut + 1) c.args.j (pos 0) sums.across_cuts sums.up_cuts (omega arith) next (omega arith) c.requires.cut))

pub grown-requires-clause-most : goal.grown-requires-clause-most
grown-requires-clause-most c =
    let sums = c.args.self.now in
    let some : 0 < c.args.column.past = omega (arith, c.if-column-eq0.false) in
    ∥∥₁_elim sums.measured (hlevel props) (λ x. most_read _ _ (c.number-next.ensures x.0 x.1 (pos 0))
    (block_small x.0 sums.across.items sums.up.items 0 0 (c.args.column.cut + 1) c.args.j (pos 0) sums.across_cuts sums.up_cuts (omega arith) (c.requires.column.next some) (omega arith) c.requires.cut))

pub returns : goal.returns
returns c p are d =
    let sums = c.args.self.now in
    let column = c.args.column in
    let some : 0 < c.args.column.past = omega (arith, c.if-column-eq0.false) in
    let next = c.requires.column.next some in
    count_read _ _ (left_grown p sums.across.items (get_or sums.up.items 0 d) (get_or sums.up.items c.args.j d) column _ _ c.grown.result c.abs_diff-gap.result d sums.across_cuts c.requires.column some (c.requires.uniform some p are)
    (gap_is sums.across.items column.cut c.abs_diff-gap.result c.index.result.now c.index-2.result.now d sums.across_cuts next c.index.ensures c.index-2.ensures c.abs_diff-gap.ensures)
    (count_read _ _ (c.number-count.ensures p are d) (block_small p sums.across.items sums.up.items 0 0 column.cut c.args.j d sums.across_cuts sums.up_cuts (omega arith) c.requires.column.within (omega arith) c.requires.cut)) (count_read _ _ (c.number-next.ensures p are d) (block_small p sums.across.items sums.up.items 0 0 (column.cut + 1) c.args.j d sums.across_cuts sums.up_cuts (omega arith) next (omega arith) c.requires.cut)) c.grown.ensures)
    (left_small p sums.across.items sums.up.items column c.args.j d sums.across_cuts sums.up_cuts c.requires.column c.requires.cut)
