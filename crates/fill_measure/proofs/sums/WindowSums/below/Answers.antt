use Rattle.std.proofs.Common.{◌≡◌, ◌+◌, ◌<◌, pos, get_or, arith}
use Rattle.std.proofs.Math.Logic.{∥∥₁_elim}
use Rattle.std.proofs.Props.{props}
use Rattle.fill_measure.proofs.Amid.{at_cut, below_grown, below_rises, below_small, gap_is, left_small, most_read, rises_read, some_read}
use Rattle.fill_measure.proofs.SumsAbove.{count_read}
use Rattle.fill_measure.specs.steps.Sides.{coordinate_of}
use Rattle.fill_measure.proofs.sums.WindowSums.below.Goals as goal

pub returns-then-row-eq0 : goal.returns-then-row-eq0
returns-then-row-eq0 c p are d =
    let sums = c.args.self.now in
    let none : c.args.row.past ≡ 0 = omega (arith, c.if-row-eq0.true) in
    rw (at_cut sums.up.items c.args.row d none)
    (count_read _ _ (c.left_of-count.ensures p are d) (left_small p sums.across.items sums.up.items c.args.column c.args.row.cut d sums.across_cuts sums.up_cuts c.requires.column c.requires.row.within))

pub grown-requires-clause-some : goal.grown-requires-clause-some
grown-requires-clause-some c =
    let sums = c.args.self.now in
    ∥∥₁_elim sums.measured (hlevel props) (λ x. some_read _ _ (c.left_of-count.ensures x.0 x.1 (pos 0))
    (left_small x.0 sums.across.items sums.up.items c.args.column c.args.row.cut (pos 0) sums.across_cuts sums.up_cuts c.requires.column c.requires.row.within))

pub grown-requires-clause-rising : goal.grown-requires-clause-rising
grown-requires-clause-rising c =
    let sums = c.args.self.now in
    let some : 0 < c.args.row.past = omega (arith, c.if-row-eq0.false) in
    let next = c.requires.row.next some in
    ∥∥₁_elim sums.measured (hlevel props) (λ x. rises_read _ _ _ _ (c.left_of-count.ensures x.0 x.1 (pos 0)) (c.left_of-next.ensures x.0 x.1 (pos 0))
    (below_rises x.0 sums.up.items (get_or sums.across.items 0 (pos 0)) (coordinate_of sums.across.items c.args.column (pos 0)) c.args.row.cut (pos 0) sums.up_cuts next)
    (left_small x.0 sums.across.items sums.up.items c.args.column (c.args.row.cut + 1) (pos 0) sums.across_cuts sums.up_cuts c.requires.column next))

pub grown-requires-clause-most : goal.grown-requires-clause-most
grown-requires-clause-most c =
    let sums = c.args.self.now in
    let some : 0 < c.args.row.past = omega (arith, c.if-row-eq0.false) in
    ∥∥₁_elim sums.measured (hlevel props) (λ x. most_read _ _ (c.left_of-next.ensures x.0 x.1 (pos 0))
    (left_small x.0 sums.across.items sums.up.items c.args.column (c.args.row.cut + 1) (pos 0) sums.across_cuts sums.up_cuts c.requires.column (c.requires.row.next some)))

pub returns : goal.returns
returns c p are d =
    let sums = c.args.self.now in
    let row = c.args.row in
    let some : 0 < c.args.row.past = omega (arith, c.if-row-eq0.false) in
    let next = c.requires.row.next some in
    count_read _ _ (below_grown p sums.up.items (get_or sums.across.items 0 d) (coordinate_of sums.across.items c.args.column d) row _ _ c.grown.result c.abs_diff-gap.result d sums.up_cuts c.requires.row some (c.requires.uniform_up some p are)
    (gap_is sums.up.items row.cut c.abs_diff-gap.result c.index.result.now c.index-2.result.now d sums.up_cuts next c.index.ensures c.index-2.ensures c.abs_diff-gap.ensures)
    (count_read _ _ (c.left_of-count.ensures p are d) (left_small p sums.across.items sums.up.items c.args.column row.cut d sums.across_cuts sums.up_cuts c.requires.column c.requires.row.within)) (count_read _ _ (c.left_of-next.ensures p are d) (left_small p sums.across.items sums.up.items c.args.column (row.cut + 1) d sums.across_cuts sums.up_cuts c.requires.column next)) c.grown.ensures)
    (below_small p sums.across.items sums.up.items c.args.column row d sums.across_cuts sums.up_cuts c.requires.column c.requires.row)
