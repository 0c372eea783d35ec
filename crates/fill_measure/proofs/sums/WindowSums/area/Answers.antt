use Rattle.std.proofs.Common.{pos}
use mir.ValLaws.{SFits-prop}
use Rattle.std.proofs.Math.Logic.{∥∥₁_elim}
use Rattle.fill_measure.proofs.Windowing.{above_fits, left_uniform, lower_uniform, right_uniform, upper_uniform, window_at}
use Rattle.fill_measure.proofs.sums.WindowSums.area.Goals as goal

pub below-requires-clause-uniform_across : goal.below-requires-clause-uniform_across
below-requires-clause-uniform_across c = right_uniform c.args.self.now c.args.a c.index.result.now c.requires.column c.index.ensures

pub below-requires-clause-uniform_up : goal.below-requires-clause-uniform_up
below-requires-clause-uniform_up c = upper_uniform c.args.self.now c.args.b c.index-2.result.now c.requires.row c.index-2.ensures

pub below-requires-2-clause-uniform_across : goal.below-requires-2-clause-uniform_across
below-requires-2-clause-uniform_across c = left_uniform c.args.self.now c.args.a c.index.result.now c.requires.column c.index.ensures

pub below-requires-2-clause-uniform_up : goal.below-requires-2-clause-uniform_up
below-requires-2-clause-uniform_up c = upper_uniform c.args.self.now c.args.b c.index-2.result.now c.requires.row c.index-2.ensures

pub below-requires-3-clause-uniform_across : goal.below-requires-3-clause-uniform_across
below-requires-3-clause-uniform_across c = right_uniform c.args.self.now c.args.a c.index.result.now c.requires.column c.index.ensures

pub below-requires-3-clause-uniform_up : goal.below-requires-3-clause-uniform_up
below-requires-3-clause-uniform_up c = lower_uniform c.args.self.now c.args.b c.index-2.result.now c.requires.row c.index-2.ensures

pub below-requires-4-clause-uniform_across : goal.below-requires-4-clause-uniform_across
below-requires-4-clause-uniform_across c = left_uniform c.args.self.now c.args.a c.index.result.now c.requires.column c.index.ensures

pub below-requires-4-clause-uniform_up : goal.below-requires-4-clause-uniform_up
below-requires-4-clause-uniform_up c = lower_uniform c.args.self.now c.args.b c.index-2.result.now c.requires.row c.index-2.ensures

pub overflow_sub-result : goal.overflow_sub-result
overflow_sub-result c =
    let sums = c.args.self.now in
    ∥∥₁_elim sums.measured (SFits-prop _ _) (λ x. (window_at x.0 sums c.args.a c.args.b c.index.result.now c.index-2.result.now c.below.result c.below-2.result c.below-3.result c.below-4.result c.requires.column c.requires.row c.index.ensures c.index-2.ensures
    (c.below.ensures x.0 x.1 (pos 0)) (c.below-2.ensures x.0 x.1 (pos 0)) (c.below-3.ensures x.0 x.1 (pos 0)) (c.below-4.ensures x.0 x.1 (pos 0))).1.0)

pub overflow_sub-below : goal.overflow_sub-below
overflow_sub-below c =
    let sums = c.args.self.now in
    ∥∥₁_elim sums.measured (SFits-prop _ _) (λ x. (window_at x.0 sums c.args.a c.args.b c.index.result.now c.index-2.result.now c.below.result c.below-2.result c.below-3.result c.below-4.result c.requires.column c.requires.row c.index.ensures c.index-2.ensures
    (c.below.ensures x.0 x.1 (pos 0)) (c.below-2.ensures x.0 x.1 (pos 0)) (c.below-3.ensures x.0 x.1 (pos 0)) (c.below-4.ensures x.0 x.1 (pos 0))).0.1)

pub overflow_sub-above : goal.overflow_sub-above
overflow_sub-above c =
    let sums = c.args.self.now in
    ∥∥₁_elim sums.measured (SFits-prop _ _) (λ x. above_fits x.0 sums c.args.a c.args.b c.index.result.now c.index-2.result.now c.below.result c.below-2.result c.requires.column c.requires.row c.index.ensures c.index-2.ensures
    (c.below.ensures x.0 x.1 (pos 0)) (c.below-2.ensures x.0 x.1 (pos 0)))

pub returns : goal.returns
returns c =
    let sums = c.args.self.now in
    record {
      is = λ p are. (window_at p sums c.args.a c.args.b c.index.result.now c.index-2.result.now c.below.result c.below-2.result c.below-3.result c.below-4.result c.requires.column c.requires.row c.index.ensures c.index-2.ensures
          (c.below.ensures p are (pos 0)) (c.below-2.ensures p are (pos 0)) (c.below-3.ensures p are (pos 0)) (c.below-4.ensures p are (pos 0))).1.1;
    }
