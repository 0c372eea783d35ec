use Rattle.std.proofs.Common.{◌≤ℤ◌, ◌+◌, get_or, arith, sym, subst}
use Rattle.fill_base.proofs.Signed.{read_is}
use Rattle.fill_cells.proofs.Gaps.{after_cut, cut_from}
use Rattle.fill_cells.proofs.shares.first_past.Goals as goal

pub gaps-preserved : goal.gaps-preserved
gaps-preserved c = (omega (arith, c.gaps-test.true), λ d some. subst (λ z. get_or c.args.cuts.now (c.gaps.first + 1) d ≤ℤ z) (sym (read_is c.args.lo c.ranges.lo)) (cut_from c.args.cuts.now c.args.lo c.gaps.first d c.requires.cuts c.ranges.lo c.gaps-test.true c.if-cuts-first.true))

pub returns-else-cuts-first-clause-first : goal.returns-else-cuts-first-clause-first
returns-else-cuts-first-clause-first c = λ k d. after_cut c.args.cuts.now c.args.lo c.gaps.first k d c.requires.cuts c.gaps.invariant.0 (rw (read_is c.args.lo c.ranges.lo) at c.gaps.invariant.1)

pub returns-after-gaps-clause-first : goal.returns-after-gaps-clause-first
returns-after-gaps-clause-first c = λ k d. after_cut c.args.cuts.now c.args.lo c.gaps.first k d c.requires.cuts c.gaps.invariant.0 (rw (read_is c.args.lo c.ranges.lo) at c.gaps.invariant.1)
