use Rattle.std.proofs.Common.{sym, ◌∙◌, ap, arith, true≢false}
use Rattle.fill_region.proofs.Searching.{begins_at}
use Rattle.fill_region.proofs.Stacking.{no_other_under}
use Rattle.fill_region.proofs.stacks.under.Goals as goal
use Rattle.fill_region.proofs.stacks.under.Goals.{else-k-row-via-then-k-row+else-stands_on, else-k-row-via-else-k-row}

pub returns-else-k-row-clause-none : goal.returns-else-k-row-clause-none
returns-else-k-row-clause-none c = λ one r among on.
    let found = begins_at c.args.row.now c.args.upper.now.x1 c.args.k c.requires.rising c.requires.place r among (on.left) in
    elim c.else-k-row.branch [
      | else-k-row-via-then-k-row+else-stands_on w ↦ no_other_under c.args.row.now w.index-row-k.result c.args.upper.now one (c.args.k, found.within, sym w.index-row-k.is) (ap (λ s. s.x1) w.index-row-k.is ∙ found.begins w.index-row-k.result)
          (λ here. true≢false (sym (w.stands_on.ensures.1 here) ∙ w.if-stands_on.false)) r among on
      | else-k-row-via-else-k-row w ↦ omega (arith, found.within, w.if-k-row.false)
    ]
