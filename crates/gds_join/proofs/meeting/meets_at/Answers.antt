use Rattle.std.proofs.Common.{ap, sym, ◌∙◌, ◌&&◌}
use Rattle.fill_base.proofs.Signed.{read_is}
use Rattle.fill_state.specs.Filling.{is_filled}
use Rattle.gds_join.specs.Fills.{filled_if}
use Rattle.gds_join.proofs.meeting.meets_at.Goals as goal

pub returns-in-Some-clause-no : goal.returns-in-Some-clause-no
returns-in-Some-clause-no c = λ e i between.
    let none = rw (read_is c.args.left c.ranges.left, read_is c.args.right c.ranges.right, read_is c.args.j c.ranges.j) at c.row_meets.ensures.no in
    ap (λ o. is_filled c.args.fill.now i c.args.j && filled_if o i c.args.j) (sym (rw (read_is c.args.j c.ranges.j) at c.in-Some.ensures)) ∙ none e i between
