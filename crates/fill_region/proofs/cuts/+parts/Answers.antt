use Rattle.std.proofs.Common.{sym}
use Rattle.std.proofs.lemmas.Result.{IfOk-weaker, IfOk-at_ok}
use Rattle.fill_region.specs.Operands.{wanted}
use Rattle.fill_region.specs.Steps.{before, behind}
use Rattle.fill_region.proofs.Members.{runs_alike}
use Rattle.fill_region.proofs.cuts.+parts.Goals as goal

pub returns : goal.returns
returns g t c =
    let one = runs_alike (before c.in-Cut.line (wanted c.args.operands)) (wanted c.in_ok-before.before) c.in_ok-first.first.items (λ x y. sym (c.in_ok-before.ensures x y)) (IfOk-at_ok _ c.in_ok-first.was c.join-first.ensures.first) in
    let two = runs_alike (behind c.in-Cut.line (wanted c.args.operands)) (wanted c.in_ok-behind.behind) c.in_ok-second.second.items (λ x y. sym (c.in_ok-behind.ensures x y)) (IfOk-at_ok _ c.in_ok-second.was c.join-first.ensures.second) in
    IfOk-weaker c.joined.result _ _ (λ v h. h (wanted c.args.operands) one two) c.joined.ensures
