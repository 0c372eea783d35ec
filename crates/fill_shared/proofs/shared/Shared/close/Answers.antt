use Rattle.std.proofs.Common.{arith, ◌≡◌, ◌≤◌}
use Rattle.std.proofs.lemmas.Grind.{common_steps}
use Rattle.fill_shared.specs.Passes.{parts_of}
use Rattle.fill_shared.proofs.Points.{counted_all}
use Rattle.fill_shared.proofs.shared.Shared.close.Goals as goal

pub returns-clause-counted : goal.returns-clause-counted
returns-clause-counted g c =
    let account = g.B.FillBook.account in
    let sum : c.join_all-pass.result.parts ≡ parts_of c.args.passes.items = grind (arith, common_steps) in
    let enough : 1024 ≤ parts_of c.args.passes.items = grind arith in
    let joined = c.join_all-pass.ensures in
    counted_all (account c.into_inner-book.result) (account c.join_all-pass.new.book) c.join_all-pass.result joined.keeping joined.same (omega arith) joined.whole
