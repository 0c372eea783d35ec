use Rattle.std.proofs.Common.{◌≡◌, arith, length, vec_len}
use Rattle.std.proofs.lemmas.Grind.{common_steps}
use Rattle.fill_cells.proofs.Lists.{last_joined}
use Rattle.fill_cells.proofs.pieces.put.Goals as goal

pub returns-in_ok-push-in-Some : goal.returns-in_ok-push-in-Some
returns-in_ok-push-in-Some c =
    let count : vec_len c.args.list.now ≡ length c.args.list.now.items = grind (arith, common_steps) in
    last_joined c.args.list.now.items c.pop.new.self.items c.push.new.list.items c.args.piece c.in-Some.both (vec_len c.args.list.now)
    (rw c.deref.ensures.value at c.in-Some.ensures) count c.pop.ensures.rest c.in_ok-push-in-Some.ensures
