use Rattle.std.proofs.Common.{◌∙◌, ap, ◌≤◌, ◌-◌, arith}
use Rattle.fill_base.proofs.Signed.{read, read_is}
use Rattle.fill_area.proofs.Axes.{end_is, end_fits}
use Rattle.fill_area.proofs.axis.Axis.last_end.Goals as goal

pub overflow_add-result-2 : goal.overflow_add-result-2
overflow_add-result-2 c = (end_is c.args.self.first c.args.self.length c.args.self.step c.from.result (c.args.self.count - 1) c.requires.first c.requires.length c.requires.step (let most : c.args.self.count ≤ 1048576 = c.requires.count.most in omega arith) c.from.ensures).0

pub returns : goal.returns
returns c =
    let few : c.args.self.count - 1 ≤ 1048576 = let most : c.args.self.count ≤ 1048576 = c.requires.count.most in omega arith in
    ap read (end_is c.args.self.first c.args.self.length c.args.self.step c.from.result (c.args.self.count - 1) c.requires.first c.requires.length c.requires.step few c.from.ensures).1
    ∙ read_is _ (end_fits c.args.self.first c.args.self.length (c.args.self.count - 1) c.args.self.step c.requires.first c.requires.length few c.requires.step)
