use Rattle.fill_area.proofs.Begun.{reckoned, begun_by_steps, begun_by_count}
use Rattle.fill_area.proofs.axis.Axis.begun_below.Goals as goal

pub returns-then-steps-from : goal.returns-then-steps-from
returns-then-steps-from c = begun_by_steps c.args.self.first c.args.self.length c.args.self.step c.args.limit c.args.self.count c.from.result c.div_ceil-steps.result
    (reckoned c.args.self.first c.args.self.step c.args.limit c.div_ceil-steps.result c.requires.first c.requires.step c.requires.limit c.if-limit-self.false c.div_ceil-steps.ensures) c.from.ensures c.if-steps-from.true

pub returns-else-steps-from : goal.returns-else-steps-from
returns-else-steps-from c = begun_by_count c.args.self.first c.args.self.length c.args.self.step c.args.limit c.args.self.count c.from.result c.div_ceil-steps.result
    (reckoned c.args.self.first c.args.self.step c.args.limit c.div_ceil-steps.result c.requires.first c.requires.step c.requires.limit c.if-limit-self.false c.div_ceil-steps.ensures) c.from.ensures c.if-steps-from.false
