use Rattle.fill_parts.proofs.Chipping.{both_pass, first_passes_alone, none_pass, second_passes}
use Rattle.fill_parts.proofs.chip.joined.Goals as goal

pub returns-then-level : goal.returns-then-level
returns-then-level c = λ p h. none_pass p c.args.count c.args.own.start c.args.own.end c.args.level.start c.args.level.end c.if-own.true c.if-level.true h

pub returns-then-own : goal.returns-then-own
returns-then-own c = λ p h. second_passes p c.args.count c.args.own.start c.args.own.end c.args.level.start c.args.level.end c.if-own.true c.if-level.false c.requires.level h

pub returns-then-level-2 : goal.returns-then-level-2
returns-then-level-2 c = λ p h. first_passes_alone p c.args.count c.args.own.start c.args.own.end c.args.level.start c.args.level.end c.if-own.false c.requires.own c.if-level-2.true h

pub returns : goal.returns
returns c = λ p h.
    both_pass p c.args.count c.args.own.start c.args.own.end c.args.level.start c.args.level.end c.min.result c.max.result c.if-own.false c.if-level-2.false c.requires.own c.requires.level
    c.min.ensures c.max.ensures h
