use Rattle.std.proofs.Common.{sym}
use Rattle.gds_grammar.proofs.Bodies.{all_points}
use Rattle.gds_grammar.proofs.element.values.three_points.Goals as goal

pub returns-clause-value : goal.returns-clause-value
returns-clause-value c = rw (c.point.ensures.value, c.point-2.ensures.value, c.point-3.ensures.value, c.split_at-2.ensures.front, c.split_at-2.ensures.back, c.split_at.ensures.front, c.split_at.ensures.back) (sym (all_points c.args.xy.now c.requires))
