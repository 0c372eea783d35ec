use Rattle.std.proofs.Common.{refl}
use Rattle.fill_parts.proofs.Chipping.{bottom_line, high_edge, low_edge, top_line}
use Rattle.fill_parts.proofs.chip.frame_lines.Goals as goal

pub returns-clause-begins : goal.returns-clause-begins
returns-clause-begins c =
    rw c.if-not-ignores.false (bottom_line c.args.windows c.args.places.low c.max.result c.extent-begin.result.0 c.extent-begin.result.1 _ _ (low_edge c.args.places c.requires.places) c.extent-begin.ensures refl c.max.ensures.value).is

pub returns-clause-ends : goal.returns-clause-ends
returns-clause-ends c =
    rw c.if-not-ignores.false (top_line c.args.windows c.args.places.high c.min.result c.extent-end.result.0 c.extent-end.result.1 _ _ (high_edge c.args.places c.requires.places) c.extent-end.ensures refl c.min.ensures.value).is

pub returns-clause-bottom : goal.returns-clause-bottom
returns-clause-bottom c =
    (bottom_line c.args.windows c.args.places.low c.max.result c.extent-begin.result.0 c.extent-begin.result.1 _ _ (low_edge c.args.places c.requires.places) c.extent-begin.ensures refl c.max.ensures.value).coordinate

pub returns-clause-top : goal.returns-clause-top
returns-clause-top c =
    (top_line c.args.windows c.args.places.high c.min.result c.extent-end.result.0 c.extent-end.result.1 _ _ (high_edge c.args.places c.requires.places) c.extent-end.ensures refl c.min.ensures.value).coordinate
