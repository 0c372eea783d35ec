-- The report of a fill, as the rules ask for it.
use Rattle.std.specs.Prelude.{ℕ, List}
use Rattle.fill_text.specs.Rules.{Values, limits_of, windows_of}
use Rattle.fill_job.specs.Plans.{Plan, PointSet, plan_of}
use Rattle.fill_core.specs.Boxes.{with_boxes}
use Rattle.fill_report.specs.Report.{report_text, nothing}

-- the squares of the boxes of the filled places
abbrev pub boxes_of : Plan → PointSet → PointSet
boxes_of plan fill = with_boxes plan nothing fill

-- the report of a set of squares, what is drawn, and of the boxes of the filled places, over the rules' windows and with their least and
-- greatest density
abbrev pub fill_report : Values → PointSet → PointSet → List ℕ
fill_report values drawn fill = report_text drawn (boxes_of (plan_of values) fill) (windows_of values) (limits_of values)
