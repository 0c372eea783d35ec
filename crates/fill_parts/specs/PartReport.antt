-- The lines of a part's windows.
use Rattle.std.specs.Prelude.{ℕ, ◌*◌, ◌-◌, List}
use Rattle.fill_area.specs.Grid.{Grid}
use Rattle.fill_text.specs.Rules.{Values, limits_of, windows_of}
use Rattle.fill_text.specs.declared.limits.Limits.{Limits}
use Rattle.fill_job.specs.Plans.{PointSet, plan_of}
use Rattle.fill_report.specs.BookReport.{boxes_of}
use Rattle.fill_report.specs.Report.{lines_from, measures_of, nothing}
use Rattle.fill_report.specs.declared.line.Measures.{Measures}
use Rattle.fill_parts.specs.Cuts.{Part, first_row, past_row}

-- the lines of the rows of windows from `low` on and below `high`
abbrev pub rows_lines : Grid → Limits → (ℕ → ℕ → Measures) → ℕ → ℕ → List ℕ
rows_lines g limits measures low high = lines_from g limits measures (low * g.across.count) ((high - low) * g.across.count)

-- the lines of a part's rows
abbrev pub part_lines : Grid → Limits → (ℕ → ℕ → Measures) → Part → List ℕ
part_lines g limits measures part = rows_lines g limits measures (first_row part g.up.count) (past_row part g.up.count)

-- the part of the report of a set of metal and of the boxes of the filled places
abbrev pub part_report : Values → PointSet → PointSet → Part → List ℕ
part_report values metal fill part =
    part_lines (windows_of values) (limits_of values) (measures_of metal (boxes_of (plan_of values) fill) (windows_of values)) part

-- the part of the report of a set of metal without fill
abbrev pub part_check : Values → PointSet → Part → List ℕ
part_check values metal part =
    part_lines (windows_of values) (limits_of values) (measures_of metal nothing (windows_of values)) part
