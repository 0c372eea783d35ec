-- The report as the rules ask for it.
use Rattle.std.specs.Prelude.{ℤ, ℕ, Bool, List}
use Rattle.fill_text.specs.Rules.{Values, limits_of, windows_of}
use Rattle.fill_report.specs.Report.{report_text, nothing}

-- the report of a set of metal without fill, over the rules' windows and with their least and greatest density
abbrev pub metal_report : (ℤ → ℤ → Bool) → Values → List ℕ
metal_report metal values = report_text metal nothing (windows_of values) (limits_of values)
