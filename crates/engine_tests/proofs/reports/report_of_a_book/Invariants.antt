use Rattle.fill_text.specs.ValuesOfRules.{values_of}
use Rattle.engine_tests.proofs.reports.report_of_a_book.Given as goal

abbrev pub ghosts-open_and_report-C-Ledger : goal.ghosts-open_and_report-C-Ledger
ghosts-open_and_report-C-Ledger g a = record { name = a.calls.name; parts = a.calls.parts }

abbrev pub ghosts-open_and_report-C-Opened : goal.ghosts-open_and_report-C-Opened
ghosts-open_and_report-C-Opened g a = record { terms = record { rules = values_of a.rules; opening = a.opening.metal; existing = a.opening.fill; keep = a.opening.keep; most = 100 } }

abbrev pub ghosts-open_and_report-P-Ledger : goal.ghosts-open_and_report-P-Ledger
ghosts-open_and_report-P-Ledger g a = record { name = a.placed.name; parts = a.placed.parts }

abbrev pub ghosts-open_and_report-W-Ledger : goal.ghosts-open_and_report-W-Ledger
ghosts-open_and_report-W-Ledger g a = record { name = a.withdrawn.name; parts = a.withdrawn.parts }
