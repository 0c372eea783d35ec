use Rattle.fill_text.specs.ValuesOfRules.{values_of}
use Rattle.book_tests.proofs.book.run.Given as goal

abbrev pub ghosts-play-C-Ledger : goal.ghosts-play-C-Ledger
ghosts-play-C-Ledger g a = record { name = a.calls.name; parts = a.calls.parts }

abbrev pub ghosts-play-C-Opened : goal.ghosts-play-C-Opened
ghosts-play-C-Opened g a = record { terms = record { rules = values_of a.case.rules; opening = a.case.opening.metal; existing = a.case.opening.fill; keep = a.case.opening.keep; most = a.most } }

abbrev pub ghosts-play-P-Ledger : goal.ghosts-play-P-Ledger
ghosts-play-P-Ledger g a = record { name = a.placed.name; parts = a.placed.parts }

abbrev pub ghosts-play-W-Ledger : goal.ghosts-play-W-Ledger
ghosts-play-W-Ledger g a = record { name = a.withdrawn.name; parts = a.withdrawn.parts }
