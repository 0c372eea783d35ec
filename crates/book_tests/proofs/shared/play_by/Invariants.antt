use Rattle.fill_text.specs.ValuesOfRules.{values_of}
use Rattle.book_tests.proofs.shared.play_by.Given as goal

abbrev pub ghosts-open_and_play-C-Ledger : goal.ghosts-open_and_play-C-Ledger
ghosts-open_and_play-C-Ledger g a = record { name = a.calls.name; parts = a.calls.parts }

abbrev pub ghosts-open_and_play-C-Opened : goal.ghosts-open_and_play-C-Opened
ghosts-open_and_play-C-Opened g a = record { terms = record { rules = values_of a.rules; opening = a.opening.metal; existing = a.opening.fill; keep = a.opening.keep; most = a.most } }

abbrev pub ghosts-open_and_play-P-Ledger : goal.ghosts-open_and_play-P-Ledger
ghosts-open_and_play-P-Ledger g a = record { name = a.placed.name; parts = a.placed.parts }

abbrev pub ghosts-open_and_play-W-Ledger : goal.ghosts-open_and_play-W-Ledger
ghosts-open_and_play-W-Ledger g a = record { name = a.withdrawn.name; parts = a.withdrawn.parts }
