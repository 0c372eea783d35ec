use Rattle.fill_text.specs.ValuesOfRules.{values_of}
use Rattle.book_tests.proofs.sums.both_books_agree.Given as goal

abbrev pub ghosts-both-C-Ledger : goal.ghosts-both-C-Ledger
ghosts-both-C-Ledger g a = record { name = a.plain.calls.name; parts = a.plain.calls.parts }

abbrev pub ghosts-both-C-Opened : goal.ghosts-both-C-Opened
ghosts-both-C-Opened g a = record { terms = record { rules = values_of a.plain.rules; opening = a.plain.opening.metal; existing = a.plain.opening.fill; keep = a.plain.opening.keep; most = 1000 } }

abbrev pub ghosts-both-P-Ledger : goal.ghosts-both-P-Ledger
ghosts-both-P-Ledger g a = record { name = a.plain.placed.name; parts = a.plain.placed.parts }

abbrev pub ghosts-both-W-Ledger : goal.ghosts-both-W-Ledger
ghosts-both-W-Ledger g a = record { name = a.plain.withdrawn.name; parts = a.plain.withdrawn.parts }

abbrev pub ghosts-both-D-Ledger : goal.ghosts-both-D-Ledger
ghosts-both-D-Ledger g a = record { name = a.running.calls.name; parts = a.running.calls.parts }

abbrev pub ghosts-both-D-Opened : goal.ghosts-both-D-Opened
ghosts-both-D-Opened g a = record { terms = record { rules = values_of a.running.rules; opening = a.running.opening.metal; existing = a.running.opening.fill; keep = a.running.opening.keep; most = 1000 } }

abbrev pub ghosts-both-Q-Ledger : goal.ghosts-both-Q-Ledger
ghosts-both-Q-Ledger g a = record { name = a.running.placed.name; parts = a.running.placed.parts }

abbrev pub ghosts-both-X-Ledger : goal.ghosts-both-X-Ledger
ghosts-both-X-Ledger g a = record { name = a.running.withdrawn.name; parts = a.running.withdrawn.parts }
