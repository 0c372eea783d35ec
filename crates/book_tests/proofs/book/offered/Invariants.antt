use Rattle.fill_text.specs.ValuesOfRules.{values_of}
use Rattle.book_tests.proofs.book.offered.Given as goal

abbrev pub ghosts-offer-C-Ledger : goal.ghosts-offer-C-Ledger
ghosts-offer-C-Ledger g a = record { name = a.calls.name; parts = a.calls.parts }

abbrev pub ghosts-offer-C-Opened : goal.ghosts-offer-C-Opened
ghosts-offer-C-Opened g a = record { terms = record { rules = values_of a.rules; opening = a.opening.metal; existing = a.opening.fill; keep = a.opening.keep; most = 10 } }

abbrev pub ghosts-offer-P-Ledger : goal.ghosts-offer-P-Ledger
ghosts-offer-P-Ledger g a = record { name = a.placed.name; parts = a.placed.parts }

abbrev pub ghosts-offer-W-Ledger : goal.ghosts-offer-W-Ledger
ghosts-offer-W-Ledger g a = record { name = a.withdrawn.name; parts = a.withdrawn.parts }
