use Rattle.book_tests.proofs.events.three_callers_count_together.Given as goal

abbrev pub ghosts-three_callers-C-Ledger : goal.ghosts-three_callers-C-Ledger
ghosts-three_callers-C-Ledger g a = record { name = a.calls.name; parts = a.calls.parts }

abbrev pub ghosts-three_callers-P-Ledger : goal.ghosts-three_callers-P-Ledger
ghosts-three_callers-P-Ledger g a = record { name = a.placed.name; parts = a.placed.parts }

abbrev pub ghosts-three_callers-W-Ledger : goal.ghosts-three_callers-W-Ledger
ghosts-three_callers-W-Ledger g a = record { name = a.withdrawn.name; parts = a.withdrawn.parts }
