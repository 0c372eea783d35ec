-- What the book of a fill is opened with.
use Rattle.std.proofs.Common.{◌^◌}
use Rattle.fill_text.specs.ValuesOfRules.{values_of}
use Rattle.densfill_engine.proofs.fill.fill_design.Given as goal

abbrev pub ghosts-fill_by_many-C-Ledger : goal.ghosts-fill_by_many-C-Ledger
ghosts-fill_by_many-C-Ledger g a = record { name = a.ledgers.calls.name; parts = a.ledgers.calls.parts }

abbrev pub ghosts-fill_by_many-C-Opened : goal.ghosts-fill_by_many-C-Opened
ghosts-fill_by_many-C-Opened g a = record { terms = record { rules = values_of a.task.view.rules; opening = a.task.design.metal; existing = a.task.design.fill; keep = a.task.design.keep; most = 2 ^ 32 } }

abbrev pub ghosts-fill_by_many-P-Ledger : goal.ghosts-fill_by_many-P-Ledger
ghosts-fill_by_many-P-Ledger g a = record { name = a.ledgers.placed.name; parts = a.ledgers.placed.parts }

abbrev pub ghosts-fill_by_many-W-Ledger : goal.ghosts-fill_by_many-W-Ledger
ghosts-fill_by_many-W-Ledger g a = record { name = a.ledgers.withdrawn.name; parts = a.ledgers.withdrawn.parts }

abbrev pub ghosts-fill_alone-C-Ledger : goal.ghosts-fill_alone-C-Ledger
ghosts-fill_alone-C-Ledger g a = record { name = a.ledgers.calls.name; parts = a.ledgers.calls.parts }

abbrev pub ghosts-fill_alone-C-Opened : goal.ghosts-fill_alone-C-Opened
ghosts-fill_alone-C-Opened g a = record { terms = record { rules = values_of a.view.rules; opening = a.design.metal; existing = a.design.fill; keep = a.design.keep; most = 2 ^ 32 } }

abbrev pub ghosts-fill_alone-P-Ledger : goal.ghosts-fill_alone-P-Ledger
ghosts-fill_alone-P-Ledger g a = record { name = a.ledgers.placed.name; parts = a.ledgers.placed.parts }

abbrev pub ghosts-fill_alone-W-Ledger : goal.ghosts-fill_alone-W-Ledger
ghosts-fill_alone-W-Ledger g a = record { name = a.ledgers.withdrawn.name; parts = a.ledgers.withdrawn.parts }
