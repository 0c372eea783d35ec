use Rattle.densfill_io.specs.Taps.{under}
use Rattle.fill_text.specs.ValuesOfChips.{chip_values}
use Rattle.densfill_engine.proofs.Reasons.{chip_taken}
use Rattle.densfill_engine.proofs.inputs.take_chip_rules.Goals as goal

pub returns-clause-rules : goal.returns-clause-rules
returns-clause-rules g c =
    chip_taken (g.R.Read.remaining (under c.args.tap.now)) c.in_ok-text.text.items (chip_values c.in_ok-rules.rules) c.in_ok-text.text.len
    c.in_ok-text.ensures.bytes c.in_ok-text.text.ok.0 c.in_ok-text.ensures.short (rw c.deref.ensures.value at c.in_ok-rules.ensures)
