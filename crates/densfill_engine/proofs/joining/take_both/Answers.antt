use Rattle.std.specs.Prelude.{is_some}
use Rattle.densfill_io.specs.Taps.{under}
use Rattle.fill_text.specs.ValuesOfChips.{chip_values}
use Rattle.densfill_engine.proofs.Joined.{both_taken, whole_values}
use Rattle.densfill_engine.proofs.joining.take_both.Goals as goal

pub returns-clause-rules : goal.returns-clause-rules
returns-clause-rules g c =
    both_taken (g.R.Read.remaining (under c.args.tap.now)) c.in_ok-text.text.items (chip_values c.in_ok-chip.chip) c.in_ok-text.text.len (is_some c.in-Ok.whole)
    c.in_ok-text.ensures.bytes c.in_ok-text.text.ok.0 c.in_ok-text.ensures.short (rw c.deref.ensures.value at c.in_ok-chip.ensures) (rw c.deref-2.ensures.value at c.in-Ok.ensures.some)

pub returns-clause-whole : goal.returns-clause-whole
returns-clause-whole g c = whole_values c.in-Ok.whole c.in_ok-text.text.items (chip_values c.in_ok-chip.chip) (rw c.deref.ensures.value at c.in_ok-chip.ensures) (rw c.deref-2.ensures.value at c.in-Ok.ensures.rules)
