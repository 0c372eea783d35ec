use Rattle.std.proofs.Common.{◌≡◌, ◌∙◌, pos, rules}
use Rattle.fill_base.proofs.Signed.{read, read_is}
use Rattle.fill_text.specs.ValuesOfChips.{chip_values}
use Rattle.fill_text.proofs.Chips.{rows_written}
use Rattle.fill_text.proofs.chip.ChipRules.numbers_with.Goals as goal

pub returns : goal.returns
returns c =
    let rows = c.args.rows in
    let bottom : read rows.bottom ≡ rows.bottom = read_is rows.bottom (search rules) in
    let top : read rows.top ≡ rows.top = read_is rows.top (search rules) in
    let first : read rows.first_window ≡ rows.first_window = read_is rows.first_window (search rules) in
    let windows : read c.from.result ≡ pos rows.windows = read_is c.from.result (search rules) ∙ c.from.ensures in
    rw (c.with_value-4.ensures, c.with_value-3.ensures, c.with_value-2.ensures, c.with_value.ensures, bottom, top, first, windows)
    (rows_written (chip_values c.args.self.now) rows (search rules))
