use Rattle.std.proofs.Common.{◌≡◌, ◌∙◌, refl, rules}
use Rattle.fill_base.proofs.Signed.{read, read_is}
use Rattle.fill_text.specs.Rules.{number_in}
use Rattle.fill_text.specs.declared.keys.NumberKey.TheVariants.{BoxW, BoxH, StepX, StepY, FillSpacing}
use Rattle.fill_text.proofs.RasterTests.{sum_fits}
use Rattle.fill_text.proofs.rules.Numbers.keeps_pitch.Goals as goal

pub overflow_add-across : goal.overflow_add-across
overflow_add-across c =
    let numbers = c.args.self.now in
    let s : read c.value-spacing.result ≡ number_in numbers.values FillSpacing = read_is c.value-spacing.result (search rules) ∙ c.value-spacing.ensures in
    let w : read c.value.result ≡ number_in numbers.values BoxW = read_is c.value.result (search rules) ∙ c.value.ensures in
    rw (w, s) (sum_fits _ _ (numbers.low BoxW) (numbers.high BoxW) (numbers.low FillSpacing) (numbers.high FillSpacing))

pub overflow_add-up : goal.overflow_add-up
overflow_add-up c =
    let numbers = c.args.self.now in
    let s : read c.value-spacing.result ≡ number_in numbers.values FillSpacing = read_is c.value-spacing.result (search rules) ∙ c.value-spacing.ensures in
    let h : read c.value-3.result ≡ number_in numbers.values BoxH = read_is c.value-3.result (search rules) ∙ c.value-3.ensures in
    rw (h, s) (sum_fits _ _ (numbers.low BoxH) (numbers.high BoxH) (numbers.low FillSpacing) (numbers.high FillSpacing))

pub returns : goal.returns
returns c =
    let numbers = c.args.self.now in
    let s : read c.value-spacing.result ≡ number_in numbers.values FillSpacing = read_is c.value-spacing.result (search rules) ∙ c.value-spacing.ensures in
    let w : read c.value.result ≡ number_in numbers.values BoxW = read_is c.value.result (search rules) ∙ c.value.ensures in
    let x : read c.value-2.result ≡ number_in numbers.values StepX = read_is c.value-2.result (search rules) ∙ c.value-2.ensures in
    let h : read c.value-3.result ≡ number_in numbers.values BoxH = read_is c.value-3.result (search rules) ∙ c.value-3.ensures in
    let y : read c.value-4.result ≡ number_in numbers.values StepY = read_is c.value-4.result (search rules) ∙ c.value-4.ensures in
    let across = read_is _ (sum_fits _ _ (numbers.low BoxW) (numbers.high BoxW) (numbers.low FillSpacing) (numbers.high FillSpacing)) in
    let up = read_is _ (sum_fits _ _ (numbers.low BoxH) (numbers.high BoxH) (numbers.low FillSpacing) (numbers.high FillSpacing)) in
    rw (s, w, x, h, y, across, up) refl
