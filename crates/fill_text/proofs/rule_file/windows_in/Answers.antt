use Rattle.std.proofs.Common.{◌≡◌, ◌∙◌, ap, rules}
use Rattle.fill_base.proofs.Signed.{read, read_is}
use Rattle.fill_area.proofs.GridTests.{all_clip}
use Rattle.fill_text.specs.Grids.{grid_with}
use Rattle.fill_text.specs.Rules.{number_in}
use Rattle.fill_text.specs.declared.keys.NumberKey.TheVariants.{WinX, WinY, WinW, WinH, WinStepX, WinStepY}
use Rattle.fill_text.proofs.GridTests.{grid_kept, grids_same}
use Rattle.fill_text.proofs.rule_file.windows_in.Goals as goal

pub returns : goal.returns
returns c =
    let x : read c.value.result ≡ number_in c.args.numbers.now.values WinX = read_is c.value.result (search rules) ∙ c.value.ensures in
    let y : read c.value-2.result ≡ number_in c.args.numbers.now.values WinY = read_is c.value-2.result (search rules) ∙ c.value-2.ensures in
    let w : read c.value-3.result ≡ number_in c.args.numbers.now.values WinW = read_is c.value-3.result (search rules) ∙ c.value-3.ensures in
    let h : read c.value-4.result ≡ number_in c.args.numbers.now.values WinH = read_is c.value-4.result (search rules) ∙ c.value-4.ensures in
    let s : read c.value-5.result ≡ number_in c.args.numbers.now.values WinStepX = read_is c.value-5.result (search rules) ∙ c.value-5.ensures in
    let t : read c.value-6.result ≡ number_in c.args.numbers.now.values WinStepY = read_is c.value-6.result (search rules) ∙ c.value-6.ensures in
    c.ok.ensures.value ∙ grid_kept _ c.new.result all_clip c.new.ensures.ok c.new.ensures.grid
    ∙ ap grid_with (grids_same _ _ _ _ _ _ _ _ _ _ _ _ _ _ _ _ x y w h s t c.window_columns.ensures c.window_rows.ensures)
