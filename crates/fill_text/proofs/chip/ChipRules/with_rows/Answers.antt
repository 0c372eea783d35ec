use Rattle.std.proofs.Common.{◌≡◌, ◌∙◌, Bool, ℤ, List, Option, ap, refl}
use Rattle.fill_text.specs.Rules.{Values}
use Rattle.fill_text.specs.ValuesOfRules.{SameLayers, SameTexts, values_of}
use Rattle.fill_text.specs.declared.rules.AlsoLayers.{AlsoLayers}
use Rattle.fill_text.specs.declared.rules.Texts.{Texts}
use Rattle.fill_text.specs.steps.Entries.{checked}
use Rattle.fill_text.proofs.FirstFaults.{gives_seen}
use Rattle.fill_text.proofs.Given.{checked_given}
use Rattle.fill_text.proofs.chip.ChipRules.with_rows.Goals as goal

abbrev made_of : List ℤ → Texts → AlsoLayers → Option (ℤ × ℤ) → Bool → Values
made_of n t a keep ignores = record { numbers = n; top = t.top.items; fill_lib = t.fill_lib.items; fill_cell = t.fill_cell.items; fill_top = t.fill_top.items; keep = keep; also_metal = a.metal.items; also_fill = a.fill.items; also_keep = a.keep.items; ignores = ignores }

made_same : (n m : List ℤ) (t u : Texts) (a b : AlsoLayers) (keep : Option (ℤ × ℤ)) (ignores : Bool) → n ≡ m → SameTexts t u → SameLayers a b → made_of n t a keep ignores ≡ made_of m u b keep ignores
made_same n m t u a b keep ignores numbers texts also = rw (numbers, texts.top, texts.fill_lib, texts.fill_cell, texts.fill_top, also.metal, also.fill, also.keep) refl

pub returns : goal.returns
returns c =
    gives_seen _ values_of _ _ (c.checked.ensures ∙ ap checked (made_same _ _ _ _ _ _ _ _ c.numbers_with.ensures c.in_ok-copy.ensures c.in_ok-copy-2.ensures) ∙ checked_given _)
