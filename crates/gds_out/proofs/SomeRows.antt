-- The text of places in some rows alone.
use Rattle.std.proofs.Common.{ap, List, ◌∷◌, [], ◌++◌, ℕ}
use Rattle.std.specs.List.{flat_map}
use Rattle.gds_record.specs.Records.{spelling}
use Rattle.fill_text.specs.Rules.{Values, raster_of}
use Rattle.fill_stacks.specs.declared.pieces.Stack.{Stack}
use Rattle.fill_stacks.proofs.SomeRows.{some_rows}
use Rattle.gds_out.specs.FillText.{cell_records, head_records, padded, rec, stack_records}
use Rattle.gds_out.specs.Laws.{TextOfSomeRows}

-- the text by its stacks
abbrev text_by : List ℕ → List ℕ → Values → List Stack → List ℕ
text_by units dates v ss =
    flat_map spelling (head_records units dates v ++ (cell_records dates v ++ ((rec 0x05 0x02 dates ∷ rec 0x06 0x06 (padded v.fill_top)
    ∷ (flat_map (stack_records v.fill_cell (raster_of v.numbers)) ss ++ rec 0x07 0x00 [] ∷ [])) ++ rec 0x04 0x00 [] ∷ [])))

pub text_alone : TextOfSomeRows
text_alone values rows units dates filled are = ap (text_by units dates values) (some_rows filled _ _ are)
