use Rattle.std.proofs.Common.{ap, sym, ◌∙◌}
use Rattle.gds_record.specs.Reals.{bits_of}
use Rattle.gds_cells.specs.References.{turns_in}
use Rattle.gds_cells.proofs.Turns.{turns_read}
use Rattle.gds_cells.proofs.reference.turns_in.Goals as goal

pub returns-in-Some-clause-value : goal.returns-in-Some-clause-value
returns-in-Some-clause-value c =
    c.ok.ensures.value ∙ (turns_read (bits_of c.in-Some.bytes) c.quarter_turns.result c.quarter_turns.ensures.found c.quarter_turns.ensures.none ∙ ap turns_in (sym c.in-Some.is))
