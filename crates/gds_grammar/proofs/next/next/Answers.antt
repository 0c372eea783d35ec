use Rattle.std.proofs.Common.{List, ℕ, Result, Err, refl, sym, ap, ◌∙◌}
use Rattle.std.specs.Borrow.{Bor}
use Rattle.gds_record.specs.declared.records.Record.{Record}
use Rattle.gds_record.specs.declared.records.RecordError.{RecordError}
use Rattle.gds_record.specs.Records.{view}
use Rattle.gds_grammar.specs.declared.error.Cause.TheVariants as causes
use Rattle.gds_grammar.proofs.Paths.{fails_here, badly_formed}
use Rattle.gds_grammar.proofs.next.next.Goals as goal

abbrev failed : RecordError → Result (Record × Bor (List ℕ)) RecordError
failed e = Err e

pub returns-then-not-is_well-clause-refused : goal.returns-then-not-is_well-clause-refused
returns-then-not-is_well-clause-refused c = λ s open_state.
    rw c.refused.ensures (badly_formed c.args.bytes.now c.in-Ok.rest.now (view c.in-Ok.found) s open_state c.in-Ok.ensures.found.0 c.in-Ok.ensures.found.1 (sym c.is_well.ensures ∙ c.if-not-is_well.true))

pub returns-in-Err-Truncated-clause-refused : goal.returns-in-Err-Truncated-clause-refused
returns-in-Err-Truncated-clause-refused c = λ s open_state. fails_here c.args.bytes.now s causes.Truncated _ open_state refl (c.next_record.ensures.truncated.0 (c.in-Err-Truncated.is ∙ ap failed c.in-Err-Truncated.field-0-is))

pub returns-in-Err-BadLength-clause-refused : goal.returns-in-Err-BadLength-clause-refused
returns-in-Err-BadLength-clause-refused c = λ s open_state. fails_here c.args.bytes.now s causes.BadLength _ open_state refl (c.next_record.ensures.bad_length.0 (c.in-Err-BadLength.is ∙ ap failed c.in-Err-BadLength.field-0-is))
