use Rattle.std.proofs.Common.{◌≡◌, ◌∙◌, sym, arith, false, Some, None}
use Rattle.densfill_args.specs.Grammar.{is_signed}
use Rattle.densfill_args.proofs.Parts.{plain_is}
use Rattle.densfill_args.proofs.Saying.{number_read, number_unread}
use Rattle.densfill_args.proofs.part.plain_number.Goals as goal

pub returns-in-Ok : goal.returns-in-Ok
returns-in-Ok c =
    let plain : is_signed c.args.text.now ≡ false = sym (c.starts_with.ensures.byte (omega arith) (omega arith) (λ w o h. h)) ∙ c.if-starts_with.false in
    plain_is c.args.text.now (Some c.in-Ok.number) plain (number_read c.args.text.now c.in-Ok.number c.in-Ok.ensures.value.0.0 c.in-Ok.ensures.value.0.1)

pub returns-in-Err : goal.returns-in-Err
returns-in-Err c =
    let plain : is_signed c.args.text.now ≡ false = sym (c.starts_with.ensures.byte (omega arith) (omega arith) (λ w o h. h)) ∙ c.if-starts_with.false in
    plain_is c.args.text.now None plain (number_unread c.args.text.now c.in-Err.ensures.value.0)
