use Rattle.std.proofs.Common.{subst, ap, ◌∙◌, arith}
use Rattle.gds_record.specs.declared.records.RecordError.TheVariants.{Truncated, BadLength}
use Rattle.gds_record.specs.Reading.{Gives, at_front, record_at}
use Rattle.gds_record.proofs.Spellings.{is_found, at_again, at_bad, at_short, refused}
use Rattle.gds_record.proofs.records.next_record.Goals as goal

pub returns-clause-found : goal.returns-clause-found
returns-clause-found c = is_found c.args.bytes.now c.split_record.result (λ i. omega (arith, c.type_inv.bytes i)) c.split_record.ensures

pub returns-clause-only : goal.returns-clause-only
returns-clause-only c = λ r rest fits e. subst (λ read. Gives at_front c.split_record.result read) (ap record_at e ∙ at_again r rest fits) c.split_record.ensures

pub returns-clause-bad_length : goal.returns-clause-bad_length
returns-clause-bad_length c =
    let p = refused _ at_front c.split_record.result (record_at c.args.bytes.now) BadLength c.split_record.ensures in
    let q = at_bad c.args.bytes.now in
    (λ h. q.0 (p.0 h), λ h. p.1 (q.1 h))

pub returns-clause-truncated : goal.returns-clause-truncated
returns-clause-truncated c =
    let p = refused _ at_front c.split_record.result (record_at c.args.bytes.now) Truncated c.split_record.ensures in
    let q = at_short c.args.bytes.now in
    (λ h. q.0 (p.0 h), λ h. p.1 (q.1 h))
