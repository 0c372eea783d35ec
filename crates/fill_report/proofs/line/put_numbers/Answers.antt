use Rattle.std.proofs.Common.{◌∙◌, ap, rules, pos, get_or, w64, FitsSigned}
use Rattle.std.specs.Fmt.{signed_decimal}
use Rattle.fill_base.proofs.Signed.{read_is}
use Rattle.fill_report.proofs.Plain.{numbers_plain_more, field_more}
use Rattle.fill_report.proofs.line.put_numbers.Goals as goal

pub loop-n-preserved : goal.loop-n-preserved
loop-n-preserved c =
    let n = get_or c.args.numbers.now c.loop-n.n-index (pos 0) in
    let fits : FitsSigned w64 n = search rules in
    record {
      fields = field_more _ _ _ c.args.numbers.now c.loop-n.n-index (pos 0) _ _ c.loop-n-test.true c.loop-n.invariant.fields c.loop-n.invariant.partial
          (c.as_bytes.ensures.value ∙ (c.format.ensures.text ∙ ap signed_decimal (read_is n fits))) c.in_ok-push_field.ensures.fields;
      partial = c.in_ok-push_field.ensures.partial;
      plain = numbers_plain_more c.args.numbers.now c.loop-n.n-index (pos 0) c.loop-n-test.true fits c.loop-n.invariant.plain;
    }
