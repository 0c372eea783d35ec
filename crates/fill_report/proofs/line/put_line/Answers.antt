use Rattle.std.proofs.Common.{◌≡◌, ◌++◌, ap, Some, List, ℕ}
use Rattle.fill_report.proofs.Plain.{line_more, ready_style}
use Rattle.fill_report.proofs.line.put_line.Goals as goal

pub returns-clause-text : goal.returns-clause-text
returns-clause-text c front so_far =
    let old : c.args.writer.now.wtr.inner.items ++ c.args.writer.now.wtr.buf ≡ front = cc in
    ap (λ (t : List ℕ). Some t) (line_more c.args.writer.now _ _ front c.args.numbers.now c.args.density _ _ _ _ _ c.requires.ready c.requires.some c.in_ok-put_numbers.ensures.plain
    c.clear.ensures.fields c.in_ok-put_numbers.ensures.fields c.in_ok-put_numbers.ensures.partial c.word.ensures c.in_ok-push_field.ensures.fields
    (c.in_ok-write_byte_record.ensures.bytes c.requires.ready.fields c.requires.ready.clean (ready_style c.args.writer.now c.requires.ready)) old)
