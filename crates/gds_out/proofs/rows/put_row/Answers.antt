use Rattle.std.proofs.Common.{◌≡◌, ◌<◌, arith, ◌∙◌, ap, pos, length, get_or}
use Rattle.fill_base.proofs.Signed.{read, read_is}
use Rattle.fill_raster.proofs.Ranges.{first_bounded, past_bounded}
use Rattle.fill_text.specs.ValuesOfRules.{values_of}
use Rattle.gds_out.specs.FillText.{stack_records}
use Rattle.fill_stacks.specs.declared.pieces.Counted.{Counted}
use Rattle.gds_out.specs.Strips.{sheet_raster}
use Rattle.gds_out.specs.declared.writer.Writer.{Writer}
use Rattle.gds_out.specs.steps.Ranges.{IsStackOf}
use Rattle.gds_out.specs.steps.Rows.{stack_of}
use Rattle.gds_out.proofs.RowStacks.{begun_all, begun_each, begun_none, begun_one, column_read}
use Rattle.gds_out.proofs.RuleAxes.{across_is}
use Rattle.gds_out.proofs.rows.put_row.Goals.{then-rows-eq0+in_ok-put_stack, else-rows-eq0}
use Rattle.gds_out.proofs.rows.put_row.Goals as goal

abbrev none : Counted
none = record { piece = record { start = pos 0; count = 0 }; rows = 0 }

pub put_stack-requires-clause-stack : goal.put_stack-requires-clause-stack
put_stack-requires-clause-stack c =
    let r = sheet_raster c.args.sheet.now in
    let across = across_is c.args.sheet.now.rules.now in
    let jr : read c.args.j ≡ c.args.j = read_is _ c.ranges.j in
    let same = c.requires.begun.count in
    let below : c.loop-k.k < length c.args.heights.now = omega (arith, same, c.loop-k-test.true) in
    let is = begun_each (IsStackOf r) c.args.j c.args.levels.now c.args.heights.now c.loop-k.k none 0 c.requires.begun.each c.loop-k-test.true below c.if-rows-eq0.true in
    let cr = column_read r (stack_of c.args.j (get_or c.args.levels.now c.loop-k.k none) (get_or c.args.heights.now c.loop-k.k 0)) (first_bounded r.across across).least (past_bounded r.across across).most is in
    rw (jr, cr) is

pub loop-k-preserved : goal.loop-k-preserved
loop-k-preserved c =
    let r = sheet_raster c.args.sheet.now in
    let f = stack_records (values_of c.args.sheet.now.rules.now).fill_cell r in
    let across = across_is c.args.sheet.now.rules.now in
    let jr : read c.args.j ≡ c.args.j = read_is _ c.ranges.j in
    let same = c.requires.begun.count in
    let below : c.loop-k.k < length c.args.heights.now = omega (arith, same, c.loop-k-test.true) in
    let inv = rw jr at c.loop-k.invariant in
    rw jr (elim c.if-rows-eq0.branch [
      | then-rows-eq0+in_ok-put_stack w ↦
          let is = begun_each (IsStackOf r) c.args.j c.args.levels.now c.args.heights.now c.loop-k.k none 0 c.requires.begun.each c.loop-k-test.true below w.if-rows-eq0.true in
          let cr = column_read r (stack_of c.args.j (get_or c.args.levels.now c.loop-k.k none) (get_or c.args.heights.now c.loop-k.k 0)) (first_bounded r.across across).least (past_bounded r.across across).most is in
          ap (λ (v : Writer). v.text.items) w.writer-is
          ∙ begun_one f c.args.j c.args.levels.now c.args.heights.now c.loop-k.k none 0 c.loop-k-test.true below _ _ _ inv w.if-rows-eq0.true (rw (jr, cr) at w.in_ok-put_stack.ensures)
      | else-rows-eq0 w ↦
          ap (λ (v : Writer). v.text.items) w.writer-is
          ∙ begun_none f c.args.j c.args.levels.now c.args.heights.now c.loop-k.k none 0 c.loop-k-test.true below _ _ inv w.if-rows-eq0.false
    ])

pub returns : goal.returns
returns c =
    let r = sheet_raster c.args.sheet.now in
    begun_all (stack_records (values_of c.args.sheet.now.rules.now).fill_cell r) c.args.j c.args.levels.now c.args.heights.now c.loop-k.k _ _ c.requires.begun.count (omega (arith, c.loop-k-test.false))
    (let jr : read c.args.j ≡ c.args.j = read_is _ c.ranges.j in rw jr at c.loop-k.invariant)
