use Rattle.std.proofs.Common.{[], sym, ◌∙◌}
use Rattle.std.proofs.lemmas.Bool.{and_parts, ltb-true}
use Rattle.fill_base.proofs.Signed.{read32_is}
use Rattle.fill_bands.proofs.Stack.{last_before}
use Rattle.fill_bands.proofs.SweepTurns.{beside_turn, kept_second}
use Rattle.fill_bands.proofs.bands.put_turn.Goals as goal

pub returns-in_ok-push : goal.returns-in_ok-push
returns-in_ok-push c =
    let is = c.requires.beside c.if-beside.true in
    beside_turn c.args.operation c.args.a.now c.args.i c.args.b.now c.args.j c.args.out.now.items c.push.new.self.items c.args.at c.in_ok-row.row is
    (c.in_ok-row.ensures ∙ sym (last_before [] c.args.a.now c.args.i c.index-a-i.result is.some c.requires.first)) (rw (read32_is c.args.at c.ranges.at) at c.in_ok-push.ensures.items)

pub returns-in_ok-put_shared : goal.returns-in_ok-put_shared
returns-in_ok-put_shared c =
    let two = and_parts _ c.has_no_row.result c.if-j-keeps_second.true in
    let one = and_parts _ c.keeps_second.result two.0 in
    kept_second c.args.operation c.args.a.now c.args.b.now c.args.i c.args.j c.args.out.now.items c.put_shared.new.out.items c.args.at
    c.requires.region (ltb-true 0 c.args.j one.0) c.requires.second (c.has_no_row.ensures.0 two.1) (c.keeps_second.ensures one.1) (rw (read32_is c.args.at c.ranges.at) at c.in_ok-put_shared.ensures)
