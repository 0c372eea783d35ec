use Rattle.std.proofs.Common.{◌∙◌, refl, arith}
use Rattle.fill_shared.proofs.Turning.{none_yet, one_more, stopped}
use Rattle.fill_shared.proofs.worker.work.Goals as goal

pub loop-init : goal.loop-init
loop-init g c = record { parts = refl; calls = omega arith; answered = none_yet g.B.Calls.Opened.terms c.args.from c.args.pass.now }

pub loop-preserved : goal.loop-preserved
loop-preserved g c =
    let turn = c.in-Continue.ensures in
    record {
      parts = turn.0 ∙ c.loop.invariant.parts;
      calls = omega (arith, turn.1, c.loop.invariant.calls);
      answered = one_more g.B.Calls.Opened.terms c.loop.counter c.args.from c.args.pass.now c.loop.next c.loop.pass c.in-Continue.tile c.turn.new.pass c.loop.invariant.answered turn.2;
    }

pub returns-in-Break-clause-brought : goal.returns-in-Break-clause-brought
returns-in-Break-clause-brought g c =
    stopped g.B.Calls.Opened.terms c.args.limit c.args.from c.loop.counter c.args.pass.now c.loop.next c.loop.pass c.turn.new.pass c.in-Break.end (omega (arith, c.loop-test.true)) c.loop.invariant.answered c.in-Break.ensures.0 c.in-Break.ensures.2
