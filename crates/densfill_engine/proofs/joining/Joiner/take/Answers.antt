use Rattle.std.proofs.Common.{refl}
use Rattle.densfill_io.specs.Taps.{under}
use Rattle.densfill_engine.proofs.Joined.{known_more, not_joined, one_more_joined}
use Rattle.densfill_engine.proofs.joining.Joiner.take.Goals as goal

pub returns-in-Ok-clause-joined : goal.returns-in-Ok-clause-joined
returns-in-Ok-clause-joined g c =
    let j = c.args.self in let s = c.in-Ok.ensures.same in
    known_more (g.P.Read.remaining (under c.args.tap.now)) (λ bytes this texts before. one_more_joined c.one_more_is_taken.ensures j (record { parts = c.in-Ok.parts }) bytes texts s.0 s.2 s.3 this before) c.in-Ok.ensures.taken

pub returns-in-Err-clause-refused : goal.returns-in-Err-clause-refused
returns-in-Err-clause-refused g c =
    known_more (g.P.Read.remaining (under c.args.tap.now)) (λ bytes this texts before. not_joined c.args.self bytes texts _ c.in-Err.fault refl this before) c.in-Err.ensures.refused
