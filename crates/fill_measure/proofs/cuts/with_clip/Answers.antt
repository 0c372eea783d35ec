use Rattle.fill_measure.proofs.Ends.{clip_held}
use Rattle.fill_measure.proofs.cuts.with_clip.Goals as goal

pub returns-clause-coordinates : goal.returns-clause-coordinates
returns-clause-coordinates c = (clip_held c.args.parts c.args.numbers.items _ _ c.requires.parts c.requires.coordinates c.in_ok-push.ensures.items c.in_ok-push-2.ensures.items).coordinates

pub returns-clause-kept : goal.returns-clause-kept
returns-clause-kept c = (clip_held c.args.parts c.args.numbers.items _ _ c.requires.parts c.requires.coordinates c.in_ok-push.ensures.items c.in_ok-push-2.ensures.items).kept

pub returns-clause-low : goal.returns-clause-low
returns-clause-low c = (clip_held c.args.parts c.args.numbers.items _ _ c.requires.parts c.requires.coordinates c.in_ok-push.ensures.items c.in_ok-push-2.ensures.items).low

pub returns-clause-high : goal.returns-clause-high
returns-clause-high c = (clip_held c.args.parts c.args.numbers.items _ _ c.requires.parts c.requires.coordinates c.in_ok-push.ensures.items c.in_ok-push-2.ensures.items).high
