-- The marks so far are those of the first tiles.
use Rattle.fill_job.specs.Plans.{plan_of}
use Rattle.fill_core.specs.Accounts.{state_of}
use Rattle.gds_join.proofs.Marked.{AreFirst}
use Rattle.densfill_engine.proofs.texts.marks_of.Given as goal

abbrev pub invariant-loop-tile : goal.invariant-loop-tile
invariant-loop-tile g l =
    let a = g.B.FillBook.account l.book in
    AreFirst (plan_of a.rules).raster (state_of a).fill l.marks.items l.tile
