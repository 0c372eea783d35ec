use Rattle.fill_parts.proofs.Looking.{past_within}
use Rattle.fill_parts.proofs.part.Part.looked_at_windows.Goals as goal

pub level_windows-level-requires-clause-rows : goal.level_windows-level-requires-clause-rows
level_windows-level-requires-clause-rows c = rw c.needed_tiles.ensures.to (past_within _ _)
