use Rattle.fill_core.proofs.Searched.{next_first}
use Rattle.fill_core.proofs.laws.next_tile_is_first.Goals as goal

pub returns : goal.returns
returns c = next_first
