use Rattle.fill_core.proofs.Searched.{next_none}
use Rattle.fill_core.proofs.laws.no_next_tile_where_all_are_in.Goals as goal

pub returns : goal.returns
returns c = next_none
