use Rattle.fill_stacks.proofs.PieceLaws.{each_once}
use Rattle.fill_stacks.proofs.laws.pieces_hold_each_once.Goals as goal

pub returns : goal.returns
returns c = each_once
