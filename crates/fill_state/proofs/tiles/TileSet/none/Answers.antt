use Rattle.fill_state.proofs.TileWords.{bits_len, none_in}
use Rattle.fill_state.proofs.tiles.TileSet.none.Goals as goal

pub returns-clause-room : goal.returns-clause-room
returns-clause-room c = bits_len c.args.count c.in_ok-words.words.items

pub returns-clause-none : goal.returns-clause-none
returns-clause-none c = none_in c.args.count c.div_ceil.result c.in_ok-words.words.items (c.in_ok-words.ensures.items_if_clones_equal (λ y same. same))
