use Rattle.std.proofs.Common.{◌<◌, ◌^◌, rules}
use Rattle.fill_state.proofs.TileWords.{word_passed, word_tested}
use Rattle.fill_state.proofs.tiles.TileSet.is_full_from.Goals as goal

pub returns-then-begins_a_word-clause-full : goal.returns-then-begins_a_word-clause-full
returns-then-begins_a_word-clause-full c =
    let small : c.index.result.now < 2 ^ 64 = search rules in
    word_tested c.self.inside.count c.self.inside.words.items c.args.self.now c.args.tile c.index.result.now c.self.view_is c.self.invariant c.if-begins_a_word.true c.index.ensures small

pub returns-else-begins_a_word-clause-full : goal.returns-else-begins_a_word-clause-full
returns-else-begins_a_word-clause-full c = word_passed c.self.inside.count c.self.inside.words.items c.args.self.now c.args.tile c.self.view_is c.if-begins_a_word.false
