use Rattle.std.proofs.Common.{◌∙◌, ap}
use Rattle.densfill_engine.specs.Metal.{is_added}
use Rattle.densfill_engine.proofs.Patches.{joined_metal, no_change}
use Rattle.densfill_engine.proofs.metal.+metal_left.Goals as goal

pub returns-in-empty : goal.returns-in-empty
returns-in-empty t c = λ x y. c.empty.ensures.squares x y ∙ ap is_added (no_change c.args.edits.now c.in-empty.len_below x y)

pub returns-in_ok-metal-in_default : goal.returns-in_ok-metal-in_default
returns-in_ok-metal-in_default t c = λ x y.
    joined_metal c.args.edits.now _ _ _ x y _ _ _ _ c.split_at.ensures.front c.split_at.ensures.back
    (c.in_ok-metal-in_default.ensures x y) (c.in_ok-under-in_default.ensures x y) (c.in_ok-then-in_default.ensures.metal x y) (c.in_ok-then-in_default.ensures.cut x y)
