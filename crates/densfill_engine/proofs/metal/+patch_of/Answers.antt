use Rattle.std.proofs.Common.{◌∙◌, ap}
use Rattle.densfill_engine.specs.Metal.{is_added, is_cut}
use Rattle.densfill_engine.proofs.Patches.{joined_cut, joined_metal, no_change}
use Rattle.densfill_engine.proofs.metal.+patch_of.Goals as goal

pub returns-in-empty-clause-metal : goal.returns-in-empty-clause-metal
returns-in-empty-clause-metal t c = λ x y. c.empty.ensures.squares x y ∙ ap is_added (no_change c.args.edits.now c.in-empty.len_below x y)

pub returns-in-empty-clause-cut : goal.returns-in-empty-clause-cut
returns-in-empty-clause-cut t c = λ x y. c.empty-in-empty.ensures.squares x y ∙ ap is_cut (no_change c.args.edits.now c.in-empty.len_below x y)

pub returns-in_ok-cut-in_default-clause-metal : goal.returns-in_ok-cut-in_default-clause-metal
returns-in_ok-cut-in_default-clause-metal t c = λ x y.
    joined_metal c.args.edits.now _ _ _ x y _ _ _ _ c.split_at.ensures.front c.split_at.ensures.back
    (c.in_ok-metal-in_default-2.ensures x y) (c.in_ok-first-in_default.ensures.metal x y) (c.in_ok-then-in_default.ensures.metal x y) (c.in_ok-then-in_default.ensures.cut x y)

pub returns-in_ok-cut-in_default-clause-cut : goal.returns-in_ok-cut-in_default-clause-cut
returns-in_ok-cut-in_default-clause-cut t c = λ x y.
    joined_cut c.args.edits.now _ _ _ x y _ _ _ _ c.split_at.ensures.front c.split_at.ensures.back
    (c.in_ok-cut-in_default.ensures x y) (c.in_ok-first-in_default.ensures.cut x y) (c.in_ok-then-in_default.ensures.cut x y) (c.in_ok-then-in_default.ensures.metal x y)
