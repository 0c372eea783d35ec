use Rattle.densfill_engine.proofs.EditedLayers.{edited_layers, not_edited}
use Rattle.densfill_engine.proofs.edited.edited.Goals as goal

pub returns-then-is_empty-clause-layers : goal.returns-then-is_empty-clause-layers
returns-then-is_empty-clause-layers c = not_edited c.args.edits.now _ c.is_empty.result c.is_empty.ensures c.if-is_empty.true

pub returns-clause-layers : goal.returns-clause-layers
returns-clause-layers c =
    edited_layers c.args.edits.now c.args.design.metal c.args.design.fill c.args.design.keep c.in_ok-metal.metal c.in_ok-keep.keep c.in_ok-metal.ensures c.in_ok-keep.ensures
