use Rattle.std.proofs.Common.{◌∙◌, Option, ap, sym, rules}
use Rattle.std.proofs.lemmas.Fn.{filter_same}
use Rattle.fill_base.specs.declared.rect.Rect.{Rect}
use Rattle.densfill_engine.specs.Views.{edits_near, is_near}
use Rattle.densfill_engine.proofs.view.View.keep_near.Goals as goal

pub returns-in-Some : goal.returns-in-Some
returns-in-Some c =
    filter_same _ (is_near c.in-Some.frame) _ (λ x b q k. search rules) _ _ c.retain.ensures.filtered
    ∙ ap (λ (f : Option Rect). edits_near f c.args.edits.now.items) (sym c.in-Some.is)
