use Rattle.std.proofs.Common.{◌∙◌}
use Rattle.densfill_engine.proofs.Patches.{add_cut, add_metal, cut_cut, cut_metal, keep_cut, keep_metal}
use Rattle.densfill_engine.proofs.metal.patch_of_one.Goals as goal

pub returns-in_ok-one-in-Add-clause-metal : goal.returns-in_ok-one-in-Add-clause-metal
returns-in_ok-one-in-Add-clause-metal c = λ x y. c.in_ok-one-in-Add.ensures.squares x y ∙ add_metal c.args.edit c.in-Add.rect c.in-Add.is x y

pub returns-in_ok-one-in-Add-clause-cut : goal.returns-in_ok-one-in-Add-clause-cut
returns-in_ok-one-in-Add-clause-cut c = λ x y. c.empty.ensures.squares x y ∙ add_cut c.args.edit c.in-Add.rect c.in-Add.is x y

pub returns-in_ok-one-in-Cut-clause-metal : goal.returns-in_ok-one-in-Cut-clause-metal
returns-in_ok-one-in-Cut-clause-metal c = λ x y. c.empty-in-Cut.ensures.squares x y ∙ cut_metal c.args.edit c.in-Cut.rect c.in-Cut.is x y

pub returns-in_ok-one-in-Cut-clause-cut : goal.returns-in_ok-one-in-Cut-clause-cut
returns-in_ok-one-in-Cut-clause-cut c = λ x y. c.in_ok-one-in-Cut.ensures.squares x y ∙ cut_cut c.args.edit c.in-Cut.rect c.in-Cut.is x y

pub returns-in-Keep-clause-metal : goal.returns-in-Keep-clause-metal
returns-in-Keep-clause-metal c = λ x y. c.empty-in-Keep.ensures.squares x y ∙ keep_metal c.args.edit c.in-Keep.field-0 c.in-Keep.is x y

pub returns-in-Keep-clause-cut : goal.returns-in-Keep-clause-cut
returns-in-Keep-clause-cut c = λ x y. c.empty-in-Keep-2.ensures.squares x y ∙ keep_cut c.args.edit c.in-Keep.field-0 c.in-Keep.is x y
