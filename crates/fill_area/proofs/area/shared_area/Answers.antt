use Rattle.std.proofs.Common.{ap, ◌∙◌, sym, pos}
use Rattle.fill_base.proofs.Signed.{read_is}
use Rattle.fill_base.specs.Squares.{squares}
use Rattle.fill_area.proofs.SharedAreas.{shared_part, none_within}
use Rattle.fill_area.proofs.area.shared_area.Goals as goal

pub returns-in-Some : goal.returns-in-Some
returns-in-Some c = read_is c.area.result (record { sfits = c.area.type_inv }) ∙ (c.area.ensures ∙ ap (λ n. pos n) (shared_part c.args.rect.now c.args.part.now c.in-Some.piece c.in-Some.ensures.some))

pub returns-in-None : goal.returns-in-None
returns-in-None c = ap (λ n. pos n) (sym (none_within (squares c.args.rect.now) c.args.part.now c.in-None.ensures.none))
