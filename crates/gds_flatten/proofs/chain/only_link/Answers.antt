use Rattle.std.proofs.Common.{◌≡◌, ◌∙◌, sym, subst, arith, length, vec_len}
use Rattle.std.specs.Prelude.{All}
use Rattle.std.specs.Vec.{vec_items}
use Rattle.std.proofs.lemmas.Grind.{common_steps}
use Rattle.gds_flatten.proofs.Chained.{lone, no_shape}
use Rattle.gds_flatten.proofs.chain.only_link.Goals as goal

pub returns-then-link-eq1-2 : goal.returns-then-link-eq1-2
returns-then-link-eq1-2 c =
    let count : vec_len c.args.cell.now.links ≡ length c.args.cell.now.links.items = grind (arith, common_steps) in record {
      bare = no_shape vec_items c.args.cell.now.shapes.items (subst (All (λ chunk. length (vec_items chunk) ≡ 0)) c.deref.ensures.value (c.are_bare.ensures.0 c.if-not-are_bare.false));
      links = lone c.args.cell.now.links.items c.index-link.result.now (sym count ∙ (sym c.len.ensures ∙ c.if-len-ne1.false)) c.index-link.ensures;
      columns = c.if-link-eq1.true;
      rows = c.if-link-eq1-2.true;
    }
