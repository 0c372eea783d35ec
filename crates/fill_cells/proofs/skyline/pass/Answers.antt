use Rattle.std.proofs.Common.{arith, ◌≡◌, refl, ◌∙◌, ap, take, drop, ◌∷◌, ◌++◌, ◌+◌, get_or}
use Rattle.std.proofs.lemmas.List.{get_or_default}
use Rattle.fill_cells.proofs.Lists.{x1_fits}
use Rattle.fill_cells.proofs.Towers.{passed_left, passed_right, after_left, after_put, edge_below, edge_from, columns_by}
use Rattle.fill_cells.proofs.skyline.pass.Goals as goal

pub returns-then-x1-clause-passed : goal.returns-then-x1-clause-passed
returns-then-x1-clause-passed c =
    let towers = c.args.towers.now.items in let at = c.args.at in let r = c.args.rest.now in let t = get_or towers at r in
    let same : c.index.result.now ≡ t = c.index.ensures ∙ get_or_default towers at c.index.result.now r c.requires.at in
    let t_x1 = ap (λ q. q.x1) same in
    passed_left towers c.put_over.new.towers.items c.args.from at t r c.columns_of.result c.requires.from c.requires.at refl c.requires.is_open
    (edge_below r.x1 t.x1 c.x1.result c.x1-2.result (x1_fits r) (x1_fits t) c.x1.ensures (c.x1-2.ensures ∙ t_x1) c.if-x1.true)
    c.requires.meets c.requires.higher
    (columns_by c.columns_of.result r r.x1 t.x1 c.x1-then-x1.result c.x1-then-x1-2.result (x1_fits r) (x1_fits t) c.x1-then-x1.ensures (c.x1-then-x1-2.ensures ∙ t_x1) c.columns_of.ensures)
    c.in_ok-put_over.ensures

pub returns-then-x1-clause-after : goal.returns-then-x1-clause-after
returns-then-x1-clause-after c =
    let towers = c.args.towers.now.items in
    after_left towers c.put_over.new.towers.items c.args.from c.args.at c.index.result.now c.columns_of.result c.requires.from c.requires.at c.index.ensures c.in_ok-put_over.ensures

pub returns-clause-passed : goal.returns-clause-passed
returns-clause-passed c =
    let towers = c.args.towers.now.items in let at = c.args.at in let r = c.args.rest.now in let t = get_or towers at r in
    let same : c.index.result.now ≡ t = c.index.ensures ∙ get_or_default towers at c.index.result.now r c.requires.at in
    let t_x1 = ap (λ q. q.x1) same in
    passed_right towers c.put_over-2.new.towers.items c.args.from at t r c.requires.from c.requires.at refl c.requires.is_open
    (edge_from r.x1 t.x1 c.x1.result c.x1-2.result (x1_fits r) (x1_fits t) c.x1.ensures (c.x1-2.ensures ∙ t_x1) c.if-x1.false)
    c.requires.higher (c.in_ok-put_over-2.ensures ∙ ap (λ q. take c.args.from towers ++ q ∷ drop (at + 1) towers) same)

pub returns-clause-after : goal.returns-clause-after
returns-clause-after c = after_put c.args.towers.now.items c.put_over-2.new.towers.items c.args.from c.args.at c.index.result.now (omega (arith, c.requires.from, c.requires.at)) c.in_ok-put_over-2.ensures
