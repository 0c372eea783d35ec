use Rattle.std.proofs.Common.{◌≡◌, suc, ap, ◌∙◌, refl, get_or, take, drop, ◌∷◌, ◌++◌}
use Rattle.std.proofs.lemmas.List.{get_or_default}
use Rattle.fill_cells.proofs.Lists.{x1_fits, x2_fits}
use Rattle.fill_cells.proofs.Towers.{around_at, settled_at, put_beside, put_amid, edge_below, edge_from, columns_by, rise_before, rise_amid}
use Rattle.fill_cells.proofs.skyline.put_within.Goals as goal

pub returns-in_ok-insert : goal.returns-in_ok-insert
returns-in_ok-insert c =
    let old = c.args.towers.now.items in let from = c.args.from in let at = c.args.at in let r = c.args.rest in let t = get_or old at r in
    let before = take from old in let after = drop (suc at) old in let u = c.columns_of.result in let l = c.columns_of-then-x1.result in
    let same : c.index.result.now ≡ t = c.index.ensures ∙ get_or_default old at c.index.result.now r c.requires.at in
    let t_x1 = ap (λ q. q.x1) same in let t_x2 = ap (λ q. q.x2) same in
    let mid = put_beside old c.put_over.new.towers.items from at r u c.requires.from c.requires.at c.in_ok-put_over.ensures in
    settled_at old c.insert.new.self.items (before ++ l ∷ r ∷ u ∷ after) from at t r c.requires.at refl
    (put_amid old c.put_over.new.towers.items c.insert.new.self.items from at l (r ∷ u ∷ after) c.requires.from c.requires.at mid c.in_ok-insert.ensures.items)
    (rise_amid before after t r l u (around_at old from at t r c.requires.from c.requires.at refl c.requires.is_open)
    (edge_below t.x1 r.x1 c.x1.result c.x1-2.result (x1_fits t) (x1_fits r) (c.x1.ensures ∙ t_x1) c.x1-2.ensures c.if-x1.true)
    c.requires.amid c.requires.lower
    (columns_by l t t.x1 r.x1 c.x1-then-x1.result c.x1-then-x1-2.result (x1_fits t) (x1_fits r) (c.x1-then-x1.ensures ∙ t_x1) c.x1-then-x1-2.ensures (rw (← same) c.columns_of-then-x1.ensures))
    (columns_by u t r.x2 t.x2 c.x2.result c.x2-2.result (x2_fits r) (x2_fits t) c.x2.ensures (c.x2-2.ensures ∙ t_x2) (rw (← same) c.columns_of.ensures)))

pub returns-else-x1 : goal.returns-else-x1
returns-else-x1 c =
    let old = c.args.towers.now.items in let from = c.args.from in let at = c.args.at in let r = c.args.rest in let t = get_or old at r in
    let before = take from old in let after = drop (suc at) old in let u = c.columns_of.result in
    let same : c.index.result.now ≡ t = c.index.ensures ∙ get_or_default old at c.index.result.now r c.requires.at in
    let t_x1 = ap (λ q. q.x1) same in let t_x2 = ap (λ q. q.x2) same in
    settled_at old c.put_over.new.towers.items (before ++ r ∷ u ∷ after) from at t r c.requires.at refl
    (put_beside old c.put_over.new.towers.items from at r u c.requires.from c.requires.at c.in_ok-put_over.ensures)
    (rise_before before after t r u (around_at old from at t r c.requires.from c.requires.at refl c.requires.is_open)
    (edge_from t.x1 r.x1 c.x1.result c.x1-2.result (x1_fits t) (x1_fits r) (c.x1.ensures ∙ t_x1) c.x1-2.ensures c.if-x1.false) c.requires.meets
    c.requires.amid c.requires.lower
    (columns_by u t r.x2 t.x2 c.x2.result c.x2-2.result (x2_fits r) (x2_fits t) c.x2.ensures (c.x2-2.ensures ∙ t_x2) (rw (← same) c.columns_of.ensures)))
