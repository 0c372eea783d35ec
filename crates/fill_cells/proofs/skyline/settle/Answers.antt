use Rattle.std.proofs.Common.{◌≡◌, ◌+◌, ◌<◌, ◌≤◌, ◌≤ℤ◌, ◌+ℤ◌, ℕ, ap, ◌∙◌, refl, arith, length, vec_len, get_or, drop, All, to_z, w64, Vec, Global}
use Rattle.std.proofs.lemmas.Grind.{common_steps}
use Rattle.std.proofs.lemmas.List.{get_or_default}
use Rattle.fill_base.specs.declared.rect.Rect.{Rect}
use Rattle.fill_base.proofs.Areas.{read_y1}
use Rattle.fill_base.proofs.Signed.{read}
use Rattle.fill_cells.specs.steps.Skyline.{without}
use Rattle.fill_cells.proofs.Lists.{x1_fits, x2_fits, y2_fits}
use Rattle.fill_cells.proofs.SkylineAreas.{none_before}
use Rattle.fill_cells.proofs.Towers.{edge_below, edge_from, edge_upto, not_upto, columns_by, reads_lt, sets_out, gives_way, passes, rises, fewer, after_put, lt_le, goes_then_ends, counts, counted_all, counted_before, put_last, right_from, none_after}
use Rattle.fill_cells.proofs.skyline.settle.Goals.{then-towers-test+else-x1-x2, else-towers-test}
use Rattle.fill_cells.proofs.skyline.settle.Goals as goal

-- the tower that the rectangle has come to is one of the list
in_list : (v : Vec Rect Global) (at n : ℕ) → n ≡ vec_len v → at < n → at < length v.items
in_list v at n is lt = let count : vec_len v ≡ length v.items = grind (arith, common_steps) in rw (is ∙ count) at lt

pub towers-init : goal.towers-init
towers-init c = (c.args.first, sets_out c.args.rect c.args.towers.now.items c.args.first c.requires (none_before c.args.towers.now.items c.args.rect c.args.first c.requires.within c.requires.parted.0))

pub overflow_add-hidden : goal.overflow_add-hidden
overflow_add-hidden c =
    let old = c.args.towers.now.items in let towers = c.towers.towers.items in let from = c.towers.from in let at = c.towers.at in let r = c.towers.rest in let t = get_or towers at r in let way = c.towers.invariant.1 in
    let lt : at < length towers = in_list c.towers.towers at c.len.result c.len.ensures c.towers-test.true in
    let same : c.index-in-towers.result.now ≡ t = c.index-in-towers.ensures ∙ get_or_default towers at c.index-in-towers.result.now r lt in
    let t_x1 = ap (λ q. q.x1) same in let t_x2 = ap (λ q. q.x2) same in let t_y2 = ap (λ q. q.y2) same in
    let hidden = to_z w64 c.towers.hidden-bits in let more = counts c.args.rect old towers from at r c.towers.invariant.0 hidden c.shared_area-hidden.result c.index-in-towers.result.now way c.requires.skyline.apart lt c.index-in-towers.ensures c.shared_area-hidden.ensures in
    more.0

pub towers-preserved-then-is_over : goal.towers-preserved-then-is_over
towers-preserved-then-is_over c =
    let old = c.args.towers.now.items in let towers = c.towers.towers.items in let from = c.towers.from in let at = c.towers.at in let r = c.towers.rest in let t = get_or towers at r in let way = c.towers.invariant.1 in
    let lt : at < length towers = in_list c.towers.towers at c.len.result c.len.ensures c.towers-test.true in
    let same : c.index-in-towers.result.now ≡ t = c.index-in-towers.ensures ∙ get_or_default towers at c.index-in-towers.result.now r lt in
    let t_x1 = ap (λ q. q.x1) same in let t_x2 = ap (λ q. q.x2) same in let t_y2 = ap (λ q. q.y2) same in
    let hidden = to_z w64 c.towers.hidden-bits in let more = counts c.args.rect old towers from at r c.towers.invariant.0 hidden c.shared_area-hidden.result c.index-in-towers.result.now way c.requires.skyline.apart lt c.index-in-towers.ensures c.shared_area-hidden.ensures in
    (c.towers.invariant.0 + 1, gives_way c.args.rect old towers from at r c.towers.invariant.0 hidden (read (to_z w64 c.towers.hidden-bits +ℤ read c.shared_area-hidden.result)) t way lt refl (rw same at (c.if-is_over.ensures.over refl)) more.1)

pub pass-requires-clause-meets : goal.pass-requires-clause-meets
pass-requires-clause-meets c =
    let old = c.args.towers.now.items in let towers = c.towers.towers.items in let from = c.towers.from in let at = c.towers.at in let r = c.towers.rest in let t = get_or towers at r in let way = c.towers.invariant.1 in
    let lt : at < length towers = in_list c.towers.towers at c.len.result c.len.ensures c.towers-test.true in
    let same : c.index-in-towers.result.now ≡ t = c.index-in-towers.ensures ∙ get_or_default towers at c.index-in-towers.result.now r lt in
    let t_x1 = ap (λ q. q.x1) same in let t_x2 = ap (λ q. q.x2) same in let t_y2 = ap (λ q. q.y2) same in
    let first : c.index.result.now ≡ t = c.index.ensures ∙ get_or_default towers at c.index.result.now r lt in
    edge_below t.x1 r.x2 c.x1.result c.x2.result (x1_fits t) (x2_fits r) (c.x1.ensures ∙ ap (λ q. q.x1) first) c.x2.ensures c.if-x1-x2.true

pub pass-requires-clause-higher : goal.pass-requires-clause-higher
pass-requires-clause-higher c =
    let old = c.args.towers.now.items in let towers = c.towers.towers.items in let from = c.towers.from in let at = c.towers.at in let r = c.towers.rest in let t = get_or towers at r in let way = c.towers.invariant.1 in
    let lt : at < length towers = in_list c.towers.towers at c.len.result c.len.ensures c.towers-test.true in
    let same : c.index-in-towers.result.now ≡ t = c.index-in-towers.ensures ∙ get_or_default towers at c.index-in-towers.result.now r lt in
    let t_x1 = ap (λ q. q.x1) same in let t_x2 = ap (λ q. q.x2) same in let t_y2 = ap (λ q. q.y2) same in
    edge_upto r.y2 t.y2 c.y2.result c.y2-in-towers.result (y2_fits r) (y2_fits t) c.y2.ensures (c.y2-in-towers.ensures ∙ t_y2) c.if-y2.true

pub returns-then-x2-clause-hidden : goal.returns-then-x2-clause-hidden
returns-then-x2-clause-hidden c =
    let old = c.args.towers.now.items in let towers = c.towers.towers.items in let from = c.towers.from in let at = c.towers.at in let r = c.towers.rest in let t = get_or towers at r in let way = c.towers.invariant.1 in
    let lt : at < length towers = in_list c.towers.towers at c.len.result c.len.ensures c.towers-test.true in
    let same : c.index-in-towers.result.now ≡ t = c.index-in-towers.ensures ∙ get_or_default towers at c.index-in-towers.result.now r lt in
    let t_x1 = ap (λ q. q.x1) same in let t_x2 = ap (λ q. q.x2) same in let t_y2 = ap (λ q. q.y2) same in
    let hidden = to_z w64 c.towers.hidden-bits in let more = counts c.args.rect old towers from at r c.towers.invariant.0 hidden c.shared_area-hidden.result c.index-in-towers.result.now way c.requires.skyline.apart lt c.index-in-towers.ensures c.shared_area-hidden.ensures in
    counted_all c.args.rect old towers from at r c.towers.invariant.0 hidden (read (to_z w64 c.towers.hidden-bits +ℤ read c.shared_area-hidden.result)) t way lt refl (edge_upto r.x2 t.x2 c.x2-then-y2.result c.x2-then-y2-2.result (x2_fits r) (x2_fits t) c.x2-then-y2.ensures (c.x2-then-y2-2.ensures ∙ t_x2) c.if-x2.true) more.1

pub returns-then-x2-clause-settled : goal.returns-then-x2-clause-settled
returns-then-x2-clause-settled c =
    let old = c.args.towers.now.items in let towers = c.towers.towers.items in let from = c.towers.from in let at = c.towers.at in let r = c.towers.rest in let t = get_or towers at r in let way = c.towers.invariant.1 in
    let lt : at < length towers = in_list c.towers.towers at c.len.result c.len.ensures c.towers-test.true in
    let same : c.index-in-towers.result.now ≡ t = c.index-in-towers.ensures ∙ get_or_default towers at c.index-in-towers.result.now r lt in
    let t_x1 = ap (λ q. q.x1) same in let t_x2 = ap (λ q. q.x2) same in let t_y2 = ap (λ q. q.y2) same in
    goes_then_ends c.args.rect old (without towers from at) c.pass.new.towers.items from r way.goes (c.in_ok-from.ensures.passed.ends (edge_upto r.x2 t.x2 c.x2-then-y2.result c.x2-then-y2-2.result (x2_fits r) (x2_fits t) c.x2-then-y2.ensures (c.x2-then-y2-2.ensures ∙ t_x2) c.if-x2.true))

pub towers-smaller-then-y2 : goal.towers-smaller-then-y2
towers-smaller-then-y2 c =
    let old = c.args.towers.now.items in let towers = c.towers.towers.items in let from = c.towers.from in let at = c.towers.at in let r = c.towers.rest in let t = get_or towers at r in let way = c.towers.invariant.1 in
    let lt : at < length towers = in_list c.towers.towers at c.len.result c.len.ensures c.towers-test.true in
    let same : c.index-in-towers.result.now ≡ t = c.index-in-towers.ensures ∙ get_or_default towers at c.index-in-towers.result.now r lt in
    let t_x1 = ap (λ q. q.x1) same in let t_x2 = ap (λ q. q.x2) same in let t_y2 = ap (λ q. q.y2) same in
    fewer towers c.pass.new.towers.items at c.in_ok-from.from lt c.in_ok-from.ensures.after

pub towers-preserved-then-y2 : goal.towers-preserved-then-y2
towers-preserved-then-y2 c =
    let old = c.args.towers.now.items in let towers = c.towers.towers.items in let from = c.towers.from in let at = c.towers.at in let r = c.towers.rest in let t = get_or towers at r in let way = c.towers.invariant.1 in
    let lt : at < length towers = in_list c.towers.towers at c.len.result c.len.ensures c.towers-test.true in
    let same : c.index-in-towers.result.now ≡ t = c.index-in-towers.ensures ∙ get_or_default towers at c.index-in-towers.result.now r lt in
    let t_x1 = ap (λ q. q.x1) same in let t_x2 = ap (λ q. q.x2) same in let t_y2 = ap (λ q. q.y2) same in
    let hidden = to_z w64 c.towers.hidden-bits in let more = counts c.args.rect old towers from at r c.towers.invariant.0 hidden c.shared_area-hidden.result c.index-in-towers.result.now way c.requires.skyline.apart lt c.index-in-towers.ensures c.shared_area-hidden.ensures in (
      c.towers.invariant.0 + 1,
      passes c.args.rect old towers c.pass.new.towers.items from at c.in_ok-from.from r c.columns_of-rest.result c.towers.invariant.0 hidden (read (to_z w64 c.towers.hidden-bits +ℤ read c.shared_area-hidden.result)) way lt
          (c.in_ok-from.ensures.passed.goes_on c.columns_of-rest.result (not_upto r.x2 t.x2 c.x2-then-y2.result c.x2-then-y2-2.result (x2_fits r) (x2_fits t) c.x2-then-y2.ensures (c.x2-then-y2-2.ensures ∙ t_x2) c.if-x2.false)
          (columns_by c.columns_of-rest.result r t.x2 r.x2 c.x2-then-y2-3.result c.x2-then-y2-4.result (x2_fits t) (x2_fits r) (c.x2-then-y2-3.ensures ∙ t_x2) c.x2-then-y2-4.ensures c.columns_of-rest.ensures)) c.in_ok-from.ensures.after more.1,
    )

pub put_within-requires-clause-meets : goal.put_within-requires-clause-meets
put_within-requires-clause-meets c =
    let old = c.args.towers.now.items in let towers = c.towers.towers.items in let from = c.towers.from in let at = c.towers.at in let r = c.towers.rest in let t = get_or towers at r in let way = c.towers.invariant.1 in
    let lt : at < length towers = in_list c.towers.towers at c.len.result c.len.ensures c.towers-test.true in
    let same : c.index-in-towers.result.now ≡ t = c.index-in-towers.ensures ∙ get_or_default towers at c.index-in-towers.result.now r lt in
    let t_x1 = ap (λ q. q.x1) same in let t_x2 = ap (λ q. q.x2) same in let t_y2 = ap (λ q. q.y2) same in
    let first : c.index.result.now ≡ t = c.index.ensures ∙ get_or_default towers at c.index.result.now r lt in
    edge_below t.x1 r.x2 c.x1.result c.x2.result (x1_fits t) (x2_fits r) (c.x1.ensures ∙ ap (λ q. q.x1) first) c.x2.ensures c.if-x1-x2.true

pub put_within-requires-clause-lower : goal.put_within-requires-clause-lower
put_within-requires-clause-lower c =
    let old = c.args.towers.now.items in let towers = c.towers.towers.items in let from = c.towers.from in let at = c.towers.at in let r = c.towers.rest in let t = get_or towers at r in let way = c.towers.invariant.1 in
    let lt : at < length towers = in_list c.towers.towers at c.len.result c.len.ensures c.towers-test.true in
    let same : c.index-in-towers.result.now ≡ t = c.index-in-towers.ensures ∙ get_or_default towers at c.index-in-towers.result.now r lt in
    let t_x1 = ap (λ q. q.x1) same in let t_x2 = ap (λ q. q.x2) same in let t_y2 = ap (λ q. q.y2) same in
    not_upto r.y2 t.y2 c.y2.result c.y2-in-towers.result (y2_fits r) (y2_fits t) c.y2.ensures (c.y2-in-towers.ensures ∙ t_y2) c.if-y2.false

pub put_within-requires-clause-amid : goal.put_within-requires-clause-amid
put_within-requires-clause-amid c =
    let old = c.args.towers.now.items in let towers = c.towers.towers.items in let from = c.towers.from in let at = c.towers.at in let r = c.towers.rest in let t = get_or towers at r in let way = c.towers.invariant.1 in
    let lt : at < length towers = in_list c.towers.towers at c.len.result c.len.ensures c.towers-test.true in
    let same : c.index-in-towers.result.now ≡ t = c.index-in-towers.ensures ∙ get_or_default towers at c.index-in-towers.result.now r lt in
    let t_x1 = ap (λ q. q.x1) same in let t_x2 = ap (λ q. q.x2) same in let t_y2 = ap (λ q. q.y2) same in
    edge_below r.x2 t.x2 c.x2-in-towers.result c.x2-in-towers-2.result (x2_fits r) (x2_fits t) c.x2-in-towers.ensures (c.x2-in-towers-2.ensures ∙ t_x2) c.if-x2-2.true

pub returns-then-x2-2-clause-hidden : goal.returns-then-x2-2-clause-hidden
returns-then-x2-2-clause-hidden c =
    let old = c.args.towers.now.items in let towers = c.towers.towers.items in let from = c.towers.from in let at = c.towers.at in let r = c.towers.rest in let t = get_or towers at r in let way = c.towers.invariant.1 in
    let lt : at < length towers = in_list c.towers.towers at c.len.result c.len.ensures c.towers-test.true in
    let same : c.index-in-towers.result.now ≡ t = c.index-in-towers.ensures ∙ get_or_default towers at c.index-in-towers.result.now r lt in
    let t_x1 = ap (λ q. q.x1) same in let t_x2 = ap (λ q. q.x2) same in let t_y2 = ap (λ q. q.y2) same in
    let hidden = to_z w64 c.towers.hidden-bits in let more = counts c.args.rect old towers from at r c.towers.invariant.0 hidden c.shared_area-hidden.result c.index-in-towers.result.now way c.requires.skyline.apart lt c.index-in-towers.ensures c.shared_area-hidden.ensures in
    counted_all c.args.rect old towers from at r c.towers.invariant.0 hidden (read (to_z w64 c.towers.hidden-bits +ℤ read c.shared_area-hidden.result)) t way lt refl (lt_le r.x2 t.x2 (edge_below r.x2 t.x2 c.x2-in-towers.result c.x2-in-towers-2.result (x2_fits r) (x2_fits t) c.x2-in-towers.ensures (c.x2-in-towers-2.ensures ∙ t_x2) c.if-x2-2.true)) more.1

pub returns-then-x2-2-clause-settled : goal.returns-then-x2-2-clause-settled
returns-then-x2-2-clause-settled c =
    goes_then_ends c.args.rect c.args.towers.now.items (without c.towers.towers.items c.towers.from c.towers.at) c.put_within.new.towers.items c.towers.from c.towers.rest c.towers.invariant.1.goes c.in_ok-put_within.ensures

pub columns_of-beside-requires-clause-ordered : goal.columns_of-beside-requires-clause-ordered
columns_of-beside-requires-clause-ordered c =
    let old = c.args.towers.now.items in let towers = c.towers.towers.items in let from = c.towers.from in let at = c.towers.at in let r = c.towers.rest in let t = get_or towers at r in let way = c.towers.invariant.1 in
    let lt : at < length towers = in_list c.towers.towers at c.len.result c.len.ensures c.towers-test.true in
    let same : c.index-in-towers.result.now ≡ t = c.index-in-towers.ensures ∙ get_or_default towers at c.index-in-towers.result.now r lt in
    let t_x1 = ap (λ q. q.x1) same in let t_x2 = ap (λ q. q.x2) same in let t_y2 = ap (λ q. q.y2) same in
    reads_lt t.x1 r.x1 c.x1-in-towers.result c.x1-in-towers-2.result (x1_fits t) (x1_fits r) (c.x1-in-towers.ensures ∙ t_x1) c.x1-in-towers-2.ensures ((rw same at (c.if-is_over.ensures.beside refl)) (not_upto r.y2 t.y2 c.y2.result c.y2-in-towers.result (y2_fits r) (y2_fits t) c.y2.ensures (c.y2-in-towers.ensures ∙ t_y2) c.if-y2.false) (edge_from r.x2 t.x2 c.x2-in-towers.result c.x2-in-towers-2.result (x2_fits r) (x2_fits t) c.x2-in-towers.ensures (c.x2-in-towers-2.ensures ∙ t_x2) c.if-x2-2.false))

pub towers-smaller : goal.towers-smaller
towers-smaller c =
    let old = c.args.towers.now.items in let towers = c.towers.towers.items in let from = c.towers.from in let at = c.towers.at in let r = c.towers.rest in let t = get_or towers at r in let way = c.towers.invariant.1 in
    let lt : at < length towers = in_list c.towers.towers at c.len.result c.len.ensures c.towers-test.true in
    let same : c.index-in-towers.result.now ≡ t = c.index-in-towers.ensures ∙ get_or_default towers at c.index-in-towers.result.now r lt in
    let t_x1 = ap (λ q. q.x1) same in let t_x2 = ap (λ q. q.x2) same in let t_y2 = ap (λ q. q.y2) same in
    fewer towers c.put_over.new.towers.items at (from + 1) lt (after_put towers c.put_over.new.towers.items from at c.columns_of-beside.result (let le = way.ordered in omega (arith, le, lt)) c.in_ok-put_over.ensures)

pub towers-preserved : goal.towers-preserved
towers-preserved c =
    let old = c.args.towers.now.items in let towers = c.towers.towers.items in let from = c.towers.from in let at = c.towers.at in let r = c.towers.rest in let t = get_or towers at r in let way = c.towers.invariant.1 in
    let lt : at < length towers = in_list c.towers.towers at c.len.result c.len.ensures c.towers-test.true in
    let same : c.index-in-towers.result.now ≡ t = c.index-in-towers.ensures ∙ get_or_default towers at c.index-in-towers.result.now r lt in
    let t_x1 = ap (λ q. q.x1) same in let t_x2 = ap (λ q. q.x2) same in let t_y2 = ap (λ q. q.y2) same in
    let hidden = to_z w64 c.towers.hidden-bits in let more = counts c.args.rect old towers from at r c.towers.invariant.0 hidden c.shared_area-hidden.result c.index-in-towers.result.now way c.requires.skyline.apart lt c.index-in-towers.ensures c.shared_area-hidden.ensures in
    let lower = not_upto r.y2 t.y2 c.y2.result c.y2-in-towers.result (y2_fits r) (y2_fits t) c.y2.ensures (c.y2-in-towers.ensures ∙ t_y2) c.if-y2.false in let upto = edge_from r.x2 t.x2 c.x2-in-towers.result c.x2-in-towers-2.result (x2_fits r) (x2_fits t) c.x2-in-towers.ensures (c.x2-in-towers-2.ensures ∙ t_x2) c.if-x2-2.false in (
      c.towers.invariant.0 + 1,
      rises c.args.rect old towers c.put_over.new.towers.items from at r c.towers.invariant.0 hidden (read (to_z w64 c.towers.hidden-bits +ℤ read c.shared_area-hidden.result)) t c.columns_of-beside.result way lt refl
          ((rw same at (c.if-is_over.ensures.beside refl)) lower upto) upto lower
          (columns_by c.columns_of-beside.result t t.x1 r.x1 c.x1-in-towers.result c.x1-in-towers-2.result (x1_fits t) (x1_fits r) (c.x1-in-towers.ensures ∙ t_x1) c.x1-in-towers-2.ensures (rw (← same) c.columns_of-beside.ensures))
          c.in_ok-put_over.ensures more.1,
    )

-- the towers ahead begin right of the rest
right : (c : goal.In_ok-put_over-2) → All (λ q. c.towers.rest.x2 ≤ℤ q.x1) (drop c.towers.at c.towers.towers.items)
right c =
    let towers = c.towers.towers.items in let at = c.towers.at in let r = c.towers.rest in let way = c.towers.invariant.1 in
    elim c.towers-test.branch [
      | then-towers-test+else-x1-x2 w ↦ (
          let lt : at < length towers = in_list c.towers.towers at c.len.result c.len.ensures w.towers-test.true in let t = get_or towers at r in
          let first : w.index.result.now ≡ t = w.index.ensures ∙ get_or_default towers at w.index.result.now r lt in
          right_from towers c.towers.from at t r way.ordered lt refl way.goes.is_open
          (edge_from t.x1 r.x2 w.x1.result w.x2.result (x1_fits t) (x2_fits r) (w.x1.ensures ∙ ap (λ q. q.x1) first) w.x2.ensures w.if-x1-x2.false))
      | else-towers-test w ↦ none_after towers at r.x2 (all_ahead c.towers.towers at c.len.result c.len.ensures way.within w.towers-test.false)
    ]
  where
    all_ahead : (v : Vec Rect Global) (at n : ℕ) → n ≡ vec_len v → at ≤ length v.items → n ≤ at → at ≡ length v.items
    all_ahead v at n is le past = let count : vec_len v ≡ length v.items = grind (arith, common_steps) in omega (arith, is, count, le, past)

pub returns-clause-hidden : goal.returns-clause-hidden
returns-clause-hidden c = counted_before c.args.rect c.args.towers.now.items c.towers.towers.items c.towers.from c.towers.at c.towers.rest c.towers.invariant.0 (to_z w64 c.towers.hidden-bits) c.towers.invariant.1 (right c)

pub returns-clause-settled : goal.returns-clause-settled
returns-clause-settled c = put_last c.args.rect c.args.towers.now.items c.towers.towers.items c.put_over-2.new.towers.items c.towers.from c.towers.at c.past_ended-to.result c.towers.rest c.towers.invariant.0 (to_z w64 c.towers.hidden-bits) c.towers.invariant.1 (right c)
    c.past_ended-to.ensures.from (rw c.deref.ensures.value at c.past_ended-to.ensures.within) (rw (c.deref.ensures.value, c.y1.ensures, read_y1 c.towers.rest) at c.past_ended-to.ensures.ended) c.in_ok-put_over-2.ensures
