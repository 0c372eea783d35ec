-- Heights of cells in an order.
use Rattle.std.proofs.Common.{◌≡◌, ℕ, zero, suc, ◌+◌, ◌<◌, ◌≤◌, ◌⊎◌, List, [], ◌∷◌, ◌++◌, length, take, refl, sym, ap, subst, arith, inl, inr, ◌∙◌}
use Rattle.std.specs.Prelude.{IsTrue, nat_le, ◌↔◌}
use Rattle.std.specs.List.{slice_set}
use Rattle.std.proofs.lemmas.Bool.{cases_eq, cases_lt}
use Rattle.std.proofs.lemmas.List.{get_or-take, get_or_append_left, length-take-le, length-set, take_more}
use Rattle.std.proofs.lemmas.Grind.{common_steps}
use Rattle.gds_cells.specs.Graphs.{Graph, next, item, IsDeep, IsTooDeep}
use Rattle.gds_cells.specs.steps.Searches.{IsOrdered}
use Rattle.gds_cells.specs.steps.Heights.{IsHeight, IsGreater, IsOver, IsAbove}
use Rattle.gds_cells.proofs.Items.{Changed, changed}

-- ---- one cell

pub above_more : (row heights : List ℕ) (i c h over_c new : ℕ) → i < length row → c ≡ item row i → ((d : ℕ) → item heights d ≤ 256)
    → IsAbove (take i row) heights h → IsOver (item heights c) over_c → IsGreater h over_c new → IsAbove (take (i + 1) row) heights new
above_more row heights i c h over_c new within is few before above now = record { most = most; over = over; under = under } where
  all : take (i + 1) row ≡ take i row ++ item row i ∷ []
  all = take_more row i 0 within

  len : length (take i row) ≡ i
  len = length-take-le i row (omega (arith, within))

  most : new ≤ 256
  most = let bound = before.most in let bound_c = above.most in let one = now.either in omega (arith, one, bound, bound_c)

  over : (n : ℕ) → n < new → (k : ℕ) × (k < length (take (i + 1) row)) × (n ≤ item heights (item (take (i + 1) row) k))
  over n small = cases (cases_lt n h) where
    cases : ((n < h) ⊎ (h ≤ n)) → (k : ℕ) × (k < length (take (i + 1) row)) × (n ≤ item heights (item (take (i + 1) row) k))
    cases (inl less) =
        let (k, in_row, least) = before.over n less in
        let longer : k < length (take (i + 1) row) = grind (arith, common_steps, in_row, len, within) in
        let same : item (take (i + 1) row) k ≡ item (take i row) k = ap (λ xs. item xs k) all ∙ get_or_append_left (take i row) (item row i ∷ []) 0 k in_row in
        (k, longer, rw same least)
    cases (inr most_h) =
        let longer : i < length (take (i + 1) row) = grind (arith, common_steps, within) in
        let there : item (take (i + 1) row) i ≡ c = get_or-take (i + 1) row i 0 (omega arith) ∙ sym is in
        let most_c = above.least in let one = now.either in
        let least : n ≤ item heights c = omega (arith, one, most_c, small, most_h) in
        (i, longer, rw there least)

  under : (k : ℕ) → k < length (take (i + 1) row) → (item heights (item (take (i + 1) row) k) < new) ⊎ (new ≡ 256)
  under k in_row = cases (cases_eq k i) where
    short : k < i + 1
    short = grind (arith, common_steps, in_row)

    there : item (take (i + 1) row) k ≡ item row k
    there = get_or-take (i + 1) row k 0 short

    last : item heights c < new ⊎ (new ≡ 256)
    last = from (cases_lt (item heights c) new)
      where
        from : ((item heights c < new) ⊎ (new ≤ item heights c)) → (item heights c < new) ⊎ (new ≡ 256)
        from (inl less) = inl less
        from (inr more) = let bound = few c in let up = above.more in let reach = now.second in inr (omega (arith, up, reach, more, bound, most))

    cases : ((k ≡ i) ⊎ (k ≡ i → ⊥)) → (item heights (item (take (i + 1) row) k) < new) ⊎ (new ≡ 256)
    cases (inl e) = rw (there, ap (item row) e, sym is) last
    cases (inr apart) =
        let before_i : k < i = omega (arith, short, apart) in
        let in_part : k < length (take i row) = omega (arith, before_i, len) in
        rw (there, sym (get_or-take i row k 0 before_i)) (raise (before.under k in_part))
      where
        raise : ((item heights (item (take i row) k) < h) ⊎ (h ≡ 256)) → (item heights (item (take i row) k) < new) ⊎ (new ≡ 256)
        raise (inl less) = let first = now.first in inl (omega (arith, less, first))
        raise (inr full) = let bound = most in let first = now.first in inr (omega (arith, full, first, bound))

-- the height is right where those of the cells that it refers to are
pub height_right : (g : Graph) (heights : List ℕ) (c h : ℕ) → IsAbove (next g c) heights h
    → ((k : ℕ) → k < length (next g c) → IsHeight g (item (next g c) k) (item heights (item (next g c) k))) → IsHeight g c h
height_right g heights c h above below = record { most = above.most; deep = deep; flat = flat } where
  deep : (n : ℕ) → n ≤ h → IsDeep g n c
  deep zero small = (c, refl)
  deep (suc n) small =
      let (k, in_row, least) = above.over n (omega (arith, small)) in
      let (d, chain) = (below k in_row).deep n least in
      (d, (k, in_row, chain))

  flat : (n : ℕ) → IsDeep g n c → (n ≤ h) ⊎ (h ≡ 256)
  flat zero (d, chain) = inl (omega arith)
  flat (suc n) (d, (k, in_row, chain)) = cases (above.under k in_row) ((below k in_row).flat n (d, chain)) where
    cases : ((item heights (item (next g c) k) < h) ⊎ (h ≡ 256)) → ((n ≤ item heights (item (next g c) k)) ⊎ (item heights (item (next g c) k) ≡ 256))
        → (suc n ≤ h) ⊎ (h ≡ 256)
    cases (inr full) other = inr full
    cases (inl less) (inl small) = inl (omega (arith, less, small))
    cases (inl less) (inr most) = let bound = above.most in absurd (omega (arith, less, most, bound))

-- ---- all cells, in order

pub record AreHeights (g : Graph) (order : List ℕ) (i : ℕ) (heights : List ℕ) : Type 0 where
  pub long : length heights ≡ length g + 1
  pub most : (c : ℕ) → item heights c ≤ 256
  pub right : (q : ℕ) → q < i → IsHeight g (item order q) (item heights (item order q))

pub heights_more : (g : Graph) (order : List ℕ) (i : ℕ) (heights : List ℕ) (h : ℕ) → IsOrdered g order → i < length order
    → item order i ≤ length g → AreHeights g order i heights → IsAbove (next g (item order i)) heights h
    → AreHeights g order (i + 1) (slice_set heights (item order i) h)
heights_more g order i heights h ordered within small so_far above = record {
  long = length-set heights (item order i) h ∙ so_far.long;
  most = most;
  right = right;
} where
  at : (c : ℕ) → Changed heights (item order i) h c
  at c = let long = so_far.long in changed heights (item order i) h c (omega (arith, small, long))

  below : (k : ℕ) → k < length (next g (item order i)) → IsHeight g (item (next g (item order i)) k) (item heights (item (next g (item order i)) k))
  below k in_row =
      let (p, under, is) = ordered i k within in_row in
      let len : length (take i order) ≡ i = length-take-le i order (omega (arith, within)) in
      let before : p < i = omega (arith, under, len) in
      let there : item order p ≡ item (next g (item order i)) k = sym (get_or-take i order p 0 before) ∙ is in
      subst (λ y. IsHeight g y (item heights y)) there (so_far.right p before)

  here : IsHeight g (item order i) h
  here = height_right g heights (item order i) h above below

  most : (c : ℕ) → item (slice_set heights (item order i) h) c ≤ 256
  most c = cases (at c) where
    cases : Changed heights (item order i) h c → item (slice_set heights (item order i) h) c ≤ 256
    cases (inl (e, now)) = let bound = above.most in omega (arith, now, bound)
    cases (inr (other, now)) = let bound = so_far.most c in omega (arith, now, bound)

  right : (q : ℕ) → q < i + 1 → IsHeight g (item order q) (item (slice_set heights (item order i) h) (item order q))
  right q before = cases (at (item order q)) where
    cases : Changed heights (item order i) h (item order q) → IsHeight g (item order q) (item (slice_set heights (item order i) h) (item order q))
    cases (inl (e, now)) = rw (now, e) here
    cases (inr (other, now)) =
        let earlier : q < i = below_it (cases_eq q i) in
        rw now (so_far.right q earlier)
      where
        below_it : ((q ≡ i) ⊎ (q ≡ i → ⊥)) → q < i
        below_it (inl e) = absurd (other (ap (item order) e))
        below_it (inr apart) = omega (arith, before, apart)

-- a height tells whether a chain is too long
pub too_deep : (g : Graph) (c h : ℕ) → IsHeight g c h → (256 ≤ h → IsTooDeep g c) × (IsTooDeep g c → 256 ≤ h)
too_deep g c h is = (there, here) where
  there : 256 ≤ h → IsTooDeep g c
  there many = record { references = h; chain = is.deep h (omega arith); many = many }

  here : IsTooDeep g c → 256 ≤ h
  here deep = cases (is.flat deep.references deep.chain) where
    cases : ((deep.references ≤ h) ⊎ (h ≡ 256)) → 256 ≤ h
    cases (inl small) = let many = deep.many in omega (arith, small, many)
    cases (inr full) = omega (arith, full)

pub deep_told : (g : Graph) (c h told : ℕ) → IsHeight g c h → told ≡ h → IsTrue (nat_le 256 told) ↔ IsTooDeep g c
deep_told g c h told is same =
    let (there, here) = too_deep g c h is in
    ((λ yes_it. there (by yes_it)), (λ deep. let many = here deep in grind (arith, common_steps, same, many))) where
      by : IsTrue (nat_le 256 told) → 256 ≤ h
      by t = grind (arith, common_steps, same, t)
