-- Where a search begins, and what it says when it has ended.
use Rattle.std.proofs.Common.{◌≡◌, ℕ, zero, suc, ◌+◌, ◌<◌, ◌≤◌, ◌⊎◌, false, List, [], ◌∷◌, ◌++◌, length, take, replicate, map, refl, sym, ap, subst, arith, inl, inr, ◌∙◌}
use Rattle.std.proofs.lemmas.Bool.{cases_eq}
use Rattle.std.proofs.lemmas.List.{get_or-take, length-take-le}
use Rattle.std.proofs.lemmas.List.Sums.{sum_by-set}
use Rattle.std.proofs.lemmas.Grind.{common_steps}
use Rattle.std.specs.List.{slice_set, sum}
use Rattle.gds_cells.specs.Graphs.{Graph, next, item, IsChain, IsReached, IsCyclic}
use Rattle.gds_cells.specs.steps.Searches.{State, begun, IsIn, IsOpen, IsClosed, IsOrdered, IsSearch}
use Rattle.gds_cells.specs.steps.Rows.{limit}
use Rattle.gds_cells.proofs.Items.{Changed, changed, item_within}

no_item : (n x : ℕ) → item (replicate n 0) x ≡ 0
no_item n x = grind (arith, common_steps)

module _ (g : Graph) (t : ℕ) (inside : t ≤ length g) where
  at_begin : (x : ℕ) → Changed (replicate (length g + 1) 0) t 1 x
  at_begin x = let long : t < length (replicate (length g + 1) 0) = grind (arith, common_steps, inside) in
      changed (replicate (length g + 1) 0) t 1 x long

  -- the top alone has a step
  one_step : (x : ℕ) → ((x ≡ t) × (item (slice_set (replicate (length g + 1) 0) t 1) x ≡ 1))
      ⊎ (item (slice_set (replicate (length g + 1) 0) t 1) x ≡ 0)
  one_step x = cases (at_begin x) where
    cases : Changed (replicate (length g + 1) 0) t 1 x → ((x ≡ t) × (item (slice_set (replicate (length g + 1) 0) t 1) x ≡ 1)) ⊎ (item (slice_set (replicate (length g + 1) 0) t 1) x ≡ 0)
    cases (inl both) = inl both
    cases (inr (other, now)) = inr (now ∙ no_item (length g + 1) x)

  top_step : item (slice_set (replicate (length g + 1) 0) t 1) t ≡ 1
  top_step = cases (at_begin t) where
    cases : Changed (replicate (length g + 1) 0) t 1 t → item (slice_set (replicate (length g + 1) 0) t 1) t ≡ 1
    cases (inl (e, now)) = now
    cases (inr (other, now)) = absurd (other refl)

  few : (x : ℕ) → item (slice_set (replicate (length g + 1) 0) t 1) x ≤ 1
  few x = cases (one_step x) where
    cases : ((x ≡ t) × (item (slice_set (replicate (length g + 1) 0) t 1) x ≡ 1)) ⊎ (item (slice_set (replicate (length g + 1) 0) t 1) x ≡ 0)
        → item (slice_set (replicate (length g + 1) 0) t 1) x ≤ 1
    cases (inl (e, now)) = omega (arith, now)
    cases (inr now) = omega (arith, now)

  is_top : (x : ℕ) → 0 < item (slice_set (replicate (length g + 1) 0) t 1) x → x ≡ t
  is_top x some = cases (one_step x) where
    cases : ((x ≡ t) × (item (slice_set (replicate (length g + 1) 0) t 1) x ≡ 1)) ⊎ (item (slice_set (replicate (length g + 1) 0) t 1) x ≡ 0) → x ≡ t
    cases (inl (e, now)) = e
    cases (inr now) = absurd (omega (arith, now, some))

  in_trail : (p : ℕ) → p < length (t ∷ []) → item (t ∷ []) p ≡ t
  in_trail zero within = refl
  in_trail (suc p) within = absurd (grind (arith, common_steps, within))

  pub begun_search : IsSearch g t (begun (length g) t)
  begun_search = record {
    long = grind (arith, common_steps);
    within = λ x. (let most = few x in omega (arith, most));
    begins = (let one = top_step in omega (arith, one));
    found = λ x some. (0, sym (is_top x some));
    on_trail = λ x o. (0, grind (arith, common_steps), sym (is_top x (o.0)));
    trail = λ p within. subst (λ y. IsOpen g (slice_set (replicate (length g + 1) 0) t 1) y) (sym (in_trail p within))
        (let one = top_step in (omega (arith, one), omega (arith, one)));
    apart = λ p q before within e. grind (arith, common_steps, before, within);
    along = λ p q before within. absurd (grind (arith, common_steps, before, within));
    passed = λ x j p. absurd (let most = few x in let past = p.1 in omega (arith, most, past));
    behind = λ free x j p. absurd (let most = few x in let past = p.1 in omega (arith, most, past));
    closed = λ x full. absurd (let most = few x in omega (arith, most, full));
    order = λ q within. absurd (grind (arith, common_steps, within));
    ordered = λ free q k within. absurd (grind (arith, common_steps, within));
    cycle = λ e. absurd cc;
  }

-- ---- a search that has ended

module _ (g : Graph) (t : ℕ) (s : State) (h : IsSearch g t s) (ended : s.trail ≡ []) where
  all_closed : (x : ℕ) → 0 < item s.steps x → IsClosed g s.steps x
  all_closed x some = cases (cases_eq (item s.steps x) (length (next g x) + 2)) where
    none_open : IsOpen g s.steps x → ⊥
    none_open o =
        let (p, within, is) = h.on_trail x o in
        let len : length s.trail ≡ 0 = ap length ended in omega (arith, within, len)

    cases : ((item s.steps x ≡ length (next g x) + 2) ⊎ (item s.steps x ≡ length (next g x) + 2 → ⊥)) → IsClosed g s.steps x
    cases (inl full) = full
    cases (inr other) = let bound = h.within x in absurd (none_open (some, omega (arith, bound, other)))

  marked : (n c d : ℕ) → 0 < item s.steps c → IsChain g n c d → 0 < item s.steps d
  marked zero c d some e = subst (λ y. 0 < item s.steps y) e some
  marked (suc n) c d some (k, in_row, chain) =
      let full = all_closed c some in
      marked n (item (next g c) k) d (h.passed c k (in_row, omega (arith, full, in_row))) chain

  pub reached_marked : (c : ℕ) → IsReached g t c → 0 < item s.steps c
  reached_marked c (n, chain) = marked n t c h.begins chain

  pub reached_in_order : (c : ℕ) → IsReached g t c → IsIn s.order c
  reached_in_order c reached = h.closed c (all_closed c (reached_marked c reached))

  pub order_reached : (q : ℕ) → q < length s.order → IsReached g t (item s.order q)
  order_reached q within = let full = h.order q within in h.found (item s.order q) (omega (arith, full))

-- ---- no cell of an ordered list leads to itself

before_in : (xs : List ℕ) (p q c : ℕ) → p < q → IsIn (take p xs) c → IsIn (take q xs) c
before_in xs p q c before (i, within, is) =
    let short : i < p = grind (arith, common_steps, within) in
    let inside : i < length (take q xs) = grind (arith, common_steps, within, before) in
    (i, inside, get_or-take q xs i 0 (omega (arith, short, before)) ∙ sym (get_or-take p xs i 0 short) ∙ is)

-- what stands before an index of the list
stands : (xs : List ℕ) (q c : ℕ) → q ≤ length xs → IsIn (take q xs) c → (p : ℕ) × (p < q) × (item xs p ≡ c)
stands xs q c within (p, below, is) =
    let len : length (take q xs) ≡ q = length-take-le q xs within in
    let under : p < q = omega (arith, below, len) in
    (p, under, sym (get_or-take q xs p 0 under) ∙ is)

chain_before : (g : Graph) (order : List ℕ) → IsOrdered g order → (n q d : ℕ) → q < length order
    → IsChain g (suc n) (item order q) d → IsIn (take q order) d
chain_before g order ordered zero q d within (k, in_row, is) = subst (λ y. IsIn (take q order) y) is (ordered q k within in_row)
chain_before g order ordered (suc n) q d within (k, in_row, chain) =
    let (p, under, is) = stands order q (item (next g (item order q)) k) (omega (arith, within)) (ordered q k within in_row) in
    before_in order p q d under
    (chain_before g order ordered n p d (omega (arith, under, within)) (subst (λ y. IsChain g (suc n) y d) (sym is) chain))

no_loop : (g : Graph) (order : List ℕ) → IsOrdered g order → (m q n : ℕ) → q < m → q < length order
    → IsChain g (suc n) (item order q) (item order q) → ⊥
no_loop g order ordered zero q n small within chain = omega (arith, small)
no_loop g order ordered (suc m) q n small within chain =
    let (p, under, is) = stands order q (item order q) (omega (arith, within)) (chain_before g order ordered n q (item order q) within chain) in
    no_loop g order ordered m p n (omega (arith, under, small)) (omega (arith, under, within))
    (subst (λ y. IsChain g (suc n) y y) (sym is) chain)

pub acyclic : (g : Graph) (t : ℕ) (s : State) → IsSearch g t s → s.trail ≡ [] → s.cyclic ≡ false → IsCyclic g t → ⊥
acyclic g t s h ended free c =
    let (q, within, is) = reached_in_order g t s h ended c.cell c.reached in
    no_loop g s.order (h.ordered free) (suc q) q c.more (omega arith) within
    (subst (λ y. IsChain g (suc c.more) y y) (sym is) c.chain)

-- ---- how many steps are left

abbrev pub limits : Graph → List ℕ
limits g = map limit g ++ 2 ∷ []

sum_below : (xs ys : List ℕ) → length xs ≡ length ys → ((c : ℕ) → item xs c ≤ item ys c) → sum xs ≤ sum ys
sum_below [] [] len each = grind (arith, common_steps)
sum_below [] (y ∷ ys) len each = absurd (grind (arith, common_steps, len))
sum_below (x ∷ xs) [] len each = absurd (grind (arith, common_steps, len))
sum_below (x ∷ xs) (y ∷ ys) len each =
    let first : x ≤ y = each 0 in
    let rest : sum xs ≤ sum ys = sum_below xs ys (grind (arith, common_steps, len)) (λ c. each (suc c)) in
    grind (arith, common_steps, first, rest)

limit_at : (g : Graph) (c : ℕ) → c ≤ length g → item (limits g) c ≡ length (next g c) + 2
limit_at [] zero within = refl
limit_at [] (suc c) within = absurd (omega (arith, within))
limit_at (row ∷ g) zero within = refl
limit_at (row ∷ g) (suc c) within = limit_at g c (grind (arith, common_steps, within))

pub steps_bounded : (g : Graph) (t : ℕ) (s : State) → IsSearch g t s → sum s.steps ≤ sum (limits g)
steps_bounded g t s h = sum_below s.steps (limits g) len each where
  len : length s.steps ≡ length (limits g)
  len = grind (arith, common_steps, h.long)

  each : (c : ℕ) → item s.steps c ≤ item (limits g) c
  each c = cases (cases_eq (item s.steps c) 0) where
    cases : ((item s.steps c ≡ 0) ⊎ (item s.steps c ≡ 0 → ⊥)) → item s.steps c ≤ item (limits g) c
    cases (inl none) = omega (arith, none)
    cases (inr some) =
        let inside = item_within s.steps c (omega (arith, some)) in
        let long = h.long in
        let bound = h.within c in
        let most = limit_at g c (omega (arith, inside, long)) in omega (arith, bound, most)

pub one_more : (xs : List ℕ) (i v : ℕ) → i < length xs → item xs i + 1 ≡ v → sum (slice_set xs i v) ≡ sum xs + 1
one_more xs i v within e = let both = sum_by-set (λ (n : ℕ). n) xs i v 0 within in grind (arith, common_steps, both, e)

pub begins : (g : Graph) (t n : ℕ) (s : State) → length g ≡ n → t < n → s ≡ begun n t → IsSearch g t s
begins g t n s len small is = rw (is, sym len) (begun_search g t (omega (arith, len, small)))
