-- Each step of a search keeps what `IsSearch` says.
use Rattle.std.proofs.Common.{◌≡◌, ℕ, suc, ◌+◌, ◌-◌, ◌<◌, ◌≤◌, ◌⊎◌, Bool, true, false, [], ◌∷◌, ◌++◌, length, take, refl, sym, ap, subst, arith, inl, inr, ◌∙◌}
use Rattle.std.specs.Prelude.{◌||◌, not, ◌==◌}
use Rattle.std.proofs.lemmas.Bool.{cases_eq}
use Rattle.std.proofs.lemmas.List.{length-set, get_or-take, length-take-le, take-append-le}
use Rattle.std.proofs.lemmas.Grind.{common_steps}
use Rattle.std.specs.List.{slice_set}
use Rattle.gds_cells.specs.Graphs.{Graph, next, item, IsChain, IsReached, IsCyclic}
use Rattle.gds_cells.specs.steps.Searches.{State, opened, passed, closed, IsIn, IsOpen, IsClosed, IsPassed, IsOrdered, IsSearch}
use Rattle.gds_cells.proofs.Chains.{chain_ends, reached_next}
use Rattle.gds_cells.proofs.Items.{Changed, changed, More, more, has_more, has_last, item_within}

abbrev pub last_of : State → ℕ
last_of s = item s.trail (length s.trail - 1)

pub here_open : (g : Graph) (t : ℕ) (s : State) → IsSearch g t s → 0 < length s.trail → IsOpen g s.steps (last_of s)
here_open g t s h on = let below : length s.trail - 1 < length s.trail = omega (arith, on) in h.trail (length s.trail - 1) below

-- each cell of the trail leads to the last
to_last : (g : Graph) (t : ℕ) (s : State) → IsSearch g t s → (p : ℕ) → p < length s.trail
    → (n : ℕ) × IsChain g n (item s.trail p) (last_of s)
to_last g t s h p within = cases (cases_eq p (length s.trail - 1)) where
  cases : ((p ≡ length s.trail - 1) ⊎ (p ≡ length s.trail - 1 → ⊥)) → (n : ℕ) × IsChain g n (item s.trail p) (last_of s)
  cases (inl e) = (0, ap (item s.trail) e)
  cases (inr other) =
      let below : p < length s.trail - 1 = omega (arith, within, other) in
      let last : length s.trail - 1 < length s.trail = omega (arith, within) in
      let (n, chain) = h.along p (length s.trail - 1) below last in (suc n, chain)

-- ---- a cell is opened that the last one refers to

module _ (g : Graph) (t : ℕ) (s : State) (h : IsSearch g t s) (on : 0 < length s.trail) (d k : ℕ)
    (in_row : k < length (next g (last_of s))) (is : item (next g (last_of s)) k ≡ d) (whole : d ≤ length g)
    (fresh : item s.steps d ≡ 0) where
  d_within : d < length s.steps
  d_within = omega (arith, h.long, whole)

  at : (x : ℕ) → Changed s.steps d 1 x
  at x = changed s.steps d 1 x d_within

  not_fresh : (x : ℕ) → 0 < item s.steps x → x ≡ d → ⊥
  not_fresh x some e = let zero_there : item s.steps x ≡ 0 = ap (item s.steps) e ∙ fresh in omega (arith, some, zero_there)

  stays_open : (x : ℕ) → IsOpen g s.steps x → IsOpen g (slice_set s.steps d 1) x
  stays_open x o = cases (at x) where
    cases : Changed s.steps d 1 x → IsOpen g (slice_set s.steps d 1) x
    cases (inl (e, now)) = absurd (not_fresh x o.0 e)
    cases (inr (other, now)) = rw now o

  stays_closed : (x : ℕ) → IsClosed g s.steps x → IsClosed g (slice_set s.steps d 1) x
  stays_closed x o = cases (at x) where
    cases : Changed s.steps d 1 x → IsClosed g (slice_set s.steps d 1) x
    cases (inl (e, now)) = let some : 0 < item s.steps x = omega (arith, o) in absurd (not_fresh x some e)
    cases (inr (other, now)) = now ∙ o

  d_open : IsOpen g (slice_set s.steps d 1) d
  d_open = cases (at d) where
    cases : Changed s.steps d 1 d → IsOpen g (slice_set s.steps d 1) d
    cases (inl (e, now)) = let one : item (slice_set s.steps d 1) d ≡ 1 = now in (omega (arith, one), omega (arith, one))
    cases (inr (other, now)) = absurd (other refl)

  opened_within : (x : ℕ) → item (slice_set s.steps d 1) x ≤ length (next g x) + 2
  opened_within x = cases (at x) where
    cases : Changed s.steps d 1 x → item (slice_set s.steps d 1) x ≤ length (next g x) + 2
    cases (inl (e, now)) = omega (arith, now)
    cases (inr (other, now)) = let before = h.within x in omega (arith, now, before)

  grows : (x : ℕ) → 0 < item s.steps x → 0 < item (slice_set s.steps d 1) x
  grows x some = cases (at x) where
    cases : Changed s.steps d 1 x → 0 < item (slice_set s.steps d 1) x
    cases (inl (e, now)) = omega (arith, now)
    cases (inr (other, now)) = omega (arith, now, some)

  d_reached : IsReached g t d
  d_reached = subst (λ x. IsReached g t x) is
      (reached_next g t (last_of s) k (h.found (last_of s) ((here_open g t s h on).0)) in_row)

  opened_found : (x : ℕ) → 0 < item (slice_set s.steps d 1) x → IsReached g t x
  opened_found x some = cases (at x) where
    cases : Changed s.steps d 1 x → IsReached g t x
    cases (inl (e, now)) = subst (λ y. IsReached g t y) (sym e) d_reached
    cases (inr (other, now)) = let before : 0 < item s.steps x = omega (arith, now, some) in h.found x before

  opened_on : (x : ℕ) → IsOpen g (slice_set s.steps d 1) x → IsIn (s.trail ++ d ∷ []) x
  opened_on x o = cases (at x) where
    cases : Changed s.steps d 1 x → IsIn (s.trail ++ d ∷ []) x
    cases (inl (e, now)) = subst (λ y. IsIn (s.trail ++ d ∷ []) y) (sym e) (has_last s.trail d)
    cases (inr (other, now)) = has_more s.trail d x (h.on_trail x (rw (sym now) o))

  opened_trail : (p : ℕ) → p < length (s.trail ++ d ∷ []) → IsOpen g (slice_set s.steps d 1) (item (s.trail ++ d ∷ []) p)
  opened_trail p within = cases (more s.trail d p within) where
    cases : More s.trail d p → IsOpen g (slice_set s.steps d 1) (item (s.trail ++ d ∷ []) p)
    cases (inl (below, now)) = subst (λ y. IsOpen g (slice_set s.steps d 1) y) (sym now) (stays_open (item s.trail p) (h.trail p below))
    cases (inr (e, now)) = subst (λ y. IsOpen g (slice_set s.steps d 1) y) (sym now) d_open

  opened_apart : (p q : ℕ) → p < q → q < length (s.trail ++ d ∷ []) → item (s.trail ++ d ∷ []) p ≡ item (s.trail ++ d ∷ []) q → ⊥
  opened_apart p q before within same = cases (more s.trail d p (omega (arith, before, within))) (more s.trail d q within) where
    cases : More s.trail d p → More s.trail d q → ⊥
    cases (inl (below, now)) (inl (under, then)) = h.apart p q before under (sym now ∙ same ∙ then)
    cases (inl (below, now)) (inr (e, then)) = not_fresh (item s.trail p) ((h.trail p below).0) (sym now ∙ same ∙ then)
    cases (inr (e, now)) (inl (under, then)) = omega (arith, before, e, under)
    cases (inr (e, now)) (inr (f, then)) = omega (arith, before, e, f)

  opened_along : (p q : ℕ) → p < q → q < length (s.trail ++ d ∷ [])
      → (n : ℕ) × IsChain g (suc n) (item (s.trail ++ d ∷ []) p) (item (s.trail ++ d ∷ []) q)
  opened_along p q before within = cases (more s.trail d p (omega (arith, before, within))) (more s.trail d q within) where
    cases : More s.trail d p → More s.trail d q → (n : ℕ) × IsChain g (suc n) (item (s.trail ++ d ∷ []) p) (item (s.trail ++ d ∷ []) q)
    cases (inl (below, now)) (inl (under, then)) = rw (now, then) (h.along p q before under)
    cases (inl (below, now)) (inr (e, then)) =
        let (n, chain) = to_last g t s h p below in
        rw (now, then) (n, subst (λ y. IsChain g (suc n) (item s.trail p) y) is (chain_ends g n (item s.trail p) (last_of s) k chain in_row))
    cases (inr (e, now)) (inl (under, then)) = absurd (omega (arith, before, e, under))
    cases (inr (e, now)) (inr (f, then)) = absurd (omega (arith, before, e, f))

  -- what is passed now was passed before
  was_passed : (x j : ℕ) → IsPassed g (slice_set s.steps d 1) x j → IsPassed g s.steps x j
  was_passed x j (in_x, past) = cases (at x) where
    cases : Changed s.steps d 1 x → IsPassed g s.steps x j
    cases (inl (e, now)) = absurd (omega (arith, now, past))
    cases (inr (other, now)) = (in_x, omega (arith, now, past))

  was_closed : (x : ℕ) → IsClosed g (slice_set s.steps d 1) x → IsClosed g s.steps x
  was_closed x c = cases (at x) where
    cases : Changed s.steps d 1 x → IsClosed g s.steps x
    cases (inl (e, now)) = absurd (omega (arith, now, c))
    cases (inr (other, now)) = sym now ∙ c

  pub opened_search : IsSearch g t (opened d s)
  opened_search = record {
    long = length-set s.steps d 1 ∙ h.long;
    within = opened_within;
    begins = grows t h.begins;
    found = opened_found;
    on_trail = opened_on;
    trail = opened_trail;
    apart = opened_apart;
    along = opened_along;
    passed = λ x j p. grows (item (next g x) j) (h.passed x j (was_passed x j p));
    behind = λ free x j p. h.behind free x j (was_passed x j p);
    closed = λ x c. h.closed x (was_closed x c);
    order = λ q within. stays_closed (item s.order q) (h.order q within);
    ordered = h.ordered;
    cycle = h.cycle;
  }

or_false : (a b : Bool) → (a || b) ≡ false → (a ≡ false) × (b ≡ false)
or_false false false e = (refl, refl)
or_false false true e = absurd cc
or_false true b e = absurd cc

-- ---- a reference of the last cell is passed

module _ (g : Graph) (t : ℕ) (s : State) (h : IsSearch g t s) (on : 0 < length s.trail) (c d k : ℕ)
    (last : last_of s ≡ c) (here : item s.steps c ≡ k + 1) (in_row : k < length (next g c)) (is : item (next g c) k ≡ d)
    (old : 0 < item s.steps d) (again : Bool) (told : again ≡ not (item s.steps d == length (next g d) + 2)) where
  c_open : IsOpen g s.steps c
  c_open = subst (λ x. IsOpen g s.steps x) last (here_open g t s h on)

  steps_of : (x : ℕ) → Changed s.steps c (item s.steps c + 1) x
  steps_of x = changed s.steps c (item s.steps c + 1) x (item_within s.steps c (c_open.0))

  still_open : (x : ℕ) → IsOpen g s.steps x → IsOpen g (slice_set s.steps c (item s.steps c + 1)) x
  still_open x o = cases (steps_of x) where
    cases : Changed s.steps c (item s.steps c + 1) x → IsOpen g (slice_set s.steps c (item s.steps c + 1)) x
    cases (inl (e, now)) = subst (λ y. IsOpen g (slice_set s.steps c (item s.steps c + 1)) y) (sym e)
        (let now_c : item (slice_set s.steps c (item s.steps c + 1)) c ≡ k + 2 = omega (arith, subst (λ y. item (slice_set s.steps c (item s.steps c + 1)) y ≡ item s.steps c + 1) e now, here) in
        (omega (arith, now_c), omega (arith, now_c, in_row)))
    cases (inr (other, now)) = rw now o

  passed_within : (x : ℕ) → item (slice_set s.steps c (item s.steps c + 1)) x ≤ length (next g x) + 2
  passed_within x = cases (steps_of x) where
    cases : Changed s.steps c (item s.steps c + 1) x → item (slice_set s.steps c (item s.steps c + 1)) x ≤ length (next g x) + 2
    cases (inl (e, now)) = let len : length (next g x) ≡ length (next g c) = ap (λ y. length (next g y)) e in omega (arith, now, here, in_row, len)
    cases (inr (other, now)) = let before = h.within x in omega (arith, now, before)

  rises : (x : ℕ) → item s.steps x ≤ item (slice_set s.steps c (item s.steps c + 1)) x
  rises x = cases (steps_of x) where
    cases : Changed s.steps c (item s.steps c + 1) x → item s.steps x ≤ item (slice_set s.steps c (item s.steps c + 1)) x
    cases (inl (e, now)) = let same : item s.steps x ≡ item s.steps c = ap (item s.steps) e in omega (arith, now, same)
    cases (inr (other, now)) = omega (arith, now)

  passed_found : (x : ℕ) → 0 < item (slice_set s.steps c (item s.steps c + 1)) x → IsReached g t x
  passed_found x some = cases (steps_of x) where
    cases : Changed s.steps c (item s.steps c + 1) x → IsReached g t x
    cases (inl (e, now)) = subst (λ y. IsReached g t y) (sym e) (h.found c (c_open.0))
    cases (inr (other, now)) = let before : 0 < item s.steps x = omega (arith, now, some) in h.found x before

  passed_on : (x : ℕ) → IsOpen g (slice_set s.steps c (item s.steps c + 1)) x → IsIn s.trail x
  passed_on x o = cases (steps_of x) where
    cases : Changed s.steps c (item s.steps c + 1) x → IsIn s.trail x
    cases (inl (e, now)) = subst (λ y. IsIn s.trail y) (sym e) (h.on_trail c c_open)
    cases (inr (other, now)) = h.on_trail x (rw (sym now) o)

  -- what is passed now was passed before, but for the one that's passed
  abbrev Passes : ℕ → ℕ → Type 0
  Passes x j = IsPassed g s.steps x j ⊎ ((x ≡ c) × (j ≡ k))

  passes : (x j : ℕ) → IsPassed g (slice_set s.steps c (item s.steps c + 1)) x j → Passes x j
  passes x j (in_x, past) = cases (steps_of x) (cases_eq j k) where
    cases : Changed s.steps c (item s.steps c + 1) x → ((j ≡ k) ⊎ (j ≡ k → ⊥)) → Passes x j
    cases (inl (e, now)) (inl same) = inr (e, same)
    cases (inl (e, now)) (inr other) = let before : item s.steps x ≡ k + 1 = ap (item s.steps) e ∙ here in
        inl (in_x, omega (arith, now, here, before, past, other))
    cases (inr (there, now)) o = inl (in_x, omega (arith, now, past))

  d_at : (x j : ℕ) → x ≡ c → j ≡ k → d ≡ item (next g x) j
  d_at x j e f = rw (e, f) (sym is)

  passed_passed : (x j : ℕ) → IsPassed g (slice_set s.steps c (item s.steps c + 1)) x j
      → 0 < item (slice_set s.steps c (item s.steps c + 1)) (item (next g x) j)
  passed_passed x j p = cases (passes x j p) where
    cases : Passes x j → 0 < item (slice_set s.steps c (item s.steps c + 1)) (item (next g x) j)
    cases (inl before) = let some = h.passed x j before in let more = rises (item (next g x) j) in omega (arith, some, more)
    cases (inr (e, f)) = subst (λ y. 0 < item (slice_set s.steps c (item s.steps c + 1)) y) (d_at x j e f)
        (let more = rises d in omega (arith, old, more))

  -- a reference to a cell that isn't open is to a closed one
  d_closed : again ≡ false → IsClosed g s.steps d
  d_closed free = by (item s.steps d) (length (next g d) + 2) (sym told ∙ free) where
    by : (m n : ℕ) → not (m == n) ≡ false → m ≡ n
    by m n e = grind (arith, common_steps)

  d_unclosed : again ≡ true → IsClosed g s.steps d → ⊥
  d_unclosed so = by (item s.steps d) (length (next g d) + 2) (sym told ∙ so) where
    by : (m n : ℕ) → not (m == n) ≡ true → m ≡ n → ⊥
    by m n e same = grind (arith, common_steps)

  passed_behind : (s.cyclic || again) ≡ false → (x j : ℕ) → IsPassed g (slice_set s.steps c (item s.steps c + 1)) x j
      → IsIn s.order (item (next g x) j)
  passed_behind free x j p = cases (passes x j p) where
    cases : Passes x j → IsIn s.order (item (next g x) j)
    cases (inl before) = h.behind ((or_false s.cyclic again free).0) x j before
    cases (inr (e, f)) = subst (λ y. IsIn s.order y) (d_at x j e f) (h.closed d (d_closed ((or_false s.cyclic again free).1)))

  passed_closed : (x : ℕ) → IsClosed g (slice_set s.steps c (item s.steps c + 1)) x → IsIn s.order x
  passed_closed x full = cases (steps_of x) where
    cases : Changed s.steps c (item s.steps c + 1) x → IsIn s.order x
    cases (inl (e, now)) = let len : length (next g x) ≡ length (next g c) = ap (λ y. length (next g y)) e in
        absurd (omega (arith, now, here, in_row, len, full))
    cases (inr (other, now)) = h.closed x (sym now ∙ full)

  passed_order : (q : ℕ) → q < length s.order → IsClosed g (slice_set s.steps c (item s.steps c + 1)) (item s.order q)
  passed_order q within = cases (steps_of (item s.order q)) where
    cases : Changed s.steps c (item s.steps c + 1) (item s.order q) → IsClosed g (slice_set s.steps c (item s.steps c + 1)) (item s.order q)
    cases (inl (e, now)) =
        let full : IsClosed g s.steps c = subst (λ y. IsClosed g s.steps y) e (h.order q within) in
        let wide = c_open.1 in absurd (omega (arith, full, wide))
    cases (inr (other, now)) = now ∙ h.order q within

  -- a reference to an open cell closes a chain
  back_chain : IsIn s.trail d → (n : ℕ) × IsChain g n d c
  back_chain (p, within, at_p) =
      let (n, chain) = to_last g t s h p within in
      (n, subst (λ y. IsChain g n d y) last (subst (λ y. IsChain g n y (last_of s)) at_p chain))

  is_cyclic : again ≡ true → IsCyclic g t
  is_cyclic so =
      let short : item s.steps d < length (next g d) + 2 =
      (let bound = h.within d in let apart = d_unclosed so in omega (arith, bound, apart)) in
      let (n, chain) = back_chain (h.on_trail d (old, short)) in
      record {
        cell = d;
        reached = h.found d old;
        more = n;
        chain = subst (λ y. IsChain g (suc n) d y) is (chain_ends g n d c k chain in_row);
      }

  passed_cycle : (s.cyclic || again) ≡ true → IsCyclic g t
  passed_cycle so = cases s.cyclic again refl refl so where
    cases : (a b : Bool) → a ≡ s.cyclic → b ≡ again → (a || b) ≡ true → IsCyclic g t
    cases true b e f y = h.cycle (sym e)
    cases false true e f y = is_cyclic (sym f)
    cases false false e f y = absurd cc

  pub passed_search : IsSearch g t (passed c again s)
  passed_search = record {
    long = length-set s.steps c (item s.steps c + 1) ∙ h.long;
    within = passed_within;
    begins = (let more = rises t in let some = h.begins in omega (arith, some, more));
    found = passed_found;
    on_trail = passed_on;
    trail = λ p within. still_open (item s.trail p) (h.trail p within);
    apart = h.apart;
    along = h.along;
    passed = passed_passed;
    behind = passed_behind;
    closed = passed_closed;
    order = passed_order;
    ordered = λ free. h.ordered ((or_false s.cyclic again free).0);
    cycle = passed_cycle;
  }

-- ---- the last cell is closed

module _ (g : Graph) (t : ℕ) (s : State) (h : IsSearch g t s) (on : 0 < length s.trail) (c : ℕ)
    (last : last_of s ≡ c) (here : item s.steps c ≡ length (next g c) + 1) where
  open_c : IsOpen g s.steps c
  open_c = subst (λ x. IsOpen g s.steps x) last (here_open g t s h on)

  at_closed : (x : ℕ) → Changed s.steps c (item s.steps c + 1) x
  at_closed x = changed s.steps c (item s.steps c + 1) x (item_within s.steps c (open_c.0))

  abbrev before_last : ℕ → Type 0
  before_last p = (p < length s.trail - 1) × (item (take (length s.trail - 1) s.trail) p ≡ item s.trail p)

  on_before : (p : ℕ) → p < length (take (length s.trail - 1) s.trail) → before_last p
  on_before p within =
      let len : length (take (length s.trail - 1) s.trail) ≡ length s.trail - 1 = length-take-le (length s.trail - 1) s.trail (omega arith) in
      let below : p < length s.trail - 1 = omega (arith, within, len) in
      (below, get_or-take (length s.trail - 1) s.trail p 0 below)

  c_is_last : (p : ℕ) → p < length s.trail - 1 → item s.trail p ≡ c → ⊥
  c_is_last p below e =
      let under : length s.trail - 1 < length s.trail = omega (arith, on) in
      h.apart p (length s.trail - 1) below under (e ∙ sym last)

  still_unclosed : (x : ℕ) → (x ≡ c → ⊥) → IsOpen g s.steps x → IsOpen g (slice_set s.steps c (item s.steps c + 1)) x
  still_unclosed x other o = cases (at_closed x) where
    cases : Changed s.steps c (item s.steps c + 1) x → IsOpen g (slice_set s.steps c (item s.steps c + 1)) x
    cases (inl (e, now)) = absurd (other e)
    cases (inr (there, now)) = rw now o

  c_closed : (x : ℕ) → x ≡ c → IsClosed g (slice_set s.steps c (item s.steps c + 1)) x
  c_closed x e = cases (at_closed x) where
    cases : Changed s.steps c (item s.steps c + 1) x → IsClosed g (slice_set s.steps c (item s.steps c + 1)) x
    cases (inl (f, now)) = let len : length (next g x) ≡ length (next g c) = ap (λ y. length (next g y)) e in omega (arith, now, here, len)
    cases (inr (other, now)) = absurd (other e)

  closed_within : (x : ℕ) → item (slice_set s.steps c (item s.steps c + 1)) x ≤ length (next g x) + 2
  closed_within x = cases (at_closed x) where
    cases : Changed s.steps c (item s.steps c + 1) x → item (slice_set s.steps c (item s.steps c + 1)) x ≤ length (next g x) + 2
    cases (inl (e, now)) = let full = c_closed x e in omega (arith, full)
    cases (inr (other, now)) = let before = h.within x in omega (arith, now, before)

  closed_rises : (x : ℕ) → item s.steps x ≤ item (slice_set s.steps c (item s.steps c + 1)) x
  closed_rises x = cases (at_closed x) where
    cases : Changed s.steps c (item s.steps c + 1) x → item s.steps x ≤ item (slice_set s.steps c (item s.steps c + 1)) x
    cases (inl (e, now)) = let same : item s.steps x ≡ item s.steps c = ap (item s.steps) e in omega (arith, now, same)
    cases (inr (other, now)) = omega (arith, now)

  closed_found : (x : ℕ) → 0 < item (slice_set s.steps c (item s.steps c + 1)) x → IsReached g t x
  closed_found x some = cases (at_closed x) where
    cases : Changed s.steps c (item s.steps c + 1) x → IsReached g t x
    cases (inl (e, now)) = subst (λ y. IsReached g t y) (sym e) (h.found c (open_c.0))
    cases (inr (other, now)) = let before : 0 < item s.steps x = omega (arith, now, some) in h.found x before

  from_trail : (x : ℕ) → (x ≡ c → ⊥) → IsIn s.trail x → IsIn (take (length s.trail - 1) s.trail) x
  from_trail x other (p, within, is) = cases (cases_eq p (length s.trail - 1)) where
    cases : ((p ≡ length s.trail - 1) ⊎ (p ≡ length s.trail - 1 → ⊥)) → IsIn (take (length s.trail - 1) s.trail) x
    cases (inl e) = absurd (other (sym is ∙ ap (item s.trail) e ∙ last))
    cases (inr apart) =
        let below : p < length s.trail - 1 = omega (arith, within, apart) in
        let len : length (take (length s.trail - 1) s.trail) ≡ length s.trail - 1 = length-take-le (length s.trail - 1) s.trail (omega arith) in
        (p, omega (arith, below, len), get_or-take (length s.trail - 1) s.trail p 0 below ∙ is)

  closed_on : (x : ℕ) → IsOpen g (slice_set s.steps c (item s.steps c + 1)) x → IsIn (take (length s.trail - 1) s.trail) x
  closed_on x o = cases (at_closed x) where
    cases : Changed s.steps c (item s.steps c + 1) x → IsIn (take (length s.trail - 1) s.trail) x
    cases (inl (e, now)) = let full = c_closed x e in let wide = o.1 in absurd (omega (arith, full, wide))
    cases (inr (other, now)) = from_trail x other (h.on_trail x (rw (sym now) o))

  closed_trail : (p : ℕ) → p < length (take (length s.trail - 1) s.trail)
      → IsOpen g (slice_set s.steps c (item s.steps c + 1)) (item (take (length s.trail - 1) s.trail) p)
  closed_trail p within =
      let (below, is) = on_before p within in
      subst (λ y. IsOpen g (slice_set s.steps c (item s.steps c + 1)) y) (sym is)
      (still_unclosed (item s.trail p) (c_is_last p below) (h.trail p (omega (arith, below))))

  closed_apart : (p q : ℕ) → p < q → q < length (take (length s.trail - 1) s.trail)
      → item (take (length s.trail - 1) s.trail) p ≡ item (take (length s.trail - 1) s.trail) q → ⊥
  closed_apart p q before within same =
      let (below, is) = on_before p (omega (arith, before, within)) in
      let (under, at_q) = on_before q within in
      h.apart p q before (omega (arith, under)) (sym is ∙ same ∙ at_q)

  closed_along : (p q : ℕ) → p < q → q < length (take (length s.trail - 1) s.trail)
      → (n : ℕ) × IsChain g (suc n) (item (take (length s.trail - 1) s.trail) p) (item (take (length s.trail - 1) s.trail) q)
  closed_along p q before within =
      let (below, is) = on_before p (omega (arith, before, within)) in
      let (under, at_q) = on_before q within in
      rw (is, at_q) (h.along p q before (omega (arith, under)))

  -- what is passed now was passed before
  closed_was : (x j : ℕ) → IsPassed g (slice_set s.steps c (item s.steps c + 1)) x j → IsPassed g s.steps x j
  closed_was x j (in_x, past) = cases (at_closed x) where
    cases : Changed s.steps c (item s.steps c + 1) x → IsPassed g s.steps x j
    cases (inl (e, now)) =
        let len : length (next g x) ≡ length (next g c) = ap (λ y. length (next g y)) e in
        let before : item s.steps x ≡ length (next g c) + 1 = ap (item s.steps) e ∙ here in
        (in_x, omega (arith, len, before, in_x))
    cases (inr (other, now)) = (in_x, omega (arith, now, past))

  closed_closed : (x : ℕ) → IsClosed g (slice_set s.steps c (item s.steps c + 1)) x → IsIn (s.order ++ c ∷ []) x
  closed_closed x full = cases (at_closed x) where
    cases : Changed s.steps c (item s.steps c + 1) x → IsIn (s.order ++ c ∷ []) x
    cases (inl (e, now)) = subst (λ y. IsIn (s.order ++ c ∷ []) y) (sym e) (has_last s.order c)
    cases (inr (other, now)) = has_more s.order c x (h.closed x (sym now ∙ full))

  not_c : (x : ℕ) → IsClosed g s.steps x → x ≡ c → ⊥
  not_c x full e =
      let c_full : IsClosed g s.steps c = subst (λ y. IsClosed g s.steps y) e full in
      let wide = open_c.1 in omega (arith, c_full, wide)

  closed_order : (q : ℕ) → q < length (s.order ++ c ∷ []) → IsClosed g (slice_set s.steps c (item s.steps c + 1)) (item (s.order ++ c ∷ []) q)
  closed_order q within = cases (more s.order c q within) where
    cases : More s.order c q → IsClosed g (slice_set s.steps c (item s.steps c + 1)) (item (s.order ++ c ∷ []) q)
    cases (inl (below, now)) = subst (λ y. IsClosed g (slice_set s.steps c (item s.steps c + 1)) y) (sym now) (still (at_closed (item s.order q)))
      where
        still : Changed s.steps c (item s.steps c + 1) (item s.order q) → IsClosed g (slice_set s.steps c (item s.steps c + 1)) (item s.order q)
        still (inl (e, is)) = absurd (not_c (item s.order q) (h.order q below) e)
        still (inr (other, is)) = is ∙ h.order q below
    cases (inr (e, now)) = subst (λ y. IsClosed g (slice_set s.steps c (item s.steps c + 1)) y) (sym now) (c_closed c refl)

  closed_ordered : s.cyclic ≡ false → IsOrdered g (s.order ++ c ∷ [])
  closed_ordered free q k within in_row = cases (more s.order c q within) where
    cases : More s.order c q → IsIn (take q (s.order ++ c ∷ [])) (item (next g (item (s.order ++ c ∷ []) q)) k)
    cases (inl (below, now)) =
        rw (now, take-append-le q s.order (c ∷ []) (omega (arith, below)))
        (h.ordered free q k below (rw (sym now) in_row))
    cases (inr (e, now)) =
        let in_c : k < length (next g c) = rw (sym now) in_row in
        let all : take q (s.order ++ c ∷ []) ≡ s.order = grind (arith, common_steps, e) in
        rw (now, all) (h.behind free c k (in_c, omega (arith, here, in_c)))

  pub closed_search : IsSearch g t (closed c s)
  closed_search = record {
    long = length-set s.steps c (item s.steps c + 1) ∙ h.long;
    within = closed_within;
    begins = (let more = closed_rises t in let some = h.begins in omega (arith, some, more));
    found = closed_found;
    on_trail = closed_on;
    trail = closed_trail;
    apart = closed_apart;
    along = closed_along;
    passed = λ x j p. (let some = h.passed x j (closed_was x j p) in let more = closed_rises (item (next g x) j) in omega (arith, some, more));
    behind = λ free x j p. has_more s.order c (item (next g x) j) (h.behind free x j (closed_was x j p));
    closed = closed_closed;
    order = closed_order;
    ordered = closed_ordered;
    cycle = h.cycle;
  }
