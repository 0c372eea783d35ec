-- Numbers of copies that stop at 4,000,001.
use Rattle.std.proofs.Common.{◌≡◌, ℕ, zero, suc, ◌+◌, ◌-◌, ◌*◌, ◌<◌, ◌≤◌, ◌⊎◌, inl, inr, List, length, take, get_or, refl, sym, ap, subst, arith, ◌∙◌}
use Rattle.std.specs.Prelude.{slice_get, Some, All}
use Rattle.std.specs.List.{sum_by}
use Rattle.std.proofs.lemmas.List.{take_more, get_or-take}
use Rattle.std.proofs.lemmas.Grind.{common_steps}
use Rattle.gds_cells.specs.declared.cell.Cell.{Cell}
use Rattle.gds_cells.specs.declared.link.Link.{Link}
use Rattle.gds_cells.specs.Copies.{copies}
use Rattle.gds_cells.specs.steps.Walks.{hierarchy}
use Rattle.gds_cells.specs.Graphs.{item}
use Rattle.gds_cells.specs.steps.Counting.{IsCapped, AreRight, AreCounted, links_in}

-- so many times a number: exact, or both beyond
times : (m b each : ℕ) → 0 < m → IsCapped b each → (m * each ≡ m * b) ⊎ ((4000001 ≤ m * each) × (4000001 ≤ m * b))
times m b each some h = cases h.exact where
  at_least : (x : ℕ) → 4000001 ≤ x → 4000001 ≤ m * x
  at_least x large = grind (arith, common_steps, some, large)

  cases : ((each ≡ b) ⊎ ((each ≡ 4000001) × (4000001 ≤ b))) → (m * each ≡ m * b) ⊎ ((4000001 ≤ m * each) × (4000001 ≤ m * b))
  cases (inl e) = inl (ap (λ x. m * x) e)
  cases (inr (full, large)) = inr (at_least each (omega (arith, full)), at_least b large)

pub more_capped : (a total m b each new : ℕ) → 0 < m → IsCapped a total → IsCapped b each → IsCapped (total + m * each) new → IsCapped (a + m * b) new
more_capped a total m b each new some before below now = record { most = now.most; exact = cases before.exact (times m b each some below) now.exact } where
  cases : ((total ≡ a) ⊎ ((total ≡ 4000001) × (4000001 ≤ a))) → ((m * each ≡ m * b) ⊎ ((4000001 ≤ m * each) × (4000001 ≤ m * b)))
      → ((new ≡ total + m * each) ⊎ ((new ≡ 4000001) × (4000001 ≤ total + m * each))) → (new ≡ a + m * b) ⊎ ((new ≡ 4000001) × (4000001 ≤ a + m * b))
  cases (inl e) (inl f) (inl is) = inl (is ∙ rw (e, f) refl)
  cases (inl e) (inl f) (inr (full, large)) = inr (full, subst (λ x. 4000001 ≤ x) (rw (e, f) refl) large)
  cases (inr (t, large)) f (inl is) = let bound = now.most in inr (omega (arith, is, bound, t), omega (arith, large))
  cases (inr (t, large)) f (inr (full, more)) = inr (full, omega (arith, large))
  cases t (inr (e, f)) (inl is) = let bound = now.most in inr (omega (arith, is, bound, e), omega (arith, f))
  cases t (inr (e, f)) (inr (full, more)) = inr (full, omega (arith, f))

part_right : (f : ℕ → ℕ) (counts : List ℕ) (links : List Link) (k : ℕ) → k < length links → AreRight f counts (take (k + 1) links)
    → AreRight f counts (take k links)
part_right f counts links k within all j d small =
    let short : j < k = grind (arith, common_steps, small) in
    let longer : j < length (take (k + 1) links) = grind (arith, common_steps, within, short) in
    let same : get_or (take (k + 1) links) j d ≡ get_or (take k links) j d =
    get_or-take (k + 1) links j d (omega (arith, short)) ∙ sym (get_or-take k links j d short) in
    subst (λ l. IsCapped (f l.cell) (item counts l.cell)) same (all j d longer)

last_right : (f : ℕ → ℕ) (counts : List ℕ) (links : List Link) (k : ℕ) (l : Link) → k < length links → l ≡ get_or links k l
    → AreRight f counts (take (k + 1) links) → IsCapped (f l.cell) (item counts l.cell)
last_right f counts links k l within is all =
    let longer : k < length (take (k + 1) links) = grind (arith, common_steps, within) in
    let same : get_or (take (k + 1) links) k l ≡ l = get_or-take (k + 1) links k l (omega arith) ∙ sym is in
    subst (λ m. IsCapped (f m.cell) (item counts m.cell)) same (all k l longer)

abbrev pub so_far : (ℕ → ℕ) → ℕ → List Link → ℕ
so_far f own links = own + sum_by (λ k. (k.columns * k.rows) * f k.cell) links

pub link_counted : (f : ℕ → ℕ) (counts : List ℕ) (links : List Link) (k : ℕ) (l : Link) (own total new : ℕ) → k < length links → l ≡ get_or links k l
    → 0 < l.columns * l.rows
    → (AreRight f counts (take k links) → IsCapped (so_far f own (take k links)) total)
    → IsCapped (total + (l.columns * l.rows) * item counts l.cell) new
    → AreRight f counts (take (k + 1) links) → IsCapped (so_far f own (take (k + 1) links)) new
link_counted f counts links k l own total new within is some before now all =
    let sum : so_far f own (take (k + 1) links) ≡ so_far f own (take k links) + (l.columns * l.rows) * f l.cell =
    grind (arith, common_steps, take_more links k l within, is) in
    rw sum (more_capped (so_far f own (take k links)) total (l.columns * l.rows) (f l.cell) (item counts l.cell) new some
    (before (part_right f counts links k within all)) (last_right f counts links k l within is all) now)

-- whatever the counts are, they are right for themselves
pub themselves : (counts : List ℕ) (links : List Link) → ((c : ℕ) → item counts c ≤ 4000001) → AreRight (item counts) counts links
themselves counts links few j d small = record { most = few (get_or links j d).cell; exact = inl refl }

pub some_turns : (l : Link) → 0 < l.columns * l.rows
some_turns l = product l.columns l.rows l.grid.some_columns l.grid.some_rows where
  product : (a b : ℕ) → 0 < a → 0 < b → 0 < a * b
  product (suc a) (suc b) p q = grind (arith, common_steps)
  product zero b p q = absurd (omega (arith, p))
  product (suc a) zero p q = absurd (omega (arith, q))

pub all_counted : (f : ℕ → ℕ) (counts : List ℕ) (xs ys : List Link) (k own total : ℕ) → xs ≡ ys → (k < length xs → ⊥)
    → (AreRight f counts (take k xs) → IsCapped (so_far f own (take k xs)) total) → AreRight f counts ys → IsCapped (so_far f own ys) total
all_counted f counts xs ys k own total same ended before all =
    let whole : take k xs ≡ ys = (let full : take k xs ≡ xs = grind (arith, common_steps, ended) in full ∙ same) in
    subst (λ zs. IsCapped (so_far f own zs) total) whole (before (subst (λ zs. AreRight f counts zs) (sym whole) all))

-- ---- counts of a cell and of all below it

pub count_of : (cells : List Cell) (counts : List ℕ) (n c : ℕ) → AreCounted cells counts n c → IsCapped (length (copies (hierarchy cells) n c)) (item counts c)
unfolding copies AreCounted
count_of cells counts zero c h = h
count_of cells counts (suc n) c h = h.0

pub counts_below : (cells : List Cell) (counts : List ℕ) (n c k : ℕ) (cell : Cell) (l : Link) → 0 < n → slice_get cells c ≡ Some cell → k < length cell.links.items
    → l ≡ get_or cell.links.items k l → AreCounted cells counts n c → AreCounted cells counts (n - 1) l.cell
unfolding AreCounted
counts_below cells counts zero c k cell l some is within l_is h = absurd (omega (arith, some))
counts_below cells counts (suc n) c k cell l some is within l_is h =
    let less : n ≡ suc n - 1 = omega arith in
    let all = subst (λ o. All (λ m. AreCounted cells counts n m.cell) (links_in o)) is h.1 in
    subst (λ m. AreCounted cells counts m l.cell) less (subst (λ m. AreCounted cells counts n m.cell) (sym l_is) (all k l within))
