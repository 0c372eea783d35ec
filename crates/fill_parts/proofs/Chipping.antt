-- The rows of a part's chip as arithmetic finds them.
use Rattle.std.proofs.Common.{◌≡◌, refl, sym, ◌∙◌, ℕ, ◌+◌, ◌-◌, ◌≤◌, ◌<◌, inl, inr, ◌⊎◌, ◌↔◌, ℤ, pos, negsuc, ◌+ℤ◌, ◌-ℤ◌, ◌≤ℤ◌, ◌<ℤ◌, arith, Bool, true, false, ◌&&◌, max, min, w32, w64, Fits, FitsSigned}
use Rattle.std.specs.Prelude.{int_le, nat_le, nat_lt}
use Rattle.std.specs.Int.{int_max, int_min}
use Rattle.std.proofs.lemmas.Bool.{and_from, and_parts, cases_lt, false_from_ne_true}
use Rattle.std.proofs.lemmas.Bool.Decides.{nat_tests}
use Rattle.std.proofs.lemmas.Int.{ints, clamps, by_lt_z}
use Rattle.fill_base.specs.Coordinates.{IsCoordinate, highest, lowest}
use Rattle.fill_base.proofs.Signed.{coordinate_fits, read, read_is}
use Rattle.fill_area.specs.Axes.{IsIndex, IsExtent, IsRangeOf, IsTouching, axis_begin, axis_end}
use Rattle.fill_area.specs.declared.axis.Axis as spans
use Rattle.fill_raster.specs.Axes.{IsAxis, bands, band_begin, band_end, band_first, band_past, extent}
use Rattle.fill_raster.specs.Level.{AreBegun, AreEnded}
use Rattle.fill_raster.specs.declared.axis.Axis.{Axis}
use Rattle.fill_raster.proofs.Bands.{bands_few, first_in, last_in}
use Rattle.fill_raster.proofs.Ranges.{extent_bounded, in_on}
use Rattle.fill_job.specs.Searches.{some_below}
use Rattle.fill_job.proofs.Searching.{some_below_finds, some_below_has}
use Rattle.fill_parts.specs.PartRows.{first_of, is_tile_row_level, is_window_row_level, past_of}
use Rattle.fill_parts.specs.Smaller.{Rows}
use Rattle.fill_parts.proofs.Looking.{first_before, first_passes, le_is, lt_holds, lt_true, past_behind, past_passes, past_within, true_le, true_lt}

same : (n : ℕ) → n ≤ n
same n = omega arith

le_holds : (a b : ℕ) → a ≤ b → nat_le a b ≡ true
le_holds a b h = grind (arith, nat_tests)

le_true : (a b : ℤ) → a ≤ℤ b → int_le a b ≡ true
le_true a b h = grind (arith, ints)

-- ---- the first and the last of the numbers that pass

pub first_is : (p : ℕ → Bool) (n f : ℕ) → ((k : ℕ) → k < n → p k ≡ true → f ≤ k) → (f ≡ n) ⊎ ((f < n) × (p f ≡ true)) → f ≡ first_of p n
first_is p n f least at = elim (first_passes p n) [
  | inl none ↦ elim at [
    | inl all ↦ all ∙ sym none
    | inr passes ↦ absurd (let le = first_before p n f passes.0 passes.1 in let lt = passes.0 in omega (arith, none, le, lt))
  ]
  | inr found ↦ (let le = least (first_of p n) found.0 found.1 in let lt = found.0 in elim at [
    | inl all ↦ absurd (omega (arith, le, lt, all))
    | inr passes ↦ (let back = first_before p n f passes.0 passes.1 in both f (first_of p n) le back)
  ])
]
  where
    both : (a b : ℕ) → a ≤ b → b ≤ a → a ≡ b
    both a b h k = omega (arith, h, k)

pub past_is : (p : ℕ → Bool) (n m : ℕ) → ((k : ℕ) → k < n → p k ≡ true → k < m) → (m ≡ 0) ⊎ ((0 < m) × (m ≤ n) × (p (m - 1) ≡ true)) → m ≡ past_of p n
past_is p n m most at = elim (past_passes p n) [
  | inl none ↦ elim at [
    | inl zero ↦ zero ∙ sym none
    | inr passes ↦ absurd (let lt = past_behind p n (m - 1) (before m n passes.0 passes.1) passes.2 in omega (arith, none, lt))
  ]
  | inr found ↦ (let lt = most (past_of p n - 1) (before (past_of p n) n found.0 (past_within p n)) found.1 in let some = found.0 in elim at [
    | inl zero ↦ absurd (omega (arith, lt, zero))
    | inr passes ↦ (let back = past_behind p n (m - 1) (before m n passes.0 passes.1) passes.2 in both m (past_of p n) passes.0 some lt back)
  ])
]
  where
    before : (m n : ℕ) → 0 < m → m ≤ n → m - 1 < n
    before m n h k = omega (arith, h, k)

    both : (a b : ℕ) → 0 < a → 0 < b → b - 1 < a → a - 1 < b → a ≡ b
    both a b h k l m = omega (arith, h, k, l, m)

-- ---- two ranges

abbrev PassIn : (ℕ → Bool) → ℕ → ℕ → ℕ → ℕ → ℕ → Type 0
PassIn p n a b c d = (k : ℕ) → k < n → (p k ≡ true) ↔ (IsIndex a b k ⊎ IsIndex c d k)

pub none_pass : (p : ℕ → Bool) (n a b c d : ℕ) → b ≤ a → d ≤ c → PassIn p n a b c d → (n ≡ first_of p n) × (0 ≡ past_of p n)
none_pass p n a b c d ab cd h = (first_is p n n (λ k lt passes. absurd (none k ((h k lt).0 passes))) (inl refl), past_is p n 0 (λ k lt passes. absurd (none k ((h k lt).0 passes))) (inl refl))
  where
    empty : (a b k : ℕ) → b ≤ a → a ≤ k → k < b → ⊥
    empty a b k h l m = omega (arith, h, l, m)

    none : (k : ℕ) → IsIndex a b k ⊎ IsIndex c d k → ⊥
    none k is = elim is [
      | inl own ↦ empty a b k ab own.0 own.1
      | inr level ↦ empty c d k cd level.0 level.1
    ]

-- the first and the last pass, and what passes lies between them
stretch : (p : ℕ → Bool) (n f m : ℕ) → f < m → m ≤ n → ((k : ℕ) → k < n → p k ≡ true → IsIndex f m k) → p f ≡ true → p (m - 1) ≡ true → (f ≡ first_of p n) × (m ≡ past_of p n)
stretch p n f m some within inside begins ends =
    (first_is p n f (λ k lt passes. (inside k lt passes).0) (inr (less f m n some within, begins)), past_is p n m (λ k lt passes. (inside k lt passes).1) (inr (positive f m some, within, ends)))
  where
    less : (f m n : ℕ) → f < m → m ≤ n → f < n
    less f m n h k = omega (arith, h, k)

    positive : (f m : ℕ) → f < m → 0 < m
    positive f m h = omega (arith, h)

last_of : (a b : ℕ) → a < b → IsIndex a b (b - 1)
last_of a b lt = (omega (arith, lt), omega (arith, lt))

below : (b n : ℕ) (a : ℕ) → a < b → b ≤ n → b - 1 < n
below b n a h k = omega (arith, h, k)

under : (a b n : ℕ) → a < b → b ≤ n → a < n
under a b n h k = omega (arith, h, k)

pub second_passes : (p : ℕ → Bool) (n a b c d : ℕ) → b ≤ a → c < d → d ≤ n → PassIn p n a b c d → (c ≡ first_of p n) × (d ≡ past_of p n)
second_passes p n a b c d ab cd few h =
    stretch p n c d cd few (λ k lt passes. only k ((h k lt).0 passes)) ((h c (under c d n cd few)).1 (inr (same c, cd))) ((h (d - 1) (below d n c cd few)).1 (inr (last_of c d cd)))
  where
    empty : (a b k : ℕ) → b ≤ a → a ≤ k → k < b → ⊥
    empty a b k h l m = omega (arith, h, l, m)

    only : (k : ℕ) → IsIndex a b k ⊎ IsIndex c d k → IsIndex c d k
    only k is = elim is [
      | inl own ↦ absurd (empty a b k ab own.0 own.1)
      | inr level ↦ level
    ]

pub first_passes_alone : (p : ℕ → Bool) (n a b c d : ℕ) → a < b → b ≤ n → d ≤ c → PassIn p n a b c d → (a ≡ first_of p n) × (b ≡ past_of p n)
first_passes_alone p n a b c d ab few cd h = second_passes p n c d a b cd ab few (λ k lt. ((λ passes. turned k ((h k lt).0 passes)), (λ is. (h k lt).1 (back k is))))
  where
    turned : (k : ℕ) → IsIndex a b k ⊎ IsIndex c d k → IsIndex c d k ⊎ IsIndex a b k
    turned k is = elim is [
      | inl own ↦ inr own
      | inr level ↦ inl level
    ]

    back : (k : ℕ) → IsIndex c d k ⊎ IsIndex a b k → IsIndex a b k ⊎ IsIndex c d k
    back k is = elim is [
      | inl level ↦ inr level
      | inr own ↦ inl own
    ]

pub both_pass : (p : ℕ → Bool) (n a b c d f m : ℕ) → a < b → c < d → b ≤ n → d ≤ n → f ≡ min a c → m ≡ max b d → PassIn p n a b c d → (f ≡ first_of p n) × (m ≡ past_of p n)
both_pass p n a b c d f m ab cd bn dn f_is m_is h =
    stretch p n f m (rw (f_is, m_is) (wide a b c d ab)) (rw m_is (most b d n bn dn)) (λ k lt passes. rw (f_is, m_is) (inside k ((h k lt).0 passes)))
    (elim (cases_lt c a) [
      | inl lt ↦ (let e : f ≡ c = f_is ∙ right a c lt in rw e ((h c (under c d n cd dn)).1 (inr (same c, cd))))
      | inr le ↦ (let e : f ≡ a = f_is ∙ left a c le in rw e ((h a (under a b n ab bn)).1 (inl (same a, ab))))
    ])
    (elim (cases_lt b d) [
      | inl lt ↦ (let e : m ≡ d = m_is ∙ upper b d lt in rw e ((h (d - 1) (below d n c cd dn)).1 (inr (last_of c d cd))))
      | inr le ↦ (let e : m ≡ b = m_is ∙ lower b d le in rw e ((h (b - 1) (below b n a ab bn)).1 (inl (last_of a b ab))))
    ])
  where
    wide : (a b c d : ℕ) → a < b → min a c < max b d
    wide a b c d h = omega (arith, h)

    most : (b d n : ℕ) → b ≤ n → d ≤ n → max b d ≤ n
    most b d n h k = omega (arith, h, k)

    left : (a c : ℕ) → a ≤ c → min a c ≡ a
    left a c h = omega (arith, h)

    right : (a c : ℕ) → c < a → min a c ≡ c
    right a c h = omega (arith, h)

    upper : (b d : ℕ) → b < d → max b d ≡ d
    upper b d h = omega (arith, h)

    lower : (b d : ℕ) → d ≤ b → max b d ≡ b
    lower b d h = omega (arith, h)

    from : (a c k : ℕ) → a ≤ k → min a c ≤ k
    from a c k h = omega (arith, h)

    from_second : (a c k : ℕ) → c ≤ k → min a c ≤ k
    from_second a c k h = omega (arith, h)

    to : (b d k : ℕ) → k < b → k < max b d
    to b d k h = omega (arith, h)

    to_second : (b d k : ℕ) → k < d → k < max b d
    to_second b d k h = omega (arith, h)

    inside : (k : ℕ) → IsIndex a b k ⊎ IsIndex c d k → IsIndex (min a c) (max b d) k
    inside k is = elim is [
      | inl own ↦ (from a c k own.0, to b d k own.1)
      | inr level ↦ (from_second a c k level.0, to_second b d k level.1)
    ]

-- ---- level rows

not_lt : (a b : ℤ) → (a ≤ℤ b → ⊥) → b <ℤ a
not_lt a b h = by_lt_z b a (λ lt. lt) (λ le. absurd (h le))

over : (a b : ℤ) → b <ℤ a → a ≤ℤ b → ⊥
over a b h k = omega (arith, ints)

from_none : (e g : ℕ) → (g < e → ⊥) → e ≤ g
from_none e g h = elim (cases_lt g e) [
  | inl lt ↦ absurd (h lt)
  | inr le ↦ le
]

none_from : (e g : ℕ) → e ≤ g → g < e → ⊥
none_from e g h k = omega (arith, h, k)

none_index : (t : ℕ) → IsIndex 0 0 t → ⊥
none_index t is = let lt = is.1 in omega (arith, lt)

pub no_tile_row : (a : Axis) (s : spans.Axis) (f t m : ℕ) → t ≤ f → IsIndex 0 0 m ↔ (is_tile_row_level a s (record { from = f; to = t }) m ≡ true)
no_tile_row a s f t m le = ((λ is. absurd (none_index m is)), (λ level. absurd (not_some f t le (and_parts _ _ level).0)))
  where
    not_some : (f t : ℕ) → t ≤ f → nat_lt f t ≡ true → ⊥
    not_some f t le lt = grind (arith, nat_tests)

pub no_window_row : (a : Axis) (s : spans.Axis) (f t m : ℕ) → t ≤ f → IsIndex 0 0 m ↔ (is_window_row_level a s (record { from = f; to = t }) m ≡ true)
no_window_row a s f t m le = ((λ is. absurd (none_index m is)), (λ level. absurd (not_some f t le (and_parts _ _ level).0)))
  where
    not_some : (f t : ℕ) → t ≤ f → nat_lt f t ≡ true → ⊥
    not_some f t le lt = grind (arith, nat_tests)

pub tile_rows : (a : Axis) (s : spans.Axis) (rows : Rows) (e n : ℕ) → rows.from < rows.to → AreEnded a (axis_begin s rows.from) e → AreBegun a (axis_end s (rows.to - 1)) n
    → (t : ℕ) → t < bands a → IsIndex e n t ↔ (is_tile_row_level a s rows t ≡ true)
tile_rows a s rows e n some ended begun t lt = (
  (λ is. and_from _ _ (lt_holds _ _ some) (and_from _ _ (lt_true _ _ (not_lt _ _ (λ le. none_from e t is.0 ((ended.ended t lt).1 le)))) (lt_true _ _ ((begun.begun t lt).0 is.1)))),
  (λ level. let parts = and_parts _ _ (and_parts _ _ level).1 in
      (from_none e t (λ less. over _ _ (true_lt _ _ parts.0) ((ended.ended t lt).0 less)), (begun.begun t lt).1 (true_lt _ _ parts.1))),
)

pub window_rows : (a : Axis) (s : spans.Axis) (rows : Rows) (f p : ℕ) → rows.from < rows.to → IsRangeOf (IsTouching s (band_begin a rows.from) (band_end a (rows.to - 1))) s.count f p
    → (b : ℕ) → b < s.count → IsIndex f p b ↔ (is_window_row_level a s rows b ≡ true)
window_rows a s rows f p some range b lt = (
  (λ is. let touch = (range.exact b).0 is in and_from _ _ (lt_holds _ _ some) (and_from _ _ (lt_true _ _ touch.1) (lt_true _ _ touch.2))),
  (λ level. let parts = and_parts _ _ (and_parts _ _ level).1 in (range.exact b).1 (lt, true_lt _ _ parts.0, true_lt _ _ parts.1)),
)

-- ---- the edges of a band lie within the frame

pub begin_coordinate : (a : Axis) (g : ℕ) → IsAxis a → g < bands a → IsCoordinate (band_begin a g)
begin_coordinate a g is lt =
    let on = in_on a (band_first a g) is.step_is.least (first_in a g is.band_is.least lt) in
    edge a.low (band_begin a g) a.length a.high is.least on.begins is.length_is.least on.ends is.most
  where
    edge : (l b n h : ℤ) → lowest ≤ℤ l → l ≤ℤ b → pos 1 ≤ℤ n → (b +ℤ n) ≤ℤ h → h ≤ℤ highest → IsCoordinate b
    edge l b n h x y z u v = record { least = omega (arith, ints); most = omega (arith, ints) }

pub end_coordinate : (a : Axis) (g : ℕ) → IsAxis a → g < bands a → IsCoordinate (band_end a g)
end_coordinate a g is lt =
    let on = in_on a (band_past a g -ℤ pos 1) is.step_is.least (last_in a g is.band_is.least lt) in
    edge a.low _ a.length a.high is.least on.begins is.length_is.least on.ends is.most
  where
    edge : (l b n h : ℤ) → lowest ≤ℤ l → l ≤ℤ b → pos 1 ≤ℤ n → (b +ℤ n) ≤ℤ h → h ≤ℤ highest → IsCoordinate (b +ℤ n)
    edge l b n h x y z u v = record { least = omega (arith, ints); most = omega (arith, ints) }

pub coordinate_read : (z : ℤ) → IsCoordinate z → read z ≡ z
coordinate_read z is = read_is z (coordinate_fits z is.least is.most)

pub row_fits : (a : Axis) (n : ℕ) → IsAxis a → n ≤ bands a → Fits w32 (n + 1)
row_fits a n is le = small n (bands a) (extent a) le (bands_few (extent a) a.band is.band_is.least) (extent_bounded a is)
  where
    small : (n b e : ℕ) → n ≤ b → b ≤ e → e ≤ 2147483648 → Fits w32 (n + 1)
    small n b e h k l = omega (arith, h, k, l)

-- ---- from a row down and up

pub down_from : (a : Axis) (last n m r : ℕ) (line : ℤ) → AreBegun a (line +ℤ pos 1) n → m ≡ min n (last + 1) → r ≡ m - 1
    → r ≡ past_of (λ t. nat_le t last && int_le (band_begin a t) line) (bands a) - 1
down_from a last n m r line begun m_is r_is = r_is ∙ less m (past_of q (bands a)) (past_is q (bands a) m most at)
  where
    q : ℕ → Bool
    q t = nat_le t last && int_le (band_begin a t) line

    less : (m p : ℕ) → m ≡ p → m - 1 ≡ p - 1
    less m p e = omega (arith, e)

    up_to : (z line : ℤ) → z ≤ℤ line → z <ℤ (line +ℤ pos 1)
    up_to z line h = omega (arith, ints)

    down_to : (z line : ℤ) → z <ℤ (line +ℤ pos 1) → z ≤ℤ line
    down_to z line h = omega (arith, ints)

    below_both : (k n l : ℕ) → k < n → k ≤ l → k < min n (l + 1)
    below_both k n l h i = omega (arith, h, i)

    most : (k : ℕ) → k < bands a → q k ≡ true → k < m
    most k lt passes = let parts = and_parts _ _ passes in rw m_is (below_both k n last ((begun.begun k lt).1 (up_to _ line (true_le _ _ parts.1))) (le_is k last parts.0))

    within : (m n l b : ℕ) → m ≡ min n (l + 1) → n ≤ b → m ≤ b
    within m n l b e h = omega (arith, e, h)

    row : (m n l : ℕ) → m ≡ min n (l + 1) → 0 < m → m - 1 ≤ l
    row m n l e h = omega (arith, e, h)

    less_than : (m n l : ℕ) → m ≡ min n (l + 1) → 0 < m → m - 1 < n
    less_than m n l e h = omega (arith, e, h)

    zero : (m : ℕ) → m ≤ 0 → m ≡ 0
    zero m h = omega (arith, h)

    at : (m ≡ 0) ⊎ ((0 < m) × (m ≤ bands a) × (q (m - 1) ≡ true))
    at = elim (cases_lt 0 m) [
      | inl some ↦ inr (
        some,
        within m n last (bands a) m_is begun.few,
        (let lt = less_than m n last m_is some in
            and_from _ _ (le_holds _ _ (row m n last m_is some)) (le_true _ _ (down_to _ line ((begun.begun (m - 1) (inside (m - 1) n (bands a) lt begun.few)).0 lt)))),
      )
      | inr none ↦ inl (zero m none)
    ]
      where
        inside : (k n b : ℕ) → k < n → n ≤ b → k < b
        inside k n b h i = omega (arith, h, i)

pub up_from : (a : Axis) (needed first e l r : ℕ) (line : ℤ) → AreEnded a (line -ℤ pos 1) e → l ≡ max (max (needed - 1) first) e → r ≡ min (bands a) (l + 1)
    → r ≡ min (bands a) (first_of (λ t. (nat_le needed (t + 1) && nat_le first t) && int_le line (band_end a t)) (bands a) + 1)
up_from a needed first e l r line ended l_is r_is = elim (cases_lt l (bands a)) [
  | inl lt ↦ r_is ∙ same_past l (first_of q (bands a)) (bands a) (first_is q (bands a) l least (inr (lt, passes lt)))
  | inr all ↦ r_is ∙ all_past l (first_of q (bands a)) (bands a) all (first_is q (bands a) (bands a) (λ k lt is. absurd (beyond k l (bands a) all (least k lt is) lt)) (inl refl))
]
  where
    q : ℕ → Bool
    q t = (nat_le needed (t + 1) && nat_le first t) && int_le line (band_end a t)

    same_past : (l f n : ℕ) → l ≡ f → min n (l + 1) ≡ min n (f + 1)
    same_past l f n e = omega (arith, e)

    all_past : (l f n : ℕ) → n ≤ l → n ≡ f → min n (l + 1) ≡ min n (f + 1)
    all_past l f n h e = omega (arith, h, e)

    beyond : (k l n : ℕ) → n ≤ l → l ≤ k → k < n → ⊥
    beyond k l n h i j = omega (arith, h, i, j)

    up_to : (z line : ℤ) → (z ≤ℤ (line -ℤ pos 1) → ⊥) → line ≤ℤ z
    up_to z line h = above z line (not_lt z (line -ℤ pos 1) h)
      where
        above : (z line : ℤ) → (line -ℤ pos 1) <ℤ z → line ≤ℤ z
        above z line h = omega (arith, ints)

    not_ended : (z line : ℤ) → line ≤ℤ z → z ≤ℤ (line -ℤ pos 1) → ⊥
    not_ended z line h k = omega (arith, ints)

    all_of : (l k n f e : ℕ) → l ≡ max (max (n - 1) f) e → n ≤ k + 1 → f ≤ k → e ≤ k → l ≤ k
    all_of l k n f e is h i j = omega (arith, is, h, i, j)

    least : (k : ℕ) → k < bands a → q k ≡ true → l ≤ k
    least k lt is =
        let parts = and_parts _ _ is in let rows = and_parts _ _ parts.0 in
        all_of l k needed first e l_is (le_is _ _ rows.0) (le_is _ _ rows.1) (from_none e k (λ less. not_ended _ line (true_le _ _ parts.1) ((ended.ended k lt).0 less)))

    needed_of : (l n f e : ℕ) → l ≡ max (max (n - 1) f) e → n ≤ l + 1
    needed_of l n f e is = omega (arith, is)

    first_of_all : (l n f e : ℕ) → l ≡ max (max (n - 1) f) e → f ≤ l
    first_of_all l n f e is = omega (arith, is)

    ended_of : (l n f e : ℕ) → l ≡ max (max (n - 1) f) e → e ≤ l
    ended_of l n f e is = omega (arith, is)

    passes : l < bands a → q l ≡ true
    passes lt = and_from _ _ (and_from _ _ (le_holds _ _ (needed_of l needed first e l_is)) (le_holds _ _ (first_of_all l needed first e l_is)))
        (le_true _ _ (up_to _ line (λ le. none_from e l (ended_of l needed first e l_is) ((ended.ended l lt).1 le))))

-- ---- a part that looks at no window

pub looks_at_none : (p : ℕ → Bool) (n f m : ℕ) → f ≡ first_of p n → m ≡ past_of p n → m ≤ f → some_below p n ≡ false
looks_at_none p n f m f_is m_is le = false_from_ne_true (some_below p n) (λ some.
    let found = some_below_finds p n some in
    let low = first_before p n found.0 found.1 found.2 in let high = past_behind p n found.0 found.1 found.2 in
    omega (arith, f_is, m_is, le, low, high))

pub looks_at_some : (p : ℕ → Bool) (n f m : ℕ) → m ≡ past_of p n → f < m → some_below p n ≡ true
looks_at_some p n f m m_is lt = elim (past_passes p n) [
  | inl none ↦ absurd (omega (arith, none, m_is, lt))
  | inr found ↦ some_below_has p n (past_of p n - 1) (let h = past_within p n in let some = found.0 in omega (arith, h, some)) found.1
]

-- ---- lines as the code reckons them

pub next_line : (z : ℤ) → IsCoordinate z → read (read z +ℤ pos 1) ≡ z +ℤ pos 1
next_line z is = rw (coordinate_read z is) (read_is (z +ℤ pos 1) (fits z is.least is.most))
  where
    fits : (z : ℤ) → lowest ≤ℤ z → z ≤ℤ highest → FitsSigned w64 (z +ℤ pos 1)
    fits z h k = omega (arith, ints)

pub line_before : (z : ℤ) → IsCoordinate z → read (read z -ℤ pos 1) ≡ z -ℤ pos 1
line_before z is = rw (coordinate_read z is) (read_is (z -ℤ pos 1) (fits z is.least is.most))
  where
    fits : (z : ℤ) → lowest ≤ℤ z → z ≤ℤ highest → FitsSigned w64 (z -ℤ pos 1)
    fits z h k = omega (arith, ints)

-- the ends of a span are coordinates
pub span_begin : (s : spans.Axis) (b : ℕ) (lo hi : ℤ) → IsExtent s b lo hi → IsCoordinate lo
span_begin s b lo hi is = let low = is.low in let high = is.high in let some = is.some in record { least = low; most = omega (arith, ints, high, some) }

pub span_end : (s : spans.Axis) (b : ℕ) (lo hi : ℤ) → IsExtent s b lo hi → IsCoordinate hi
span_end s b lo hi is = let low = is.low in let high = is.high in let some = is.some in record { least = omega (arith, ints, low, some); most = high }

-- a coordinate is a line that bands can be asked for
pub line_least : (z : ℤ) → IsCoordinate z → negsuc 1074790399 ≤ℤ read z
line_least z is = rw (coordinate_read z is) (within z is.least)
  where
    within : (z : ℤ) → lowest ≤ℤ z → negsuc 1074790399 ≤ℤ z
    within z h = omega (arith, ints)

pub line_most : (z : ℤ) → IsCoordinate z → read z ≤ℤ pos 1074790400
line_most z is = rw (coordinate_read z is) (within z is.most)
  where
    within : (z : ℤ) → z ≤ℤ highest → z ≤ℤ pos 1074790400
    within z h = omega (arith, ints)

pub coordinate_kept : (y z : ℤ) → y ≡ z → IsCoordinate z → IsCoordinate (read y)
coordinate_kept y z e is = rw (e, coordinate_read z is) is

pub first_row_below : (f t n : ℕ) → f < t → t ≤ n → f < n
first_row_below f t n h k = omega (arith, h, k)

pub last_row_below : (f t n : ℕ) → f < t → t ≤ n → t - 1 < n
last_row_below f t n h k = omega (arith, h, k)

-- what may count of some windows begins and ends at coordinates
pub record IsLine (y z : ℤ) : Type 0 where
  pub coordinate : IsCoordinate y
  pub is : y ≡ z

pub bottom_line : (s : spans.Axis) (low m lo hi : ℤ) (b f : ℕ) → IsCoordinate low → IsExtent s b lo hi → b ≡ f → m ≡ int_max (read low) (read lo) → IsLine (read m) (int_max low (axis_begin s f))
bottom_line s low m lo hi b f is span b_is m_is =
    let at = span_begin s b lo hi span in
    let e : m ≡ int_max low lo = rw (coordinate_read low is, coordinate_read lo at) at m_is in
    let here : IsCoordinate m = rw e (greater low lo is at) in
    record { coordinate = coordinate_kept m m refl here; is = coordinate_read m here ∙ rw (sym b_is) (rw (sym span.begins) e) }
  where
    greater : (a b : ℤ) → IsCoordinate a → IsCoordinate b → IsCoordinate (int_max a b)
    greater a b is at = let low = is.least in let high = is.most in let least = at.least in let most = at.most in record { least = omega (arith, ints, clamps); most = omega (arith, ints, clamps) }

pub top_line : (s : spans.Axis) (high m lo hi : ℤ) (b f : ℕ) → IsCoordinate high → IsExtent s (b - 1) lo hi → b ≡ f → m ≡ int_min (read high) (read hi) → IsLine (read m) (int_min high (axis_end s (f - 1)))
top_line s high m lo hi b f is span b_is m_is =
    let at = span_end s (b - 1) lo hi span in
    let e : m ≡ int_min high hi = rw (coordinate_read high is, coordinate_read hi at) at m_is in
    let here : IsCoordinate m = rw e (less high hi is at) in
    record { coordinate = coordinate_kept m m refl here; is = coordinate_read m here ∙ rw (sym b_is) (rw (sym span.ends) e) }
  where
    less : (a b : ℤ) → IsCoordinate a → IsCoordinate b → IsCoordinate (int_min a b)
    less a b is at = let low = is.least in let high = is.most in let least = at.least in let most = at.most in record { least = omega (arith, ints, clamps); most = omega (arith, ints, clamps) }

pub low_edge : (a : Axis) → IsAxis a → IsCoordinate a.low
low_edge a is = edge a.low a.high is.least is.ordered is.most
  where
    edge : (l h : ℤ) → lowest ≤ℤ l → l <ℤ h → h ≤ℤ highest → IsCoordinate l
    edge l h x y z = record { least = x; most = omega (arith, ints) }

pub high_edge : (a : Axis) → IsAxis a → IsCoordinate a.high
high_edge a is = edge a.low a.high is.least is.ordered is.most
  where
    edge : (l h : ℤ) → lowest ≤ℤ l → l <ℤ h → h ≤ℤ highest → IsCoordinate h
    edge l h x y z = record { least = omega (arith, ints); most = z }

pub first_few : (p : ℕ → Bool) (n : ℕ) → first_of p n ≤ n
first_few p n = elim (first_passes p n) [
  | inl all ↦ omega (arith, all)
  | inr found ↦ (let lt = found.0 in omega (arith, lt))
]

pub before_few : (p : ℕ → Bool) (n : ℕ) → past_of p n - 1 ≤ n
before_few p n = let h = past_within p n in omega (arith, h)

pub last_few : (l needed first e n : ℕ) → l ≡ max (max (needed - 1) first) e → needed ≤ n → first ≤ n → e ≤ n → l ≤ n
last_few l needed first e n is h i j = omega (arith, is, h, i, j)
