-- Where a coordinate stands among the edges, and what that says of membership.
use Rattle.std.proofs.Common.{◌≡◌, ℕ, zero, suc, ◌+◌, ◌*◌, ◌^◌, ◌≤◌, ◌<◌, ℤ, pos, ◌≤ℤ◌, ◌<ℤ◌, List, [], ◌∷◌, length, get_or, refl, arith, ap, ◌∙◌, sym, Bool, true, false, not, cond, w64, FitsSigned, rules}
use Rattle.std.specs.Prelude.{int_le, int_lt}
use Rattle.std.specs.Int.{int_max, int_min}
use Rattle.std.specs.List.Sorted.{IsPartitionedBy, IsPartitionPoint}
use Rattle.std.proofs.lemmas.Bool.Decides.{nat_tests}
use Rattle.std.proofs.lemmas.Int.{ints, clamps, by_lt_z}
use Rattle.std.proofs.lemmas.List.{get_or_default}
use Rattle.fill_base.specs.Coordinates.{lowest, highest}
use Rattle.fill_base.specs.Counts.{span_len, count_between}
use Rattle.fill_base.proofs.Signed.{read, read_is, lt_le, le_trans, is_lt, not_lt, fits_max, fits_min}
use Rattle.fill_base.proofs.Counting.{count_between_const, count_between_le, sum_between_split}
use Rattle.fill_spans.specs.Spans.{inside, Chain, odd, floor, ceiling, next_edge, IsCanonical}
use Rattle.fill_spans.specs.EdgeLookup.{IsFirstAbove, IsEdgeBelow, HasMember}
use Rattle.fill_spans.proofs.Chains.{chain_within, chain_next, inside_below, inside_past, not_odd}

le_here : (e x : ℤ) → e ≤ℤ x → int_le e x ≡ true
le_here e x h = grind (arith, ints)

here_le : (e x : ℤ) → int_le e x ≡ true → e ≤ℤ x
here_le e x h = grind (arith, ints)

not_here_lt : (e x : ℤ) → int_le e x ≡ false → x <ℤ e
not_here_lt e x h = grind (arith, ints)

-- the edges rise from place to place
pub chain_rises : (lo hi : ℤ) (es : List ℤ) (i j : ℕ) → Chain lo es hi → i ≤ j → j < length es → get_or es i hi ≤ℤ get_or es j hi
chain_rises lo hi [] i j h le lt = absurd (omega arith)
chain_rises lo hi (e ∷ es) zero zero h le lt = omega (arith, ints, clamps)
chain_rises lo hi (e ∷ es) zero (suc j) h le lt = lt_le e _ (chain_within e hi es j (omega arith) h.1).0
chain_rises lo hi (e ∷ es) (suc i) zero h le lt = absurd (omega arith)
chain_rises lo hi (e ∷ es) (suc i) (suc j) h le lt = chain_rises e hi es i j h.1 (omega arith) (omega arith)

-- the edges up to `x` come before those above it
pub parted : (es : List ℤ) (x : ℤ) → IsCanonical es → IsPartitionedBy (λ e. int_le e x) es
parted es x canonical i j d le lt at =
    let at' : int_le (get_or es j ceiling) x ≡ true = ap (λ z. int_le z x) (get_or_default es j ceiling d lt) ∙ at in
    let rises : get_or es i ceiling ≤ℤ get_or es j ceiling = chain_rises floor ceiling es i j canonical.rising le lt in
    ap (λ z. int_le z x) (get_or_default es i d ceiling (omega arith)) ∙ le_here _ x (le_trans _ _ x rises (here_le _ x at'))

pub is_first_above : (es : List ℤ) (x : ℤ) (n : ℕ) → n ≤ length es → IsPartitionPoint (λ e. int_le e x ≡ true) (λ e. int_le e x ≡ false) es n → IsFirstAbove es x n
is_first_above es x n within point = record {
  within = within;
  before = λ k lt. here_le _ x (point.0 k ceiling (omega arith) lt);
  after = λ lt. not_here_lt _ x (point.1 n ceiling (omega arith) lt);
}

-- a coordinate is a member where an odd number of edges comes before it
pub inside_at : (lo hi x : ℤ) (es : List ℤ) (n : ℕ) → Chain lo es hi → n ≤ length es
    → ((k : ℕ) → k < n → get_or es k hi ≤ℤ x) → (n < length es → x <ℤ get_or es n hi) → inside es x ≡ odd n
inside_at lo hi x [] zero h within before after = refl
inside_at lo hi x [] (suc n) h within before after = absurd (omega arith)
inside_at lo hi x (e ∷ es) zero h within before after =
    let lt : x <ℤ e = after (omega arith) in
    let out : int_le e x ≡ false = grind (arith, ints) in
    rw out (inside_below e hi x es h.1 (lt_le x e lt))
inside_at lo hi x (e ∷ es) (suc n) h within before after =
    rw (le_here e x (before 0 (omega arith)))
    (ap not (inside_at e hi x es n h.1 (omega arith) (λ k lt. before (suc k) (omega arith)) (λ lt. after (omega arith))) ∙ not_odd n)

pub inside_first_above : (es : List ℤ) (x : ℤ) (n : ℕ) → IsCanonical es → IsFirstAbove es x n → inside es x ≡ odd n
inside_first_above es x n canonical first = inside_at floor ceiling x es n canonical.rising first.within first.before first.after

-- between two edges, membership stays the same
pub inside_gap : (es : List ℤ) (n : ℕ) (from x : ℤ) → IsCanonical es → IsFirstAbove es from n → from ≤ℤ x → (n < length es → x <ℤ next_edge es n) → inside es x ≡ odd n
inside_gap es n from x canonical first le lt = inside_at floor ceiling x es n canonical.rising first.within (λ k below. le_trans _ from x (first.before k below) le) lt

-- the next edge is a place of its own
pub next_first : (es : List ℤ) (n : ℕ) → IsCanonical es → n < length es → IsFirstAbove es (next_edge es n) (n + 1)
next_first es n canonical lt = record {
  within = omega arith;
  before = λ k below. chain_rises floor ceiling es k n canonical.rising (omega arith) lt;
  after = λ inner. chain_next floor ceiling es n lt canonical.rising;
}

-- beyond the coordinates nothing is a member
pub outside_low : (es : List ℤ) (x : ℤ) → IsCanonical es → x <ℤ lowest → inside es x ≡ false
outside_low es x canonical lt = inside_below floor ceiling x es canonical.rising (omega (arith, ints, clamps))

pub outside_high : (es : List ℤ) (x : ℤ) → IsCanonical es → highest ≤ℤ x → inside es x ≡ false
outside_high es x canonical le = inside_past floor ceiling x es canonical.rising (omega (arith, ints, clamps)) ∙ canonical.even

-- a count is at most the length it is taken on
pub count_small : (p : ℤ → Bool) (lo hi : ℤ) → lowest ≤ℤ lo → lo ≤ℤ hi → hi ≤ℤ highest → count_between p lo hi ≤ 2 ^ 31
count_small p lo hi low ordered high = let le = count_between_le p lo hi in let short : span_len lo hi ≤ 2 ^ 31 = omega (arith, ints, clamps) in omega (arith, le, short)

-- beyond both ends of the range nothing counts
pub count_clamped : (p : ℤ → Bool) (a b lo hi : ℤ) → ((x : ℤ) → x <ℤ a → p x ≡ false) → ((x : ℤ) → b ≤ℤ x → p x ≡ false)
    → int_max lo a <ℤ int_min hi b → count_between p lo (int_max lo hi) ≡ count_between p (int_max lo a) (int_min hi b)
count_clamped p a b lo hi under over lt =
    let up : int_max lo hi ≡ hi = omega (arith, ints, clamps) in
    let one = sum_between_split (λ x. cond (p x) 1 0) lo (int_max lo a) hi (omega (arith, ints, clamps)) (omega (arith, ints, clamps)) in
    let two = sum_between_split (λ x. cond (p x) 1 0) (int_max lo a) (int_min hi b) hi (omega (arith, ints, clamps)) (omega (arith, ints, clamps)) in
    let left = count_between_const p lo (int_max lo a) false (omega (arith, ints, clamps)) (λ x low below. under x (omega (arith, ints, clamps))) in
    let right = count_between_const p (int_min hi b) hi false (omega (arith, ints, clamps)) (λ x low below. over x (omega (arith, ints, clamps))) in
    let zero_left : span_len lo (int_max lo a) * 0 ≡ 0 = omega arith in
    let zero_right : span_len (int_min hi b) hi * 0 ≡ 0 = omega arith in
    ap (count_between p lo) up ∙ (one ∙ (ap (λ n. count_between p lo (int_max lo a) + n) two ∙ omega (arith, left, right, zero_left, zero_right)))

pub count_clamped_none : (p : ℤ → Bool) (a b lo hi : ℤ) → ((x : ℤ) → x <ℤ a → p x ≡ false) → ((x : ℤ) → b ≤ℤ x → p x ≡ false)
    → int_min hi b ≤ℤ int_max lo a → count_between p lo (int_max lo hi) ≡ 0
count_clamped_none p a b lo hi under over le =
    count_between_const p lo (int_max lo hi) false (omega (arith, ints, clamps)) (λ x low below. by_lt_z x a (λ lt. under x lt) (λ ge. over x (omega (arith, ints, clamps)))) ∙ omega arith

-- the length between two numbers, as the code clamps them
pub length_then : (es : List ℤ) (lo hi a b r : ℤ) → IsCanonical es → FitsSigned w64 lo → FitsSigned w64 hi → a ≡ int_max (read lo) lowest → b ≡ int_min (read hi) highest
    → int_lt (read a) (read b) ≡ true → FitsSigned w64 r → r ≡ pos (count_between (inside es) (read a) (read b))
    → read r ≡ pos (count_between (inside es) lo (int_max lo hi))
length_then es lo hi a b r canonical fits_lo fits_hi a_is b_is lt fits r_is =
    let a_read : read a ≡ int_max lo lowest = rw (a_is, read_is lo fits_lo) (read_is _ (fits_max lo lowest fits_lo (search rules))) in
    let b_read : read b ≡ int_min hi highest = rw (b_is, read_is hi fits_hi) (read_is _ (fits_min hi highest fits_hi (search rules))) in
    read_is r fits ∙ (r_is ∙ rw (a_read, b_read) (ap pos (sym (count_clamped (inside es) lowest highest lo hi (λ x under. outside_low es x canonical under) (λ x over. outside_high es x canonical over)
    (is_lt _ _ (rw (a_read, b_read) at lt))))))

pub length_else : (es : List ℤ) (lo hi a b : ℤ) → IsCanonical es → FitsSigned w64 lo → FitsSigned w64 hi → a ≡ int_max (read lo) lowest → b ≡ int_min (read hi) highest
    → int_lt (read a) (read b) ≡ false → pos 0 ≡ pos (count_between (inside es) lo (int_max lo hi))
length_else es lo hi a b canonical fits_lo fits_hi a_is b_is ge =
    let a_read : read a ≡ int_max lo lowest = rw (a_is, read_is lo fits_lo) (read_is _ (fits_max lo lowest fits_lo (search rules))) in
    let b_read : read b ≡ int_min hi highest = rw (b_is, read_is hi fits_hi) (read_is _ (fits_min hi highest fits_hi (search rules))) in
    ap pos (sym (count_clamped_none (inside es) lowest highest lo hi (λ x under. outside_low es x canonical under) (λ x over. outside_high es x canonical over)
    (not_lt _ _ (rw (a_read, b_read) at ge))))

turned : (k : ℕ) → odd k ≡ false → odd (k + 1) ≡ true
turned k is = grind (arith, nat_tests)

-- an edge comes before `hi`: the set begins or ends there
pub some_member : (es : List ℤ) (lo hi : ℤ) (k : ℕ) (edge : ℤ) → IsCanonical es → lo <ℤ hi → IsFirstAbove es lo k → IsEdgeBelow es k hi edge → HasMember es lo hi
some_member es lo hi k edge canonical ordered place e = by_parity (odd k) refl
  where
    by_parity : (b : Bool) → odd k ≡ b → HasMember es lo hi
    by_parity true is = record { at = lo; member = inside_first_above es lo k canonical place ∙ is; low = omega (arith, ints, clamps); high = ordered }
    by_parity false is = record {
      at = next_edge es k;
      member = inside_first_above es (next_edge es k) (k + 1) canonical (next_first es k canonical e.within) ∙ turned k is;
      low = lt_le lo (next_edge es k) (place.after e.within);
      high = rw e.is at e.below;
    }

-- no edge comes before `hi`: all of the stretch is inside, or none
pub gap_member : (es : List ℤ) (lo hi : ℤ) (k : ℕ) → IsCanonical es → lo <ℤ hi → IsFirstAbove es lo k → (k < length es → hi ≤ℤ next_edge es k)
    → (odd k ≡ true → HasMember es lo hi) × (HasMember es lo hi → odd k ≡ true)
gap_member es lo hi k canonical ordered place none = (
  (λ is. record { at = lo; member = inside_first_above es lo k canonical place ∙ is; low = omega (arith, ints, clamps); high = ordered }),
  (λ m. sym (inside_gap es k lo m.at canonical place m.low (λ inner. lt_le_trans m.at hi _ m.high (none inner))) ∙ m.member),
)
  where
    lt_le_trans : (a b c : ℤ) → a <ℤ b → b ≤ℤ c → a <ℤ c
    lt_le_trans a b c h k = omega (arith, ints, clamps)
