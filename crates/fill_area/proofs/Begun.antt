-- Which windows in a row begin below a number.
use Rattle.std.proofs.Common.{◌≡◌, ℕ, suc, zero, ◌+◌, ◌*◌, ◌≤◌, ◌<◌, ℤ, pos, negsuc, ◌+ℤ◌, ◌-ℤ◌, ◌*ℤ◌, ◌≤ℤ◌, ◌<ℤ◌, ◌↔◌, refl, arith, ◌∙◌, max}
use Rattle.std.proofs.lemmas.Int.{ints, by_lt_z}
use Rattle.std.proofs.lemmas.Grind.{div_ceil_times}
use Rattle.std.proofs.Math.Nat.{mul-le-mul}
use Rattle.std.specs.Prelude.{false, int_le, nat_abs}
use Rattle.std.specs.Int.{div_ceil}
use Rattle.fill_base.specs.Coordinates.{lowest, highest, IsCoordinate}
use Rattle.fill_base.proofs.Signed.{read, read_is, coordinate_fits}
use Rattle.fill_base.specs.Limits.{IsLength}
use Rattle.fill_area.specs.Axes.{IsAxis}
use Rattle.fill_area.specs.Axes.{IsIndex, IsTouching, IsContaining, IsRangeOf}
use Rattle.fill_area.specs.steps.Begun.{IsBegun, IsLimit}
use Rattle.fill_area.proofs.Axes.{axis_of, length_fits}

same : (s : ℕ) → s ≤ s
same s = omega arith

-- `n` steps of `s` reach `m`, and one less does not
pub record IsCeiling (m s n : ℕ) : Type 0 where
  pub reaches : m ≤ n * s
  pub one_less : n * s < m + s

pub ceiling : (m s n : ℕ) → 0 < s → n ≡ div_ceil m s → IsCeiling m s n
ceiling m s n some is = let t = div_ceil_times m s some in record { reaches = rw is t.0; one_less = rw is t.1 }

earlier : (m s n a : ℕ) → IsCeiling m s n → a < n → a * s < m
earlier m s (suc n) a is lt =
    let less : suc n * s < m + s = is.one_less in
    let le : a * s ≤ n * s = mul-le-mul (omega arith) (same s) in
    omega arith
earlier m s zero a is lt = absurd (omega arith)

later : (m s n a : ℕ) → IsCeiling m s n → n ≤ a → m ≤ a * s
later m s n a is le = let h : n * s ≤ a * s = mul-le-mul le (same s) in let k : m ≤ n * s = is.reaches in omega arith

-- the steps to the limit, or all of the windows where those are more
pub begun_steps : (first length limit : ℤ) (count m s n : ℕ) → limit -ℤ first ≡ pos m → IsCeiling m s n → n ≤ count → IsBegun (axis_of first length (pos s) count) limit n
begun_steps first length limit count m s n gap is le = record {
  few = le;
  begun = λ a lt. low (a * s) (earlier m s n a is lt);
  later = λ a lt h. high (a * s) (later m s n a is h);
}
  where
    low : (k : ℕ) → k < m → (first +ℤ pos k) <ℤ limit
    low k lt = omega (arith, ints)

    high : (k : ℕ) → m ≤ k → limit ≤ℤ (first +ℤ pos k)
    high k le = omega (arith, ints)

pub begun_all : (first length limit : ℤ) (count m s n : ℕ) → limit -ℤ first ≡ pos m → IsCeiling m s n → count ≤ n → IsBegun (axis_of first length (pos s) count) limit count
begun_all first length limit count m s n gap is le = record {
  few = same count;
  begun = λ a lt. low (a * s) (earlier m s n a is (omega arith));
  later = λ a lt h. absurd (omega arith);
}
  where
    low : (k : ℕ) → k < m → (first +ℤ pos k) <ℤ limit
    low k lt = omega (arith, ints)

not_at_most : (a b : ℤ) → int_le b a ≡ false → a <ℤ b
not_at_most a b h = grind (arith, ints)

record Natural (z : ℤ) : Type 0 where
  m : ℕ
  is : z ≡ pos m

-- the number of steps that the code reckons
pub record IsReckoned (first step limit : ℤ) (n : ℕ) : Type 0 where
  pub m : ℕ
  pub s : ℕ
  pub step_is : step ≡ pos s
  pub gap : limit -ℤ first ≡ pos m
  pub ceiling : IsCeiling m s n

pub reckoned : (first step limit : ℤ) (n : ℕ) → IsCoordinate first → IsLength step → IsLimit limit → int_le (read limit) (read first) ≡ false
    → n ≡ div_ceil (nat_abs (read (read limit -ℤ read first))) (nat_abs (read step)) → IsReckoned first step limit n
reckoned first step limit n coordinate length near after is =
    let least : lowest ≤ℤ first = coordinate.least in let most : first ≤ℤ highest = coordinate.most in
    let limit_least : (lowest -ℤ pos 1048576) ≤ℤ limit = near.least in let limit_most : limit ≤ℤ (highest +ℤ pos 1) = near.most in
    let limit_read : read limit ≡ limit = read_is limit (omega (arith, ints)) in
    let first_read : read first ≡ first = read_is first (coordinate_fits first least most) in
    let gap_read : read (limit -ℤ first) ≡ limit -ℤ first = read_is (limit -ℤ first) (omega (arith, ints)) in
    let above : first <ℤ limit = not_at_most first limit (rw (limit_read, first_read) at after) in
    found (natural (limit -ℤ first) (omega (arith, ints))) (natural step (let one : pos 1 ≤ℤ step = length.least in omega (arith, ints)))
    (rw (limit_read, first_read, gap_read, read_is step (length_fits step length)) at is)
  where
    natural : (z : ℤ) → pos 0 ≤ℤ z → Natural z
    natural (pos m) h = record { m = m; is = refl }
    natural (negsuc m) h = absurd (omega (arith, ints))

    positive : (z : ℤ) (m : ℕ) → z ≡ pos m → pos 1 ≤ℤ z → 0 < m
    positive z m is h = omega (arith, ints)

    both : (z w : ℤ) (m s : ℕ) → z ≡ pos m → w ≡ pos s → div_ceil (nat_abs z) (nat_abs w) ≡ div_ceil m s
    both z w m s h k = rw (h, k) refl

    found : Natural (limit -ℤ first) → Natural step → n ≡ div_ceil (nat_abs (limit -ℤ first)) (nat_abs step) → IsReckoned first step limit n
    found gap s steps = record {
      m = gap.m;
      s = s.m;
      step_is = s.is;
      gap = gap.is;
      ceiling = ceiling gap.m s.m n (let one : pos 1 ≤ℤ step = length.least in positive step s.m s.is one) (steps ∙ both (limit -ℤ first) step gap.m s.m gap.is s.is);
    }

pub begun_by_steps : (first length step limit : ℤ) (count c n : ℕ) → IsReckoned first step limit n → c ≡ count → n < c → IsBegun (axis_of first length step count) limit n
begun_by_steps first length step limit count c n r same_count lt = rw r.step_is (begun_steps first length limit count r.m r.s n r.gap r.ceiling (omega arith))

pub begun_by_count : (first length step limit : ℤ) (count c n : ℕ) → IsReckoned first step limit n → c ≡ count → c ≤ n → IsBegun (axis_of first length step count) limit count
begun_by_count first length step limit count c n r same_count le = rw r.step_is (begun_all first length limit count r.m r.s n r.gap r.ceiling (omega arith))

under : {a b c : ℕ} → a < b → b ≤ c → a < c
under h k = omega arith

pub by_lt : {P : Type 0} (a b : ℕ) → (a < b → P) → (b ≤ a → P) → P
by_lt a b f g = by_lt_z (pos a) (pos b) (λ h. f (omega (arith, ints))) (λ h. g (omega (arith, ints)))

-- on one axis: the windows that share a number with a range
pub touching_places : (first length step lo hi : ℤ) (count n1 n2 : ℕ) → IsBegun (axis_of first length step count) ((lo -ℤ length) +ℤ pos 1) n1 → IsBegun (axis_of first length step count) hi n2
    → (a : ℕ) → IsIndex n1 n2 a ↔ IsTouching (axis_of first length step count) lo hi a
touching_places first length step lo hi count n1 n2 low high a = (
  (λ h. let near : ((lo -ℤ length) +ℤ pos 1) ≤ℤ (first +ℤ (pos a *ℤ step)) = low.later a (under h.1 high.few) h.0 in (under h.1 high.few, high.begun a h.1, over (first +ℤ (pos a *ℤ step)) near)),
  (λ h. (by_lt a n1 (λ lt. absurd (apart (first +ℤ (pos a *ℤ step)) (low.begun a lt) h.2)) (λ le. le), by_lt a n2 (λ lt. lt) (λ le. absurd (not_below (first +ℤ (pos a *ℤ step)) (high.later a h.0 le) h.1)))),
)
  where
    over : (z : ℤ) → ((lo -ℤ length) +ℤ pos 1) ≤ℤ z → lo <ℤ (z +ℤ length)
    over z h = omega (arith, ints)

    apart : (z : ℤ) → z <ℤ ((lo -ℤ length) +ℤ pos 1) → lo <ℤ (z +ℤ length) → ⊥
    apart z h k = omega (arith, ints)

    not_below : (z : ℤ) → hi ≤ℤ z → z <ℤ hi → ⊥
    not_below z h k = omega (arith, ints)

-- on one axis: the windows that hold a range
pub containing_places : (first length step lo hi : ℤ) (count n1 n2 : ℕ) → IsBegun (axis_of first length step count) (hi -ℤ length) n1 → IsBegun (axis_of first length step count) (lo +ℤ pos 1) n2
    → (a : ℕ) → IsIndex n1 n2 a ↔ IsContaining (axis_of first length step count) lo hi a
containing_places first length step lo hi count n1 n2 low high a = (
  (λ h. let near : (hi -ℤ length) ≤ℤ (first +ℤ (pos a *ℤ step)) = low.later a (under h.1 high.few) h.0 in (under h.1 high.few, most (first +ℤ (pos a *ℤ step)) (high.begun a h.1), over (first +ℤ (pos a *ℤ step)) near)),
  (λ h. (by_lt a n1 (λ lt. absurd (apart (first +ℤ (pos a *ℤ step)) (low.begun a lt) h.2)) (λ le. le), by_lt a n2 (λ lt. lt) (λ le. absurd (not_below (first +ℤ (pos a *ℤ step)) (high.later a h.0 le) h.1)))),
)
  where
    most : (z : ℤ) → z <ℤ (lo +ℤ pos 1) → z ≤ℤ lo
    most z h = omega (arith, ints)

    over : (z : ℤ) → (hi -ℤ length) ≤ℤ z → hi ≤ℤ (z +ℤ length)
    over z h = omega (arith, ints)

    apart : (z : ℤ) → z <ℤ (hi -ℤ length) → hi ≤ℤ (z +ℤ length) → ⊥
    apart z h k = omega (arith, ints)

    not_below : (z : ℤ) → (lo +ℤ pos 1) ≤ℤ z → z ≤ℤ lo → ⊥
    not_below z h k = omega (arith, ints)

-- the two counts as a range
range_of : (P : ℕ → Type 0) (count n1 n2 n3 : ℕ) → n1 ≤ count → n2 ≤ count → n3 ≡ max n2 n1 → ((a : ℕ) → IsIndex n1 n2 a ↔ P a) → IsRangeOf P count n1 n3
range_of P count n1 n2 n3 first last is exact = record {
  ordered = omega arith;
  within = omega arith;
  exact = λ a. ((λ h. (exact a).0 (h.0, inside n1 n2 n3 a is h.0 h.1)), (λ p. let h = (exact a).1 p in (h.0, wider n1 n2 n3 a is h.1)));
}
  where
    inside : (n1 n2 n3 a : ℕ) → n3 ≡ max n2 n1 → n1 ≤ a → a < n3 → a < n2
    inside n1 n2 n3 a is low high = omega arith

    wider : (n1 n2 n3 a : ℕ) → n3 ≡ max n2 n1 → a < n2 → a < n3
    wider n1 n2 n3 a is high = omega arith

-- the numbers that the code compares with, as the definitions write them
pub touching_read : (first length step lo hi : ℤ) (count n1 n2 n3 : ℕ) → IsAxis (axis_of first length step count) → IsCoordinate lo → IsCoordinate hi
    → IsBegun (axis_of first length step count) (read (read (read lo -ℤ read length) +ℤ pos 1)) n1 → IsBegun (axis_of first length step count) (read hi) n2
    → n3 ≡ max n2 n1 → IsRangeOf (IsTouching (axis_of first length step count) lo hi) count n1 n3
touching_read first length step lo hi count n1 n2 n3 axis low high begun_low begun_high n3_is =
    let a1 : lowest ≤ℤ lo = low.least in let a2 : lo ≤ℤ highest = low.most in
    let b1 : pos 1 ≤ℤ length = axis.length_is.least in let b2 : length ≤ℤ pos 1048576 = axis.length_is.most in
    let less : read (lo -ℤ length) ≡ lo -ℤ length = read_is (lo -ℤ length) (omega (arith, ints)) in
    let one_more : read ((lo -ℤ length) +ℤ pos 1) ≡ (lo -ℤ length) +ℤ pos 1 = read_is ((lo -ℤ length) +ℤ pos 1) (omega (arith, ints)) in
    range_of _ count n1 n2 n3 begun_low.few begun_high.few n3_is (touching_places first length step lo hi count n1 n2
    (rw (read_is lo (coordinate_fits lo low.least low.most), read_is length (length_fits length axis.length_is), less, one_more) at begun_low)
    (rw (read_is hi (coordinate_fits hi high.least high.most)) at begun_high))

pub containing_read : (first length step lo hi : ℤ) (count n1 n2 n3 : ℕ) → IsAxis (axis_of first length step count) → IsCoordinate lo → IsCoordinate hi
    → IsBegun (axis_of first length step count) (read (read hi -ℤ read length)) n1 → IsBegun (axis_of first length step count) (read (read lo +ℤ pos 1)) n2
    → n3 ≡ max n2 n1 → IsRangeOf (IsContaining (axis_of first length step count) lo hi) count n1 n3
containing_read first length step lo hi count n1 n2 n3 axis low high begun_low begun_high n3_is =
    let a1 : lowest ≤ℤ lo = low.least in let a2 : lo ≤ℤ highest = low.most in
    let c1 : lowest ≤ℤ hi = high.least in let c2 : hi ≤ℤ highest = high.most in
    let b1 : pos 1 ≤ℤ length = axis.length_is.least in let b2 : length ≤ℤ pos 1048576 = axis.length_is.most in
    let less : read (hi -ℤ length) ≡ hi -ℤ length = read_is (hi -ℤ length) (omega (arith, ints)) in
    let one_more : read (lo +ℤ pos 1) ≡ lo +ℤ pos 1 = read_is (lo +ℤ pos 1) (omega (arith, ints)) in
    range_of _ count n1 n2 n3 begun_low.few begun_high.few n3_is (containing_places first length step lo hi count n1 n2
    (rw (read_is hi (coordinate_fits hi high.least high.most), read_is length (length_fits length axis.length_is), less) at begun_low)
    (rw (read_is lo (coordinate_fits lo low.least low.most), one_more) at begun_high))
