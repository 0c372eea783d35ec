-- Intervals of rows and runs of a set.
use Rattle.std.proofs.Common.{◌≡◌, ℤ, pos, ◌-ℤ◌, ◌≤ℤ◌, ◌<ℤ◌, Bool, true, false, ◌&&◌, refl, arith, ◌∙◌, sym, true≢false}
use Rattle.std.proofs.lemmas.Int.{ints, by_lt_z}
use Rattle.fill_base.specs.Counts.{is_between}
use Rattle.fill_base.specs.Sides.{sides}
use Rattle.fill_base.proofs.Between.{is_between_bounds}
use Rattle.fill_region.specs.Runs.{Sides, IsInterval, IsRun, has}
use Rattle.fill_region.specs.Laws.{RunsShareNoSquare}

pub true_false : (b : Bool) → b ≡ true → b ≡ false → ⊥
true_false b t f = true≢false (sym t ∙ f)

pub and_first : (a b : Bool) → (a && b) ≡ true → a ≡ true
and_first true b e = refl
and_first false b e = e

pub and_second : (a b : Bool) → (a && b) ≡ true → b ≡ true
and_second true b e = e
and_second false b e = absurd (true≢false (sym e))

-- of two intervals of a row that share a column, none begins before the other
not_before : (p : ℤ → ℤ → Bool) (l r m n y x : ℤ) → IsInterval p l r y → IsInterval p m n y → x <ℤ r → m ≤ℤ x → l <ℤ m → ⊥
not_before p l r m n y x i j high from lt = true_false (p (m -ℤ pos 1) y) (i.filled (m -ℤ pos 1) (omega (arith, ints)) (omega (arith, ints))) j.before

-- nor ends after it
not_after : (p : ℤ → ℤ → Bool) (l r m n y x : ℤ) → IsInterval p l r y → IsInterval p m n y → x <ℤ r → m ≤ℤ x → r <ℤ n → ⊥
not_after p l r m n y x i j high from lt = true_false (p r y) (j.filled r (omega (arith, ints)) lt) i.after

pub same_left : (p : ℤ → ℤ → Bool) (l r m n y x : ℤ) → IsInterval p l r y → IsInterval p m n y → l ≤ℤ x → x <ℤ r → m ≤ℤ x → x <ℤ n → l ≡ m
same_left p l r m n y x i j a b c d = by_lt_z l m (λ lt. absurd (not_before p l r m n y x i j b c lt))
    (λ ge. by_lt_z m l (λ lt. absurd (not_before p m n l r y x j i d a lt)) (λ le. omega (arith, ints)))

pub same_right : (p : ℤ → ℤ → Bool) (l r m n y x : ℤ) → IsInterval p l r y → IsInterval p m n y → l ≤ℤ x → x <ℤ r → m ≤ℤ x → x <ℤ n → r ≡ n
same_right p l r m n y x i j a b c d = by_lt_z r n (λ lt. absurd (not_after p l r m n y x i j b c lt))
    (λ ge. by_lt_z n r (λ lt. absurd (not_after p m n l r y x j i d a lt)) (λ le. omega (arith, ints)))

-- a run doesn't begin amid another between the same sides, nor end there
not_amid : (p : ℤ → ℤ → Bool) (s t : Sides) (y : ℤ) → IsRun p s → IsRun p t → s.left ≡ t.left → s.right ≡ t.right → y <ℤ s.top → t.bottom ≤ℤ y → s.bottom <ℤ t.bottom → ⊥
not_amid p s t y rs rt l r high from lt = rt.begins (rw (l, r) at (rs.rows (t.bottom -ℤ pos 1) (omega (arith, ints)) (omega (arith, ints))))

not_short : (p : ℤ → ℤ → Bool) (s t : Sides) (y : ℤ) → IsRun p s → IsRun p t → s.left ≡ t.left → s.right ≡ t.right → s.bottom ≤ℤ y → y <ℤ t.top → t.top <ℤ s.top → ⊥
not_short p s t y rs rt l r from high lt = rt.ends (rw (l, r) at (rs.rows t.top (omega (arith, ints)) lt))

pub sides_same : (a b c d e f g h : ℤ) → a ≡ e → b ≡ f → c ≡ g → d ≡ h → sides a b c d ≡ sides e f g h
sides_same a b c d e f g h i j k l = rw (i, j, k, l) refl

pub has_bounds : (s : Sides) (x y : ℤ) → has s x y ≡ true → ((s.left ≤ℤ x) × (x <ℤ s.right)) × ((s.bottom ≤ℤ y) × (y <ℤ s.top))
has_bounds s x y is = (
  is_between_bounds s.left s.right x (and_first (is_between s.left s.right x) (is_between s.bottom s.top y) is),
  is_between_bounds s.bottom s.top y (and_second (is_between s.left s.right x) (is_between s.bottom s.top y) is),
)

-- two runs that share a square have the same sides
pub same_run : RunsShareNoSquare
same_run p s t x y rs rt in_s in_t =
    let a = has_bounds s x y in_s in
    let b = has_bounds t x y in_t in
    let i : IsInterval p s.left s.right y = rs.rows y a.1.0 a.1.1 in
    let j : IsInterval p t.left t.right y = rt.rows y b.1.0 b.1.1 in
    let l : s.left ≡ t.left = same_left p s.left s.right t.left t.right y x i j a.0.0 a.0.1 b.0.0 b.0.1 in
    let r : s.right ≡ t.right = same_right p s.left s.right t.left t.right y x i j a.0.0 a.0.1 b.0.0 b.0.1 in
    sides_same s.left s.bottom s.right s.top t.left t.bottom t.right t.top l
    (by_lt_z s.bottom t.bottom (λ lt. absurd (not_amid p s t y rs rt l r a.1.1 b.1.0 lt))
    (λ ge. by_lt_z t.bottom s.bottom (λ lt. absurd (not_amid p t s y rt rs (sym l) (sym r) b.1.1 a.1.0 lt)) (λ le. omega (arith, ints))))
    r
    (by_lt_z s.top t.top (λ lt. absurd (not_short p t s y rt rs (sym l) (sym r) b.1.0 a.1.1 lt))
    (λ ge. by_lt_z t.top s.top (λ lt. absurd (not_short p s t y rs rt l r a.1.0 b.1.1 lt)) (λ le. omega (arith, ints))))

-- ---- sets that are alike

-- an interval of a row in which two sets are alike, as far as it goes and beside it
pub interval_alike : (p q : ℤ → ℤ → Bool) (l r y : ℤ) → l <ℤ r → ((x : ℤ) → (l -ℤ pos 1) ≤ℤ x → x ≤ℤ r → p x y ≡ q x y) → IsInterval q l r y → IsInterval p l r y
interval_alike p q l r y wide same i = record {
  filled = λ x low high. same x (omega (arith, ints)) (omega (arith, ints)) ∙ i.filled x low high;
  before = same (l -ℤ pos 1) (omega (arith, ints)) (omega (arith, ints)) ∙ i.before;
  after = same r (omega (arith, ints)) (omega (arith, ints)) ∙ i.after;
}

-- a run of one set whose rows are intervals of the other
pub run_of : (p q : ℤ → ℤ → Bool) (s : Sides) → IsRun q s → ((y : ℤ) → s.bottom ≤ℤ y → y <ℤ s.top → IsInterval q s.left s.right y → IsInterval p s.left s.right y)
    → (IsInterval p s.left s.right (s.bottom -ℤ pos 1) → ⊥) → (IsInterval p s.left s.right s.top → ⊥) → IsRun p s
run_of p q s run rows begins ends = record {
  wide = run.wide;
  tall = run.tall;
  rows = λ y low high. rows y low high (run.rows y low high);
  begins = begins;
  ends = ends;
}

-- equal sets have the same runs
pub run_alike : (p q : ℤ → ℤ → Bool) (s : Sides) → ((x y : ℤ) → p x y ≡ q x y) → IsRun q s → IsRun p s
run_alike p q s same run = run_of p q s run (λ y low high i. interval_alike p q s.left s.right y run.wide (λ x low high. same x y) i)
    (λ i. run.begins (interval_alike q p s.left s.right _ run.wide (λ x low high. sym (same x _)) i))
    (λ i. run.ends (interval_alike q p s.left s.right _ run.wide (λ x low high. sym (same x _)) i))
