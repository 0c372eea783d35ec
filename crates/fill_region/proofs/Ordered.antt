-- The runs of a set in their order.
use Rattle.std.proofs.Common.{◌≡◌, ℕ, ◌+◌, ◌-◌, ◌≤◌, ◌<◌, ℤ, ◌<ℤ◌, Bool, true, false, ◌||◌, List, [], ◌∷◌, ◌++◌, map, length, take, get_or, refl, sym, ◌∙◌, ap, arith, ◌⊎◌, inl, inr, ⊎_elim, subst, true≢false, Ordering, Less, Equal, Greater}
use Rattle.std.specs.List.{All, Contains}
use Rattle.std.specs.List.Sorted.{IsPermutation}
use Rattle.std.specs.Cmp.{int_ranks}
use Rattle.std.specs.Fn.{Called, ComputesKey}
use Rattle.std.specs.Ordering.{MatchOrdering, int_cmp, is_lt, ordering_then}
use Rattle.std.proofs.lemmas.Fn.{always_returns_same}
use Rattle.std.proofs.lemmas.Int.{ints, by_lt_z}
use Rattle.std.proofs.lemmas.List.{get_or_default}
use Rattle.std.proofs.lemmas.List.Elements.{All-contains, All-map, All-weaker, All-contains_itself, Contains-push, Contains-push_cases}
use denote.Param.Members.{Mut}
use denote.Ref.{Bor}
use Rattle.fill_base.specs.declared.rect.Rect.{Rect}
use Rattle.fill_base.specs.Sides.{sides_of}
use Rattle.fill_base.specs.Squares.{squares}
use Rattle.fill_base.proofs.Between.{is_between_true}
use Rattle.fill_bands.specs.Squares.{covered}
use Rattle.fill_region.specs.Runs.{Sides, IsRun, has, holds, Precedes, AreInOrder, AreRuns}
use Rattle.fill_region.specs.Steps.{AreRunsOf, AreNotFalling, AreOrdered}
use Rattle.fill_region.proofs.Intervals.{same_run, run_alike}
use Rattle.fill_region.proofs.Members.{either, holder, held, square_within, covered_push, covered_more, or_left, or_right, runs_permuted}
use Rattle.fill_region.proofs.Levels.{le_self}

pub covered_sides : (rects : List Rect) (x y : ℤ) → covered rects x y ≡ holds (map sides_of rects) x y
covered_sides [] x y = refl
covered_sides (r ∷ rects) x y = ap (λ b. squares r x y || b) (covered_sides rects x y)

-- ---- a sorted list

before_none : (a b c d : ℤ) → is_lt (ordering_then (int_cmp a c) (int_cmp b d)) ≡ false → (a <ℤ c) ⊎ ((a ≡ c) × (b <ℤ d)) → ⊥
before_none a b c d h pre = decide (int_cmp a c) (int_cmp b d) (int_ranks a c) (int_ranks b d) h pre
  where
    decide : (o q : Ordering) → MatchOrdering o (a <ℤ c) (a ≡ c) (c <ℤ a) → MatchOrdering q (b <ℤ d) (b ≡ d) (d <ℤ b) → is_lt (ordering_then o q) ≡ false → (a <ℤ c) ⊎ ((a ≡ c) × (b <ℤ d)) → ⊥
    decide Less q m n h pre = true≢false h
    decide Equal Less m n h pre = true≢false h
    decide Equal Equal m n h (inl lt) = omega (arith, ints)
    decide Equal Equal m n h (inr two) = omega (arith, ints, two.1)
    decide Equal Greater m n h (inl lt) = omega (arith, ints)
    decide Equal Greater m n h (inr two) = omega (arith, ints, two.1)
    decide Greater q m n h (inl lt) = omega (arith, ints)
    decide Greater q m n h (inr two) = omega (arith, ints, two.0)

-- from the clause `sorted` of `sort_by_key`
pub not_falling : {F : Type 0} {g : Mut F (Bor Rect × Unit {0}) (ℤ × ℤ)} {f : F} (rects : List Rect)
    → ((key : Rect → ℤ × ℤ) → ComputesKey g key f → (k : ℕ) (d : Rect) → 0 ≤ k → k + 1 < length rects
    → is_lt (ordering_then (int_cmp (key (get_or rects (k + 1) d)).0 (key (get_or rects k d)).0) (int_cmp (key (get_or rects (k + 1) d)).1 (key (get_or rects k d)).1)) ≡ false)
    → ((a : Bor Rect × Unit {0}) (r : ℤ × ℤ) (f' : F) → Called g f a r f' → (r ≡ (a.0.now.y1, a.0.now.x1)) × (f' ≡ f)) → AreNotFalling rects
not_falling {g = g} {f = f} rects up h k d within pre =
    before_none (get_or rects (k + 1) d).y1 (get_or rects (k + 1) d).x1 (get_or rects k d).y1 (get_or rects k d).x1
    (up (λ r. (r.y1, r.x1)) (always_returns_same g (λ a r. r ≡ (a.0.now.y1, a.0.now.x1)) f h) k d (omega arith) within) pre

-- ---- each once

order_push : (xs : List Sides) (l x : Sides) → AreInOrder (xs ++ l ∷ []) → Precedes l x → AreInOrder ((xs ++ l ∷ []) ++ x ∷ [])
order_push [] l x h pre = (pre, tt)
order_push (s ∷ []) l x h pre = (h.0, (pre, tt))
order_push (s ∷ t ∷ rest) l x h pre = (h.0, order_push (t ∷ rest) l x h.1 pre)

-- the last that was put begins where the one before `k` does
pub record LastPut (rects ordered : List Rect) (k : ℕ) : Type 0 where
  pub front : List Rect
  pub last : Rect
  pub is : ordered ≡ front ++ last ∷ []
  pub bottom : (d : Rect) → last.y1 ≡ (get_or rects k d).y1
  pub left : (d : Rect) → last.x1 ≡ (get_or rects k d).x1

pub record ArePut (rects : List Rect) (k : ℕ) (ordered : List Rect) : Type 0 where
  pub order : AreInOrder (map sides_of ordered)
  pub begins : k ≡ 0 → ordered ≡ []
  pub last : (j : ℕ) → k ≡ j + 1 → LastPut rects ordered j
  pub among : (r : Rect) → Contains ordered r → Contains rects r
  pub all : (p : ℤ → ℤ → Bool) → All (λ r. IsRun p (sides_of r)) rects → (x y : ℤ) → covered (take k rects) x y ≡ true → covered ordered x y ≡ true

pub none_put : (rects : List Rect) → ArePut rects 0 []
none_put rects = record {
  order = tt;
  begins = λ is. refl;
  last = λ j is. absurd (omega (arith, is));
  among = λ r (k, lt, at). absurd (omega (arith, lt));
  all = λ p runs x y is. absurd (true≢false (sym is));
}

map_push : (xs : List Rect) (x : Rect) → map sides_of (xs ++ x ∷ []) ≡ map sides_of xs ++ sides_of x ∷ []
map_push [] x = refl
map_push (s ∷ xs) x = ap (λ ys. sides_of s ∷ ys) (map_push xs x)

-- one that is put
pub one_put : (rects : List Rect) (k : ℕ) (d : Rect) (ordered : List Rect) → k < length rects → d ≡ get_or rects k d → (k ≡ 0) ⊎ ((0 < k) × ((e : Rect) → Precedes (sides_of (get_or rects (k - 1) e)) (sides_of d)))
    → ArePut rects k ordered → ArePut rects (k + 1) (ordered ++ d ∷ [])
one_put rects k d ordered lt is why p = record {
  order = ⊎_elim (λ none. rw (p.begins none) tt) (λ some. after some.0 some.1) why;
  begins = λ none. absurd (omega (arith, none));
  last = λ j same. let e : k ≡ j = omega (arith, same) in record {
    front = ordered;
    last = d;
    is = refl;
    bottom = λ f. ap (λ r. r.y1) (is ∙ get_or_default rects k d f lt) ∙ ap (λ n. (get_or rects n f).y1) e;
    left = λ f. ap (λ r. r.x1) (is ∙ get_or_default rects k d f lt) ∙ ap (λ n. (get_or rects n f).x1) e;
  };
  among = λ r there. ⊎_elim (λ before. p.among r before) (λ same. subst (Contains rects) same (k, lt, sym is)) (Contains-push_cases ordered d r there);
  all = λ q runs x y some. covered_push ordered d x y ∙ ⊎_elim (λ a. or_left (covered ordered x y) (squares d x y) (p.all q runs x y a)) (λ a. or_right (covered ordered x y) (squares d x y) a)
      (either (covered (take k rects) x y) (squares d x y) (sym (covered_more rects k d x y lt is) ∙ some));
}
  where
    precede : (s t u : Sides) → s.bottom ≡ t.bottom → s.left ≡ t.left → Precedes t u → Precedes s u
    precede s t u b l (inl a) = inl (omega (arith, ints))
    precede s t u b l (inr a) = inr (b ∙ a.0, omega (arith, ints, a.1))

    after : 0 < k → ((e : Rect) → Precedes (sides_of (get_or rects (k - 1) e)) (sides_of d)) → AreInOrder (map sides_of (ordered ++ d ∷ []))
    after some before =
        let l = p.last (k - 1) (omega (arith, some)) in
        let pre : Precedes (sides_of l.last) (sides_of d) = precede (sides_of l.last) (sides_of (get_or rects (k - 1) d)) (sides_of d) (l.bottom d) (l.left d) (before d) in
        let old : AreInOrder (map sides_of l.front ++ sides_of l.last ∷ []) = subst AreInOrder (ap (map sides_of) l.is ∙ map_push l.front l.last) p.order in
        subst AreInOrder (ap (λ xs. xs ++ sides_of d ∷ []) (sym (ap (map sides_of) l.is ∙ map_push l.front l.last)) ∙ sym (map_push ordered d)) (order_push (map sides_of l.front) (sides_of l.last) (sides_of d) old pre)

-- one that is there already: it begins in the square where the last one does
pub one_passed : (rects : List Rect) (k : ℕ) (d : Rect) (ordered : List Rect) → AreNotFalling rects → k < length rects → d ≡ get_or rects k d → 0 < k → ((e : Rect) → Precedes (sides_of (get_or rects (k - 1) e)) (sides_of d) → ⊥)
    → ArePut rects k ordered → ArePut rects (k + 1) ordered
one_passed rects k d ordered rising lt is some not p = record {
  order = p.order;
  begins = λ none. absurd (omega (arith, none));
  last = λ j same. let e : k ≡ j = omega (arith, same) in record {
    front = l.front;
    last = l.last;
    is = l.is;
    bottom = λ f. bottom_is ∙ (ap (λ r. r.y1) (is ∙ get_or_default rects k d f lt) ∙ ap (λ n. (get_or rects n f).y1) e);
    left = λ f. left_is ∙ (ap (λ r. r.x1) (is ∙ get_or_default rects k d f lt) ∙ ap (λ n. (get_or rects n f).x1) e);
  };
  among = p.among;
  all = λ q runs x y there. ⊎_elim (λ a. p.all q runs x y a) (λ a. again q runs x y a) (either (covered (take k rects) x y) (squares d x y) (sym (covered_more rects k d x y lt is) ∙ there));
}
  where
    l : LastPut rects ordered (k - 1)
    l = p.last (k - 1) (omega (arith, some))

    in_last : Contains ordered l.last
    in_last = subst (λ xs. Contains xs l.last) (sym l.is) (Contains-push l.front l.last)

    back : Precedes (sides_of d) (sides_of (get_or rects (k - 1) d)) → ⊥
    back pre =
        let one : (k - 1) + 1 ≡ k = omega (arith, some) in
        rising (k - 1) d (rw one lt) (rw one (subst (λ r. Precedes (sides_of r) (sides_of (get_or rects (k - 1) d))) is pre))

    equal : (s t : Sides) → (Precedes s t → ⊥) → (Precedes t s → ⊥) → (s.bottom ≡ t.bottom) × (s.left ≡ t.left)
    equal s t a b =
        let bottoms : s.bottom ≡ t.bottom = by_lt_z s.bottom t.bottom (λ h. absurd (a (inl h))) (λ h. by_lt_z t.bottom s.bottom (λ g. absurd (b (inl g))) (λ g. omega (arith, ints))) in
        (bottoms, by_lt_z s.left t.left (λ h. absurd (a (inr (bottoms, h)))) (λ h. by_lt_z t.left s.left (λ g. absurd (b (inr (sym bottoms, g)))) (λ g. omega (arith, ints))))

    both : ((get_or rects (k - 1) d).y1 ≡ d.y1) × ((get_or rects (k - 1) d).x1 ≡ d.x1)
    both = equal (sides_of (get_or rects (k - 1) d)) (sides_of d) (not d) back

    bottom_is : l.last.y1 ≡ d.y1
    bottom_is = l.bottom d ∙ both.0

    left_is : l.last.x1 ≡ d.x1
    left_is = l.left d ∙ both.1

    again : (q : ℤ → ℤ → Bool) → All (λ r. IsRun q (sides_of r)) rects → (x y : ℤ) → squares d x y ≡ true → covered ordered x y ≡ true
    again q runs x y a =
        let run_d : IsRun q (sides_of d) = All-contains (λ r. IsRun q (sides_of r)) rects d runs (k, lt, sym is) in
        let run_l : IsRun q (sides_of l.last) = All-contains (λ r. IsRun q (sides_of r)) rects l.last runs (p.among l.last in_last) in
        let same : sides_of d ≡ sides_of l.last = same_run q (sides_of d) (sides_of l.last) d.x1 d.y1 run_d run_l
        (rw (is_between_true d.x1 d.x2 d.x1 (le_self d.x1) d.wide, is_between_true d.y1 d.y2 d.y1 (le_self d.y1) d.tall) refl)
        (rw (is_between_true l.last.x1 l.last.x2 d.x1 (omega (arith, ints, left_is)) (omega (arith, ints, left_is, l.last.wide)), is_between_true l.last.y1 l.last.y2 d.y1 (omega (arith, ints, bottom_is)) (omega (arith, ints, bottom_is, l.last.tall))) refl) in
        held ordered l.last x y in_last (subst (λ s. has s x y ≡ true) same a)

-- two places of the list, as the code reads them
pub read_before : (rects : List Rect) (i k : ℕ) (a b d : Rect) → i < length rects → k < length rects → a ≡ get_or rects i a → b ≡ get_or rects k b → d ≡ get_or rects k d → Precedes (sides_of a) (sides_of b)
    → (e : Rect) → Precedes (sides_of (get_or rects i e)) (sides_of d)
read_before rects i k a b d low high a_is b_is d_is pre e =
    subst (λ r. Precedes (sides_of r) (sides_of d)) (a_is ∙ get_or_default rects i a e low) (subst (λ r. Precedes (sides_of a) (sides_of r)) (b_is ∙ (get_or_default rects k b d high ∙ sym d_is)) pre)

pub read_not_before : (rects : List Rect) (i k : ℕ) (a b : Rect) → i < length rects → k < length rects → a ≡ get_or rects i a → b ≡ get_or rects k b → (Precedes (sides_of a) (sides_of b) → ⊥)
    → (e : Rect) → Precedes (sides_of (get_or rects i e)) (sides_of b) → ⊥
read_not_before rects i k a b low high a_is b_is not e pre = not (subst (λ r. Precedes (sides_of r) (sides_of b)) (sym (a_is ∙ get_or_default rects i a e low)) pre)

pub all_put : (rects ordered : List Rect) (k : ℕ) → take k rects ≡ rects → ArePut rects k ordered → AreOrdered rects ordered
all_put rects ordered k whole p = record { order = p.order; among = p.among; all = λ q runs x y is. p.all q runs x y (subst (λ rs. covered rs x y ≡ true) (sym whole) is) }

-- ---- the list of runs

ordered_runs : (p : ℤ → ℤ → Bool) (runs sorted ordered : List Rect) → IsPermutation runs sorted → AreOrdered sorted ordered → AreRunsOf p runs → AreRunsOf p ordered
ordered_runs p runs sorted ordered same o are =
    let s : AreRunsOf p sorted = runs_permuted p runs sorted same are in
    record {
      each = All-weaker (Contains ordered) (λ r. IsRun p (sides_of r)) (λ r among. All-contains (λ r. IsRun p (sides_of r)) sorted r s.each (o.among r among)) ordered (All-contains_itself ordered);
      all = λ x y is. o.all p s.each x y (s.all x y is);
    }

by_truth : (a b : Bool) → (a ≡ true → b ≡ true) → (b ≡ true → a ≡ true) → a ≡ b
by_truth true b f g = sym (f refl)
by_truth false true f g = g refl
by_truth false false f g = refl

pub ordered_squares : (p : ℤ → ℤ → Bool) (runs sorted ordered : List Rect) → IsPermutation runs sorted → AreOrdered sorted ordered → AreRunsOf p runs → (x y : ℤ) → holds (map sides_of ordered) x y ≡ p x y
ordered_squares p runs sorted ordered same o are x y = sym (covered_sides ordered x y) ∙ by_truth (covered ordered x y) (p x y)
    (λ is. let h = holder ordered x y is in let w = square_within h.rect x y h.holds_it in
    let run : IsRun p (sides_of h.rect) = All-contains (λ r. IsRun p (sides_of r)) ordered h.rect all.each h.among in (run.rows y w.1.0 w.1.1).filled x w.0.0 w.0.1)
    (λ is. all.all x y is)
  where
    all : AreRunsOf p ordered
    all = ordered_runs p runs sorted ordered same o are

pub ordered_canonical : (p : ℤ → ℤ → Bool) (runs sorted ordered : List Rect) → IsPermutation runs sorted → AreOrdered sorted ordered → AreRunsOf p runs → AreRuns (map sides_of ordered)
ordered_canonical p runs sorted ordered same o are = record {
  each = All-map (IsRun (holds (map sides_of ordered))) sides_of ordered (All-weaker (λ r. IsRun p (sides_of r)) (λ r. IsRun (holds (map sides_of ordered)) (sides_of r))
      (λ r run. run_alike (holds (map sides_of ordered)) p (sides_of r) (ordered_squares p runs sorted ordered same o are) run) ordered (ordered_runs p runs sorted ordered same o are).each);
  ordered = o.order;
}
