-- The places of stacks are the filled places.
use Rattle.std.proofs.Common.{◌≡◌, refl, ap, sym, subst, ◌∙◌, ℕ, zero, suc, ◌+◌, ◌-◌, ◌%◌, ◌≤◌, ◌<◌, min, ℤ, pos, ◌+ℤ◌, ◌-ℤ◌, ◌≤ℤ◌, ◌<ℤ◌, arith, inl, inr, ◌⊎◌, Bool, true, false, cond, ◌&&◌, ◌||◌, List, [], ◌∷◌, ◌++◌, map}
use Rattle.std.specs.Prelude.{◌==◌, if◌then◌else◌, filter, unsigned_abs}
use Rattle.std.specs.List.{flat_map, list_any}
use Rattle.std.specs.Ordering.{int_eq}
use Rattle.std.proofs.lemmas.Bool.{and_from, and_parts, or_cases, eqb-true}
use Rattle.std.proofs.lemmas.Bool.Decides.{Decides-int_eq, nat_tests}
use Rattle.std.proofs.lemmas.Grind.{flat_map-append}
use Rattle.std.proofs.lemmas.Int.{ints, clamps}
use Rattle.fill_base.specs.Counts.{is_between, span_len}
use Rattle.fill_base.proofs.Between.{is_between_true, is_between_bounds}
use Rattle.fill_raster.specs.Axes.{first, past, extent}
use Rattle.fill_raster.specs.Lattice.{Lattice}
use Rattle.fill_raster.specs.declared.axis.Axis.{Axis}
use Rattle.fill_raster.proofs.Ranges.{first_past}
use Rattle.fill_stacks.specs.Laws.{StacksHoldEachOnce, numbers_in}
use Rattle.fill_stacks.specs.Runs.{Run, runs, pieces, numbers_from}
use Rattle.fill_stacks.specs.Places.{PlaceSet, filled_columns, filled_places, places_along, row_pieces}
use Rattle.fill_stacks.specs.Stacks.{begins, depth, has_piece, height, is_run, rows_down, rows_up, stack_at, stack_places, stacks}
use Rattle.fill_stacks.specs.declared.pieces.Stack.{Stack}
use Rattle.fill_stacks.proofs.PieceLaws.{each_once}
use Rattle.fill_stacks.specs.Stacks.{IsOne}
use Rattle.fill_stacks.proofs.Times.{found, in_another_order, one_if, one_of_numbers, only_one, times, times_numbers, times_some, total, total_filter, total_flat, total_map, total_none, total_same}

-- ---- rows one after another

pub down_has : (has : ℤ → Bool) (j : ℤ) (n m : ℕ) → m < rows_down has j n → has (j -ℤ pos (suc m)) ≡ true
down_has has j zero m lt = absurd (omega (arith, lt))
down_has has j (suc n) m lt = by (has (j -ℤ pos 1)) refl m lt (down_has has (j -ℤ pos 1) n)
  where
    at : (j : ℤ) (m : ℕ) → (j -ℤ pos 1) -ℤ pos (suc m) ≡ j -ℤ pos (suc (suc m))
    at j m = omega (arith, ints, clamps)

    by : (b : Bool) → has (j -ℤ pos 1) ≡ b → (m : ℕ) → m < (if b then suc (rows_down has (j -ℤ pos 1) n) else 0) → ((m : ℕ) → m < rows_down has (j -ℤ pos 1) n → has ((j -ℤ pos 1) -ℤ pos (suc m)) ≡ true) → has (j -ℤ pos (suc m)) ≡ true
    by true h zero lt later = h
    by true h (suc m) lt later = ap has (sym (at j m)) ∙ later m (omega (arith, lt))
    by false h m lt later = absurd (omega (arith, lt))

down_most : (has : ℤ → Bool) (j : ℤ) (n : ℕ) → rows_down has j n ≤ n
down_most has j zero = omega arith
down_most has j (suc n) = by (has (j -ℤ pos 1)) (down_most has (j -ℤ pos 1) n)
  where
    by : (b : Bool) → rows_down has (j -ℤ pos 1) n ≤ n → (if b then suc (rows_down has (j -ℤ pos 1) n) else 0) ≤ suc n
    by true le = omega (arith, le)
    by false le = omega arith

-- where the rows from one on pass, so many more are below a later one
down_from : (has : ℤ → Bool) (k : ℤ) (n m : ℕ) → ((t : ℕ) → t < m → has (k +ℤ pos t) ≡ true) → rows_down has (k +ℤ pos m) (n + m) ≡ rows_down has k n + m
down_from has k n zero all = let a : k +ℤ pos 0 ≡ k = omega (arith, ints, clamps) in let b : n + 0 ≡ n = omega arith in let c = rows_down has k n in rw (a, b) (plus_none c)
  where
    plus_none : (c : ℕ) → c ≡ c + 0
    plus_none c = omega arith
down_from has k n (suc m) all =
    let a : n + suc m ≡ suc (n + m) = omega arith in
    let b : (k +ℤ pos (suc m)) -ℤ pos 1 ≡ k +ℤ pos m = omega (arith, ints, clamps) in
    let later = down_from has k n m (λ t lt. all t (omega (arith, lt))) in
    let here : has ((k +ℤ pos (suc m)) -ℤ pos 1) ≡ true = ap has b ∙ all m (omega arith) in
    ap (rows_down has (k +ℤ pos (suc m))) a ∙ (rw here refl ∙ (ap (λ z. suc (rows_down has z (n + m))) b ∙ (ap suc later ∙ last (rows_down has k n) m)))
  where
    last : (c m : ℕ) → suc (c + m) ≡ c + suc m
    last c m = omega arith

up_has : (has : ℤ → Bool) (j : ℤ) (n m : ℕ) → m < rows_up has j n → has (j +ℤ pos m) ≡ true
up_has has j zero m lt = absurd (omega (arith, lt))
up_has has j (suc n) m lt = by (has j) refl m lt (up_has has (j +ℤ pos 1) n)
  where
    same : (j : ℤ) → j +ℤ pos 0 ≡ j
    same j = omega (arith, ints, clamps)

    at : (j : ℤ) (m : ℕ) → (j +ℤ pos 1) +ℤ pos m ≡ j +ℤ pos (suc m)
    at j m = omega (arith, ints, clamps)

    by : (b : Bool) → has j ≡ b → (m : ℕ) → m < (if b then suc (rows_up has (j +ℤ pos 1) n) else 0) → ((m : ℕ) → m < rows_up has (j +ℤ pos 1) n → has ((j +ℤ pos 1) +ℤ pos m) ≡ true) → has (j +ℤ pos m) ≡ true
    by true h zero lt later = ap has (same j) ∙ h
    by true h (suc m) lt later = ap has (sym (at j m)) ∙ later m (omega (arith, lt))
    by false h m lt later = absurd (omega (arith, lt))

pub up_most : (has : ℤ → Bool) (j : ℤ) (n : ℕ) → rows_up has j n ≤ n
up_most has j zero = omega arith
up_most has j (suc n) = by (has j) (up_most has (j +ℤ pos 1) n)
  where
    by : (b : Bool) → rows_up has (j +ℤ pos 1) n ≤ n → (if b then suc (rows_up has (j +ℤ pos 1) n) else 0) ≤ suc n
    by true le = omega (arith, le)
    by false le = omega arith

moved_none : (j : ℤ) → j +ℤ pos 0 ≡ j
moved_none j = omega (arith, ints, clamps)

moved_on : (j : ℤ) (t : ℕ) → (j +ℤ pos 1) +ℤ pos t ≡ j +ℤ pos (suc t)
moved_on j t = omega (arith, ints, clamps)

up_reaches : (has : ℤ → Bool) (j : ℤ) (n m : ℕ) → m < n → ((t : ℕ) → t ≤ m → has (j +ℤ pos t) ≡ true) → m < rows_up has j n
up_reaches has j zero m lt all = absurd (omega (arith, lt))
up_reaches has j (suc n) zero lt all = let here : has j ≡ true = ap has (sym (moved_none j)) ∙ all 0 (omega arith) in rw here (omega arith)
up_reaches has j (suc n) (suc m) lt all =
    let here : has j ≡ true = ap has (sym (moved_none j)) ∙ all 0 (omega arith) in
    let later = up_reaches has (j +ℤ pos 1) n m (omega (arith, lt)) (λ t le. ap has (moved_on j t) ∙ all (suc t) (omega (arith, le))) in
    rw here (omega (arith, later))

-- ---- pieces of a row

pub run_is : (p q : Run) → is_run p q ≡ true → q ≡ p
run_is p q h =
    let parts = and_parts (int_eq q.start p.start) (q.count == p.count) h in
    same (sym (sym ((Decides-int_eq q.start p.start).0 parts.0))) (eqb-true q.count p.count parts.1)
  where
    same : q.start ≡ p.start → q.count ≡ p.count → q ≡ p
    same e f = λ k. record { start = e k; count = f k }

is_itself : (p : Run) → is_run p p ≡ true
is_itself p = and_from (int_eq p.start p.start) (p.count == p.count) ((Decides-int_eq p.start p.start).1 refl) (nat_self p.count)
  where
    nat_self : (n : ℕ) → (n == n) ≡ true
    nat_self n = grind (arith, nat_tests)

any_one : (p : Run) (ps : List Run) → list_any (is_run p) ps ≡ true → IsOne p ps
any_one p [] h = absurd (let e : false ≡ true = h in cc)
any_one p (q ∷ qs) h = elim (or_cases (is_run p q) (list_any (is_run p) qs) h) [
  | inl here ↦ inl (run_is p q here)
  | inr later ↦ inr (any_one p qs later)
]

pub one_any : (p : Run) (ps : List Run) → IsOne p ps → list_any (is_run p) ps ≡ true
one_any p [] is = absurd is
one_any p (q ∷ qs) (inl same) = rw (same, is_itself p) refl
one_any p (q ∷ qs) (inr later) = rw (one_any p qs later) (or_true (is_run p q))
  where
    or_true : (b : Bool) → b || true ≡ true
    or_true true = refl
    or_true false = refl

abbrev in_run : ℤ → Run → Bool
in_run i p = is_between p.start (p.start +ℤ pos p.count) i

pub flat_flat : {A B C : Type 0} (f : B → List C) (g : A → List B) (xs : List A) → flat_map f (flat_map g xs) ≡ flat_map (λ x. flat_map f (g x)) xs
flat_flat f g [] = refl
flat_flat f g (x ∷ xs) = flat_map-append f (g x) (flat_map g xs) ∙ ap (λ ys. flat_map f (g x) ++ ys) (flat_flat f g xs)

-- ---- how often a place stands in the rows and in the stacks

int_same : (x y : ℤ) → int_eq x y ≡ true → x ≡ y
int_same x y h = (Decides-int_eq x y).0 h

times_both : (b : Bool) (j z : ℤ) (n : ℕ) → total (λ x. one_if (b && int_eq x j)) (numbers_from z n) ≡ one_if (b && is_between z (z +ℤ pos n) j)
times_both true j z n = times_numbers j z n
times_both false j z n = total_none (λ x. 0) (numbers_from z n) (λ x is. refl)

times_pairs : (i j k : ℤ) (xs : List ℤ) → total (λ (q : ℤ × ℤ). one_if (int_eq q.0 i && int_eq q.1 j)) (map (λ x. (x, k)) xs) ≡ cond (int_eq k j) (total (λ x. one_if (int_eq x i)) xs) 0
times_pairs i j k xs = total_map (λ (q : ℤ × ℤ). one_if (int_eq q.0 i && int_eq q.1 j)) (λ x. (x, k)) xs ∙ by (int_eq k j)
  where
    and_true : (b : Bool) → b && true ≡ b
    and_true true = refl
    and_true false = refl

    and_false : (b : Bool) → b && false ≡ false
    and_false true = refl
    and_false false = refl

    by : (b : Bool) → total (λ x. one_if (int_eq x i && b)) xs ≡ cond b (total (λ x. one_if (int_eq x i)) xs) 0
    by true = total_same (λ x. one_if (int_eq x i && true)) (λ x. one_if (int_eq x i)) xs (λ x is. ap one_if (and_true (int_eq x i)))
    by false = total_none (λ x. one_if (int_eq x i && false)) xs (λ x is. ap one_if (and_false (int_eq x i)))

-- a stack holds a place once where the place is in its columns and in its rows
stack_times : (i j : ℤ) (s : Stack) → total (λ (q : ℤ × ℤ). one_if (int_eq q.0 i && int_eq q.1 j)) (stack_places s)
    ≡ one_if (is_between s.column (s.column +ℤ pos s.columns) i && is_between s.row (s.row +ℤ pos s.rows) j)
stack_times i j s =
    total_flat (λ (q : ℤ × ℤ). one_if (int_eq q.0 i && int_eq q.1 j)) (λ k. map (λ x. (x, k)) (numbers_from s.column s.columns)) (numbers_from s.row s.rows)
    ∙ (total_same _ (λ k. one_if (inside && int_eq k j)) (numbers_from s.row s.rows) (λ k is. times_pairs i j k (numbers_from s.column s.columns) ∙ row k) ∙ times_both inside j s.row s.rows)
  where
    inside : Bool
    inside = is_between s.column (s.column +ℤ pos s.columns) i

    swapped : (b a : Bool) → cond b (one_if a) 0 ≡ one_if (a && b)
    swapped true true = refl
    swapped true false = refl
    swapped false true = refl
    swapped false false = refl

    row : (k : ℤ) → cond (int_eq k j) (total (λ x. one_if (int_eq x i)) (numbers_from s.column s.columns)) 0 ≡ one_if (inside && int_eq k j)
    row k = ap (λ n. cond (int_eq k j) n 0) (times_numbers i s.column s.columns) ∙ swapped (int_eq k j) (is_between s.column (s.column +ℤ pos s.columns) i)

past_end : (f p : ℤ) → f ≤ℤ p → f +ℤ pos (span_len f p) ≡ p
past_end f p h = omega (arith, ints, clamps)

pub along : (a : Axis) (x : ℤ) → is_between (first a) (first a +ℤ pos (extent a)) x ≡ is_between (first a) (past a) x
along a x = ap (λ e. is_between (first a) e x) (past_end (first a) (past a) (first_past a))

module _ (filled : PlaceSet) (r : Lattice) where
  -- the place is on the raster and filled
  is_filled : ℤ → ℤ → Bool
  is_filled i j = is_between (first r.across) (past r.across) i && filled i j

  columns_times : (i j : ℤ) → times (λ x. int_eq x i) (filled_columns filled r j) ≡ one_if (is_between (first r.across) (past r.across) i && filled i j)
  columns_times i j =
      total_filter (λ x. one_if (int_eq x i)) (λ x. filled x j) (places_along r.across)
      ∙ (total_same _ (λ x. one_if (filled i j && int_eq x i)) (places_along r.across) (λ x is. at x (int_eq x i) refl)
      ∙ (times_both (filled i j) i (first r.across) (extent r.across) ∙ (ap (λ b. one_if (filled i j && b)) (along r.across i) ∙ ap one_if (turned (filled i j) (is_between (first r.across) (past r.across) i)))))
    where
      turned : (a b : Bool) → a && b ≡ b && a
      turned true true = refl
      turned true false = refl
      turned false true = refl
      turned false false = refl

      none : (b : Bool) → cond b 0 0 ≡ one_if (b && false)
      none true = refl
      none false = refl

      one : (b : Bool) → cond b 1 0 ≡ one_if (b && true)
      one true = refl
      one false = refl

      at : (x : ℤ) (e : Bool) → int_eq x i ≡ e → cond (filled x j) (one_if e) 0 ≡ one_if (filled i j && e)
      at x true same = ap (λ z. cond (filled z j) 1 0) (int_same x i same) ∙ one (filled i j)
      at x false other = both_none (filled x j) (filled i j)
        where
          both_none : (a b : Bool) → cond a 0 0 ≡ one_if (b && false)
          both_none true true = refl
          both_none true false = refl
          both_none false true = refl
          both_none false false = refl

  piece_times : (i j : ℤ) → times (in_run i) (row_pieces filled r j) ≡ one_if (is_between (first r.across) (past r.across) i && filled i j)
  piece_times i j =
      sym (total_same (λ p. times (λ x. int_eq x i) (numbers_in p)) (λ p. one_if (in_run i p)) (row_pieces filled r j) (λ p is. times_numbers i p.start p.count))
      ∙ (sym (total_flat (λ x. one_if (int_eq x i)) numbers_in (row_pieces filled r j))
      ∙ (ap (times (λ x. int_eq x i)) (flat_flat numbers_in pieces (runs (filled_columns filled r j)) ∙ each_once (filled_columns filled r j)) ∙ columns_times i j))

  -- what the rows have of a place
  rows_times : (i j : ℤ) → total (λ (q : ℤ × ℤ). one_if (int_eq q.0 i && int_eq q.1 j)) (filled_places filled r) ≡ one_if (is_between (first r.across) (past r.across) i && filled i j && is_between (first r.up) (past r.up) j)
  rows_times i j =
      total_flat (λ (q : ℤ × ℤ). one_if (int_eq q.0 i && int_eq q.1 j)) (λ k. map (λ x. (x, k)) (filled_columns filled r k)) (places_along r.up)
      ∙ (total_same _ (λ k. one_if (wanted && int_eq k j)) (places_along r.up) (λ k is. times_pairs i j k (filled_columns filled r k) ∙ row k (int_eq k j) refl)
      ∙ (times_both wanted j (first r.up) (extent r.up) ∙ ap (λ b. one_if (wanted && b)) (along r.up j)))
    where
      wanted : Bool
      wanted = is_between (first r.across) (past r.across) i && filled i j

      one : (b : Bool) → one_if b ≡ one_if (b && true)
      one true = refl
      one false = refl

      none : (b : Bool) → 0 ≡ one_if (b && false)
      none true = refl
      none false = refl

      row : (k : ℤ) (e : Bool) → int_eq k j ≡ e → cond e (total (λ x. one_if (int_eq x i)) (filled_columns filled r k)) 0 ≡ one_if (wanted && e)
      row k true same = ap (λ z. times (λ x. int_eq x i) (filled_columns filled r z)) (int_same k j same) ∙ (columns_times i j ∙ one (is_between (first r.across) (past r.across) i && filled i j))
      row k false other = none (is_between (first r.across) (past r.across) i && filled i j)

  -- ---- what the stacks have of a place

  -- row k and its piece p begin a stack that holds the place
  holds : ℤ → ℤ → ℤ → Run → Bool
  holds i j k p = begins filled r k p && (in_run i p && is_between k (k +ℤ pos (min (height filled r k p) 32767)) j)

  stacks_times : (i j : ℤ) → total (λ (q : ℤ × ℤ). one_if (int_eq q.0 i && int_eq q.1 j)) (flat_map stack_places (stacks filled r)) ≡ total (λ k. total (λ p. one_if (holds i j k p)) (row_pieces filled r k)) (places_along r.up)
  unfolding holds
  stacks_times i j =
      total_flat (λ (q : ℤ × ℤ). one_if (int_eq q.0 i && int_eq q.1 j)) stack_places (stacks filled r)
      ∙ (total_same _ (λ (s : Stack). one_if (is_between s.column (s.column +ℤ pos s.columns) i && is_between s.row (s.row +ℤ pos s.rows) j)) (stacks filled r) (λ s is. stack_times i j s)
      ∙ (total_flat (λ (s : Stack). one_if (is_between s.column (s.column +ℤ pos s.columns) i && is_between s.row (s.row +ℤ pos s.rows) j)) (λ k. map (stack_at filled r k) (filter (begins filled r k) (row_pieces filled r k))) (places_along r.up)
      ∙ total_same _ _ (places_along r.up) (λ k is. row k)))
    where
      chosen : (b c : Bool) → cond b (one_if c) 0 ≡ one_if (b && c)
      chosen true c = refl
      chosen false c = refl

      row : (k : ℤ) → total (λ (s : Stack). one_if (is_between s.column (s.column +ℤ pos s.columns) i && is_between s.row (s.row +ℤ pos s.rows) j)) (map (stack_at filled r k) (filter (begins filled r k) (row_pieces filled r k)))
          ≡ total (λ p. one_if (begins filled r k p && (in_run i p && is_between k (k +ℤ pos (min (height filled r k p) 32767)) j))) (row_pieces filled r k)
      row k =
          total_map (λ (s : Stack). one_if (is_between s.column (s.column +ℤ pos s.columns) i && is_between s.row (s.row +ℤ pos s.rows) j)) (stack_at filled r k) (filter (begins filled r k) (row_pieces filled r k))
          ∙ (total_filter (λ (p : Run). one_if (in_run i p && is_between k (k +ℤ pos (min (height filled r k p) 32767)) j)) (begins filled r k) (row_pieces filled r k)
          ∙ total_same _ _ (row_pieces filled r k) (λ p is. chosen (begins filled r k p) (in_run i p && is_between k (k +ℤ pos (min (height filled r k p) 32767)) j)))

  -- what that means: the rows from k up to j have the piece, and they are fewer than 32,768
  record Holding (i j k : ℤ) (p : Run) : Type 0 where
    up : ℕ
    at : k +ℤ pos up ≡ j
    few : up < 32767
    all : (t : ℕ) → t ≤ up → has_piece filled r p (k +ℤ pos t) ≡ true
    low : first r.up ≤ℤ k
    high : j <ℤ past r.up
    whole : depth filled r k p % 32767 ≡ 0
    run : in_run i p ≡ true

  holding : (i j k : ℤ) (p : Run) → IsOne k (places_along r.up) → holds i j k p ≡ true → Holding i j k p
  unfolding holds
  holding i j k p row h =
      let parts = and_parts (begins filled r k p) _ h in
      let inner = and_parts (in_run i p) _ parts.1 in
      let ends = is_between_bounds k (k +ℤ pos (min (height filled r k p) 32767)) j inner.1 in
      let rows = is_between_bounds (first r.up) (past r.up) k (sym (along r.up k) ∙ one_of_numbers (first r.up) k (extent r.up) row) in
      let m = steps k j ends.0 in
      let less = below k j (min (height filled r k p) 32767) m.0 m.1 ends.1 in
      let most = up_most (has_piece filled r p) k (span_len k (past r.up)) in
      record {
        up = m.0;
        at = m.1;
        few = omega (arith, less);
        all = λ t le. up_has (has_piece filled r p) k (span_len k (past r.up)) t (omega (arith, le, less));
        low = rows.0;
        high = inside k j (past r.up) m.0 (height filled r k p) m.1 (omega (arith, less)) most rows.1;
        whole = eqb-true _ _ parts.0;
        run = inner.0;
      }
    where
      steps : (k j : ℤ) → k ≤ℤ j → (m : ℕ) × (k +ℤ pos m ≡ j)
      steps k j le = (unsigned_abs (j -ℤ k), omega (arith, ints, clamps))

      below : (k j : ℤ) (h m : ℕ) → k +ℤ pos m ≡ j → j <ℤ (k +ℤ pos h) → m < h
      below k j h m at lt = omega (arith, ints, clamps, at)

      inside : (k j past : ℤ) (m h : ℕ) → k +ℤ pos m ≡ j → m < h → h ≤ span_len k past → k <ℤ past → j <ℤ past
      inside k j past m h at lt le under = omega (arith, ints, clamps, at, lt, le)

  here : (i j k : ℤ) (p : Run) → Holding i j k p → IsOne p (row_pieces filled r j)
  here i j k p h = any_one p (row_pieces filled r j) (ap (has_piece filled r p) (sym h.at) ∙ h.all h.up (self h.up))
    where
      self : (n : ℕ) → n ≤ n
      self n = omega arith

  -- the row where the stack of a place begins
  bottom : ℤ → Run → ℤ
  bottom j p = j -ℤ pos (depth filled r j p % 32767)

  begins_there : (i j k : ℤ) (p : Run) → Holding i j k p → k ≡ bottom j p
  unfolding bottom
  begins_there i j k p h =
      let more = down_from (has_piece filled r p) k (span_len (first r.up) k) h.up (λ t lt. h.all t (omega (arith, lt))) in
      let fuel : span_len (first r.up) k + h.up ≡ span_len (first r.up) j = longer (first r.up) k j h.up h.low h.at in
      let down : depth filled r j p ≡ depth filled r k p + h.up = sym (ap (λ n. rows_down (has_piece filled r p) j n) fuel) ∙ (ap (λ z. rows_down (has_piece filled r p) z (span_len (first r.up) k + h.up)) (sym h.at) ∙ more) in
      back k j h.up _ h.at (left _ _ _ down h.whole h.few)
    where
      longer : (f k j : ℤ) (m : ℕ) → f ≤ℤ k → k +ℤ pos m ≡ j → span_len f k + m ≡ span_len f j
      longer f k j m le at = omega (arith, ints, clamps, at)

      left : (d c m : ℕ) → d ≡ c + m → c % 32767 ≡ 0 → m < 32767 → d % 32767 ≡ m
      left d c m is none few = omega (arith, is, none, few)

      back : (k j : ℤ) (m n : ℕ) → k +ℤ pos m ≡ j → n ≡ m → k ≡ j -ℤ pos n
      back k j m n at same = omega (arith, ints, clamps, at, same)

  few_pieces : (i j : ℤ) → times (in_run i) (row_pieces filled r j) ≤ 1
  few_pieces i j = rw (piece_times i j) (most (is_between (first r.across) (past r.across) i && filled i j))
    where
      most : (b : Bool) → one_if b ≤ 1
      most true = omega arith
      most false = omega arith

  -- a piece of row j that holds column i, and the row where its stack begins
  module _ (i j : ℤ) (p : Run) (low : first r.up ≤ℤ j) (high : j <ℤ past r.up) (is : IsOne p (row_pieces filled r j)) (run : in_run i p ≡ true) where
    abbrev lifted : ℕ
    lifted = depth filled r j p % 32767

    lifted_most : lifted ≤ depth filled r j p
    lifted_most = omega arith

    bottom_low : first r.up ≤ℤ bottom j p
    unfolding bottom
    bottom_low = let most = down_most (has_piece filled r p) j (span_len (first r.up) j) in let le = lifted_most in within (first r.up) j (depth filled r j p % 32767) (depth filled r j p) low most le
      where
        within : (f j : ℤ) (m d : ℕ) → f ≤ℤ j → d ≤ span_len f j → m ≤ d → f ≤ℤ (j -ℤ pos m)
        within f j m d low most le = omega (arith, ints, clamps, most, le)

    bottom_at : bottom j p +ℤ pos lifted ≡ j
    unfolding bottom
    bottom_at = back j (depth filled r j p % 32767)
      where
        back : (j : ℤ) (m : ℕ) → (j -ℤ pos m) +ℤ pos m ≡ j
        back j m = omega (arith, ints, clamps)

    -- the rows from there up to row j have the piece
    all_have : (t : ℕ) → t ≤ lifted → has_piece filled r p (bottom j p +ℤ pos t) ≡ true
    unfolding bottom
    all_have t le = elim (cases t (depth filled r j p % 32767) le) [
      | inl last ↦ ap (has_piece filled r p) (at_top j t (depth filled r j p % 32767) last) ∙ one_any p (row_pieces filled r j) is
      | inr below ↦
          let m = lifted_most in
          ap (has_piece filled r p) (at_row j t (depth filled r j p % 32767) below) ∙ down_has (has_piece filled r p) j (span_len (first r.up) j) (depth filled r j p % 32767 - t - 1) (omega (arith, below, m))
    ]
      where
        cases : (t m : ℕ) → t ≤ m → (t ≡ m) ⊎ (t < m)
        cases t m le = grind (arith, le)

        at_top : (j : ℤ) (t m : ℕ) → t ≡ m → (j -ℤ pos m) +ℤ pos t ≡ j
        at_top j t m e = omega (arith, ints, clamps, e)

        at_row : (j : ℤ) (t m : ℕ) → t < m → (j -ℤ pos m) +ℤ pos t ≡ j -ℤ pos (suc (m - t - 1))
        at_row j t m lt = omega (arith, ints, clamps, lt)

    -- so that row has it, and its stack there begins with it and reaches row j
    at_bottom : IsOne p (row_pieces filled r (bottom j p))
    at_bottom = any_one p (row_pieces filled r (bottom j p)) (ap (has_piece filled r p) (sym (moved_none (bottom j p))) ∙ all_have 0 (none lifted))
      where
        none : (n : ℕ) → 0 ≤ n
        none n = omega arith

    depth_there : depth filled r (bottom j p) p % 32767 ≡ 0
    depth_there =
        let more = down_from (has_piece filled r p) (bottom j p) (span_len (first r.up) (bottom j p)) lifted (λ t lt. all_have t (less t lifted lt)) in
        let fuel : span_len (first r.up) (bottom j p) + lifted ≡ span_len (first r.up) j = longer (first r.up) (bottom j p) j lifted bottom_low bottom_at in
        let down : depth filled r j p ≡ depth filled r (bottom j p) p + lifted = sym (ap (λ n. rows_down (has_piece filled r p) j n) fuel) ∙ (ap (λ z. rows_down (has_piece filled r p) z (span_len (first r.up) (bottom j p) + lifted)) (sym bottom_at) ∙ more) in
        left _ _ _ down refl
      where
        less : (t n : ℕ) → t < n → t ≤ n
        less t n lt = omega (arith, lt)

        longer : (f k j : ℤ) (m : ℕ) → f ≤ℤ k → k +ℤ pos m ≡ j → span_len f k + m ≡ span_len f j
        longer f k j m le at = omega (arith, ints, clamps, at)

        left : (d c m : ℕ) → d ≡ c + m → m ≡ d % 32767 → c % 32767 ≡ 0
        left d c m is at = omega (arith, is, at)

    reaches : is_between (bottom j p) (bottom j p +ℤ pos (min (height filled r (bottom j p) p) 32767)) j ≡ true
    reaches =
        let high_enough = up_reaches (has_piece filled r p) (bottom j p) (span_len (bottom j p) (past r.up)) lifted (under (bottom j p) j (past r.up) lifted bottom_at high) (λ t le. all_have t le) in
        is_between_true _ _ j (from (bottom j p) j lifted bottom_at) (to (bottom j p) j lifted (height filled r (bottom j p) p) bottom_at high_enough (small (depth filled r j p)))
      where
        under : (k j past : ℤ) (m : ℕ) → k +ℤ pos m ≡ j → j <ℤ past → m < span_len k past
        under k j past m at lt = omega (arith, ints, clamps, at)

        from : (k j : ℤ) (m : ℕ) → k +ℤ pos m ≡ j → k ≤ℤ j
        from k j m at = omega (arith, ints, clamps, at)

        small : (d : ℕ) → d % 32767 < 32767
        small d = omega arith

        to : (k j : ℤ) (m h : ℕ) → k +ℤ pos m ≡ j → m < h → m < 32767 → j <ℤ (k +ℤ pos (min h 32767))
        to k j m h at lt few = omega (arith, ints, clamps, at, lt, few)

    holds_there : holds i j (bottom j p) p ≡ true
    unfolding holds
    holds_there = and_from _ _ (is_none _ depth_there) (and_from _ _ run reaches)
      where
        is_none : (n : ℕ) → n ≡ 0 → (n == 0) ≡ true
        is_none n e = grind (arith, nat_tests)

    holding_there : (q : Run) → IsOne q (row_pieces filled r (bottom j p)) → holds i j (bottom j p) q ≡ in_run i q
    unfolding holds
    holding_there q there = by (in_run i q) refl
      where
        and_false : (b : Bool) → b && false ≡ false
        and_false true = refl
        and_false false = refl

        by : (b : Bool) → in_run i q ≡ b → begins filled r (bottom j p) q && (in_run i q && is_between (bottom j p) (bottom j p +ℤ pos (min (height filled r (bottom j p) q) 32767)) j) ≡ b
        by true h = let same : q ≡ p = only_one (in_run i) q p (row_pieces filled r (bottom j p)) (few_pieces i (bottom j p)) there at_bottom h run in ap (λ (s : Run). holds i j (bottom j p) s) same ∙ holds_there
        by false h = rw h (and_false (begins filled r (bottom j p) q))

    once_there : total (λ q. one_if (holds i j (bottom j p) q)) (row_pieces filled r (bottom j p)) ≡ 1
    once_there =
        let at_most = few_pieces i (bottom j p) in
        let some = times_some (in_run i) p (row_pieces filled r (bottom j p)) at_bottom run in
        total_same (λ q. one_if (holds i j (bottom j p) q)) (λ q. one_if (in_run i q)) (row_pieces filled r (bottom j p)) (λ q there. ap one_if (holding_there q there)) ∙ one _ at_most some
      where
        one : (n : ℕ) → n ≤ 1 → 1 ≤ n → n ≡ 1
        one n a b = omega (arith, a, b)

    nowhere_else : (k : ℤ) → IsOne k (places_along r.up) → int_eq k (bottom j p) ≡ false → total (λ q. one_if (holds i j k q)) (row_pieces filled r k) ≡ 0
    nowhere_else k row other = total_none (λ q. one_if (holds i j k q)) (row_pieces filled r k) (λ q there. by q (holds i j k q) refl)
      where
        by : (q : Run) (b : Bool) → holds i j k q ≡ b → one_if b ≡ 0
        by q false h = refl
        by q true h =
            let held = holding i j k q row h in
            let same : q ≡ p = only_one (in_run i) q p (row_pieces filled r j) (few_pieces i j) (here i j k q held) is held.run run in
            let at : k ≡ bottom j p = begins_there i j k q held ∙ ap (bottom j) same in
            absurd (let e : true ≡ false = sym ((Decides-int_eq k (bottom j p)).1 at) ∙ other in cc)

    all_once : total (λ k. total (λ q. one_if (holds i j k q)) (row_pieces filled r k)) (places_along r.up) ≡ 1
    all_once =
        total_same _ (λ k. one_if (int_eq k (bottom j p))) (places_along r.up) (λ k row. by k row (int_eq k (bottom j p)) refl)
        ∙ (times_numbers (bottom j p) (first r.up) (extent r.up) ∙ ap one_if (along r.up (bottom j p) ∙ is_between_true _ _ (bottom j p) bottom_low (under (bottom j p) j (past r.up) lifted bottom_at high)))
      where
        under : (k j past : ℤ) (m : ℕ) → k +ℤ pos m ≡ j → j <ℤ past → k <ℤ past
        under k j past m at lt = omega (arith, ints, clamps, at)

        by : (k : ℤ) → IsOne k (places_along r.up) → (b : Bool) → int_eq k (bottom j p) ≡ b → total (λ q. one_if (holds i j k q)) (row_pieces filled r k) ≡ one_if b
        by k row true same = ap (λ z. total (λ q. one_if (holds i j z q)) (row_pieces filled r z)) (int_same k (bottom j p) same) ∙ once_there
        by k row false other = nowhere_else k row other

  -- a place stands in the stacks as often as in the rows
  as_often : (i j : ℤ) → total (λ k. total (λ p. one_if (holds i j k p)) (row_pieces filled r k)) (places_along r.up) ≡ one_if (is_between (first r.across) (past r.across) i && filled i j && is_between (first r.up) (past r.up) j)
  as_often i j = by (is_between (first r.across) (past r.across) i && filled i j) refl (is_between (first r.up) (past r.up) j) refl
    where
      some : (b : Bool) → one_if b ≡ times (in_run i) (row_pieces filled r j) → b ≡ true → 1 ≤ times (in_run i) (row_pieces filled r j)
      some b e h = let one : one_if b ≡ 1 = ap one_if h in omega (arith, e, one)

      none : (k : ℤ) (q : Run) → IsOne k (places_along r.up) → is_between (first r.across) (past r.across) i && filled i j && is_between (first r.up) (past r.up) j ≡ false → (b : Bool) → holds i j k q ≡ b → one_if b ≡ 0
      none k q row out false h = refl
      none k q row out true h =
          let held = holding i j k q row h in
          let there = times_some (in_run i) q (row_pieces filled r j) (here i j k q held) held.run in
          let columns = yes_if (is_between (first r.across) (past r.across) i && filled i j) (subst (λ n. 1 ≤ n) (piece_times i j) there) in
          let rows = is_between_true (first r.up) (past r.up) j (from _ _ _ _ held.low held.at) held.high in
          absurd (let e : false ≡ true = sym out ∙ and_from _ _ columns rows in cc)
        where
          yes_if : (b : Bool) → 1 ≤ one_if b → b ≡ true
          yes_if true h = refl
          yes_if false h = absurd (omega (arith, h))

          from : (f k j : ℤ) (m : ℕ) → f ≤ℤ k → k +ℤ pos m ≡ j → f ≤ℤ j
          from f k j m low at = omega (arith, ints, clamps, at)

      by : (b : Bool) → is_between (first r.across) (past r.across) i && filled i j ≡ b → (c : Bool) → is_between (first r.up) (past r.up) j ≡ c
          → total (λ k. total (λ p. one_if (holds i j k p)) (row_pieces filled r k)) (places_along r.up) ≡ one_if (b && c)
      by true columns true rows =
          let f = found (in_run i) (row_pieces filled r j) (some _ (sym (piece_times i j)) columns) in
          let ends = is_between_bounds (first r.up) (past r.up) j rows in
          all_once i j f.0 ends.0 ends.1 f.1 f.2
      by true columns false rows = total_none _ (places_along r.up) (λ k row. total_none _ (row_pieces filled r k) (λ q there. none k q row (rw (columns, rows) refl) (holds i j k q) refl))
      by false columns c rows = total_none _ (places_along r.up) (λ k row. total_none _ (row_pieces filled r k) (λ q there. none k q row (rw columns refl) (holds i j k q) refl))

abbrev same_place : ℤ × ℤ → ℤ × ℤ → Bool
same_place p q = int_eq q.0 p.0 && int_eq q.1 p.1

place_decides : (p q : ℤ × ℤ) → (same_place p q ≡ true → p ≡ q) × (p ≡ q → same_place p q ≡ true)
place_decides p q = (
  (λ h. let parts = and_parts _ _ h in both (sym (int_same q.0 p.0 parts.0)) (sym (int_same q.1 p.1 parts.1))),
  (λ e. and_from _ _ ((Decides-int_eq q.0 p.0).1 (sym (ap (λ (s : ℤ × ℤ). s.0) e))) ((Decides-int_eq q.1 p.1).1 (sym (ap (λ (s : ℤ × ℤ). s.1) e)))),
)
  where
    both : p.0 ≡ q.0 → p.1 ≡ q.1 → p ≡ q
    both e f = λ k. (e k, f k)

pub hold_each_once : StacksHoldEachOnce
hold_each_once filled r = in_another_order same_place place_decides (flat_map stack_places (stacks filled r)) (filled_places filled r)
    (λ p. stacks_times filled r p.0 p.1 ∙ (as_often filled r p.0 p.1 ∙ sym (rows_times filled r p.0 p.1)))
