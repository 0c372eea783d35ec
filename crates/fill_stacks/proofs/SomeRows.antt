-- The stacks of places that stand in some rows of a raster alone.
use Rattle.std.proofs.Common.{◌≡◌, refl, ap, sym, subst, ◌∙◌, ℕ, zero, suc, ◌+◌, ◌≤◌, ◌<◌, ℤ, pos, ◌+ℤ◌, ◌-ℤ◌, ◌≤ℤ◌, ◌<ℤ◌, arith, Bool, true, false, List, [], ◌∷◌, map}
use Rattle.std.specs.Prelude.{filter, if◌then◌else◌}
use Rattle.std.specs.List.{flat_map}
use Rattle.std.proofs.lemmas.Int.{ints, clamps}
use Rattle.fill_base.specs.Counts.{span_len}
use Rattle.fill_raster.specs.Axes.{extent, first, past}
use Rattle.fill_raster.specs.Lattice.{Lattice}
use Rattle.fill_raster.specs.declared.axis.Axis.{Axis}
use Rattle.fill_raster.proofs.Ranges.{first_past}
use Rattle.fill_stacks.specs.Laws.{StacksOfSomeRows}
use Rattle.fill_stacks.specs.Places.{PlaceSet, places_along, row_pieces}
use Rattle.fill_stacks.specs.Runs.{Run, numbers_from}
use Rattle.fill_stacks.specs.Stacks.{begins, depth, has_piece, height, row_stacks, rows_down, rows_up, stack_at, stacks}

-- ---- lists

none_pass : {X : Type 0} (p : X → Bool) (xs : List X) → ((x : X) → p x ≡ false) → filter p xs ≡ []
none_pass p [] none = refl
none_pass p (x ∷ xs) none = rw (none x) (none_pass p xs none)

same_pass : {X : Type 0} (p q : X → Bool) (xs : List X) → ((x : X) → p x ≡ q x) → filter p xs ≡ filter q xs
same_pass p q [] same = refl
same_pass p q (x ∷ xs) same = by (p x) (q x) (same x) (same_pass p q xs same)
  where
    by : (a b : Bool) → a ≡ b → filter p xs ≡ filter q xs → (if a then x ∷ filter p xs else filter p xs) ≡ (if b then x ∷ filter q xs else filter q xs)
    by true true e rest = ap (λ ys. x ∷ ys) rest
    by false false e rest = rest
    by true false e rest = cc e
    by false true e rest = cc e

same_map : {X Y : Type 0} (f g : X → Y) (xs : List X) → ((x : X) → f x ≡ g x) → map f xs ≡ map g xs
same_map f g [] same = refl
same_map f g (x ∷ xs) same = rw (same x, same_map f g xs same) refl

-- what the numbers between two give is what those that give something do
skipped : {X : Type 0} (f : ℤ → List X) (z : ℤ) (n m k : ℕ) → k ≡ n + m → ((x : ℤ) → z ≤ℤ x → x <ℤ (z +ℤ pos n) → f x ≡ []) → flat_map f (numbers_from z k) ≡ flat_map f (numbers_from (z +ℤ pos n) m)
skipped f z zero m k k_is none =
    let e : k ≡ m = omega (arith, k_is) in let at : z ≡ z +ℤ pos 0 = omega (arith, ints) in
    ap (λ c. flat_map f (numbers_from z c)) e ∙ ap (λ y. flat_map f (numbers_from y m)) at
skipped f z (suc n) m zero k_is none = absurd (omega (arith, k_is))
skipped f z (suc n) m (suc k) k_is none =
    let here : f z ≡ [] = none z (omega (arith, ints)) (omega (arith, ints)) in
    let later = skipped f (z +ℤ pos 1) n m k (omega (arith, k_is)) (λ x low high. none x (under z x low) (over z x n high)) in
    rw here (later ∙ ap (λ y. flat_map f (numbers_from y m)) (there z n))
  where
    under : (z x : ℤ) → (z +ℤ pos 1) ≤ℤ x → z ≤ℤ x
    under z x h = omega (arith, ints)

    over : (z x : ℤ) (n : ℕ) → x <ℤ ((z +ℤ pos 1) +ℤ pos n) → x <ℤ (z +ℤ pos (suc n))
    over z x n h = omega (arith, ints)

    there : (z : ℤ) (n : ℕ) → (z +ℤ pos 1) +ℤ pos n ≡ z +ℤ pos (suc n)
    there z n = omega (arith, ints)

nothing_left : {X : Type 0} (f : ℤ → List X) (z : ℤ) (n : ℕ) → ((x : ℤ) → z ≤ℤ x → x <ℤ (z +ℤ pos n) → f x ≡ []) → flat_map f (numbers_from z n) ≡ []
nothing_left f z n none = skipped f z n 0 n (omega arith) none

same_numbers : {X : Type 0} (f g : ℤ → List X) (z : ℤ) (n m k : ℕ) → k ≡ n + m → ((x : ℤ) → z ≤ℤ x → x <ℤ (z +ℤ pos n) → f x ≡ g x) → ((x : ℤ) → (z +ℤ pos n) ≤ℤ x → x <ℤ (z +ℤ pos k) → f x ≡ [])
    → flat_map f (numbers_from z k) ≡ flat_map g (numbers_from z n)
same_numbers f g z zero m k k_is same none = nothing_left f z k (λ x low high. none x (from z x low) high)
  where
    from : (z x : ℤ) → z ≤ℤ x → (z +ℤ pos 0) ≤ℤ x
    from z x h = omega (arith, ints)
same_numbers f g z (suc n) m zero k_is same none = absurd (omega (arith, k_is))
same_numbers f g z (suc n) m (suc k) k_is same none =
    let here : f z ≡ g z = same z (omega (arith, ints)) (omega (arith, ints)) in
    let later = same_numbers f g (z +ℤ pos 1) n m k (omega (arith, k_is)) (λ x low high. same x (under z x low) (over z x n high)) (λ x low high. none x (from z x n low) (over z x k high)) in
    rw (here, later) refl
  where
    under : (z x : ℤ) → (z +ℤ pos 1) ≤ℤ x → z ≤ℤ x
    under z x h = omega (arith, ints)

    over : (z x : ℤ) (n : ℕ) → x <ℤ ((z +ℤ pos 1) +ℤ pos n) → x <ℤ (z +ℤ pos (suc n))
    over z x n h = omega (arith, ints)

    from : (z x : ℤ) (n : ℕ) → ((z +ℤ pos 1) +ℤ pos n) ≤ℤ x → (z +ℤ pos (suc n)) ≤ℤ x
    from z x n h = omega (arith, ints)

-- ---- rows one after another

-- rows are counted no further than to one that fails
up_stopped : (has : ℤ → Bool) (j : ℤ) (k n : ℕ) → k ≤ n → (k < n → has (j +ℤ pos k) ≡ false) → rows_up has j n ≡ rows_up has j k
up_stopped has j zero zero le fails = refl
up_stopped has j zero (suc n) le fails = let here : has j ≡ false = ap has (none j) ∙ fails (omega arith) in rw here refl
  where
    none : (j : ℤ) → j ≡ j +ℤ pos 0
    none j = omega (arith, ints)
up_stopped has j (suc k) zero le fails = absurd (omega (arith, le))
up_stopped has j (suc k) (suc n) le fails = ap (λ m. if has j then suc m else 0) (up_stopped has (j +ℤ pos 1) k n (omega (arith, le)) (λ lt. ap has (further j k) ∙ fails (omega (arith, lt))))
  where
    further : (j : ℤ) (k : ℕ) → (j +ℤ pos 1) +ℤ pos k ≡ j +ℤ pos (suc k)
    further j k = omega (arith, ints)

down_stopped : (has : ℤ → Bool) (j : ℤ) (k n : ℕ) → k ≤ n → (k < n → has ((j -ℤ pos k) -ℤ pos 1) ≡ false) → rows_down has j n ≡ rows_down has j k
down_stopped has j zero zero le fails = refl
down_stopped has j zero (suc n) le fails = let here : has (j -ℤ pos 1) ≡ false = ap has (none j) ∙ fails (omega arith) in rw here refl
  where
    none : (j : ℤ) → j -ℤ pos 1 ≡ (j -ℤ pos 0) -ℤ pos 1
    none j = omega (arith, ints)
down_stopped has j (suc k) zero le fails = absurd (omega (arith, le))
down_stopped has j (suc k) (suc n) le fails = ap (λ m. if has (j -ℤ pos 1) then suc m else 0) (down_stopped has (j -ℤ pos 1) k n (omega (arith, le)) (λ lt. ap has (further j k) ∙ fails (omega (arith, lt))))
  where
    further : (j : ℤ) (k : ℕ) → ((j -ℤ pos 1) -ℤ pos k) -ℤ pos 1 ≡ (j -ℤ pos (suc k)) -ℤ pos 1
    further j k = omega (arith, ints)

-- ---- the rasters of the same columns

abbrev with_up : Axis → Axis → Lattice
with_up across up = record { across = across; up = up }

-- all filled places stand in the rows of the second axis, which are rows of the first one
record Stand (filled : PlaceSet) (a b : Axis) : Type 0 where
  from : first a ≤ℤ first b
  to : past b ≤ℤ past a
  below : (i j : ℤ) → j <ℤ first b → filled i j ≡ false
  above : (i j : ℤ) → past b ≤ℤ j → filled i j ≡ false

no_pieces : (filled : PlaceSet) (r : Lattice) (j : ℤ) → ((i : ℤ) → filled i j ≡ false) → row_pieces filled r j ≡ []
no_pieces filled r j none = rw (none_pass (λ i. filled i j) (places_along r.across) none) refl

no_piece : (filled : PlaceSet) (r : Lattice) (p : Run) (j : ℤ) → ((i : ℤ) → filled i j ≡ false) → has_piece filled r p j ≡ false
no_piece filled r p j none = rw (no_pieces filled r j none) refl

no_stacks : (filled : PlaceSet) (r : Lattice) (j : ℤ) → ((i : ℤ) → filled i j ≡ false) → row_stacks filled r j ≡ []
no_stacks filled r j none = rw (no_pieces filled r j none) refl

height_same : (filled : PlaceSet) (c a b : Axis) (j : ℤ) (p : Run) → Stand filled a b → j <ℤ past b → height filled (with_up c a) j p ≡ height filled (with_up c b) j p
height_same filled c a b j p stand lt = up_stopped (has_piece filled (with_up c a) p) j (span_len j (past b)) (span_len j (past a)) (fewer j (past b) (past a) stand.to)
    (λ less. no_piece filled (with_up c a) p (j +ℤ pos (span_len j (past b))) (λ i. stand.above i _ (reached j (past b) lt)))
  where
    fewer : (j p q : ℤ) → p ≤ℤ q → span_len j p ≤ span_len j q
    fewer j p q h = omega (arith, ints, clamps)

    reached : (j p : ℤ) → j <ℤ p → p ≤ℤ (j +ℤ pos (span_len j p))
    reached j p h = omega (arith, ints, clamps)

depth_same : (filled : PlaceSet) (c a b : Axis) (j : ℤ) (p : Run) → Stand filled a b → first b ≤ℤ j → depth filled (with_up c a) j p ≡ depth filled (with_up c b) j p
depth_same filled c a b j p stand le = down_stopped (has_piece filled (with_up c a) p) j (span_len (first b) j) (span_len (first a) j) (fewer (first a) (first b) j stand.from)
    (λ less. no_piece filled (with_up c a) p ((j -ℤ pos (span_len (first b) j)) -ℤ pos 1) (λ i. stand.below i _ (reached (first b) j le)))
  where
    fewer : (f g j : ℤ) → f ≤ℤ g → span_len g j ≤ span_len f j
    fewer f g j h = omega (arith, ints, clamps)

    reached : (g j : ℤ) → g ≤ℤ j → ((j -ℤ pos (span_len g j)) -ℤ pos 1) <ℤ g
    reached g j h = omega (arith, ints, clamps)

row_same : (filled : PlaceSet) (c a b : Axis) (j : ℤ) → Stand filled a b → first b ≤ℤ j → j <ℤ past b → row_stacks filled (with_up c a) j ≡ row_stacks filled (with_up c b) j
row_same filled c a b j stand from to =
    same_map (stack_at filled (with_up c a) j) (stack_at filled (with_up c b) j) (filter (begins filled (with_up c a) j) (row_pieces filled (with_up c a) j)) (λ p. rw (height_same filled c a b j p stand to) refl)
    ∙ ap (map (stack_at filled (with_up c b) j)) (same_pass (begins filled (with_up c a) j) (begins filled (with_up c b) j) (row_pieces filled (with_up c a) j) (λ p. rw (depth_same filled c a b j p stand from) refl))

all_same : (filled : PlaceSet) (c a b : Axis) → Stand filled a b → stacks filled (with_up c a) ≡ stacks filled (with_up c b)
all_same filled c a b stand =
    skipped (row_stacks filled (with_up c a)) (first a) below rest (extent a) (parts (first a) (first b) (past b) (past a) stand.from (first_past b) stand.to)
    (λ j low high. no_stacks filled (with_up c a) j (λ i. stand.below i j (before (first a) (first b) j stand.from high)))
    ∙ (ap (λ z. flat_map (row_stacks filled (with_up c a)) (numbers_from z rest)) (begun (first a) (first b) stand.from)
    ∙ same_numbers (row_stacks filled (with_up c a)) (row_stacks filled (with_up c b)) (first b) (extent b) (span_len (past b) (past a)) rest refl
    (λ j low high. row_same filled c a b j stand low (within (first b) (past b) j (first_past b) high))
    (λ j low high. no_stacks filled (with_up c a) j (λ i. stand.above i j (behind (first b) (past b) j (first_past b) low))))
  where
    below : ℕ
    below = span_len (first a) (first b)

    rest : ℕ
    rest = extent b + span_len (past b) (past a)

    begun : (f g : ℤ) → f ≤ℤ g → f +ℤ pos (span_len f g) ≡ g
    begun f g h = omega (arith, ints, clamps)

    parts : (f g p q : ℤ) → f ≤ℤ g → g ≤ℤ p → p ≤ℤ q → span_len f q ≡ span_len f g + (span_len g p + span_len p q)
    parts f g p q h k l = sum f g p q (span_len f q) (span_len f g) (span_len g p) (span_len p q) (begun f q (through f g p q h k l)) (begun f g h) (begun g p k) (begun p q l)
      where
        through : (f g p q : ℤ) → f ≤ℤ g → g ≤ℤ p → p ≤ℤ q → f ≤ℤ q
        through f g p q h k l = omega (arith, ints)

        sum : (f g p q : ℤ) (x y z w : ℕ) → f +ℤ pos x ≡ q → f +ℤ pos y ≡ g → g +ℤ pos z ≡ p → p +ℤ pos w ≡ q → x ≡ y + (z + w)
        sum f g p q x y z w a b c d = omega (arith, ints)

    before : (f g j : ℤ) → f ≤ℤ g → j <ℤ (f +ℤ pos (span_len f g)) → j <ℤ g
    before f g j h k = omega (arith, ints, clamps)

    within : (g p j : ℤ) → g ≤ℤ p → j <ℤ (g +ℤ pos (span_len g p)) → j <ℤ p
    within g p j h k = omega (arith, ints, clamps)

    behind : (g p j : ℤ) → g ≤ℤ p → (g +ℤ pos (span_len g p)) ≤ℤ j → p ≤ℤ j
    behind g p j h k = omega (arith, ints, clamps)

pub some_rows : StacksOfSomeRows
some_rows filled whole some are =
    subst (λ c. stacks filled (with_up c some.up) ≡ stacks filled whole) (sym are.across)
    (sym (all_same filled whole.across whole.up some.up (record { from = are.from; to = are.to; below = are.below; above = are.above })))
