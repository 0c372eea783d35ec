-- A set has one list of runs.
use Rattle.std.proofs.Common.{◌≡◌, zero, suc, ℤ, ◌<ℤ◌, true, List, [], ◌∷◌, refl, sym, ◌∙◌, ap, arith, ◌⊎◌, inl, inr, ⊎_elim, subst, true≢false}
use Rattle.std.specs.List.{Contains}
use Rattle.std.proofs.lemmas.Int.{ints}
use Rattle.std.proofs.lemmas.List.Elements.{All-contains}
use Rattle.fill_base.proofs.Between.{is_between_true}
use Rattle.fill_region.specs.Runs.{Sides, IsRun, has, holds, Precedes, AreInOrder, AreRuns}
use Rattle.fill_region.specs.Laws.{EqualSetsAreEqual}
use Rattle.fill_region.proofs.Intervals.{same_run, run_alike}
use Rattle.fill_region.proofs.Members.{either}
use Rattle.fill_region.proofs.Levels.{le_self}

among_cons : (t x : Sides) (rest : List Sides) → Contains (t ∷ rest) x → (t ≡ x) ⊎ Contains rest x
among_cons t x rest (zero, lt, at) = inl at
among_cons t x rest (suc k, lt, at) = inr (k, omega (arith, lt), at)

pub first_in : (t : Sides) (rest : List Sides) → Contains (t ∷ rest) t
first_in t rest = (zero, omega arith, refl)

pub later_in : (t x : Sides) (rest : List Sides) → Contains rest x → Contains (t ∷ rest) x
later_in t x rest (k, lt, at) = (suc k, omega (arith, lt), at)

nothing : (x : Sides) → Contains [] x → ⊥
nothing x (k, lt, at) = omega (arith, lt)

-- ---- the order

after_trans : (s t u : Sides) → Precedes s t → Precedes t u → Precedes s u
after_trans s t u (inl a) (inl b) = inl (omega (arith, ints))
after_trans s t u (inl a) (inr b) = inl (omega (arith, ints, b.0))
after_trans s t u (inr a) (inl b) = inl (omega (arith, ints, a.0))
after_trans s t u (inr a) (inr b) = inr (a.0 ∙ b.0, omega (arith, ints, a.1, b.1))

pub not_before_self : (s : Sides) → Precedes s s → ⊥
not_before_self s (inl a) = omega (arith, ints)
not_before_self s (inr a) = omega (arith, ints, a.1)

pub tail_ordered : (s : Sides) (rest : List Sides) → AreInOrder (s ∷ rest) → AreInOrder rest
tail_ordered s [] h = tt
tail_ordered s (t ∷ rest) h = h.1

pub all_after : (s : Sides) (rest : List Sides) → AreInOrder (s ∷ rest) → (x : Sides) → Contains rest x → Precedes s x
all_after s [] h x among = absurd (nothing x among)
all_after s (t ∷ rest) h x among = ⊎_elim (λ is. subst (Precedes s) is h.0) (λ later. after_trans s t x h.0 (all_after t rest h.1 x later)) (among_cons t x rest among)

-- lists in order with the same members are the same
same_members : (a b : List Sides) → AreInOrder a → AreInOrder b → ((x : Sides) → Contains a x → Contains b x) → ((x : Sides) → Contains b x → Contains a x) → a ≡ b
same_members [] [] ha hb to from = refl
same_members [] (t ∷ b) ha hb to from = absurd (nothing t (from t (first_in t b)))
same_members (s ∷ a) [] ha hb to from = absurd (nothing s (to s (first_in s a)))
same_members (s ∷ a) (t ∷ b) ha hb to from =
    ap (λ z. z ∷ a) first ∙ ap (λ zs. t ∷ zs) (same_members a b (tail_ordered s a ha) (tail_ordered t b hb) to_rest from_rest)
  where
    first : s ≡ t
    first = ⊎_elim (λ is. sym is) (λ s_later. ⊎_elim (λ is. is) (λ t_later. absurd (not_before_self s (after_trans s t s (all_after s a ha t t_later) (all_after t b hb s s_later))))
        (among_cons s t a (from t (first_in t b)))) (among_cons t s b (to s (first_in s a)))

    to_rest : (x : Sides) → Contains a x → Contains b x
    to_rest x among = ⊎_elim (λ is. absurd (not_before_self s (subst (Precedes s) (sym is ∙ sym first) (all_after s a ha x among)))) (λ later. later) (among_cons t x b (to x (later_in s x a among)))

    from_rest : (x : Sides) → Contains b x → Contains a x
    from_rest x among = ⊎_elim (λ is. absurd (not_before_self t (subst (Precedes t) (sym is ∙ first) (all_after t b hb x among)))) (λ later. later) (among_cons s x a (from x (later_in t x b among)))

-- ---- the runs of a set

-- the run that holds a square
record HolderOf (runs : List Sides) (x y : ℤ) : Type 0 where
  run : Sides
  among : Contains runs run
  has_it : has run x y ≡ true

holder_of : (runs : List Sides) (x y : ℤ) → holds runs x y ≡ true → HolderOf runs x y
holder_of [] x y is = absurd (true≢false (sym is))
holder_of (s ∷ runs) x y is = ⊎_elim (λ here. record { run = s; among = first_in s runs; has_it = here })
    (λ there. let h = holder_of runs x y there in record { run = h.run; among = later_in s h.run runs h.among; has_it = h.has_it })
    (either (has s x y) (holds runs x y) is)

pub corner : (s : Sides) → s.left <ℤ s.right → s.bottom <ℤ s.top → has s s.left s.bottom ≡ true
corner s wide tall = rw (is_between_true s.left s.right s.left (le_self s.left) wide, is_between_true s.bottom s.top s.bottom (le_self s.bottom) tall) refl

-- each run of the set is in the list
member : (runs : List Sides) (s : Sides) → AreRuns runs → IsRun (holds runs) s → Contains runs s
member runs s are run =
    let square : holds runs s.left s.bottom ≡ true = (run.rows s.bottom (le_self s.bottom) run.tall).filled s.left (le_self s.left) run.wide in
    let h = holder_of runs s.left s.bottom square in
    let same : h.run ≡ s = same_run (holds runs) h.run s s.left s.bottom (All-contains (IsRun (holds runs)) runs h.run are.each h.among) run h.has_it (corner s run.wide run.tall) in
    subst (Contains runs) same h.among

pub one_list : EqualSetsAreEqual
one_list a b ra rb same = same_members a b ra.ordered rb.ordered
    (λ x among. member b x rb (run_alike (holds b) (holds a) x (λ x y. sym (same x y)) (All-contains (IsRun (holds a)) a x ra.each among)))
    (λ x among. member a x ra (run_alike (holds a) (holds b) x same (All-contains (IsRun (holds b)) b x rb.each among)))
