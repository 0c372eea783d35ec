-- The part of a set from one number on and below another: the edges between, and those put at its ends.
use Rattle.std.proofs.Common.{◌≡◌, ℕ, zero, suc, ◌+◌, ◌-◌, ◌≤◌, ◌<◌, ℤ, pos, ◌+ℤ◌, ◌-ℤ◌, ◌≤ℤ◌, ◌<ℤ◌, List, [], ◌∷◌, ◌++◌, length, get_or, take, drop, refl, arith, ap, ◌∙◌, sym, Bool, true, false, not, cond, ◌&&◌, inl, inr, w64, FitsSigned}
use Rattle.std.specs.Prelude.{int_le}
use Rattle.std.proofs.lemmas.Int.{ints, by_lt_z}
use Rattle.std.proofs.lemmas.Bool.{cases_lt}
use Rattle.std.proofs.lemmas.List.{get_or-drop, get_or_past}
use Rattle.fill_base.specs.Coordinates.{lowest, highest}
use Rattle.fill_base.specs.Counts.{is_between}
use Rattle.fill_base.proofs.Signed.{read, read_is, read32, read32_is, coordinate_fits32, lt_le, le_trans}
use Rattle.fill_base.proofs.Between.{is_between_true, is_between_below, is_between_above}
use Rattle.fill_spans.specs.Spans.{inside, Chain, odd, floor, ceiling, next_edge, IsCanonical}
use Rattle.fill_spans.specs.EdgeLookup.{IsFirstAbove}
use Rattle.fill_spans.specs.Sweep.{Turned}
use Rattle.fill_spans.proofs.Chains.{chain_raise, chain_push, inside_below, inside_past, inside_push_below, inside_take, not_odd}
use Rattle.fill_spans.proofs.Merging.{as_wanted}

le_here : (e x : ℤ) → e ≤ℤ x → int_le e x ≡ true
le_here e x h = grind (arith, ints)

lt_trans : (a b c : ℤ) → a <ℤ b → b <ℤ c → a <ℤ c
lt_trans a b c h k = omega (arith, ints)

-- the lower end may fall
chain_lower : (under lo hi : ℤ) (es : List ℤ) → under <ℤ lo → Chain lo es hi → Chain under es hi
chain_lower under lo hi [] lt h = lt_trans under lo hi lt h
chain_lower under lo hi (e ∷ es) lt h = (lt_trans under lo e lt h.0, h.1)

-- the edges from a place on lie above what lies below the first of them
chain_drop : (low lo hi : ℤ) (es : List ℤ) (n : ℕ) → Chain low es hi → lo <ℤ hi → (n < length es → lo <ℤ get_or es n hi) → Chain lo (drop n es) hi
chain_drop low lo hi [] zero h lt after = lt
chain_drop low lo hi [] (suc n) h lt after = lt
chain_drop low lo hi (e ∷ es) zero h lt after = (after (omega arith), h.1)
chain_drop low lo hi (e ∷ es) (suc n) h lt after = chain_drop e lo hi es n h.1 lt (λ inner. after (omega arith))

-- the edges before a place lie below what lies above the last of them
chain_cut : (lo hi top : ℤ) (es : List ℤ) (m : ℕ) → Chain lo es top → lo <ℤ hi → ((k : ℕ) → k < m → k < length es → get_or es k top <ℤ hi) → Chain lo (take m es) hi
chain_cut lo hi top [] zero h lt before = lt
chain_cut lo hi top [] (suc m) h lt before = lt
chain_cut lo hi top (e ∷ es) zero h lt before = lt
chain_cut lo hi top (e ∷ es) (suc m) h lt before = (h.0, chain_cut e hi top es m h.1 (before 0 (omega arith) (omega arith)) (λ k below inner. before (suc k) (omega arith) (omega arith)))

-- an odd number of edges turns membership
abbrev turned_by : ℕ → Bool → Bool
turned_by n b = cond (odd n) (not b) b

-- from the edges before a place on, those from it on decide
inside_drop : (hi x : ℤ) (es : List ℤ) (n : ℕ) → n ≤ length es → ((k : ℕ) → k < n → get_or es k hi ≤ℤ x) → inside es x ≡ turned_by n (inside (drop n es) x)
inside_drop hi x es zero within before = refl
inside_drop hi x [] (suc n) within before = absurd (omega arith)
inside_drop hi x (e ∷ es) (suc n) within before =
    rw (le_here e x (before 0 (omega arith)))
    (ap not (inside_drop hi x es n (omega arith) (λ k lt. before (suc k) (omega arith))) ∙ once_more (odd n) (odd (suc n)) (inside (drop n es) x) (not_odd n))
  where
    once_more : (b c m : Bool) → not b ≡ c → not (cond b (not m) m) ≡ cond c (not m) m
    once_more true true m h = absurd (let e : false ≡ true = h in cc)
    once_more true false true h = refl
    once_more true false false h = refl
    once_more false true m h = refl
    once_more false false m h = absurd (let e : true ≡ false = h in cc)

-- what the part begins with: an edge at `lo`, or nothing
record Begins (lo : ℤ) (n : ℕ) (first : List ℤ) : Type 0 where
  rising : (under hi : ℤ) (es : List ℤ) → under <ℤ lo → Chain lo es hi → Chain under (first ++ es) hi
  same : (x : ℤ) (es : List ℤ) → lo ≤ℤ x → inside (first ++ es) x ≡ turned_by n (inside es x)

begins : (lo : ℤ) (n : ℕ) (first : List ℤ) → Turned lo (odd n) [] first → Begins lo n first
begins lo n first (inl h) = let even : odd n ≡ false = sym h.0 in rw h.1 (record {
  rising = λ under hi es lt chain. chain_lower under lo hi es lt chain;
  same = λ x es le. rw even refl;
})
begins lo n first (inr h) = let uneven : odd n ≡ true = is_true (odd n) h.0 in rw h.1 (record {
  rising = λ under hi es lt chain. (lt, chain);
  same = λ x es le. rw (le_here lo x le, uneven) refl;
})
  where
    is_true : (b : Bool) → (false ≡ b → ⊥) → b ≡ true
    is_true true other = refl
    is_true false other = absurd (other refl)

-- what the part ends with: an edge at `hi` more, or nothing
record Ends (hi : ℤ) (es last : List ℤ) : Type 0 where
  rising : (under top : ℤ) → Chain under es hi → hi <ℤ top → Chain under last top
  same : (x : ℤ) → x <ℤ hi → inside last x ≡ inside es x

ends : (hi : ℤ) (es last : List ℤ) → Turned hi false es last → Ends hi es last
ends hi es last (inl h) = rw h.1 (record {
  rising = λ under top chain lt. chain_raise under hi top es chain (lt_le hi top lt);
  same = λ x lt. refl;
})
ends hi es last (inr h) = rw h.1 (record {
  rising = λ under top chain lt. chain_push under hi top es chain lt;
  same = λ x lt. inside_push_below hi x es lt;
})

-- the place of `lo` is not past that of `hi`
places_rise : (es : List ℤ) (lo hi : ℤ) (from to : ℕ) → lo <ℤ hi → IsFirstAbove es lo from → IsFirstAbove es (hi -ℤ pos 1) to → from ≤ to
places_rise es lo hi from to lt left right = elim (cases_lt to from) [
  | inl past ↦ absurd (apart (next_edge es to) lo hi lt (left.before to past) (right.after (let within : from ≤ length es = left.within in omega arith)))
  | inr le ↦ le
]
  where
    apart : (e lo hi : ℤ) → lo <ℤ hi → e ≤ℤ lo → (hi -ℤ pos 1) <ℤ e → ⊥
    apart e lo hi lt low high = omega (arith, ints)

-- what lies below `hi` lies below the edge at its place
below_next : (es : List ℤ) (x hi : ℤ) (to : ℕ) → x <ℤ hi → hi ≤ℤ highest → IsFirstAbove es (hi -ℤ pos 1) to → x <ℤ next_edge es to
below_next es x hi to lt high place = elim (cases_lt to (length es)) [
  | inl inner ↦ below x hi (next_edge es to) lt (place.after inner)
  | inr past ↦ rw (get_or_past es to ceiling past) (below_ceiling x hi lt high)
]
  where
    below : (x hi e : ℤ) → x <ℤ hi → (hi -ℤ pos 1) <ℤ e → x <ℤ e
    below x hi e lt h = omega (arith, ints)

    below_ceiling : (x hi : ℤ) → x <ℤ hi → hi ≤ℤ highest → x <ℤ ceiling
    below_ceiling x hi lt high = omega (arith, ints)

-- the part of a set from `lo` on and below `hi`
pub record IsPart (es : List ℤ) (lo hi : ℤ) (part : List ℤ) : Type 0 where
  pub rising : (under top : ℤ) → under <ℤ lo → hi <ℤ top → Chain under part top
  pub even : odd (length part) ≡ false
  pub same : (x : ℤ) → lo ≤ℤ x → x <ℤ hi → inside part x ≡ inside es x

pub is_part : (es : List ℤ) (lo hi : ℤ) (from to : ℕ) (first part : List ℤ) → IsCanonical es → lo <ℤ hi → hi ≤ℤ highest
    → IsFirstAbove es lo from → IsFirstAbove es (hi -ℤ pos 1) to
    → Turned lo (odd from) [] first → Turned hi false (first ++ take (to - from) (drop from es)) part → IsPart es lo hi part
is_part es lo hi from to first part canonical ordered high left right begun ended =
    let rest = drop from es in
    let m = to - from in
    let b : Begins lo from first = begins lo from first begun in
    let e : Ends hi (first ++ take m rest) part = ends hi (first ++ take m rest) part ended in
    let upward : from ≤ to = places_rise es lo hi from to ordered left right in
    let above : Chain lo rest ceiling = chain_drop floor lo ceiling es from canonical.rising (below_ceiling lo hi ordered high) left.after in
    let between : Chain lo (take m rest) hi =
    chain_cut lo hi ceiling rest m above ordered (λ k below inner. rw (get_or-drop from es k ceiling) (under_end _ hi (right.before (from + k) (omega arith)))) in
    let last : get_or rest m ceiling ≡ next_edge es to = let is : from + m ≡ to = omega arith in get_or-drop from es m ceiling ∙ ap (next_edge es) is in
    record {
      rising = λ under top lt more. e.rising under top (b.rising under hi (take m rest) lt between) more;
      even = as_wanted (first ++ take m rest) part hi false ended;
      same = λ x le lt.
          e.same x lt ∙ (b.same x (take m rest) le
          ∙ (ap (turned_by from) (inside_take lo ceiling x rest m above (rw last (below_next es x hi to lt high right)))
          ∙ sym (inside_drop ceiling x es from left.within (λ k before. le_trans _ lo x (left.before k before) le))));
    }
  where
    below_ceiling : (lo hi : ℤ) → lo <ℤ hi → hi ≤ℤ highest → lo <ℤ ceiling
    below_ceiling lo hi lt high = omega (arith, ints)

    under_end : (e hi : ℤ) → e ≤ℤ (hi -ℤ pos 1) → e <ℤ hi
    under_end e hi h = omega (arith, ints)

-- the part as the code puts it together, from numbers that it reads and casts
pub part_put : (es : List ℤ) (lo hi : ℤ) (from to : ℕ) (none first second part : List ℤ) → IsCanonical es → FitsSigned w64 lo → FitsSigned w64 hi → lo <ℤ hi → lowest ≤ℤ lo → hi ≤ℤ highest
    → IsFirstAbove es (read lo) from → IsFirstAbove es (read (read hi -ℤ pos 1)) to → none ≡ []
    → Turned (read32 (read lo)) (odd from) none first → second ≡ first ++ take (to - from) (drop from es) → Turned (read32 (read hi)) false second part → IsPart es lo hi part
part_put es lo hi from to none first second part canonical lo_fits hi_fits ordered low high left right nothing begun between ended =
    let lo_read : read lo ≡ lo = read_is lo lo_fits in
    let hi_read : read hi ≡ hi = read_is hi hi_fits in
    let lo_cast : read32 lo ≡ lo = read32_is lo (coordinate_fits32 lo low (le_trans lo hi _ (lt_le lo hi ordered) high)) in
    let hi_cast : read32 hi ≡ hi = read32_is hi (coordinate_fits32 hi (le_trans _ lo hi low (lt_le lo hi ordered)) high) in
    let before : read (hi -ℤ pos 1) ≡ hi -ℤ pos 1 = read_is (hi -ℤ pos 1) (omega (arith, ints)) in
    is_part es lo hi from to first part canonical ordered high (rw lo_read at left) (rw (hi_read, before) at right)
    (rw (lo_read, lo_cast, nothing) at begun) (rw (hi_read, hi_cast, between) at ended)

pub part_canonical : (es : List ℤ) (lo hi : ℤ) (part : List ℤ) → lowest ≤ℤ lo → hi ≤ℤ highest → IsPart es lo hi part → IsCanonical part
part_canonical es lo hi part low high p = record { rising = p.rising floor ceiling (omega (arith, ints)) (omega (arith, ints)); even = p.even }

pub part_members : (es : List ℤ) (lo hi : ℤ) (part : List ℤ) → lo <ℤ hi → IsPart es lo hi part → (x : ℤ) → inside part x ≡ inside es x && is_between lo hi x
part_members es lo hi part ordered p x = by_lt_z x lo
    (λ lt. inside_below x (hi +ℤ pos 1) x part (p.rising x (hi +ℤ pos 1) lt (omega (arith, ints))) (omega (arith, ints))
    ∙ rw (is_between_below lo hi x lt) (sym (and_false (inside es x))))
    (λ le. by_lt_z x hi
    (λ lt. p.same x le lt ∙ rw (is_between_true lo hi x le lt) (sym (and_true (inside es x))))
    (λ ge. inside_past (lo -ℤ pos 1) (x +ℤ pos 1) x part (p.rising (lo -ℤ pos 1) (x +ℤ pos 1) (omega (arith, ints)) (omega (arith, ints))) (omega (arith, ints))
    ∙ (p.even ∙ rw (is_between_above lo hi x ge) (sym (and_false (inside es x))))))
  where
    and_false : (b : Bool) → b && false ≡ false
    and_false true = refl
    and_false false = refl

    and_true : (b : Bool) → b && true ≡ b
    and_true true = refl
    and_true false = refl
