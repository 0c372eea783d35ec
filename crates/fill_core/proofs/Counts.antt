-- Counts of places: what events place and take out, and sets that lie in a part of a rectangle.
use Rattle.std.proofs.Common.{◌≡◌, refl, ◌∙◌, ℕ, ◌+◌, ◌*◌, ◌≤◌, ℤ, ◌≤ℤ◌, ◌<ℤ◌, arith, inl, inr, ◌⊎◌, List, [], ◌∷◌, ◌++◌, length, Bool, true, false, cond, ◌&&◌, ◌||◌, not}
use Rattle.std.specs.Prelude.{◌==◌}
use Rattle.std.proofs.lemmas.Bool.{cases_Bool, and_parts}
use Rattle.std.proofs.lemmas.Int.{ints, clamps}
use Rattle.std.proofs.lemmas.List.Sums.{sum_by-cons}
use Rattle.std.proofs.Math.Nat.{mul_comm}
use Rattle.fill_base.specs.Counts.{span_len, is_between, sum_between, count_between}
use Rattle.fill_base.specs.Squares.{squares}
use Rattle.fill_base.proofs.Between.{is_between_bounds}
use Rattle.fill_base.proofs.Counting.{count_between_const, sum_between_add, sum_between_const, sum_between_same, sum_between_split}
use Rattle.fill_base.proofs.Covering.{area_few, area_none}
use Rattle.fill_raster.specs.Axes.{first, past, extent}
use Rattle.fill_raster.specs.Lattice.{Lattice}
use Rattle.fill_raster.proofs.Ranges.{first_past}
use Rattle.fill_text.specs.declared.script.Edit.{Edit}
use Rattle.fill_text.specs.declared.script.Edit.TheVariants.{Add, Cut, Keep}
use Rattle.fill_job.specs.Plans.{Plan, IsPlan, PointSet, blocked, conflicts, wanted}
use Rattle.fill_core.specs.Boxes.{no_places, count_places}
use Rattle.fill_core.specs.Histories.{edits_by, edits_in, placed_by, placed_in, withdrawn_by, withdrawn_in}
use Rattle.fill_core.specs.Laws.{CountIsPlacedLessWithdrawn, CountedInAPart, SumsAreBounded, VersionCountsEdits}
use Rattle.fill_core.specs.Machine.{State, opening, is_accepted, fill_after, withdrawn_places, step, reply_of, replay_from, replies_from}
use Rattle.fill_core.specs.declared.event.Event.{Event}
use Rattle.fill_core.specs.declared.event.Event.TheVariants as event

-- ---- one event

-- a set in two parts that share nothing
pub count_parts : (r : Lattice) (p q h : PointSet) → ((i j : ℤ) → cond (h i j) 1 0 ≡ cond (p i j) 1 0 + cond (q i j) 1 0) → count_places r h ≡ count_places r p + count_places r q
count_parts r p q h each =
    sum_between_add (λ j. count_between (λ i. p i j) (first r.across) (past r.across)) (λ j. count_between (λ i. q i j) (first r.across) (past r.across)) (λ j. count_between (λ i. h i j) (first r.across) (past r.across))
    (first r.up) (past r.up)
    (λ j. sum_between_add (λ i. cond (p i j) 1 0) (λ i. cond (q i j) 1 0) (λ i. cond (h i j) 1 0) (first r.across) (past r.across) (λ i. each i j))

one_more : (f w : Bool) → cond (f || w) 1 0 ≡ cond f 1 0 + cond (w && not f) 1 0
one_more true true = refl
one_more true false = refl
one_more false true = refl
one_more false false = refl

one_less : (f k : Bool) → cond f 1 0 ≡ cond (f && k) 1 0 + cond (f && not (f && k)) 1 0
one_less true true = refl
one_less true false = refl
one_less false k = refl

none_less : (f : Bool) → cond f 1 0 ≡ cond f 1 0 + cond (f && not f) 1 0
none_less true = refl
none_less false = refl

plus_nothing : (m n k : ℕ) → m ≡ n + k → m + 0 ≡ n + k
plus_nothing m n k e = omega (arith, e)

taken_out : (m n k : ℕ) → m ≡ n + k → n + k ≡ m + 0
taken_out m n k e = omega (arith, e)

balanced_commit : (plan : Plan) (s : State) (version tile : ℕ) (same : Bool) → count_places plan.raster (step plan s (event.Commit version tile same)).fill + withdrawn_by (reply_of plan s (event.Commit version tile same)) ≡ count_places plan.raster s.fill + placed_by (reply_of plan s (event.Commit version tile same))
balanced_commit plan s version tile same = elim (cases_Bool (version == s.version)) [
  | inr other ↦ rw other refl
  | inl at ↦ elim (cases_Bool (s.tiles_in tile)) [
    | inl already ↦ rw (at, already) refl
    | inr out ↦ elim (cases_Bool same) [
      | inr foreign ↦ rw (at, out, foreign) refl
      | inl equal ↦ rw (at, out, equal) (plus_nothing _ _ _ (count_parts plan.raster s.fill (λ i j. wanted plan s.layers s.low tile i j && not (s.fill i j)) (λ i j. s.fill i j || wanted plan s.layers s.low tile i j)
          (λ i j. one_more (s.fill i j) (wanted plan s.layers s.low tile i j))))
    ]
  ]
]

balanced_edit : (plan : Plan) (s : State) (edit : Edit) → count_places plan.raster (fill_after plan edit s.fill) + withdrawn_places plan s edit ≡ count_places plan.raster s.fill + 0
balanced_edit plan s (Add r) = taken_out _ _ _ (count_parts plan.raster (fill_after plan (Add r) s.fill) (λ i j. s.fill i j && not (fill_after plan (Add r) s.fill i j)) s.fill (λ i j. one_less (s.fill i j) (not (conflicts plan (squares r) i j))))
balanced_edit plan s (Keep r) = taken_out _ _ _ (count_parts plan.raster (fill_after plan (Keep r) s.fill) (λ i j. s.fill i j && not (fill_after plan (Keep r) s.fill i j)) s.fill (λ i j. one_less (s.fill i j) (not (blocked plan (squares r) i j))))
balanced_edit plan s (Cut r) = taken_out _ _ _ (count_parts plan.raster (fill_after plan (Cut r) s.fill) (λ i j. s.fill i j && not (fill_after plan (Cut r) s.fill i j)) s.fill (λ i j. none_less (s.fill i j)))

pub balanced : (plan : Plan) (s : State) (e : Event) → count_places plan.raster (step plan s e).fill + withdrawn_by (reply_of plan s e) ≡ count_places plan.raster s.fill + placed_by (reply_of plan s e)
balanced plan s (event.Commit version tile same) = balanced_commit plan s version tile same
balanced plan s (event.Edit edit) = balanced_edit plan s edit

-- ---- one after another

carried : (c d e w v p q W P : ℕ) → W ≡ w + v → P ≡ p + q → d + w ≡ c + p → e + v ≡ d + q → e + W ≡ c + P
carried c d e w v p q W P total_w total_p one rest = omega (arith, total_w, total_p, one, rest)

counted_from : (plan : Plan) (s : State) (events : List Event)
    → count_places plan.raster (replay_from plan s events).fill + withdrawn_in (replies_from plan s events) ≡ count_places plan.raster s.fill + placed_in (replies_from plan s events)
unfolding replay_from replies_from
counted_from plan s [] = refl
counted_from plan s (e ∷ es) =
    carried (count_places plan.raster s.fill) (count_places plan.raster (step plan s e).fill) (count_places plan.raster (replay_from plan (step plan s e) es).fill)
    (withdrawn_by (reply_of plan s e)) (withdrawn_in (replies_from plan (step plan s e) es)) (placed_by (reply_of plan s e)) (placed_in (replies_from plan (step plan s e) es)) _ _
    (sum_by-cons withdrawn_by (reply_of plan s e) (replies_from plan (step plan s e) es)) (sum_by-cons placed_by (reply_of plan s e) (replies_from plan (step plan s e) es))
    (balanced plan s e) (counted_from plan (step plan s e) es)

none_counted : (r : Lattice) → count_places r no_places ≡ 0
none_counted r = area_none no_places (first r.across) (first r.up) (past r.across) (past r.up) (first_past r.across) (first_past r.up) (λ i j. refl)

pub count_placed : CountIsPlacedLessWithdrawn
count_placed plan layers events = only_placed _ _ _ (counted_from plan (opening plan layers) events) (none_counted plan.raster)
  where
    only_placed : (m n k : ℕ) → m ≡ n + k → n ≡ 0 → m ≡ k
    only_placed m n k e z = omega (arith, e, z)

-- ---- bounds

-- no set of places has more than the raster may have
pub places_few : (plan : Plan) (p : PointSet) → IsPlan plan → count_places plan.raster p ≤ 16777216
places_few plan p is =
    let r = plan.raster in
    few (count_places r p) (extent r.up) (extent r.across) (area_few p (first r.across) (first r.up) (past r.across) (past r.up)) is.raster.few
  where
    few : (n u a : ℕ) → n ≤ u * a → a * u ≤ 16777216 → n ≤ 16777216
    few n u a le most = let e = mul_comm u a in omega (arith, le, most, e)

none_few : 0 ≤ 16777216
none_few = omega arith

one_placed : (plan : Plan) (s : State) (e : Event) → IsPlan plan → placed_by (reply_of plan s e) ≤ 16777216
one_placed plan s (event.Commit version tile same) is = elim (cases_Bool (version == s.version)) [
  | inr other ↦ rw other none_few
  | inl at ↦ elim (cases_Bool (s.tiles_in tile)) [
    | inl already ↦ rw (at, already) none_few
    | inr out ↦ elim (cases_Bool same) [
      | inr foreign ↦ rw (at, out, foreign) none_few
      | inl equal ↦ rw (at, out, equal) (places_few plan (λ i j. wanted plan s.layers s.low tile i j && not (s.fill i j)) is)
    ]
  ]
]
one_placed plan s (event.Edit edit) is = none_few

one_withdrawn : (plan : Plan) (s : State) (e : Event) → IsPlan plan → withdrawn_by (reply_of plan s e) ≤ 16777216
one_withdrawn plan s (event.Commit version tile same) is = elim (cases_Bool (version == s.version)) [
  | inr other ↦ rw other none_few
  | inl at ↦ elim (cases_Bool (s.tiles_in tile)) [
    | inl already ↦ rw (at, already) none_few
    | inr out ↦ elim (cases_Bool same) [
      | inr foreign ↦ rw (at, out, foreign) none_few
      | inl equal ↦ rw (at, out, equal) none_few
    ]
  ]
]
one_withdrawn plan s (event.Edit edit) is = places_few plan (λ i j. s.fill i j && not (fill_after plan edit s.fill i j)) is

added : (w v W n : ℕ) → W ≡ w + v → w ≤ 16777216 → v ≤ 16777216 * n → W ≤ 16777216 * (n + 1)
added w v W n total one rest = omega (arith, total, one, rest)

bounded_from : (plan : Plan) (s : State) (events : List Event) → IsPlan plan
    → (placed_in (replies_from plan s events) ≤ 16777216 * length events) × (withdrawn_in (replies_from plan s events) ≤ 16777216 * length events)
unfolding replies_from
bounded_from plan s [] is = (omega arith, omega arith)
bounded_from plan s (e ∷ es) is =
    let rest = bounded_from plan (step plan s e) es is in
    let n : length (e ∷ es) ≡ length es + 1 = omega arith in (
      rw n (added (placed_by (reply_of plan s e)) (placed_in (replies_from plan (step plan s e) es)) _ (length es) (sum_by-cons placed_by (reply_of plan s e) (replies_from plan (step plan s e) es)) (one_placed plan s e is) rest.0),
      rw n (added (withdrawn_by (reply_of plan s e)) (withdrawn_in (replies_from plan (step plan s e) es)) _ (length es) (sum_by-cons withdrawn_by (reply_of plan s e) (replies_from plan (step plan s e) es)) (one_withdrawn plan s e is) rest.1),
    )

pub sums_bounded : SumsAreBounded
sums_bounded plan layers events is = bounded_from plan (opening plan layers) events is

-- ---- the version

next_version : (plan : Plan) (s : State) (e : Event) → (step plan s e).version ≡ s.version + length (edits_by e)
next_version plan s (event.Commit version tile same) = elim (cases_Bool (is_accepted s version tile same)) [
  | inl h ↦ rw h (let z : s.version ≡ s.version + 0 = omega arith in z)
  | inr h ↦ rw h (let z : s.version ≡ s.version + 0 = omega arith in z)
]
next_version plan s (event.Edit edit) = refl

version_from : (plan : Plan) (s : State) (events : List Event) → (replay_from plan s events).version ≡ s.version + length (edits_in events)
unfolding replay_from
version_from plan s [] = let z : s.version ≡ s.version + 0 = omega arith in z
version_from plan s (e ∷ es) = version_from plan (step plan s e) es ∙ moved plan s e es
  where
    moved : (plan : Plan) (s : State) (e : Event) (es : List Event) → (step plan s e).version + length (edits_in es) ≡ s.version + length (edits_by e ++ edits_in es)
    moved plan s e es = let one = next_version plan s e in let both = Rattle.std.proofs.lemmas.List.length-append (edits_by e) (edits_in es) in omega (arith, one, both)

pub version_counts : VersionCountsEdits
version_counts plan layers events = version_from plan (opening plan layers) events ∙ (let z : 0 + length (edits_in events) ≡ length (edits_in events) = omega arith in z)

-- ---- a part of a rectangle

count_in_part : (p : ℤ → Bool) (left right a c : ℤ) → left ≤ℤ a → a ≤ℤ c → c ≤ℤ right → ((x : ℤ) → (x <ℤ a ⊎ c ≤ℤ x) → p x ≡ false) → count_between p left right ≡ count_between p a c
count_in_part p left right a c low some high none =
    let f = λ (x : ℤ). cond (p x) 1 0 in
    let whole = sum_between_split f left a right low (up a c right some high) in
    let rest = sum_between_split f a c right some high in
    let before = count_between_const p left a false low (λ x l h. none x (inl h)) in
    let after = count_between_const p c right false high (λ x l h. none x (inr l)) in
    middle (count_between p left right) (count_between p left a) (count_between p a right) (count_between p a c) (count_between p c right) (span_len left a) (span_len c right) whole rest before after
  where
    up : (a c right : ℤ) → a ≤ℤ c → c ≤ℤ right → a ≤ℤ right
    up a c right h k = omega (arith, ints, clamps)

    middle : (w b r m t x y : ℕ) → w ≡ b + r → r ≡ m + t → b ≡ x * 0 → t ≡ y * 0 → w ≡ m
    middle w b r m t x y whole rest before after = omega (arith, whole, rest, before, after)

sum_in_part : (f : ℤ → ℕ) (bottom top b d : ℤ) → bottom ≤ℤ b → b ≤ℤ d → d ≤ℤ top → ((y : ℤ) → (y <ℤ b ⊎ d ≤ℤ y) → f y ≡ 0) → sum_between f bottom top ≡ sum_between f b d
sum_in_part f bottom top b d low some high none =
    let whole = sum_between_split f bottom b top low (up b d top some high) in
    let rest = sum_between_split f b d top some high in
    let before = sum_between_const f bottom b 0 low (λ y l h. none y (inl h)) in
    let after = sum_between_const f d top 0 high (λ y l h. none y (inr l)) in
    middle (sum_between f bottom top) (sum_between f bottom b) (sum_between f b top) (sum_between f b d) (sum_between f d top) (span_len bottom b) (span_len d top) whole rest before after
  where
    up : (a c right : ℤ) → a ≤ℤ c → c ≤ℤ right → a ≤ℤ right
    up a c right h k = omega (arith, ints, clamps)

    middle : (w b r m t x y : ℕ) → w ≡ b + r → r ≡ m + t → b ≡ x * 0 → t ≡ y * 0 → w ≡ m
    middle w b r m t x y whole rest before after = omega (arith, whole, rest, before, after)

outside : (lo hi x : ℤ) → (x <ℤ lo ⊎ hi ≤ℤ x) → is_between lo hi x ≡ true → ⊥
outside lo hi x (inl below) is = let b = is_between_bounds lo hi x is in let l = b.0 in omega (arith, ints, clamps)
outside lo hi x (inr above) is = let b = is_between_bounds lo hi x is in let h = b.1 in omega (arith, ints, clamps)

not_true : (b : Bool) → (b ≡ true → ⊥) → b ≡ false
not_true true h = absurd (h refl)
not_true false h = refl

pub counted_in_part : CountedInAPart
counted_in_part p left bottom right top a b c d part inside =
    let row = λ (y : ℤ). count_in_part (λ x. p x y) left right a c part.from_left part.columns part.to_right
    (λ x out. not_true (p x y) (λ h. outside a c x out (and_parts (is_between a c x) (is_between b d y) (inside x y h)).0)) in
    let rows = sum_in_part (λ y. count_between (λ x. p x y) left right) bottom top b d part.from_bottom part.rows part.to_top
    (λ y out. empty y (λ x l h. not_true (p x y) (λ t. outside b d y out (and_parts (is_between a c x) (is_between b d y) (inside x y t)).1))) in
    rows ∙ sum_between_same (λ y. count_between (λ x. p x y) left right) (λ y. count_between (λ x. p x y) a c) b d part.rows (λ y l h. row y)
  where
    wide : (left a c right : ℤ) → left ≤ℤ a → a ≤ℤ c → c ≤ℤ right → left ≤ℤ right
    wide left a c right h k l = omega (arith, ints, clamps)

    empty : (y : ℤ) → ((x : ℤ) → left ≤ℤ x → x <ℤ right → p x y ≡ false) → count_between (λ x. p x y) left right ≡ 0
    empty y none = let e = count_between_const (λ x. p x y) left right false (wide left a c right part.from_left part.columns part.to_right) none in omega (arith, e)
