-- Ranges of columns that are marked where rectangles have squares.
use Rattle.std.proofs.Common.{◌≡◌, ℕ, ◌+◌, ◌^◌, ◌≤◌, ◌<◌, ℤ, pos, ◌-ℤ◌, ◌≤ℤ◌, ◌<ℤ◌, ◌⊎◌, inl, inr, ⊎_elim, Bool, true, false, ◌||◌, ◌↔◌, List, length, take, get_or, set, refl, sym, ◌∙◌, arith, w64, FitsSigned, subst, below_more}
use Rattle.std.specs.Prelude.{int_le, int_lt, IsTrue}
use Rattle.std.specs.Int.{int_max}
use Rattle.std.specs.List.Sorted.{IsPartitionedBy, IsPartitionPoint}
use Rattle.std.proofs.lemmas.Int.{ints, clamps, by_lt_z}
use Rattle.std.proofs.lemmas.List.{get_or_default, get_or-set_same, get_or-set_other, length-set, take_all}
use Rattle.fill_base.specs.declared.rect.Rect.{Rect}
use Rattle.fill_base.specs.Coordinates.{IsCoordinate}
use Rattle.fill_base.specs.Squares.{squares}
use Rattle.fill_base.proofs.Signed.{read, read_is, not_lt, fits_max}
use Rattle.fill_region.specs.Squares.{covered}
use Rattle.fill_region.proofs.Members.{either, or_left, or_right, covered_more}
use Rattle.fill_size.specs.Distance.{HasSquare}
use Rattle.fill_size.specs.Ranges.{AreRising, AreMarked, HaveCommon, IsWidest}
use Rattle.fill_size.proofs.Ranges.{squares_true, squares_inside}

-- ---- the widest range

range_fits : (ranges : List (ℤ × ℤ)) (a : ℕ) (d : ℤ × ℤ) → AreRising ranges → a < length ranges → FitsSigned w64 (get_or ranges a d).0 × FitsSigned w64 (get_or ranges a d).1
range_fits ranges a d rising lt = fits (get_or ranges a d).0 (get_or ranges a d).1 (rising.least a d lt) (rising.some a d lt) (rising.most a d lt)
  where
    fits : (lo hi : ℤ) → (pos 0 -ℤ pos (2 ^ 31)) ≤ℤ lo → lo <ℤ hi → hi ≤ℤ pos (2 ^ 31) → FitsSigned w64 lo × FitsSigned w64 hi
    fits lo hi least some most = (omega (arith, ints), omega (arith, ints))

-- the numbers of a range, as the code reads them
pub range_read : (ranges : List (ℤ × ℤ)) (a : ℕ) (d : ℤ × ℤ) → AreRising ranges → a < length ranges → (read (get_or ranges a d).0 ≡ (get_or ranges a d).0) × (read (get_or ranges a d).1 ≡ (get_or ranges a d).1)
range_read ranges a d rising lt = let fits = range_fits ranges a d rising lt in (read_is _ fits.0, read_is _ fits.1)

-- the widest of the first ranges
pub record WidestTo (ranges : List (ℤ × ℤ)) (a : ℕ) (width : ℤ) : Type 0 where
  pub most : (b : ℕ) → b < a → (d : ℤ × ℤ) → b < length ranges → ((get_or ranges b d).1 -ℤ (get_or ranges b d).0) ≤ℤ width
  pub one : (width ≡ pos 0) ⊎ ((b : ℕ) × (b < length ranges) × ((d : ℤ × ℤ) → width ≡ (get_or ranges b d).1 -ℤ (get_or ranges b d).0))

pub none_wide : (ranges : List (ℤ × ℤ)) → WidestTo ranges 0 (pos 0)
none_wide ranges = record { most = λ b lt d below. absurd (omega (arith, lt)); one = inl refl }

-- one range more, as the code reads it
pub one_wider : (ranges : List (ℤ × ℤ)) (a : ℕ) (width wider : ℤ) (d : ℤ × ℤ) → AreRising ranges → a < length ranges → FitsSigned w64 width → wider ≡ int_max width (read (read (get_or ranges a d).1 -ℤ read (get_or ranges a d).0))
    → WidestTo ranges a width → WidestTo ranges (a + 1) (read wider)
one_wider ranges a width wider d rising lt fits is w =
    let f = range_fits ranges a d rising lt in
    let r = range_read ranges a d rising lt in
    let so = wider_is (get_or ranges a d).0 (get_or ranges a d).1 (rising.least a d lt) (rising.some a d lt) (rising.most a d lt) (rw (r.0, r.1) at is) in
    rw so (record {
      most = below_more _ a
          (λ b before e below. most_left (get_or ranges b e).0 (get_or ranges b e).1 (get_or ranges a d).0 (get_or ranges a d).1 (w.most b before e below))
          (λ e below. subst (λ q. (q.1 -ℤ q.0) ≤ℤ int_max width ((get_or ranges a d).1 -ℤ (get_or ranges a d).0)) (get_or_default ranges a d e lt) (most_right (get_or ranges a d).0 (get_or ranges a d).1));
      one = by_lt_z width ((get_or ranges a d).1 -ℤ (get_or ranges a d).0)
          (λ less. inr (a, lt, λ e. subst (λ q. int_max width ((get_or ranges a d).1 -ℤ (get_or ranges a d).0) ≡ q.1 -ℤ q.0) (get_or_default ranges a d e lt) (is_right (get_or ranges a d).0 (get_or ranges a d).1 less)))
          (λ more. subst (λ z. (z ≡ pos 0) ⊎ ((b : ℕ) × (b < length ranges) × ((d : ℤ × ℤ) → z ≡ (get_or ranges b d).1 -ℤ (get_or ranges b d).0))) (is_left (get_or ranges a d).0 (get_or ranges a d).1 more) w.one);
    })
  where
    wider_is : (lo hi : ℤ) → (pos 0 -ℤ pos (2 ^ 31)) ≤ℤ lo → lo <ℤ hi → hi ≤ℤ pos (2 ^ 31) → wider ≡ int_max width (read (hi -ℤ lo)) → read wider ≡ int_max width (hi -ℤ lo)
    wider_is lo hi least some most e =
        let short : FitsSigned w64 (hi -ℤ lo) = omega (arith, ints) in
        rw (e, read_is (hi -ℤ lo) short) (read_is _ (fits_max width (hi -ℤ lo) fits short))

    most_left : (lo hi l h : ℤ) → (hi -ℤ lo) ≤ℤ width → (hi -ℤ lo) ≤ℤ int_max width (h -ℤ l)
    most_left lo hi l h k = omega (arith, ints, clamps)

    most_right : (l h : ℤ) → (h -ℤ l) ≤ℤ int_max width (h -ℤ l)
    most_right l h = omega (arith, ints, clamps)

    is_right : (l h : ℤ) → width <ℤ (h -ℤ l) → int_max width (h -ℤ l) ≡ h -ℤ l
    is_right l h k = omega (arith, ints, clamps)

    is_left : (l h : ℤ) → (h -ℤ l) ≤ℤ width → width ≡ int_max width (h -ℤ l)
    is_left l h k = omega (arith, ints, clamps)

pub all_wide : (ranges : List (ℤ × ℤ)) (a : ℕ) (width : ℤ) → length ranges ≤ a → WidestTo ranges a width → IsWidest ranges width
all_wide ranges a width end w = record { most = λ b d lt. w.most b (omega arith) d lt; one = w.one }

-- no range is wider than the coordinates
pub record IsWidth (width : ℤ) : Type 0 where
  pub least : pos 0 ≤ℤ width
  pub most : width ≤ℤ pos (2 ^ 32)

pub width_is : (ranges : List (ℤ × ℤ)) (width : ℤ) → AreRising ranges → IsWidest ranges width → IsWidth width
width_is ranges width rising is = ⊎_elim none (λ w. one (get_or ranges w.0 (pos 0, pos 0)).0 (get_or ranges w.0 (pos 0, pos 0)).1 (w.2 (pos 0, pos 0))
    (rising.least w.0 (pos 0, pos 0) w.1) (rising.some w.0 (pos 0, pos 0) w.1) (rising.most w.0 (pos 0, pos 0) w.1)) is.one
  where
    none : width ≡ pos 0 → IsWidth width
    none is = record { least = omega (arith, ints); most = omega (arith, ints) }

    one : (lo hi : ℤ) → width ≡ hi -ℤ lo → (pos 0 -ℤ pos (2 ^ 31)) ≤ℤ lo → lo <ℤ hi → hi ≤ℤ pos (2 ^ 31) → IsWidth width
    one lo hi is least some most = record { least = omega (arith, ints); most = omega (arith, ints) }

-- a left edge less a width, as the code reckons it
pub near_fits : (left width : ℤ) → IsCoordinate left → IsWidth width → FitsSigned w64 (read left -ℤ read width)
near_fits left width at is =
    let a : (pos 0 -ℤ pos 1073741824) ≤ℤ left = at.least in let b : left ≤ℤ pos 1073741824 = at.most in let low : pos 0 ≤ℤ width = is.least in let high : width ≤ℤ pos (2 ^ 32) = is.most in
    rw (read_is left (omega (arith, ints)), read_is width (omega (arith, ints))) (omega (arith, ints))

pub near_read : (left width : ℤ) → IsCoordinate left → IsWidth width → read (read left -ℤ read width) ≡ left -ℤ width
near_read left width at is =
    let a : (pos 0 -ℤ pos 1073741824) ≤ℤ left = at.least in let b : left ≤ℤ pos 1073741824 = at.most in let low : pos 0 ≤ℤ width = is.least in let high : width ≤ℤ pos (2 ^ 32) = is.most in
    rw (read_is left (omega (arith, ints)), read_is width (omega (arith, ints))) (read_is (left -ℤ width) (omega (arith, ints)))

-- ---- the ranges between two edges

-- what is asked of the two cuts by their tests
pub firsts : (ranges : List (ℤ × ℤ)) (near : ℤ) → AreRising ranges → IsPartitionedBy (λ r. int_le r.0 near) ranges
firsts ranges near rising i j d le lt h = le_le (get_or ranges i d).0 (get_or ranges j d).0 near (rising.rising i j d le lt) h
  where
    le_le : (a b c : ℤ) → a ≤ℤ b → int_le b c ≡ true → int_le a c ≡ true
    le_le a b c h k = grind (arith, ints)

pub lasts : (ranges : List (ℤ × ℤ)) (right : ℤ) → AreRising ranges → IsPartitionedBy (λ r. int_lt r.0 right) ranges
lasts ranges right rising i j d le lt h = le_lt (get_or ranges i d).0 (get_or ranges j d).0 right (rising.rising i j d le lt) h
  where
    le_lt : (a b c : ℤ) → a ≤ℤ b → int_lt b c ≡ true → int_lt a c ≡ true
    le_lt a b c h k = grind (arith, ints)

-- of the ranges from `first` on those before `a` are marked, and no others
pub record MarkedTo (P : ℤ → ℤ → Type 0) (ranges : List (ℤ × ℤ)) (old new : List Bool) (first a : ℕ) : Type 0 where
  pub count : length new ≡ length old
  pub done : (b : ℕ) → b < a → first ≤ b → (d : ℤ × ℤ) (m : Bool) → b < length ranges → IsTrue (get_or new b m) ↔ (IsTrue (get_or old b m) ⊎ P (get_or ranges b d).0 (get_or ranges b d).1)
  pub before : (b : ℕ) (m : Bool) → b < first → get_or new b m ≡ get_or old b m
  pub rest : (b : ℕ) (m : Bool) → a ≤ b → get_or new b m ≡ get_or old b m

pub none_marked : (P : ℤ → ℤ → Type 0) (ranges : List (ℤ × ℤ)) (old : List Bool) (first : ℕ) → MarkedTo P ranges old old first first
none_marked P ranges old first = record { count = refl; done = λ b lt le d m below. absurd (omega arith); before = λ b m lt. refl; rest = λ b m le. refl }

either_true : {P : Type 0} (mark now : Bool) → (IsTrue now ↔ P) → IsTrue (mark || now) ↔ (IsTrue mark ⊎ P)
either_true mark now test = (
  (λ h. ⊎_elim (λ m. inl m) (λ n. inr (test.0 n)) (either mark now h)),
  (λ s. ⊎_elim (λ m. or_left mark now m) (λ p. or_right mark now (test.1 p)) s),
)

-- one range more
pub marked_on : (P : ℤ → ℤ → Type 0) (ranges : List (ℤ × ℤ)) (old new : List Bool) (first a : ℕ) (now : Bool) (d : ℤ × ℤ) (m : Bool) → length old ≡ length ranges → first ≤ a → a < length ranges
    → (IsTrue now ↔ P (get_or ranges a d).0 (get_or ranges a d).1) → MarkedTo P ranges old new first a → MarkedTo P ranges old (set new a (get_or new a m || now)) first (a + 1)
marked_on P ranges old new first a now d m counts from lt test w =
    let inner : a < length new = omega (arith, w.count, counts) in
    let mark = get_or new a m || now in
    record {
      count = length-set new a mark ∙ w.count;
      done = below_more _ a
          (λ b lower le e n below. let other : b ≡ a → ⊥ = omega arith in
          subst (λ x. IsTrue x ↔ (IsTrue (get_or old b n) ⊎ P (get_or ranges b e).0 (get_or ranges b e).1)) (sym (get_or-set_other new a b mark n other)) (w.done b lower le e n below))
          (λ le e n below. subst (λ x. IsTrue x ↔ (IsTrue (get_or old a n) ⊎ P (get_or ranges a e).0 (get_or ranges a e).1)) (sym (get_or-set_same new a mark n inner)) (here e n inner));
      before = λ b n lower. let other : b ≡ a → ⊥ = omega arith in get_or-set_other new a b mark n other ∙ w.before b n lower;
      rest = λ b n le. let other : b ≡ a → ⊥ = omega arith in get_or-set_other new a b mark n other ∙ w.rest b n (omega arith);
    }
  where
    here : (e : ℤ × ℤ) (n : Bool) → a < length new → IsTrue (get_or new a m || now) ↔ (IsTrue (get_or old a n) ⊎ P (get_or ranges a e).0 (get_or ranges a e).1)
    here e n inner = subst (λ r. IsTrue (get_or new a m || now) ↔ (IsTrue (get_or old a n) ⊎ P r.0 r.1)) (get_or_default ranges a d e lt)
        (subst (λ o. IsTrue (get_or new a m || now) ↔ (IsTrue o ⊎ P (get_or ranges a d).0 (get_or ranges a d).1)) (get_or_default new a m n inner ∙ w.rest a n (omega arith)) (either_true (get_or new a m) now test))

unmarked : {P : Type 0} (new old : Bool) → new ≡ old → (P → ⊥) → IsTrue new ↔ (IsTrue old ⊎ P)
unmarked new old same none = ((λ h. inl (sym same ∙ h)), (λ s. ⊎_elim (λ o. same ∙ o) (λ p. absurd (none p)) s))

by_lt : {P : Type 0} (a b : ℕ) → (a < b → P) → (b ≤ a → P) → P
by_lt a b f g = by_lt_z (pos a) (pos b) (λ h. f (omega (arith, ints))) (λ h. g (omega (arith, ints)))

-- no range before the first cut reaches the columns, and none from the second one on
pub all_marked : (ranges : List (ℤ × ℤ)) (old new : List Bool) (width left right : ℤ) (first end a : ℕ) → IsWidest ranges width
    → IsPartitionPoint (λ r. int_le r.0 (left -ℤ width) ≡ true) (λ r. int_le r.0 (left -ℤ width) ≡ false) ranges first
    → IsPartitionPoint (λ r. int_lt r.0 right ≡ true) (λ r. int_lt r.0 right ≡ false) ranges end → end ≤ a
    → MarkedTo (λ lo hi. HaveCommon lo hi left right) ranges old new first a → AreMarked (λ lo hi. HaveCommon lo hi left right) ranges old new
all_marked ranges old new width left right first end a wide low high past w b d m lt = by_lt b first
    (λ lower. unmarked _ _ (w.before b m lower) (too_low (get_or ranges b d).0 (get_or ranges b d).1 (wide.most b d lt) (low.0 b d (omega arith) lower)))
    (λ from. by_lt b a (λ done. w.done b done from d m lt) (λ later. unmarked _ _ (w.rest b m later) (too_high (get_or ranges b d).0 (get_or ranges b d).1 (high.1 b d (omega arith) lt))))
  where
    too_low : (lo hi : ℤ) → (hi -ℤ lo) ≤ℤ width → int_le lo (left -ℤ width) ≡ true → HaveCommon lo hi left right → ⊥
    too_low lo hi short below h = apart h.at (is_le lo (left -ℤ width) below) h.first_to h.second_from
      where
        is_le : (a b : ℤ) → int_le a b ≡ true → a ≤ℤ b
        is_le a b h = grind (arith, ints)

        apart : (x : ℤ) → lo ≤ℤ (left -ℤ width) → x <ℤ hi → left ≤ℤ x → ⊥
        apart x h i j = omega (arith, ints)

    too_high : (lo hi : ℤ) → int_lt lo right ≡ false → HaveCommon lo hi left right → ⊥
    too_high lo hi above h = apart h.at (not_lt lo right above) h.first_from h.second_to
      where
        apart : (x : ℤ) → right ≤ℤ lo → lo ≤ℤ x → x <ℤ right → ⊥
        apart x h i j = omega (arith, ints)

-- ---- the runs of a region

-- a run with a line there marks the ranges that have a column of it
pub marked_by : (ranges : List (ℤ × ℤ)) (new after : List Bool) (r : Rect) (bottom top : ℤ) → HaveCommon r.y1 r.y2 bottom top → AreMarked (λ lo hi. HaveCommon lo hi r.x1 r.x2) ranges new after
    → AreMarked (λ lo hi. HasSquare (squares r) lo bottom hi top) ranges new after
marked_by ranges new after r bottom top line marked a d m lt = (
  (λ h. ⊎_elim (λ o. inl o) (λ p. inr (to_square (get_or ranges a d).0 (get_or ranges a d).1 p)) ((marked a d m lt).0 h)),
  (λ s. (marked a d m lt).1 (⊎_elim (λ o. inl o) (λ h. inr (to_column (get_or ranges a d).0 (get_or ranges a d).1 h)) s)),
)
  where
    to_square : (lo hi : ℤ) → HaveCommon lo hi r.x1 r.x2 → HasSquare (squares r) lo bottom hi top
    to_square lo hi p = record { x = p.at; y = line.at; square = squares_true r p.at line.at p.second_from p.second_to line.first_from line.first_to; from_left = p.first_from; to_right = p.first_to; from_bottom = line.second_from; to_top = line.second_to }

    to_column : (lo hi : ℤ) → HasSquare (squares r) lo bottom hi top → HaveCommon lo hi r.x1 r.x2
    to_column lo hi h = let at = squares_inside r h.x h.y h.square in record { at = h.x; first_from = h.from_left; first_to = h.to_right; second_from = at.left; second_to = at.right }

-- a run with no line there marks none
pub unmarked_by : (ranges : List (ℤ × ℤ)) (new : List Bool) (r : Rect) (bottom top : ℤ) → (HaveCommon r.y1 r.y2 bottom top → ⊥) → AreMarked (λ lo hi. HasSquare (squares r) lo bottom hi top) ranges new new
unmarked_by ranges new r bottom top none a d m lt = unmarked _ _ refl
    (λ h. let at = squares_inside r h.x h.y h.square in none (record { at = h.y; first_from = at.bottom; first_to = at.top; second_from = h.from_bottom; second_to = h.to_top }))

pub none_met : (ranges : List (ℤ × ℤ)) (old : List Bool) (rects : List Rect) (bottom top : ℤ) → AreMarked (λ lo hi. HasSquare (covered (take 0 rects)) lo bottom hi top) ranges old old
none_met ranges old rects bottom top a d m lt = unmarked _ _ refl (λ h. not_both h.square)
  where
    not_both : false ≡ true → ⊥
    not_both e = cc

-- one run more
pub met_on : (ranges : List (ℤ × ℤ)) (old new after : List Bool) (rects : List Rect) (k : ℕ) (r : Rect) (bottom top : ℤ) → k < length rects → r ≡ get_or rects k r
    → AreMarked (λ lo hi. HasSquare (covered (take k rects)) lo bottom hi top) ranges old new → AreMarked (λ lo hi. HasSquare (squares r) lo bottom hi top) ranges new after
    → AreMarked (λ lo hi. HasSquare (covered (take (k + 1) rects)) lo bottom hi top) ranges old after
met_on ranges old new after rects k r bottom top within item so_far marked a d m lt = (
  (λ h. ⊎_elim (λ n. ⊎_elim (λ o. inl o) (λ p. inr (wider p (λ x y is. covered_more rects k r x y within item ∙ or_left (covered (take k rects) x y) (squares r x y) is))) ((so_far a d m lt).0 n))
      (λ p. inr (wider p (λ x y is. covered_more rects k r x y within item ∙ or_right (covered (take k rects) x y) (squares r x y) is))) ((marked a d m lt).0 h)),
  (λ s. (marked a d m lt).1 (⊎_elim (λ o. inl ((so_far a d m lt).1 (inl o))) (λ h. ⊎_elim (λ before. inl ((so_far a d m lt).1 (inr (at h before)))) (λ here. inr (at h here))
      (either (covered (take k rects) h.x h.y) (squares r h.x h.y) (sym (covered_more rects k r h.x h.y within item) ∙ h.square))) s)),
)
  where
    wider : {p q : ℤ → ℤ → Bool} {lo hi : ℤ} → HasSquare p lo bottom hi top → ((x y : ℤ) → p x y ≡ true → q x y ≡ true) → HasSquare q lo bottom hi top
    wider h all = record { x = h.x; y = h.y; square = all h.x h.y h.square; from_left = h.from_left; to_right = h.to_right; from_bottom = h.from_bottom; to_top = h.to_top }

    at : {p q : ℤ → ℤ → Bool} {lo hi : ℤ} (h : HasSquare p lo bottom hi top) → q h.x h.y ≡ true → HasSquare q lo bottom hi top
    at h is = record { x = h.x; y = h.y; square = is; from_left = h.from_left; to_right = h.to_right; from_bottom = h.from_bottom; to_top = h.to_top }

-- all runs together
pub all_met : (p : ℤ → ℤ → Bool) (ranges : List (ℤ × ℤ)) (old new : List Bool) (rects : List Rect) (k : ℕ) (bottom top : ℤ) → length rects ≤ k → ((x y : ℤ) → bottom ≤ℤ y → y <ℤ top → covered rects x y ≡ p x y)
    → AreMarked (λ lo hi. HasSquare (covered (take k rects)) lo bottom hi top) ranges old new → AreMarked (λ lo hi. HasSquare p lo bottom hi top) ranges old new
all_met p ranges old new rects k bottom top end cover met a d m lt =
    let so : IsTrue (get_or new a m) ↔ (IsTrue (get_or old a m) ⊎ HasSquare (covered rects) (get_or ranges a d).0 bottom (get_or ranges a d).1 top) = rw (take_all k rects end) at met a d m lt in (
      (λ h. ⊎_elim (λ o. inl o) (λ s. inr (from (get_or ranges a d).0 (get_or ranges a d).1 s)) (so.0 h)),
      (λ s. so.1 (⊎_elim (λ o. inl o) (λ s. inr (to (get_or ranges a d).0 (get_or ranges a d).1 s)) s)),
    )
  where
    from : (lo hi : ℤ) → HasSquare (covered rects) lo bottom hi top → HasSquare p lo bottom hi top
    from lo hi s = record { x = s.x; y = s.y; square = sym {a = covered rects s.x s.y} (cover s.x s.y s.from_bottom s.to_top) ∙ s.square; from_left = s.from_left; to_right = s.to_right; from_bottom = s.from_bottom; to_top = s.to_top }

    to : (lo hi : ℤ) → HasSquare p lo bottom hi top → HasSquare (covered rects) lo bottom hi top
    to lo hi s = record { x = s.x; y = s.y; square = cover s.x s.y s.from_bottom s.to_top ∙ s.square; from_left = s.from_left; to_right = s.to_right; from_bottom = s.from_bottom; to_top = s.to_top }

-- a test that fails rules out what it tests
pub not_from : {P : Type 0} (b : Bool) → (IsTrue b ↔ P) → b ≡ false → P → ⊥
not_from b test is p = let both : true ≡ false = sym (test.1 p) ∙ is in cc
