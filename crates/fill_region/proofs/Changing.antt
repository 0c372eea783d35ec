-- What an operation with a second set changes of a first one's runs.
use Rattle.std.proofs.Common.{◌≡◌, ℕ, suc, ◌+◌, ◌<◌, ℤ, pos, ◌-ℤ◌, ◌≤ℤ◌, ◌<ℤ◌, Bool, true, false, ◌&&◌, ◌||◌, not, List, [], ◌∷◌, ◌++◌, length, take, get_or, map, refl, sym, ◌∙◌, ap, subst, arith, true≢false, ◌⊎◌, ⊎_elim, inl, inr, rules, w64, FitsSigned}
use Rattle.std.specs.Prelude.{All, int_lt}
use Rattle.std.specs.List.{Contains}
use Rattle.std.specs.Int.{int_max, int_min}
use Rattle.std.proofs.lemmas.Bool.{false_from_ne_true}
use Rattle.std.proofs.lemmas.Int.{ints, by_lt_z, clamps}
use Rattle.std.proofs.lemmas.List.{get_or-map}
use Rattle.std.proofs.lemmas.List.Elements.{All-append, All-contains, All-contains_itself, All-nil, All-push, All-weaker, Contains-append_left, Contains-append_right, Contains-push_cases}
use Rattle.fill_base.specs.declared.rect.Rect.{Rect}
use Rattle.fill_base.specs.Sides.{sides_of}
use Rattle.fill_base.proofs.Signed.{is_lt, read}
use Rattle.fill_base.specs.Squares.{squares}
use Rattle.fill_bands.specs.Squares.{covered}
use Rattle.fill_spans.specs.Operations.{applied}
use Rattle.fill_spans.specs.declared.operation.Operation.{Operation}
use Rattle.fill_spans.specs.declared.operation.Operation.TheVariants.{Union, Minus, Meet}
use Rattle.fill_region.specs.Runs.{Sides, IsInterval, IsRun, holds, AreRuns}
use Rattle.fill_region.specs.Changes.{IsAside, ArePartedBy, unchanged}
use Rattle.fill_region.specs.Steps.{AreRunsOf}
use Rattle.fill_region.proofs.Clipping.{square_in}
use Rattle.fill_region.proofs.Intervals.{true_false, same_left, same_right, same_run, interval_alike, run_of, run_alike}
use Rattle.fill_region.proofs.Ordered.{covered_sides}
use Rattle.fill_region.proofs.Levels.{le_self}
use Rattle.fill_region.proofs.Words.{least_read, most_read}
use Rattle.fill_region.proofs.Members.{either, or_left, or_right, holder, held, covered_either, covered_push, covered_more, one_more, square_within, runs_alike}

by_bool : {P : Type 0} (b : Bool) → (b ≡ true → P) → (b ≡ false → P) → P
by_bool true f g = f refl
by_bool false f g = g refl

-- ---- runs beside a set

-- a set `r` is some of its runs, and a set `q` that shares no square with them
pub record IsBeside (r q : ℤ → ℤ → Bool) (far : List Rect) : Type 0 where
  pub runs : All (λ s. IsRun r (sides_of s)) far
  pub squares : (x y : ℤ) → r x y ≡ (covered far x y || q x y)
  pub apart : (x y : ℤ) → covered far x y ≡ true → q x y ≡ false

in_both : (r q : ℤ → ℤ → Bool) (far : List Rect) (x y : ℤ) → IsBeside r q far → q x y ≡ true → r x y ≡ true
in_both r q far x y b is = b.squares x y ∙ or_right (covered far x y) (q x y) is

none_far : (r q : ℤ → ℤ → Bool) (far : List Rect) (x y : ℤ) → IsBeside r q far → q x y ≡ true → covered far x y ≡ true → ⊥
none_far r q far x y b is there = true_false (q x y) is (b.apart x y there)

none_beside : (r q : ℤ → ℤ → Bool) (far : List Rect) (x y : ℤ) → IsBeside r q far → r x y ≡ false → q x y ≡ false
none_beside r q far x y b none = false_from_ne_true (q x y) (λ is. true_false (r x y) (in_both r q far x y b is) none)

run_there : (r q : ℤ → ℤ → Bool) (far : List Rect) (s : Rect) → IsBeside r q far → Contains far s → IsRun r (sides_of s)
run_there r q far s b among = All-contains (λ s. IsRun r (sides_of s)) far s b.runs among

-- an interval of `q` is one of `r`
interval_stays : (r q : ℤ → ℤ → Bool) (far : List Rect) (l m y : ℤ) → IsBeside r q far → l <ℤ m → IsInterval q l m y → IsInterval r l m y
interval_stays r q far l m y b wide i = record {
  filled = λ x from to. in_both r q far x y b (i.filled x from to);
  before = false_from_ne_true (r (l -ℤ pos 1) y) (λ is. ⊎_elim
      (λ there. let h = holder far (l -ℤ pos 1) y there in left h.rect h.among h.holds_it)
      (λ here. true_false (q (l -ℤ pos 1) y) here i.before)
      (either (covered far (l -ℤ pos 1) y) (q (l -ℤ pos 1) y) (sym (b.squares (l -ℤ pos 1) y) ∙ is)));
  after = false_from_ne_true (r m y) (λ is. ⊎_elim
      (λ there. let h = holder far m y there in right h.rect h.among h.holds_it)
      (λ here. true_false (q m y) here i.after)
      (either (covered far m y) (q m y) (sym (b.squares m y) ∙ is)));
}
  where
    first : q l y ≡ true
    first = i.filled l (le_self l) wide

    last : q (m -ℤ pos 1) y ≡ true
    last = i.filled (m -ℤ pos 1) (omega (arith, ints)) (omega (arith, ints))

    left : (s : Rect) → Contains far s → squares s (l -ℤ pos 1) y ≡ true → ⊥
    left s among in_s =
        let w = square_within s (l -ℤ pos 1) y in_s in
        let row = (run_there r q far s b among).rows y w.1.0 w.1.1 in
        by_lt_z l s.x2
        (λ lt. none_far r q far l y b first (held far s l y among (square_in s l y (omega (arith, ints, w.0.0)) lt w.1.0 w.1.1)))
        (λ le. let end : s.x2 ≡ l = omega (arith, ints, le, w.0.1) in true_false (r l y) (in_both r q far l y b first) (subst (λ x. r x y ≡ false) end row.after))

    right : (s : Rect) → Contains far s → squares s m y ≡ true → ⊥
    right s among in_s =
        let w = square_within s m y in_s in
        let row = (run_there r q far s b among).rows y w.1.0 w.1.1 in
        by_lt_z s.x1 m
        (λ lt. none_far r q far (m -ℤ pos 1) y b last (held far s (m -ℤ pos 1) y among (square_in s (m -ℤ pos 1) y (omega (arith, ints, lt)) (omega (arith, ints, w.0.1)) w.1.0 w.1.1)))
        (λ le. let begin : s.x1 ≡ m = omega (arith, ints, le, w.0.0) in true_false (r (m -ℤ pos 1) y) (in_both r q far (m -ℤ pos 1) y b last) (subst (λ x. r (x -ℤ pos 1) y ≡ false) begin row.before))

-- where an interval of `r` has no square of the far runs in its first column, it is one of `q`
interval_of : (r q : ℤ → ℤ → Bool) (far : List Rect) (l m y : ℤ) → IsBeside r q far → l <ℤ m → covered far l y ≡ false → IsInterval r l m y → IsInterval q l m y
interval_of r q far l m y b wide none i = record {
  filled = λ x from to. ⊎_elim
      (λ there. let h = holder far x y there in absurd (beside x from to h.rect h.among h.holds_it))
      (λ here. here)
      (either (covered far x y) (q x y) (sym (b.squares x y) ∙ i.filled x from to));
  before = none_beside r q far (l -ℤ pos 1) y b i.before;
  after = none_beside r q far m y b i.after;
}
  where
    beside : (x : ℤ) → l ≤ℤ x → x <ℤ m → (s : Rect) → Contains far s → squares s x y ≡ true → ⊥
    beside x from to s among in_s =
        let w = square_within s x y in_s in
        let begin = same_left r s.x1 s.x2 l m y x ((run_there r q far s b among).rows y w.1.0 w.1.1) i w.0.0 w.0.1 from to in
        true_false (covered far l y) (held far s l y among (square_in s l y (omega (arith, ints, begin)) (omega (arith, ints, begin, s.wide)) w.1.0 w.1.1)) none

-- a run of `q` is one of `r`
pub run_stays : (r q : ℤ → ℤ → Bool) (far : List Rect) (u : Sides) → IsBeside r q far → IsRun q u → IsRun r u
run_stays r q far u b run = run_of r q u run (λ y low high i. interval_stays r q far u.left u.right y b run.wide i)
    (λ i. by_bool (covered far u.left (u.bottom -ℤ pos 1))
    (λ there. let h = holder far u.left (u.bottom -ℤ pos 1) there in below h.rect h.among h.holds_it i)
    (λ none. run.begins (interval_of r q far u.left u.right (u.bottom -ℤ pos 1) b run.wide none i)))
    (λ i. by_bool (covered far u.left u.top)
    (λ there. let h = holder far u.left u.top there in above h.rect h.among h.holds_it i)
    (λ none. run.ends (interval_of r q far u.left u.right u.top b run.wide none i)))
  where
    below : (s : Rect) → Contains far s → squares s u.left (u.bottom -ℤ pos 1) ≡ true → IsInterval r u.left u.right (u.bottom -ℤ pos 1) → ⊥
    below s among in_s i =
        let w = square_within s u.left (u.bottom -ℤ pos 1) in_s in
        let own = run_there r q far s b among in
        let row = own.rows (u.bottom -ℤ pos 1) w.1.0 w.1.1 in
        let l : s.x1 ≡ u.left = same_left r s.x1 s.x2 u.left u.right (u.bottom -ℤ pos 1) u.left row i w.0.0 w.0.1 (le_self u.left) run.wide in
        let m : s.x2 ≡ u.right = same_right r s.x1 s.x2 u.left u.right (u.bottom -ℤ pos 1) u.left row i w.0.0 w.0.1 (le_self u.left) run.wide in
        let first = run.rows u.bottom (le_self u.bottom) run.tall in
        by_lt_z u.bottom s.y2
        (λ lt. none_far r q far u.left u.bottom b (first.filled u.left (le_self u.left) run.wide) (held far s u.left u.bottom among (square_in s u.left u.bottom w.0.0 w.0.1 (omega (arith, ints, w.1.0)) lt)))
        (λ le. let at : s.y2 ≡ u.bottom = omega (arith, ints, le, w.1.1) in own.ends (rw (l, m, at) (interval_stays r q far u.left u.right u.bottom b run.wide first)))

    above : (s : Rect) → Contains far s → squares s u.left u.top ≡ true → IsInterval r u.left u.right u.top → ⊥
    above s among in_s i =
        let w = square_within s u.left u.top in_s in
        let own = run_there r q far s b among in
        let row = own.rows u.top w.1.0 w.1.1 in
        let l : s.x1 ≡ u.left = same_left r s.x1 s.x2 u.left u.right u.top u.left row i w.0.0 w.0.1 (le_self u.left) run.wide in
        let m : s.x2 ≡ u.right = same_right r s.x1 s.x2 u.left u.right u.top u.left row i w.0.0 w.0.1 (le_self u.left) run.wide in
        let last = run.rows (u.top -ℤ pos 1) (omega (arith, ints, run.tall)) (omega (arith, ints)) in
        by_lt_z s.y1 u.top
        (λ lt. none_far r q far u.left (u.top -ℤ pos 1) b (last.filled u.left (le_self u.left) run.wide) (held far s u.left (u.top -ℤ pos 1) among (square_in s u.left (u.top -ℤ pos 1) w.0.0 w.0.1 (omega (arith, ints, lt)) (omega (arith, ints, w.1.1)))))
        (λ le. let at : s.y1 ≡ u.top = omega (arith, ints, le, w.1.0) in own.begins (rw (l, m, at) (interval_stays r q far u.left u.right (u.top -ℤ pos 1) b run.wide last)))

pub all_beside : (r q : ℤ → ℤ → Bool) (far changed : List Rect) → IsBeside r q far → AreRunsOf q changed → AreRunsOf r (far ++ changed)
all_beside r q far changed b are = record {
  each = All-append (λ s. IsRun r (sides_of s)) far changed b.runs (All-weaker (λ s. IsRun q (sides_of s)) (λ s. IsRun r (sides_of s)) (λ s run. run_stays r q far (sides_of s) b run) changed are.each);
  all = λ x y is. covered_either far changed x y ∙ ⊎_elim (λ there. or_left (covered far x y) (covered changed x y) there) (λ here. or_right (covered far x y) (covered changed x y) (are.all x y here))
      (either (covered far x y) (q x y) (sym (b.squares x y) ∙ is));
}

-- ---- runs that the second set doesn't come near

-- no square of a frame lies in a rectangle that is aside of it, nor next to it
out : (s frame : Rect) (x y : ℤ) → IsAside s frame → (s.x1 -ℤ pos 1) ≤ℤ x → x ≤ℤ s.x2 → (s.y1 -ℤ pos 1) ≤ℤ y → y ≤ℤ s.y2 → squares frame x y ≡ true → ⊥
out s frame x y aside a b c d is =
    let w = square_within frame x y is in
    ⊎_elim (λ across. ⊎_elim (λ lt. before s.x2 frame.x1 x lt b w.0.0) (λ lt. behind s.x1 frame.x2 x lt a w.0.1) across)
    (λ up. ⊎_elim (λ lt. before s.y2 frame.y1 y lt d w.1.0) (λ lt. behind s.y1 frame.y2 y lt c w.1.1) up) aside
  where
    before : (end begin z : ℤ) → end <ℤ begin → z ≤ℤ end → begin ≤ℤ z → ⊥
    before end begin z lt high low = omega (arith, ints)

    behind : (begin end z : ℤ) → end <ℤ begin → (begin -ℤ pos 1) ≤ℤ z → z <ℤ end → ⊥
    behind begin end z lt low high = omega (arith, ints)

-- a run of the first set stays one
far_run : (op : Operation) (p q : ℤ → ℤ → Bool) (s frame : Rect) → ((b : Bool) → applied op b false ≡ b) → ((x y : ℤ) → q x y ≡ true → squares frame x y ≡ true) → IsAside s frame → IsRun p (sides_of s)
    → IsRun (λ x y. applied op (p x y) (q x y)) (sides_of s)
far_run op p q s frame keeps within aside run = run_of r p (sides_of s) run
    (λ y low high i. interval_alike r p s.x1 s.x2 y run.wide (λ x from to. alike x y from to (omega (arith, ints, low)) (omega (arith, ints, high))) i)
    (λ i. run.begins (interval_alike p r s.x1 s.x2 (s.y1 -ℤ pos 1) run.wide (λ x from to. sym (alike x (s.y1 -ℤ pos 1) from to (le_self (s.y1 -ℤ pos 1)) (omega (arith, ints, s.tall)))) i))
    (λ i. run.ends (interval_alike p r s.x1 s.x2 s.y2 run.wide (λ x from to. sym (alike x s.y2 from to (omega (arith, ints, s.tall)) (le_self s.y2))) i))
  where
    r : ℤ → ℤ → Bool
    r x y = applied op (p x y) (q x y)

    alike : (x y : ℤ) → (s.x1 -ℤ pos 1) ≤ℤ x → x ≤ℤ s.x2 → (s.y1 -ℤ pos 1) ≤ℤ y → y ≤ℤ s.y2 → r x y ≡ p x y
    alike x y a b c d = ap (λ z. applied op (p x y) z) (false_from_ne_true (q x y) (λ is. out s frame x y aside a b c d (within x y is))) ∙ keeps (p x y)

split : (op : Operation) (n f s : Bool) → ((b : Bool) → applied op b false ≡ b) → (f ≡ true → s ≡ false) → applied op (n || f) s ≡ (f || applied op n s)
split op true true s keeps gone = rw (gone refl) (keeps true)
split op false true s keeps gone = rw (gone refl) (keeps true)
split op true false s keeps gone = refl
split op false false s keeps gone = refl

aside_alike : (t s frame : Rect) → sides_of t ≡ sides_of s → IsAside s frame → IsAside t frame
aside_alike t s frame same aside = subst (λ (z : Sides). ((z.right <ℤ frame.x1) ⊎ (frame.x2 <ℤ z.left)) ⊎ ((z.top <ℤ frame.y1) ⊎ (frame.y2 <ℤ z.bottom))) (sym same) aside

-- where a far run has a square, no other run has it, and the second set neither
no_near : (frame : Rect) (first near far : List Rect) (x y : ℤ) → AreRunsOf (covered first) first → ArePartedBy frame first near far → covered far x y ≡ true → covered near x y ≡ false
no_near frame first near far x y are parted is = false_from_ne_true (covered near x y) (λ too. let s = holder far x y is in let t = holder near x y too in meet s.rect t.rect s.among t.among s.holds_it t.holds_it)
  where
    meet : (s t : Rect) → Contains far s → Contains near t → squares s x y ≡ true → squares t x y ≡ true → ⊥
    meet s t in_far in_near in_s in_t = All-contains (λ r. IsAside r frame → ⊥) near t parted.near_not in_near
        (aside_alike t s frame (same_run (covered first) (sides_of t) (sides_of s) x y (All-contains (λ r. IsRun (covered first) (sides_of r)) first t are.each (parted.near_in t in_near)) (All-contains (λ r. IsRun (covered first) (sides_of r)) first s are.each (parted.far_in s in_far)) in_t in_s)
        (All-contains (λ r. IsAside r frame) far s parted.far_aside in_far))

no_second : (frame : Rect) (first near far : List Rect) (q : ℤ → ℤ → Bool) (x y : ℤ) → ((x y : ℤ) → q x y ≡ true → squares frame x y ≡ true) → ArePartedBy frame first near far → covered far x y ≡ true → q x y ≡ false
no_second frame first near far q x y within parted is = false_from_ne_true (q x y) (λ too. let s = holder far x y is in meet s.rect s.among s.holds_it too)
  where
    meet : (s : Rect) → Contains far s → squares s x y ≡ true → q x y ≡ true → ⊥
    meet s in_far in_s too = let w = square_within s x y in_s in
        out s frame x y (All-contains (λ r. IsAside r frame) far s parted.far_aside in_far) (omega (arith, ints, w.0.0)) (omega (arith, ints, w.0.1)) (omega (arith, ints, w.1.0)) (omega (arith, ints, w.1.1)) (within x y too)

kept_runs : (op : Operation) (frame : Rect) (first second near far changed : List Rect) → ((b : Bool) → applied op b false ≡ b) → AreRunsOf (covered first) first → ((x y : ℤ) → covered second x y ≡ true → squares frame x y ≡ true)
    → ArePartedBy frame first near far → AreRunsOf (λ x y. applied op (covered near x y) (covered second x y)) changed → AreRunsOf (λ x y. applied op (covered first x y) (covered second x y)) (far ++ changed)
kept_runs op frame first second near far changed keeps are within parted new = all_beside (λ x y. applied op (covered first x y) (covered second x y)) (λ x y. applied op (covered near x y) (covered second x y)) far changed (record {
  runs = All-weaker (Contains far) (λ s. IsRun (λ x y. applied op (covered first x y) (covered second x y)) (sides_of s))
      (λ s among. far_run op (covered first) (covered second) s frame keeps within (All-contains (λ r. IsAside r frame) far s parted.far_aside among) (All-contains (λ r. IsRun (covered first) (sides_of r)) first s are.each (parted.far_in s among))) far (All-contains_itself far);
  squares = λ x y. ap (λ b. applied op b (covered second x y)) (parted.squares x y) ∙ split op (covered near x y) (covered far x y) (covered second x y) keeps (λ is. no_second frame first near far (covered second) x y within parted is);
  apart = λ x y is. rw (no_near frame first near far x y are parted is, no_second frame first near far (covered second) x y within parted is) (keeps false);
}) new

pub changed_runs : (op : Operation) (frame : Rect) (first second near far changed : List Rect) → AreRunsOf (covered first) first → ((x y : ℤ) → covered second x y ≡ true → squares frame x y ≡ true)
    → ArePartedBy frame first near far → AreRunsOf (λ x y. applied op (covered near x y) (covered second x y)) changed → AreRunsOf (λ x y. applied op (covered first x y) (covered second x y)) (unchanged op far ++ changed)
changed_runs Union frame first second near far changed are within parted new = kept_runs Union frame first second near far changed or_false are within parted new
  where
    or_false : (b : Bool) → applied Union b false ≡ b
    or_false true = refl
    or_false false = refl
changed_runs Minus frame first second near far changed are within parted new = kept_runs Minus frame first second near far changed and_not are within parted new
  where
    and_not : (b : Bool) → applied Minus b false ≡ b
    and_not true = refl
    and_not false = refl
changed_runs Meet frame first second near far changed are within parted new = runs_alike (λ x y. covered first x y && covered second x y) (λ x y. covered near x y && covered second x y) changed
    (λ x y. ap (λ b. b && covered second x y) (parted.squares x y) ∙ met (covered near x y) (covered far x y) (covered second x y) (λ is. no_second frame first near far (covered second) x y within parted is)) new
  where
    met : (n f s : Bool) → (f ≡ true → s ≡ false) → ((n || f) && s) ≡ (n && s)
    met true f s gone = refl
    met false true s gone = gone refl
    met false false s gone = refl

-- with nothing
pub kept_alone : (op : Operation) (first second : List Rect) → AreRunsOf (covered first) first → second ≡ [] → AreRunsOf (λ x y. applied op (covered first x y) (covered second x y)) (unchanged op first)
kept_alone Union first second are none = runs_alike (λ x y. covered first x y || covered second x y) (covered first) first (λ x y. rw none (or_false (covered first x y))) are
  where
    or_false : (b : Bool) → (b || false) ≡ b
    or_false true = refl
    or_false false = refl
kept_alone Minus first second are none = runs_alike (λ x y. covered first x y && not (covered second x y)) (covered first) first (λ x y. rw none (and_true (covered first x y))) are
  where
    and_true : (b : Bool) → (b && true) ≡ b
    and_true true = refl
    and_true false = refl
kept_alone Meet first second are none = record {
  each = All-nil (λ r. IsRun (λ x y. covered first x y && covered second x y) (sides_of r));
  all = λ x y is. absurd (nothing (covered first x y) (rw none at is));
}
  where
    nothing : (b : Bool) → (b && false) ≡ true → ⊥
    nothing true is = true≢false (sym is)
    nothing false is = true≢false (sym is)

-- ---- the runs in two, one by one

pub none_parted : (frame : Rect) (runs : List Rect) → ArePartedBy frame [] [] []
none_parted frame runs = record { squares = λ x y. refl; near_in = λ r is. is; far_in = λ r is. is; near_not = All-nil (λ r. IsAside r frame → ⊥); far_aside = All-nil (λ r. IsAside r frame) }

pub one_near : (frame : Rect) (runs near far : List Rect) (k : ℕ) (d : Rect) → k < length runs → d ≡ get_or runs k d → (IsAside d frame → ⊥) → ArePartedBy frame (take k runs) near far → ArePartedBy frame (take (k + 1) runs) (near ++ d ∷ []) far
one_near frame runs near far k d lt is not p = record {
  squares = λ x y. covered_more runs k d x y lt is ∙ (ap (λ b. b || squares d x y) (p.squares x y) ∙ (swap (covered near x y) (covered far x y) (squares d x y) ∙ ap (λ b. b || covered far x y) (sym (covered_push near d x y))));
  near_in = λ r among. ⊎_elim (λ old. more r (p.near_in r old)) (λ new. last r new) (Contains-push_cases near d r among);
  far_in = λ r among. more r (p.far_in r among);
  near_not = All-push (λ r. IsAside r frame → ⊥) near d p.near_not not;
  far_aside = p.far_aside;
}
  where
    more : (r : Rect) → Contains (take k runs) r → Contains (take (k + 1) runs) r
    more r among = subst (λ rs. Contains rs r) (sym (one_more runs k d lt is)) (Contains-append_left (take k runs) (d ∷ []) r among)

    last : (r : Rect) → d ≡ r → Contains (take (k + 1) runs) r
    last r same = subst (λ rs. Contains rs r) (sym (one_more runs k d lt is)) (subst (Contains (take k runs ++ d ∷ [])) same (Contains-append_right (take k runs) (d ∷ []) d (here d)))
      where
        here : (r : Rect) → Contains (r ∷ []) r
        here r = search rules

    swap : (a o d : Bool) → ((a || o) || d) ≡ ((a || d) || o)
    swap true o d = refl
    swap false true true = refl
    swap false true false = refl
    swap false false true = refl
    swap false false false = refl

pub one_far : (frame : Rect) (runs near far : List Rect) (k : ℕ) (d : Rect) → k < length runs → d ≡ get_or runs k d → IsAside d frame → ArePartedBy frame (take k runs) near far → ArePartedBy frame (take (k + 1) runs) near (far ++ d ∷ [])
one_far frame runs near far k d lt is aside p = record {
  squares = λ x y. covered_more runs k d x y lt is ∙ (ap (λ b. b || squares d x y) (p.squares x y) ∙ (assoc (covered near x y) (covered far x y) (squares d x y) ∙ ap (λ b. covered near x y || b) (sym (covered_push far d x y))));
  near_in = λ r among. more r (p.near_in r among);
  far_in = λ r among. ⊎_elim (λ old. more r (p.far_in r old)) (λ new. last r new) (Contains-push_cases far d r among);
  near_not = p.near_not;
  far_aside = All-push (λ r. IsAside r frame) far d p.far_aside aside;
}
  where
    more : (r : Rect) → Contains (take k runs) r → Contains (take (k + 1) runs) r
    more r among = subst (λ rs. Contains rs r) (sym (one_more runs k d lt is)) (Contains-append_left (take k runs) (d ∷ []) r among)

    last : (r : Rect) → d ≡ r → Contains (take (k + 1) runs) r
    last r same = subst (λ rs. Contains rs r) (sym (one_more runs k d lt is)) (subst (Contains (take k runs ++ d ∷ [])) same (Contains-append_right (take k runs) (d ∷ []) d (here d)))
      where
        here : (r : Rect) → Contains (r ∷ []) r
        here r = search rules

    assoc : (a o d : Bool) → ((a || o) || d) ≡ (a || (o || d))
    assoc true o d = refl
    assoc false o d = refl

-- ---- numbers compared

pub aside_yes : (a b c d e f g h : ℤ) → (((int_lt a b || int_lt c d) || int_lt e f) || int_lt g h) ≡ true → ((a <ℤ b) ⊎ (c <ℤ d)) ⊎ ((e <ℤ f) ⊎ (g <ℤ h))
aside_yes a b c d e f g h is = ⊎_elim
    (λ first. ⊎_elim (λ across. inl (⊎_elim (λ l. inl (is_lt a b l)) (λ r. inr (is_lt c d r)) (either (int_lt a b) (int_lt c d) across))) (λ up. inr (inl (is_lt e f up))) (either (int_lt a b || int_lt c d) (int_lt e f) first))
    (λ last. inr (inr (is_lt g h last)))
    (either ((int_lt a b || int_lt c d) || int_lt e f) (int_lt g h) is)

lt_is : (a b : ℤ) → a <ℤ b → int_lt a b ≡ true
lt_is a b lt = grind (arith, ints)

pub aside_no : (a b c d e f g h : ℤ) → ((a <ℤ b) ⊎ (c <ℤ d)) ⊎ ((e <ℤ f) ⊎ (g <ℤ h)) → (((int_lt a b || int_lt c d) || int_lt e f) || int_lt g h) ≡ true
aside_no a b c d e f g h aside = ⊎_elim
    (λ across. or_left ((int_lt a b || int_lt c d) || int_lt e f) (int_lt g h) (or_left (int_lt a b || int_lt c d) (int_lt e f) (⊎_elim (λ l. or_left (int_lt a b) (int_lt c d) (lt_is a b l)) (λ r. or_right (int_lt a b) (int_lt c d) (lt_is c d r)) across)))
    (λ up. ⊎_elim (λ l. or_left ((int_lt a b || int_lt c d) || int_lt e f) (int_lt g h) (or_right (int_lt a b || int_lt c d) (int_lt e f) (lt_is e f l))) (λ r. or_right ((int_lt a b || int_lt c d) || int_lt e f) (int_lt g h) (lt_is g h r)) up) aside

-- ---- a rectangle around two

pub least_of : (m a b s t : ℤ) → m ≡ int_min (read a) (read b) → a ≡ s → b ≡ t → FitsSigned w64 s → FitsSigned w64 t → read m ≡ int_min s t
least_of m a b s t value is_a is_b fits_a fits_b = least_read (read m) m a s t refl (subst (λ z. m ≡ int_min (read a) (read z)) is_b value) is_a fits_a fits_b

pub most_of : (m a b s t : ℤ) → m ≡ int_max (read a) (read b) → a ≡ s → b ≡ t → FitsSigned w64 s → FitsSigned w64 t → read m ≡ int_max s t
most_of m a b s t value is_a is_b fits_a fits_b = most_read (read m) m a s t refl (subst (λ z. m ≡ int_max (read a) (read z)) is_b value) is_a fits_a fits_b

pub least_in : (z s t low : ℤ) → z ≡ int_min s t → low ≤ℤ s → low ≤ℤ t → low ≤ℤ z
least_in z s t low is a b = omega (arith, ints, clamps)

pub most_in : (z s t high : ℤ) → z ≡ int_max s t → s ≤ℤ high → t ≤ℤ high → z ≤ℤ high
most_in z s t high is a b = omega (arith, ints, clamps)

pub still_wide : (z v a b c d : ℤ) → z ≡ int_min a c → v ≡ int_max b d → a <ℤ b → z <ℤ v
still_wide z v a b c d is_z is_v wide = omega (arith, ints, clamps)

pub in_around : (r s t : Rect) (x y : ℤ) → r.x1 ≡ int_min s.x1 t.x1 → r.y1 ≡ int_min s.y1 t.y1 → r.x2 ≡ int_max s.x2 t.x2 → r.y2 ≡ int_max s.y2 t.y2 → (squares s x y ≡ true) ⊎ (squares t x y ≡ true) → squares r x y ≡ true
in_around r s t x y a b c d one = ⊎_elim (λ is. let w = square_within s x y is in first w.0.0 w.0.1 w.1.0 w.1.1) (λ is. let w = square_within t x y is in second w.0.0 w.0.1 w.1.0 w.1.1) one
  where
    low : (z u v n : ℤ) → z ≡ int_min u v → u ≤ℤ n → z ≤ℤ n
    low z u v n is le = omega (arith, ints, clamps)

    low_too : (z u v n : ℤ) → z ≡ int_min u v → v ≤ℤ n → z ≤ℤ n
    low_too z u v n is le = omega (arith, ints, clamps)

    high : (z u v n : ℤ) → z ≡ int_max u v → n <ℤ u → n <ℤ z
    high z u v n is lt = omega (arith, ints, clamps)

    high_too : (z u v n : ℤ) → z ≡ int_max u v → n <ℤ v → n <ℤ z
    high_too z u v n is lt = omega (arith, ints, clamps)

    first : s.x1 ≤ℤ x → x <ℤ s.x2 → s.y1 ≤ℤ y → y <ℤ s.y2 → squares r x y ≡ true
    first e f g h = square_in r x y (low r.x1 s.x1 t.x1 x a e) (high r.x2 s.x2 t.x2 x c f) (low r.y1 s.y1 t.y1 y b g) (high r.y2 s.y2 t.y2 y d h)

    second : t.x1 ≤ℤ x → x <ℤ t.x2 → t.y1 ≤ℤ y → y <ℤ t.y2 → squares r x y ≡ true
    second e f g h = square_in r x y (low_too r.x1 s.x1 t.x1 x a e) (high_too r.x2 s.x2 t.x2 x c f) (low_too r.y1 s.y1 t.y1 y b g) (high_too r.y2 s.y2 t.y2 y d h)

-- ---- the runs of a region are those of their own squares

pub own_runs : (rects : List Rect) → AreRuns (map sides_of rects) → AreRunsOf (covered rects) rects
own_runs rects are = record {
  each = λ k d lt. run_alike (covered rects) (holds (map sides_of rects)) (sides_of (get_or rects k d)) (λ x y. covered_sides rects x y)
      (subst (λ s. IsRun (holds (map sides_of rects)) s) (get_or-map sides_of rects k d (sides_of d) lt) (are.each k (sides_of d) (long k lt)));
  all = λ x y is. is;
}
  where
    length_map : (rs : List Rect) → length (map sides_of rs) ≡ length rs
    length_map [] = refl
    length_map (r ∷ rs) = ap suc (length_map rs)

    long : (k : ℕ) → k < length rects → k < length (map sides_of rects)
    long k lt = let e = length_map rects in omega (arith, lt, e)
