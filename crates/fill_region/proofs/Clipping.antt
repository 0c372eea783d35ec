-- Runs of a set, clipped at a frame: which of the clips are runs of what they hold together, and which make those with one another.
use Rattle.std.proofs.Common.{◌≡◌, ℕ, ◌+◌, ◌<◌, ℤ, pos, ◌-ℤ◌, ◌≤ℤ◌, ◌<ℤ◌, Bool, true, false, ◌&&◌, ◌||◌, List, [], ◌∷◌, ◌++◌, length, take, get_or, refl, sym, ◌∙◌, ap, subst, arith, ⊎_elim}
use Rattle.std.specs.Prelude.{All, int_lt}
use Rattle.std.specs.List.{Contains}
use Rattle.std.proofs.lemmas.Bool.{false_from_ne_true}
use Rattle.std.proofs.lemmas.Int.{ints, by_lt_z}
use Rattle.std.proofs.lemmas.List.Elements.{All-append, All-contains, All-push, All-weaker, All-contains_itself, Contains-append_left, Contains-append_right, Contains-append_cases, Contains-push}
use Rattle.fill_base.specs.declared.rect.Rect.{Rect}
use Rattle.fill_base.specs.Sides.{sides_of}
use Rattle.fill_base.specs.Squares.{squares}
use Rattle.fill_base.proofs.Between.{is_between_true}
use Rattle.fill_base.proofs.Signed.{is_lt}
use Rattle.fill_bands.specs.Squares.{covered}
use Rattle.fill_region.specs.Runs.{Sides, IsInterval, IsRun}
use Rattle.fill_region.specs.Near.{AreSomeRuns}
use Rattle.fill_region.specs.Clips.{lies_inside, IsPart, ArePartsWithin}
use Rattle.fill_region.specs.Steps.{AreRunsOf}
use Rattle.fill_region.proofs.Cutting.{one_part, no_part}
use Rattle.fill_region.proofs.Intervals.{and_first, and_second, true_false, same_left, same_right}
use Rattle.fill_region.proofs.Members.{either, or_left, or_right, square_within, holder, held, covered_either, covered_push, runs_alike, one_more}

pub square_in : (r : Rect) (x y : ℤ) → r.x1 ≤ℤ x → x <ℤ r.x2 → r.y1 ≤ℤ y → y <ℤ r.y2 → squares r x y ≡ true
square_in r x y a b c d = rw (is_between_true r.x1 r.x2 x a b, is_between_true r.y1 r.y2 y c d) refl

-- ---- a clip of a run: where a side lies within the frame, it is the run's

pub record IsClip (p : ℤ → ℤ → Bool) (frame clip : Rect) : Type 0 where
  pub run : Sides
  pub is_run : IsRun p run
  pub frame_left : frame.x1 ≤ℤ clip.x1
  pub frame_bottom : frame.y1 ≤ℤ clip.y1
  pub frame_right : clip.x2 ≤ℤ frame.x2
  pub frame_top : clip.y2 ≤ℤ frame.y2
  pub run_left : run.left ≤ℤ clip.x1
  pub run_bottom : run.bottom ≤ℤ clip.y1
  pub run_right : clip.x2 ≤ℤ run.right
  pub run_top : clip.y2 ≤ℤ run.top
  pub left : frame.x1 <ℤ clip.x1 → run.left ≡ clip.x1
  pub bottom : frame.y1 <ℤ clip.y1 → run.bottom ≡ clip.y1
  pub right : clip.x2 <ℤ frame.x2 → run.right ≡ clip.x2
  pub top : clip.y2 <ℤ frame.y2 → run.top ≡ clip.y2

-- a square of the rectangle and of the frame is one of the part
in_part : (rect frame part : Rect) (x y : ℤ) → squares part x y ≡ (squares rect x y && squares frame x y) → squares rect x y ≡ true → squares frame x y ≡ true → squares part x y ≡ true
in_part rect frame part x y same a b = same ∙ rw (a, b) refl

-- the rectangle and the frame reach as far as the part
record Reaches (rect part : Rect) : Type 0 where
  left : rect.x1 ≤ℤ part.x1
  bottom : rect.y1 ≤ℤ part.y1
  right : part.x2 ≤ℤ rect.x2
  top : part.y2 ≤ℤ rect.y2

reaches : (rect part : Rect) → ((x y : ℤ) → squares part x y ≡ true → squares rect x y ≡ true) → Reaches rect part
reaches rect part within =
    let low = square_within rect part.x1 part.y1 (within part.x1 part.y1 (square_in part part.x1 part.y1 (omega (arith, ints)) part.wide (omega (arith, ints)) part.tall)) in
    let high = square_within rect (part.x2 -ℤ pos 1) (part.y2 -ℤ pos 1) (within (part.x2 -ℤ pos 1) (part.y2 -ℤ pos 1)
    (square_in part (part.x2 -ℤ pos 1) (part.y2 -ℤ pos 1) (omega (arith, ints, part.wide)) (omega (arith, ints)) (omega (arith, ints, part.tall)) (omega (arith, ints)))) in
    record {
      left = low.0.0;
      bottom = low.1.0;
      right = omega (arith, ints, high.0.1);
      top = omega (arith, ints, high.1.1);
    }

-- no square beside the part is one of both
not_both : (rect frame part : Rect) (x y : ℤ) → squares part x y ≡ (squares rect x y && squares frame x y) → (((part.x1 ≤ℤ x) × (x <ℤ part.x2)) × ((part.y1 ≤ℤ y) × (y <ℤ part.y2)) → ⊥)
    → squares rect x y ≡ true → squares frame x y ≡ true → ⊥
not_both rect frame part x y same out a b = out (square_within part x y (in_part rect frame part x y same a b))

pub clip_of : (p : ℤ → ℤ → Bool) (rect frame part : Rect) → IsRun p (sides_of rect) → ((x y : ℤ) → squares part x y ≡ (squares rect x y && squares frame x y)) → IsClip p frame part
clip_of p rect frame part is_run same =
    let r = reaches rect part (λ x y is. and_first (squares rect x y) (squares frame x y) (sym (same x y) ∙ is)) in
    let f = reaches frame part (λ x y is. and_second (squares rect x y) (squares frame x y) (sym (same x y) ∙ is)) in
    record {
      run = sides_of rect;
      is_run = is_run;
      frame_left = f.left;
      frame_bottom = f.bottom;
      frame_right = f.right;
      frame_top = f.top;
      run_left = r.left;
      run_bottom = r.bottom;
      run_right = r.right;
      run_top = r.top;
      left = λ lt. left r f lt;
      bottom = λ lt. bottom r f lt;
      right = λ lt. right r f lt;
      top = λ lt. top r f lt;
    }
  where
    beside : (x y : ℤ) → Reaches rect part → Reaches frame part → (((part.x1 ≤ℤ x) × (x <ℤ part.x2)) × ((part.y1 ≤ℤ y) × (y <ℤ part.y2)) → ⊥)
        → ((rect.x1 ≤ℤ x) × (x <ℤ rect.x2)) × ((rect.y1 ≤ℤ y) × (y <ℤ rect.y2)) → ((frame.x1 ≤ℤ x) × (x <ℤ frame.x2)) × ((frame.y1 ≤ℤ y) × (y <ℤ frame.y2)) → ⊥
    beside x y r f out a b = not_both rect frame part x y (same x y) out (square_in rect x y a.0.0 a.0.1 a.1.0 a.1.1) (square_in frame x y b.0.0 b.0.1 b.1.0 b.1.1)

    left : Reaches rect part → Reaches frame part → frame.x1 <ℤ part.x1 → rect.x1 ≡ part.x1
    left r f lt = by_lt_z rect.x1 part.x1 (λ under. absurd (beside (part.x1 -ℤ pos 1) part.y1 r f (λ i. omega (arith, ints, i.0.0))
        ((omega (arith, ints), omega (arith, ints, part.wide, r.right)), (r.bottom, omega (arith, ints, part.tall, r.top)))
        ((omega (arith, ints), omega (arith, ints, part.wide, f.right)), (f.bottom, omega (arith, ints, part.tall, f.top)))))
        (λ over. omega (arith, ints, r.left))

    bottom : Reaches rect part → Reaches frame part → frame.y1 <ℤ part.y1 → rect.y1 ≡ part.y1
    bottom r f lt = by_lt_z rect.y1 part.y1 (λ under. absurd (beside part.x1 (part.y1 -ℤ pos 1) r f (λ i. omega (arith, ints, i.1.0))
        ((r.left, omega (arith, ints, part.wide, r.right)), (omega (arith, ints), omega (arith, ints, part.tall, r.top)))
        ((f.left, omega (arith, ints, part.wide, f.right)), (omega (arith, ints), omega (arith, ints, part.tall, f.top)))))
        (λ over. omega (arith, ints, r.bottom))

    right : Reaches rect part → Reaches frame part → part.x2 <ℤ frame.x2 → rect.x2 ≡ part.x2
    right r f lt = by_lt_z part.x2 rect.x2 (λ over. absurd (beside part.x2 part.y1 r f (λ i. omega (arith, ints, i.0.1))
        ((omega (arith, ints, part.wide, r.left), over), (r.bottom, omega (arith, ints, part.tall, r.top)))
        ((omega (arith, ints, part.wide, f.left), lt), (f.bottom, omega (arith, ints, part.tall, f.top)))))
        (λ under. omega (arith, ints, r.right))

    top : Reaches rect part → Reaches frame part → part.y2 <ℤ frame.y2 → rect.y2 ≡ part.y2
    top r f lt = by_lt_z part.y2 rect.y2 (λ over. absurd (beside part.x1 part.y2 r f (λ i. omega (arith, ints, i.1.1))
        ((r.left, omega (arith, ints, part.wide, r.right)), (omega (arith, ints, part.tall, r.bottom), over))
        ((f.left, omega (arith, ints, part.wide, f.right)), (omega (arith, ints, part.tall, f.bottom), lt))))
        (λ under. omega (arith, ints, r.top))

-- ---- a list of clips

-- each square of clips lies in the frame and in the set
clips_in_frame : (p : ℤ → ℤ → Bool) (frame : Rect) (clips : List Rect) → All (IsClip p frame) clips → (x y : ℤ) → covered clips x y ≡ true → ((frame.x1 ≤ℤ x) × (x <ℤ frame.x2)) × ((frame.y1 ≤ℤ y) × (y <ℤ frame.y2))
clips_in_frame p frame clips are x y is =
    let h = holder clips x y is in
    let c = All-contains (IsClip p frame) clips h.rect are h.among in
    let w = square_within h.rect x y h.holds_it in
    ((omega (arith, ints, c.frame_left, w.0.0), omega (arith, ints, c.frame_right, w.0.1)), (omega (arith, ints, c.frame_bottom, w.1.0), omega (arith, ints, c.frame_top, w.1.1)))

clips_in_set : (p : ℤ → ℤ → Bool) (frame : Rect) (clips : List Rect) → All (IsClip p frame) clips → (x y : ℤ) → covered clips x y ≡ true → p x y ≡ true
clips_in_set p frame clips are x y is =
    let h = holder clips x y is in
    let c = All-contains (IsClip p frame) clips h.rect are h.among in
    let w = square_within h.rect x y h.holds_it in
    let row : IsInterval p c.run.left c.run.right y = c.is_run.rows y (omega (arith, ints, c.run_bottom, w.1.0)) (omega (arith, ints, c.run_top, w.1.1)) in
    row.filled x (omega (arith, ints, c.run_left, w.0.0)) (omega (arith, ints, c.run_right, w.0.1))

-- each row of a clip is an interval of what the clips hold
clip_interval : (p : ℤ → ℤ → Bool) (frame : Rect) (clips : List Rect) → All (IsClip p frame) clips → (clip : Rect) → Contains clips clip → (y : ℤ) → clip.y1 ≤ℤ y → y <ℤ clip.y2 → IsInterval (covered clips) clip.x1 clip.x2 y
clip_interval p frame clips are clip among y low high = record {
  filled = λ x left right. held clips clip x y among (square_in clip x y left right low high);
  before = false_from_ne_true (covered clips (clip.x1 -ℤ pos 1) y) (λ is.
      let at : c.run.left ≡ clip.x1 = c.left (omega (arith, ints, (clips_in_frame p frame clips are (clip.x1 -ℤ pos 1) y is).0.0)) in
      true_false (p (clip.x1 -ℤ pos 1) y) (clips_in_set p frame clips are (clip.x1 -ℤ pos 1) y is) (subst (λ x. p (x -ℤ pos 1) y ≡ false) at row.before));
  after = false_from_ne_true (covered clips clip.x2 y) (λ is.
      let at : c.run.right ≡ clip.x2 = c.right (clips_in_frame p frame clips are clip.x2 y is).0.1 in
      true_false (p clip.x2 y) (clips_in_set p frame clips are clip.x2 y is) (subst (λ x. p x y ≡ false) at row.after));
}
  where
    c : IsClip p frame clip
    c = All-contains (IsClip p frame) clips clip are among

    row : IsInterval p c.run.left c.run.right y
    row = c.is_run.rows y (omega (arith, ints, c.run_bottom, low)) (omega (arith, ints, c.run_top, high))

-- the clip whose row an interval of what the clips hold is
record ClipAt (clips : List Rect) (left right y : ℤ) : Type 0 where
  clip : Rect
  among : Contains clips clip
  left_is : clip.x1 ≡ left
  right_is : clip.x2 ≡ right
  low : clip.y1 ≤ℤ y
  high : y <ℤ clip.y2

clip_at : (p : ℤ → ℤ → Bool) (frame : Rect) (clips : List Rect) → All (IsClip p frame) clips → (left right y : ℤ) → left <ℤ right → IsInterval (covered clips) left right y → ClipAt clips left right y
clip_at p frame clips are left right y wide i =
    let self : left ≤ℤ left = omega (arith, ints) in
    let h = holder clips left y (i.filled left self wide) in
    let w = square_within h.rect left y h.holds_it in
    let j : IsInterval (covered clips) h.rect.x1 h.rect.x2 y = clip_interval p frame clips are h.rect h.among y w.1.0 w.1.1 in
    record {
      clip = h.rect;
      among = h.among;
      left_is = same_left (covered clips) h.rect.x1 h.rect.x2 left right y left j i w.0.0 w.0.1 self wide;
      right_is = same_right (covered clips) h.rect.x1 h.rect.x2 left right y left j i w.0.0 w.0.1 self wide;
      low = w.1.0;
      high = w.1.1;
    }

moved : (p : ℤ → ℤ → Bool) (l r y m n z : ℤ) → l ≡ m → r ≡ n → y ≡ z → IsInterval p l r y → IsInterval p m n z
moved p l r y m n z a b c i = subst (λ k. IsInterval p m n k) c (subst (λ k. IsInterval p m k y) b (subst (λ k. IsInterval p k r y) a i))

-- ---- a clip that reaches neither side of the frame

inside_left : (frame clip : Rect) → lies_inside frame clip ≡ true → frame.x1 <ℤ clip.x1
inside_left frame clip is = is_lt frame.x1 clip.x1 (and_first (int_lt frame.x1 clip.x1) (int_lt clip.x2 frame.x2) is)

inside_right : (frame clip : Rect) → lies_inside frame clip ≡ true → clip.x2 <ℤ frame.x2
inside_right frame clip is = is_lt clip.x2 frame.x2 (and_second (int_lt frame.x1 clip.x1) (int_lt clip.x2 frame.x2) is)

-- where it lies between the same sides as another clip, that one's run lies between the same sides as its own
between_sides : (p : ℤ → ℤ → Bool) (frame clip other : Rect) → lies_inside frame clip ≡ true → (c : IsClip p frame clip) → (d : IsClip p frame other) → other.x1 ≡ clip.x1 → other.x2 ≡ clip.x2
    → (y : ℤ) → other.y1 ≤ℤ y → y <ℤ other.y2 → IsInterval p c.run.left c.run.right y
between_sides p frame clip other inside c d l r y low high =
    moved p d.run.left d.run.right y c.run.left c.run.right y
    (d.left (subst (λ x. frame.x1 <ℤ x) (sym l) (inside_left frame clip inside)) ∙ (l ∙ sym (c.left (inside_left frame clip inside))))
    (d.right (subst (λ x. x <ℤ frame.x2) (sym r) (inside_right frame clip inside)) ∙ (r ∙ sym (c.right (inside_right frame clip inside)))) refl
    (d.is_run.rows y (omega (arith, ints, d.run_bottom, low)) (omega (arith, ints, d.run_top, high)))

inner_run : (p : ℤ → ℤ → Bool) (frame : Rect) (clips : List Rect) → All (IsClip p frame) clips → (clip : Rect) → Contains clips clip → lies_inside frame clip ≡ true → IsRun (covered clips) (sides_of clip)
inner_run p frame clips are clip among inside = record {
  wide = clip.wide;
  tall = clip.tall;
  rows = λ y low high. clip_interval p frame clips are clip among y low high;
  begins = λ i.
      let d = clip_at p frame clips are clip.x1 clip.x2 (clip.y1 -ℤ pos 1) clip.wide i in
      let e = All-contains (IsClip p frame) clips d.clip are d.among in
      let at : c.run.bottom ≡ clip.y1 = c.bottom (omega (arith, ints, e.frame_bottom, d.low)) in
      c.is_run.begins (subst (λ y. IsInterval p c.run.left c.run.right (y -ℤ pos 1)) (sym at) (between_sides p frame clip d.clip inside c e d.left_is d.right_is (clip.y1 -ℤ pos 1) d.low d.high));
  ends = λ i.
      let d = clip_at p frame clips are clip.x1 clip.x2 clip.y2 clip.wide i in
      let e = All-contains (IsClip p frame) clips d.clip are d.among in
      let at : c.run.top ≡ clip.y2 = c.top (omega (arith, ints, e.frame_top, d.high)) in
      c.is_run.ends (subst (λ y. IsInterval p c.run.left c.run.right y) (sym at) (between_sides p frame clip d.clip inside c e d.left_is d.right_is clip.y2 d.low d.high));
}
  where
    c : IsClip p frame clip
    c = All-contains (IsClip p frame) clips clip are among

-- ---- the others

-- an interval of all clips between the sides of one of those beside is one of theirs
stays_beside : (p : ℤ → ℤ → Bool) (frame : Rect) (inner beside : List Rect) → All (IsClip p frame) (inner ++ beside) → All (IsClip p frame) beside → All (λ r. lies_inside frame r ≡ true) inner → All (λ r. lies_inside frame r ≡ false) beside
    → (left right y z : ℤ) → left <ℤ right → IsInterval (covered beside) left right z → IsInterval (covered (inner ++ beside)) left right y → IsInterval (covered beside) left right y
stays_beside p frame inner beside all others inner_in beside_out left right y z wide there here =
    let c = clip_at p frame beside others left right z wide there in
    let d = clip_at p frame (inner ++ beside) all left right y wide here in
    let out : lies_inside frame c.clip ≡ false = All-contains (λ r. lies_inside frame r ≡ false) beside c.clip beside_out c.among in
    ⊎_elim (λ in_inner. absurd (true_false (int_lt frame.x1 left && int_lt right frame.x2)
    (at_sides d.clip true left right d.left_is d.right_is (All-contains (λ r. lies_inside frame r ≡ true) inner d.clip inner_in in_inner)) (at_sides c.clip false left right c.left_is c.right_is out)))
    (λ among. moved (covered beside) d.clip.x1 d.clip.x2 y left right y d.left_is d.right_is refl (clip_interval p frame beside others d.clip among y d.low d.high))
    (Contains-append_cases inner beside d.clip d.among)
  where
    at_sides : (clip : Rect) (b : Bool) (l r : ℤ) → clip.x1 ≡ l → clip.x2 ≡ r → lies_inside frame clip ≡ b → (int_lt frame.x1 l && int_lt r frame.x2) ≡ b
    at_sides clip b l r e f is = subst (λ k. (int_lt frame.x1 l && int_lt k frame.x2) ≡ b) f (subst (λ k. (int_lt frame.x1 k && int_lt clip.x2 frame.x2) ≡ b) e is)

beside_run : (p : ℤ → ℤ → Bool) (frame : Rect) (inner beside : List Rect) → All (IsClip p frame) (inner ++ beside) → All (IsClip p frame) beside → All (λ r. lies_inside frame r ≡ true) inner → All (λ r. lies_inside frame r ≡ false) beside
    → (s : Sides) → IsRun (covered beside) s → IsRun (covered (inner ++ beside)) s
beside_run p frame inner beside all others inner_in beside_out s run = record {
  wide = run.wide;
  tall = run.tall;
  rows = λ y low high.
      let c = clip_at p frame beside others s.left s.right y run.wide (run.rows y low high) in
      moved (covered (inner ++ beside)) c.clip.x1 c.clip.x2 y s.left s.right y c.left_is c.right_is refl (clip_interval p frame (inner ++ beside) all c.clip (Contains-append_right inner beside c.clip c.among) y c.low c.high);
  begins = λ i. run.begins (stays_beside p frame inner beside all others inner_in beside_out s.left s.right (s.bottom -ℤ pos 1) s.bottom run.wide (run.rows s.bottom (omega (arith, ints)) run.tall) i);
  ends = λ i. run.ends (stays_beside p frame inner beside all others inner_in beside_out s.left s.right s.top (s.top -ℤ pos 1) run.wide (run.rows (s.top -ℤ pos 1) (omega (arith, ints, run.tall)) (omega (arith, ints))) i);
}

-- ---- all of them

parts_are_clips : (p : ℤ → ℤ → Bool) (runs : List Rect) (frame : Rect) (parts : List Rect) → All (λ r. IsRun p (sides_of r)) runs → All (IsPart runs frame) parts → All (IsClip p frame) parts
parts_are_clips p runs frame parts each are = All-weaker (IsPart runs frame) (IsClip p frame) (λ part is. clip_of p is.rect frame part (All-contains (λ r. IsRun p (sides_of r)) runs is.rect each is.among) is.same) parts are

pub clipped_are_runs : (runs : List Rect) (frame : Rect) (inner beside joined : List Rect) → AreSomeRuns runs → ArePartsWithin runs frame inner beside → AreRunsOf (covered beside) joined
    → AreRunsOf (λ x y. covered runs x y && squares frame x y) (inner ++ joined)
clipped_are_runs runs frame inner beside joined some parts are = runs_alike (λ x y. covered runs x y && squares frame x y) (covered (inner ++ beside)) (inner ++ joined) (λ x y. sym (covered_either inner beside x y ∙ parts.all x y)) (record {
  each = All-append is_run inner joined
      (All-weaker (Contains inner) is_run (λ r among. inner_run some.set frame (inner ++ beside) all r (Contains-append_left inner beside r among) (All-contains (λ s. lies_inside frame s ≡ true) inner r parts.inner_in among)) inner (All-contains_itself inner))
      (All-weaker (λ r. IsRun (covered beside) (sides_of r)) is_run (λ r run. beside_run some.set frame inner beside all others parts.inner_in parts.beside_out (sides_of r) run) joined are.each);
  all = λ x y is. covered_either inner joined x y ∙ ⊎_elim (λ a. or_left (covered inner x y) (covered joined x y) a) (λ a. or_right (covered inner x y) (covered joined x y) (are.all x y a))
      (either (covered inner x y) (covered beside x y) (sym (covered_either inner beside x y) ∙ is));
})
  where
    is_run : Rect → Type 0
    is_run r = IsRun (covered (inner ++ beside)) (sides_of r)

    others : All (IsClip some.set frame) beside
    others = parts_are_clips some.set runs frame beside some.each parts.beside_parts

    all : All (IsClip some.set frame) (inner ++ beside)
    all = All-append (IsClip some.set frame) inner beside (parts_are_clips some.set runs frame inner some.each parts.inner_parts) others

-- ---- one rectangle more

-- a part of one of the first is one of one of these
part_more : (rects : List Rect) (frame : Rect) (k : ℕ) (d part : Rect) → k < length rects → d ≡ get_or rects k d → IsPart (take k rects) frame part → IsPart (take (k + 1) rects) frame part
part_more rects frame k d part lt is p = record {
  rect = p.rect;
  among = subst (λ rs. Contains rs p.rect) (sym (one_more rects k d lt is)) (Contains-append_left (take k rects) (d ∷ []) p.rect p.among);
  same = p.same;
}

parts_more : (rects : List Rect) (frame : Rect) (k : ℕ) (d : Rect) (parts : List Rect) → k < length rects → d ≡ get_or rects k d → All (IsPart (take k rects) frame) parts → All (IsPart (take (k + 1) rects) frame) parts
parts_more rects frame k d parts lt is are = All-weaker (IsPart (take k rects) frame) (IsPart (take (k + 1) rects) frame) (λ part p. part_more rects frame k d part lt is p) parts are

last_part_of : (rects : List Rect) (frame : Rect) (k : ℕ) (d part : Rect) → k < length rects → d ≡ get_or rects k d → ((x y : ℤ) → squares part x y ≡ (squares d x y && squares frame x y)) → IsPart (take (k + 1) rects) frame part
last_part_of rects frame k d part lt is same = record {
  rect = d;
  among = subst (λ rs. Contains rs d) (sym (one_more rects k d lt is)) (Contains-push (take k rects) d);
  same = same;
}

-- the squares of both lists, by those of one list of them all
all_more : (rects : List Rect) (frame : Rect) (inner beside : List Rect) (k : ℕ) (d part : Rect) (x y : ℤ) → k < length rects → d ≡ get_or rects k d → squares part x y ≡ (squares d x y && squares frame x y)
    → (covered inner x y || covered beside x y) ≡ (covered (take k rects) x y && squares frame x y)
    → ((covered inner x y || covered beside x y) || squares part x y) ≡ (covered (take (k + 1) rects) x y && squares frame x y)
all_more rects frame inner beside k d part x y lt is same so_far =
    ap (λ b. b || squares part x y) (sym (covered_either inner beside x y)) ∙ (sym (covered_push (inner ++ beside) part x y) ∙ one_part (squares frame) rects (inner ++ beside) k d part x y lt is same (covered_either inner beside x y ∙ so_far))

or_inner : (a b c : Bool) → ((a || c) || b) ≡ ((a || b) || c)
or_inner true b c = refl
or_inner false true true = refl
or_inner false true false = refl
or_inner false false true = refl
or_inner false false false = refl

or_beside : (a b c : Bool) → (a || (b || c)) ≡ ((a || b) || c)
or_beside true b c = refl
or_beside false b c = refl

pub one_inner : (rects : List Rect) (frame : Rect) (inner beside : List Rect) (k : ℕ) (d part : Rect) → k < length rects → d ≡ get_or rects k d → ((x y : ℤ) → squares part x y ≡ (squares d x y && squares frame x y)) → lies_inside frame part ≡ true
    → ArePartsWithin (take k rects) frame inner beside → ArePartsWithin (take (k + 1) rects) frame (inner ++ part ∷ []) beside
one_inner rects frame inner beside k d part lt is same inside p = record {
  inner_parts = All-push (IsPart (take (k + 1) rects) frame) inner part (parts_more rects frame k d inner lt is p.inner_parts) (last_part_of rects frame k d part lt is same);
  beside_parts = parts_more rects frame k d beside lt is p.beside_parts;
  inner_in = All-push (λ r. lies_inside frame r ≡ true) inner part p.inner_in inside;
  beside_out = p.beside_out;
  all = λ x y. ap (λ b. b || covered beside x y) (covered_push inner part x y) ∙ (or_inner (covered inner x y) (covered beside x y) (squares part x y) ∙ all_more rects frame inner beside k d part x y lt is (same x y) (p.all x y));
}

pub one_beside : (rects : List Rect) (frame : Rect) (inner beside : List Rect) (k : ℕ) (d part : Rect) → k < length rects → d ≡ get_or rects k d → ((x y : ℤ) → squares part x y ≡ (squares d x y && squares frame x y)) → lies_inside frame part ≡ false
    → ArePartsWithin (take k rects) frame inner beside → ArePartsWithin (take (k + 1) rects) frame inner (beside ++ part ∷ [])
one_beside rects frame inner beside k d part lt is same outside p = record {
  inner_parts = parts_more rects frame k d inner lt is p.inner_parts;
  beside_parts = All-push (IsPart (take (k + 1) rects) frame) beside part (parts_more rects frame k d beside lt is p.beside_parts) (last_part_of rects frame k d part lt is same);
  inner_in = p.inner_in;
  beside_out = All-push (λ r. lies_inside frame r ≡ false) beside part p.beside_out outside;
  all = λ x y. ap (λ b. covered inner x y || b) (covered_push beside part x y) ∙ (or_beside (covered inner x y) (covered beside x y) (squares part x y) ∙ all_more rects frame inner beside k d part x y lt is (same x y) (p.all x y));
}

pub none_more : (rects : List Rect) (frame : Rect) (inner beside : List Rect) (k : ℕ) (d : Rect) → k < length rects → d ≡ get_or rects k d → ((x y : ℤ) → (squares d x y && squares frame x y) ≡ false)
    → ArePartsWithin (take k rects) frame inner beside → ArePartsWithin (take (k + 1) rects) frame inner beside
none_more rects frame inner beside k d lt is none p = record {
  inner_parts = parts_more rects frame k d inner lt is p.inner_parts;
  beside_parts = parts_more rects frame k d beside lt is p.beside_parts;
  inner_in = p.inner_in;
  beside_out = p.beside_out;
  all = λ x y. sym (covered_either inner beside x y) ∙ no_part (squares frame) rects (inner ++ beside) k d x y lt is (none x y) (covered_either inner beside x y ∙ p.all x y);
}
