-- The walk over the edges that cross a strip, from left to right.
use Rattle.std.proofs.Common.{◌≡◌, ℕ, ◌+◌, ◌≤◌, ◌<◌, ℤ, ◌≤ℤ◌, ◌<ℤ◌, List, [], ◌∷◌, length, get_or, take, refl, arith, ap, ◌∙◌, sym, Bool, true, false, cond, not, ◌&&◌, ◌||◌, eqb, ◌++◌}
use Rattle.std.specs.Prelude.{int_lt, int_le, All}
use Rattle.std.proofs.lemmas.Int.{ints, by_lt_z}
use Rattle.std.proofs.lemmas.List.{get_or_default}
use Rattle.std.proofs.lemmas.List.Folds.{list_any-append}
use Rattle.fill_base.specs.Squares.{squares}
use Rattle.std.proofs.Math.Seq.{take-length}
use Rattle.std.proofs.lemmas.List.Elements.{All-more}
use Rattle.fill_base.specs.declared.rect.Rect.{Rect}
use Rattle.fill_base.specs.Coordinates.{lowest, highest}
use Rattle.fill_base.specs.Counts.{is_between}
use Rattle.fill_region.specs.Squares.{covered}
use Rattle.gds_shape.specs.declared.edge.Edge.{Edge}
use Rattle.gds_shape.specs.steps.Edges.{goes, left_of, going, AreRisingBy}
use Rattle.gds_shape.proofs.Counting.{same_counts, count_next}

abbrev pub inside : List Edge → ℤ → Bool
inside es x = not (eqb (left_of true es x) (left_of false es x))

-- what lies left of the last edge so far is written
pub record Walked (old : List Rect) (crossing : List Edge) (bottom top : ℤ) (k : ℕ) (left : ℤ) (ups downs : ℕ) (out : List Rect) : Type 0 where
  pub low : lowest ≤ℤ left
  pub high : left ≤ℤ highest
  pub passed : All (λ e. e.x ≤ℤ left) (take k crossing)
  pub ahead : (j : ℕ) (d : Edge) → k ≤ j → j < length crossing → left ≤ℤ (get_or crossing j d).x
  pub ups_are : ups ≡ going true (take k crossing)
  pub downs_are : downs ≡ going false (take k crossing)
  pub written : (x y : ℤ) → covered out x y ≡ (covered old x y || ((int_lt x left && inside (take k crossing) x) && is_between bottom top y))

-- right of all edges each counts
all_left : (way : Bool) (es : List Edge) (left x : ℤ) → All (λ e. e.x ≤ℤ left) es → left ≤ℤ x → left_of way es x ≡ going way es
all_left way es left x passed le = same_counts (λ e. goes way e && int_le e.x x) (goes way) es (λ k d lt. here (goes way (get_or es k d)) (get_or es k d).x (passed k d lt))
  where
    here : (g : Bool) (a : ℤ) → a ≤ℤ left → (g && int_le a x) ≡ g
    here g a h = rw (past a h) (table g)
      where
        past : (a : ℤ) → a ≤ℤ left → int_le a x ≡ true
        past a h = grind (arith, ints)

        table : (g : Bool) → (g && true) ≡ g
        table true = refl
        table false = refl

-- an edge right of x doesn't count
not_yet : (way : Bool) (es : List Edge) (k : ℕ) (e : Edge) (x : ℤ) → k < length es → e ≡ get_or es k e → x <ℤ e.x → left_of way (take (k + 1) es) x ≡ left_of way (take k es) x
not_yet way es k e x lt is right = count_next (λ e. goes way e && int_le e.x x) es k e lt is ∙ rw (off x e.x (goes way e) right) (plus (left_of way (take k es) x))
  where
    off : (x a : ℤ) (g : Bool) → x <ℤ a → (g && int_le a x) ≡ false
    off x a true h = grind (arith, ints)
    off x a false h = refl

    plus : (n : ℕ) → n + 0 ≡ n
    plus n = omega arith

same_inside : (es fs : List Edge) (x : ℤ) → left_of true es x ≡ left_of true fs x → left_of false es x ≡ left_of false fs x → inside es x ≡ inside fs x
same_inside es fs x h k = rw (h, k) refl

-- one gap more
pub walk_step : (old : List Rect) (crossing : List Edge) (bottom top : ℤ) (k : ℕ) (left : ℤ) (ups downs : ℕ) (out new : List Rect) (e : Edge) (ups' downs' : ℕ)
    → Walked old crossing bottom top k left ups downs out → AreRisingBy (λ e. e.x) crossing → k < length crossing → e ≡ get_or crossing k e
    → ((x y : ℤ) → covered new x y ≡ (covered out x y || ((is_between left e.x x && is_between bottom top y) && not (eqb ups downs))))
    → ups' ≡ ups + cond e.up 1 0 → downs' ≡ downs + cond (not e.up) 1 0
    → Walked old crossing bottom top (k + 1) e.x ups' downs' new
walk_step old crossing bottom top k left ups downs out new e ups' downs' w rising lt is put up down =
    let next : left ≤ℤ e.x = ap_le (w.ahead k e (omega arith) lt) in
    record {
      low = e.left;
      high = e.right;
      passed = All-more (λ f. f.x ≤ℤ e.x) crossing k e lt (λ j d h. le_le _ left e.x (w.passed j d h) next) (same_le e (get_or crossing k e) (sym is));
      ahead = λ j d le h. from_le e (get_or crossing k d) (get_or crossing j d) (at_same d) (rising k j d (omega arith) h);
      ups_are = up ∙ (ap (λ n. n + cond e.up 1 0) w.ups_are ∙ sym (count_next (goes true) crossing k e lt is));
      downs_are = down ∙ (ap (λ n. n + cond (not e.up) 1 0) w.downs_are ∙ sym (count_next (goes false) crossing k e lt is));
      written = λ x y. put x y ∙ (ap (λ b. b || ((is_between left e.x x && is_between bottom top y) && not (eqb ups downs))) (w.written x y)
          ∙ paint (covered old x y) (is_between bottom top y) (inside (take k crossing) x) (inside (take (k + 1) crossing) x) (not (eqb ups downs)) left e.x x next
          (λ right. same_inside (take (k + 1) crossing) (take k crossing) x (not_yet true crossing k e x lt is right) (not_yet false crossing k e x lt is right))
          (λ le. rw (all_left true (take k crossing) left x w.passed le, all_left false (take k crossing) left x w.passed le, sym w.ups_are, sym w.downs_are) refl));
    }
  where
    ap_le : left ≤ℤ (get_or crossing k e).x → left ≤ℤ e.x
    ap_le h = rw is h

    le_le : (a b c : ℤ) → a ≤ℤ b → b ≤ℤ c → a ≤ℤ c
    le_le a b c h k = omega (arith, ints)

    same_le : (e f : Edge) → f ≡ e → f.x ≤ℤ e.x
    same_le e f h = rw h (self e.x)
      where
        self : (a : ℤ) → a ≤ℤ a
        self a = omega (arith, ints)

    at_same : (d : Edge) → get_or crossing k d ≡ e
    at_same d = get_or_default crossing k d e lt ∙ sym is

    from_le : (e f g : Edge) → f ≡ e → f.x ≤ℤ g.x → e.x ≤ℤ g.x
    from_le e f g h k = rw (sym h) k

    paint : (a row i i' b : Bool) (left right x : ℤ) → left ≤ℤ right → (x <ℤ right → i' ≡ i) → (left ≤ℤ x → i ≡ b)
        → ((a || ((int_lt x left && i) && row)) || ((is_between left right x && row) && b)) ≡ (a || ((int_lt x right && i') && row))
    paint a row i i' b left right x le same count = by_lt_z x left
        (λ lt. rw (out_left left right x lt, less x left lt, less x right (lt_le_lt x left right lt le), same (lt_le_lt x left right lt le)) (first a row i))
        (λ past. by_lt_z x right
        (λ lt. rw (within left right x past lt, not_less x left past, less x right lt, same lt, count past) (second a row b))
        (λ far. rw (out_right left right x far, not_less x left past, not_less x right far) (third a row b)))
      where
        less : (a b : ℤ) → a <ℤ b → int_lt a b ≡ true
        less a b h = grind (arith, ints)

        not_less : (a b : ℤ) → b ≤ℤ a → int_lt a b ≡ false
        not_less a b h = grind (arith, ints)

        lt_le_lt : (a b c : ℤ) → a <ℤ b → b ≤ℤ c → a <ℤ c
        lt_le_lt a b c h k = omega (arith, ints)

        out_left : (a b x : ℤ) → x <ℤ a → is_between a b x ≡ false
        out_left a b x h = grind (arith, ints)

        out_right : (a b x : ℤ) → b ≤ℤ x → is_between a b x ≡ false
        out_right a b x h = grind (arith, ints)

        within : (a b x : ℤ) → a ≤ℤ x → x <ℤ b → is_between a b x ≡ true
        within a b x h k = grind (arith, ints)

        first : (a row i : Bool) → ((a || ((true && i) && row)) || ((false && row) && b)) ≡ (a || ((true && i) && row))
        first true row i = refl
        first false row true = or_no row
          where
            or_no : (row : Bool) → (row || false) ≡ row
            or_no true = refl
            or_no false = refl
        first false row false = refl

        second : (a row b : Bool) → ((a || ((false && b) && row)) || ((true && row) && b)) ≡ (a || ((true && b) && row))
        second true row b = refl
        second false true true = refl
        second false true false = refl
        second false false true = refl
        second false false false = refl

        third : (a row b : Bool) → ((a || ((false && i) && row)) || ((false && row) && b)) ≡ (a || ((false && i') && row))
        third true row b = refl
        third false row b = refl

-- right of the last edge nothing is inside, since as many go up as down
pub walk_end : (old : List Rect) (crossing : List Edge) (bottom top : ℤ) (k : ℕ) (left : ℤ) (ups downs : ℕ) (out : List Rect) → Walked old crossing bottom top k left ups downs out
    → k ≡ length crossing → going true crossing ≡ going false crossing
    → (x y : ℤ) → covered out x y ≡ (covered old x y || (inside crossing x && is_between bottom top y))
walk_end old crossing bottom top k left ups downs out w all closed x y =
    let whole : take k crossing ≡ crossing = ap (λ n. take n crossing) all ∙ take-length crossing in
    let passed : All (λ e. e.x ≤ℤ left) crossing = rw whole at w.passed in
    (rw whole at (w.written x y)) ∙ ap (λ b. covered old x y || (b && is_between bottom top y)) (by_lt_z x left
    (λ lt. rw (less x left lt) refl)
    (λ le. rw (not_less x left le, all_left true crossing left x passed le, all_left false crossing left x passed le, closed) (none (going false crossing))))
  where
    less : (a b : ℤ) → a <ℤ b → int_lt a b ≡ true
    less a b h = grind (arith, ints)

    not_less : (a b : ℤ) → b ≤ℤ a → int_lt a b ≡ false
    not_less a b h = grind (arith, ints)

    none : (n : ℕ) → false ≡ not (eqb n n)
    none n = grind arith

-- what a gap adds that is pushed
pub gap_put : (old new : List Rect) (r : Rect) (left right bottom top : ℤ) (is_inside : Bool) → new ≡ old ++ r ∷ [] → r.x1 ≡ left → r.y1 ≡ bottom → r.x2 ≡ right → r.y2 ≡ top → is_inside ≡ true
    → (x y : ℤ) → covered new x y ≡ (covered old x y || ((is_between left right x && is_between bottom top y) && is_inside))
gap_put old new r left right bottom top is_inside is x1 y1 x2 y2 yes_inside x y =
    rw (is, yes_inside, sym x1, sym y1, sym x2, sym y2) (list_any-append (λ q. squares q x y) old (r ∷ []) ∙ ap (λ b. covered old x y || b) (table (squares r x y)))
  where
    table : (b : Bool) → (b || false) ≡ (b && true)
    table true = refl
    table false = refl
