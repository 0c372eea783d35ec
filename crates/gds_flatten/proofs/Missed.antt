-- How many copies a frame meets.
use Rattle.std.proofs.Common.{◌≡◌, ℕ, zero, suc, ◌+◌, ◌<◌, ◌≤◌, inl, inr, ℤ, pos, ◌+ℤ◌, ◌≤ℤ◌, Bool, true, false, ◌||◌, List, [], ◌∷◌, ◌++◌, length, map, take, drop, get_or, refl, sym, ap, subst, arith, ◌∙◌}
use Rattle.std.specs.Prelude.{int_lt, Option, Some, None, All, ◌↔◌}
use Rattle.std.specs.List.{flat_map, range_with_len}
use Rattle.std.proofs.lemmas.Int.{ints, clamps}
use Rattle.std.proofs.lemmas.Bool.{and_parts, and_from}
use Rattle.std.proofs.lemmas.Grind.{common_steps, flat_map-append}
use Rattle.std.proofs.lemmas.List.{take-append-drop}
use Rattle.fill_base.specs.declared.rect.Rect.{Rect}
use Rattle.gds_grammar.specs.Values.{Shape as Element}
use Rattle.gds_shape.specs.declared.bounds.Bounds.{Bounds}
use Rattle.gds_shape.proofs.Counting.{count_cons}
use Rattle.gds_cells.specs.declared.error.FlattenError.{FlattenError}
use Rattle.gds_cells.specs.declared.error.FlattenError.TheVariants.{TooManyShapes}
use Rattle.gds_flatten.specs.declared.found.Found.{Found}
use Rattle.gds_flatten.specs.declared.found.Framed.{Framed}
use Rattle.gds_flatten.specs.steps.Finding.{IsFound, IsRefusalOn, inner, seen}
use Rattle.gds_flatten.specs.steps.Roots.{roots_copies, AreRooted}
use Rattle.gds_cells.specs.declared.link.Link.{Link}
use Rattle.gds_cells.specs.declared.placement.Placement.{Placement}
use Rattle.gds_cells.specs.Placements.{carried_bounds, composed, still}
use Rattle.gds_cells.specs.Copies.{Copy, own_copy, carry_copy, drawn, AllStayInRange}
use Rattle.gds_flatten.specs.Frames.{meets, meets_if, joined_if, extent_of, parts_at, is_met, met}
use Rattle.gds_cells.specs.Links.{single}
use Rattle.gds_cells.specs.Shapes.{parts_of}
use Rattle.gds_flatten.specs.steps.Framing.{Fits, FitsCopy, FitAll, IsRight, IsFine, IsMissed}
use Rattle.gds_cells.specs.steps.Prepared.{IsOrdered, IsPrepared, IsPart}
use Rattle.gds_flatten.proofs.Drawing.{carried_twice, list_more, shape_drawn}
use Rattle.gds_cells.proofs.Composing.{composed_still}
use Rattle.fill_region.specs.Squares.{covered}
use Rattle.gds_cells.specs.Placements.{carried}
use Rattle.gds_cells.specs.Shapes.{covers_of, StaysInRange}
use Rattle.gds_flatten.proofs.Seen.{not_true, none_on, more_on, unseen_on, nothing_held, nothing_unseen, none_unseen, both_unseen, shape_unseen, bare_unseen}
use Rattle.gds_flatten.proofs.Holding.{single_unseen}
use Rattle.gds_flatten.proofs.Tight.{joined_fits, part_of_part, all_from, all_first, all_rest, none_fit, fit_first, fit_later, four_same, shape_tight, back_fits, window, carry_forth, nothing_fits, single_fits, all_coordinates, fit_stay, stay_fit}

-- ---- the extent of parts

pub itself : (b : Bounds) → IsPart b b
itself b = record { left = same b.left; bottom = same b.bottom; right = same b.right; top = same b.top } where
  same : (a : ℤ) → a ≤ℤ a
  same a = omega (arith, ints, clamps)

join_fit : (w b : Bounds) (o : Option Bounds) → Fits w (joined_if b o) ↔ (IsPart w b × Fits w o)
join_fit w b None = ((λ h. (h, tt)), (λ h. h.0))
join_fit w b (Some c) = joined_fits w b c

pub parts_fit : (w : Bounds) (p : Placement) (parts : List Bounds) → Fits w (extent_of (map (carried_bounds p) parts)) ↔ All (λ b. IsPart w (carried_bounds p b)) parts
parts_fit w p [] = ((λ h k d lt. absurd (grind (arith, common_steps, lt))), (λ h. tt))
parts_fit w p (b ∷ bs) =
    let join = join_fit w (carried_bounds p b) (extent_of (map (carried_bounds p) bs)) in
    let rest = parts_fit w p bs in (
      (λ h. let both = join.0 h in all_from (λ c. IsPart w (carried_bounds p c)) b bs both.0 (rest.0 both.1)),
      (λ all. join.1 (all_first (λ c. IsPart w (carried_bounds p c)) b bs all, rest.1 (all_rest (λ c. IsPart w (carried_bounds p c)) b bs all))),
    )

-- what lies in the same windows is the same
same_extent : (o : Option Bounds) (b : Bounds) → ((w : Bounds) → Fits w o ↔ IsPart w b) → o ≡ Some b
same_extent None b same = absurd (never b.left ((same (record b { left = b.left +ℤ pos 1 })).0 tt).left) where
  never : (a : ℤ) → (a +ℤ pos 1) ≤ℤ a → ⊥
  never a h = omega (arith, ints, clamps, h)
same_extent (Some c) b same =
    let h = (same b).1 (itself b) in
    let k = (same c).0 (itself c) in
    ap Some (four_same c.left c.bottom c.right c.top b.left b.bottom b.right b.top (between _ _ k.left h.left) (between _ _ k.bottom h.bottom) (between _ _ h.right k.right) (between _ _ h.top k.top))
  where
    between : (a b : ℤ) → a ≤ℤ b → b ≤ℤ a → a ≡ b
    between a b h k = omega (arith, ints, clamps, h, k)

pub shape_extent : (e : Element) (pieces : List Rect) (b : Bounds) (at : Placement) → IsPrepared e pieces (Some b) → extent_of (parts_at (carry_copy at (own_copy e))) ≡ Some (carried_bounds at b)
shape_extent e pieces b at prepared =
    let drawn = prepared.drawn b refl in
    let c = carry_copy at (own_copy e) in
    same_extent (extent_of (parts_at c)) (carried_bounds at b) (λ w.
    let one = single_fits at w b (own_copy e ∷ []) (record { wide = drawn.near.wide; tall = drawn.near.tall }) (shape_tight e pieces (Some b) prepared) in
    let parts = parts_fit w (composed at still) (parts_of e) in (
      (λ f. one.1 (all_from (FitsCopy w) c [] (parts.0 f) (none_fit w))),
      (λ h. parts.1 (all_first (FitsCopy w) c [] (one.0 h))),
    ))

pub bare_extent : (e : Element) (pieces : List Rect) (at : Placement) → IsPrepared e pieces None → extent_of (parts_at (carry_copy at (own_copy e))) ≡ None
bare_extent e pieces at prepared = ap (λ ps. extent_of (map (carried_bounds (composed at still)) ps)) (empty (parts_of e) (prepared.bare refl)) where
  empty : (xs : List Bounds) → length xs ≡ 0 → xs ≡ []
  empty [] h = refl
  empty (x ∷ xs) h = absurd (grind (arith, common_steps, h))

-- ---- counting

pub met_joins : (r : Rect) (cs ds : List Copy) → met r (cs ++ ds) ≡ met r cs + met r ds
met_joins r [] ds = omega arith
met_joins r (c ∷ cs) ds = rw (count_cons (is_met r) c (cs ++ ds), count_cons (is_met r) c cs, met_joins r cs ds) (omega arith)

pub one_met : (r : Rect) (c : Copy) → is_met r c ≡ true → met r (c ∷ []) ≡ 1
one_met r c is = rw (count_cons (is_met r) c [], is) refl

pub one_missed : (r : Rect) (c : Copy) → is_met r c ≡ false → met r (c ∷ []) ≡ 0
one_missed r c is = rw (count_cons (is_met r) c [], is) refl

-- ---- what lies apart

-- where a rectangle lies apart, what lies within it does
apart_part : (r : Rect) (w b : Bounds) → IsPart w b → meets r w ≡ false → meets r b ≡ false
apart_part r w b part apart = not_true (meets r b) (λ h.
    let p = and_parts _ _ h in
    let q = and_parts _ _ p.0 in
    let s = and_parts _ _ p.1 in
    let both = sym (and_from _ _ (and_from _ _ (low w.left b.left r.x2 part.left q.0) (high r.x1 b.right w.right part.right q.1))
    (and_from _ _ (low w.bottom b.bottom r.y2 part.bottom s.0) (high r.y1 b.top w.top part.top s.1))) ∙ apart in cc)
  where
    low : (a b z : ℤ) → a ≤ℤ b → int_lt b z ≡ true → int_lt a z ≡ true
    low a b z h k = grind (arith, ints)

    high : (z b a : ℤ) → b ≤ℤ a → int_lt z b ≡ true → int_lt z a ≡ true
    high z b a h k = grind (arith, ints)

apart_if : (r : Rect) (w : Bounds) (o : Option Bounds) → Fits w o → meets r w ≡ false → meets_if r o ≡ false
apart_if r w None part apart = refl
apart_if r w (Some b) part apart = apart_part r w b part apart

pub all_apart : (r : Rect) (w : Bounds) (cs : List Copy) → FitAll w cs → meets r w ≡ false → met r cs ≡ 0
all_apart r w [] all apart = refl
all_apart r w (c ∷ cs) all apart =
    let one : is_met r c ≡ false = apart_if r w (extent_of (parts_at c)) ((parts_fit w c.placement (parts_of c.element)).1 (all_first (FitsCopy w) c cs all)) apart in
    rw (count_cons (is_met r) c cs, one, all_apart r w cs (all_rest (FitsCopy w) c cs all) apart) refl

beyond : Rect → Bounds
beyond r = record { left = r.x2; bottom = r.y2; right = r.x2; top = r.y2 }

beyond_apart : (r : Rect) → meets r (beyond r) ≡ false
unfolding beyond
beyond_apart r = rw (never r.x2) refl where
  never : (a : ℤ) → int_lt a a ≡ false
  never a = grind (arith, ints)

-- a cell that has no extent
pub bare_missed : (r : Rect) (at : Placement) (cs : List Copy) → IsRight cs None → IsMissed r (map (carry_copy at) cs)
bare_missed r at cs right = record {
  dark = nothing_unseen r at cs (nothing_held cs None refl right.held);
  none = all_apart r (beyond r) (map (carry_copy at) cs) (nothing_fits at (beyond r) cs right.tight) (beyond_apart r);
}

or_turned : (a b c : Bool) → ((a || b) || c) ≡ ((a || c) || b)
or_turned a b c = grind arith

-- a shape that the frame doesn't meet, one that it does, and one more than there may be
pub shape_missed : (r : Rect) (at : Placement) (e : Element) (pieces : List Rect) (b : Bounds) → IsPrepared e pieces (Some b) → meets r (carried_bounds at b) ≡ false
    → IsMissed r (carry_copy at (own_copy e) ∷ [])
shape_missed r at e pieces b prepared apart =
    let drawn = prepared.drawn b refl in record {
      dark = shape_unseen r at b (covers_of e) (carry_copy at (own_copy e)) (ap (λ p. carried p (covers_of e)) (composed_still at)) (record { wide = drawn.near.wide; tall = drawn.near.tall }) drawn.inside apart;
      none = one_missed r (carry_copy at (own_copy e)) (ap (meets_if r) (shape_extent e pieces b at prepared) ∙ apart);
    }

pub bare_shape : (r : Rect) (at : Placement) (e : Element) (pieces : List Rect) → IsPrepared e pieces None → IsMissed r (carry_copy at (own_copy e) ∷ [])
bare_shape r at e pieces prepared = record {
  dark = bare_unseen r at (covers_of e) (carry_copy at (own_copy e)) (ap (λ p. carried p (covers_of e)) (composed_still at)) (prepared.empty refl);
  none = one_missed r (carry_copy at (own_copy e)) (ap (meets_if r) (bare_extent e pieces at prepared));
}

one_shape : (r : Rect) (at : Placement) (e : Element) (pieces : List Rect) (b : Bounds) → IsPrepared e pieces (Some b) → meets r (carried_bounds at b) ≡ true
    → met r (carry_copy at (own_copy e) ∷ []) ≡ 1
one_shape r at e pieces b prepared here = one_met r (carry_copy at (own_copy e)) (ap (meets_if r) (shape_extent e pieces b at prepared) ∙ here)

pub shape_found : (w : Framed) (at : Placement) (e : Element) (pieces : List Rect) (b : Bounds) (old new : Found) → IsPrepared e pieces (Some b) → meets w.frame.now (carried_bounds at b) ≡ true
    → new.copies ≡ old.copies + 1 → new.roots.items ≡ old.roots.items → new.inside ≡ old.inside
    → (StaysInRange at e → (x y : ℤ) → covered new.rects.items x y ≡ (covered old.rects.items x y || carried at (covers_of e) x y))
    → IsFound w (carry_copy at (own_copy e) ∷ []) old new
shape_found w at e pieces b old new prepared here more roots inside added =
    let one = one_shape w.frame.now at e pieces b prepared here in
    let same : inner w new ≡ inner w old = ap (roots_copies w.cells.now) roots in record {
      counted = omega (arith, one, more);
      drawn = λ stay x y on.
          let within = subst (λ (p : Placement). StaysInRange p e) (composed_still at) (stay 0 (carry_copy at (own_copy e)) (grind (arith, common_steps))) in
          ap (λ c. c || drawn (inner w new) x y) ((shape_drawn at e old.rects.items new.rects.items within (added within)).added x y)
          ∙ ap (λ cs. (covered old.rects.items x y || drawn (carry_copy at (own_copy e) ∷ []) x y) || drawn cs x y) same
          ∙ or_turned (covered old.rects.items x y) (drawn (carry_copy at (own_copy e) ∷ []) x y) (drawn (inner w old) x y);
      stay = λ stay all. subst AllStayInRange (sym same) all;
      kept = λ k. record { rooted = subst (AreRooted w.cells.now w.counts.now) (sym roots) k.rooted; number = inside ∙ k.number ∙ ap length (sym same) };
    }

pub shape_many : (r : Rect) (at : Placement) (e : Element) (pieces : List Rect) (b : Bounds) (old : Found) (f : FlattenError) → IsPrepared e pieces (Some b) → meets r (carried_bounds at b) ≡ true
    → (f ≡ TooManyShapes) × (4000000 < old.copies + 1) → IsRefusalOn r (carry_copy at (own_copy e) ∷ []) old f
shape_many r at e pieces b old f prepared here (is, full) = let one = one_shape r at e pieces b prepared here in inr (is, omega (arith, one, full))

-- none of some single references is seen where none of an extent is seen that holds them
fit_wider : (w v : Bounds) (cs : List Copy) → IsPart w v → FitAll v cs → FitAll w cs
fit_wider w v cs part all = λ k d lt j e small. part_of_part w v _ part (all k d lt j e small)

pub single_fit : (at : Placement) (l : Link) (k : ℕ) (b all : Bounds) (cs : List Copy) → IsFine b → IsRight cs (Some b) → IsPart all (carried_bounds (single l k) b)
    → IsOrdered all → FitAll (carried_bounds at all) (map (carry_copy (composed at (single l k))) cs)
single_fit at l k b all cs fine right part ordered =
    let w = carried_bounds at all in
    subst (FitAll w) (carried_twice at (single l k) cs)
    (carry_forth at w (map (carry_copy (single l k)) cs) (fit_wider (window at w) all (map (carry_copy (single l k)) cs) ((back_fits at w all ordered).0 (itself w))
    ((single_fits (single l k) all b cs fine.ordered right.tight).0 part)))

pub single_missed : (r : Rect) (at : Placement) (l : Link) (k : ℕ) (b all : Bounds) (cs : List Copy) → IsFine b → IsRight cs (Some b) → IsPart all (carried_bounds (single l k) b)
    → IsOrdered all → meets r (carried_bounds at all) ≡ false → IsMissed r (map (carry_copy (composed at (single l k))) cs)
single_missed r at l k b all cs fine right part ordered apart = record {
  dark = single_unseen r at l k b all cs fine right.held part ordered apart;
  none = all_apart r (carried_bounds at all) (map (carry_copy (composed at (single l k))) cs) (single_fit at l k b all cs fine right part ordered) apart;
}

pub none_missed : (r : Rect) → IsMissed r []
none_missed r = record { dark = none_unseen r; none = refl }

pub both_missed : (r : Rect) (cs ds : List Copy) → IsMissed r cs → IsMissed r ds → IsMissed r (cs ++ ds)
both_missed r cs ds first then = record {
  dark = both_unseen r cs ds first.dark then.dark;
  none = rw (met_joins r cs ds, first.none, then.none) refl;
}

pub range_missed : (r : Rect) (f : ℕ → List Copy) (a n : ℕ) → ((k : ℕ) → a ≤ k → k < a + n → IsMissed r (f k)) → IsMissed r (flat_map f (range_with_len a n))
range_missed r f a zero each = none_missed r
range_missed r f a (suc n) each =
    both_missed r (f a) (flat_map f (range_with_len (a + 1) n)) (each a (omega arith) (omega arith)) (range_missed r f (a + 1) n (λ k ge lt. each k (omega (arith, ge)) (omega (arith, lt))))

-- ---- one after another

stays_first : (cs ds : List Copy) → AllStayInRange (cs ++ ds) → AllStayInRange cs
stays_first cs ds all = fit_stay cs (fit_first all_coordinates cs ds (stay_fit (cs ++ ds) all))

stays_later : (cs ds : List Copy) → AllStayInRange (cs ++ ds) → AllStayInRange ds
stays_later cs ds all = fit_stay ds (fit_later all_coordinates cs ds (stay_fit (cs ++ ds) all))

pub found_none : (w : Framed) (old : Found) → IsFound w [] old old
found_none w old = record { counted = omega arith; drawn = λ stay. none_on w.frame.now (seen w old); stay = λ stay all. all; kept = λ k. k }

pub found_missed : (w : Framed) (cs : List Copy) (old : Found) → IsMissed w.frame.now cs → IsFound w cs old old
found_missed w cs old missed = let none = missed.none in record {
  counted = omega (arith, none);
  drawn = λ stay. unseen_on w.frame.now cs (seen w old) missed.dark;
  stay = λ stay all. all;
  kept = λ k. k;
}

pub found_more : (w : Framed) (cs ds : List Copy) (old mid new : Found) → IsFound w cs old mid → IsFound w ds mid new → IsFound w (cs ++ ds) old new
found_more w cs ds old mid new first then =
    let one = first.counted in
    let two = then.counted in
    let both = met_joins w.frame.now cs ds in record {
      counted = omega (arith, one, two, both);
      drawn = λ stay. more_on w.frame.now cs ds (seen w old) (seen w mid) (seen w new) (first.drawn (stays_first cs ds stay)) (then.drawn (stays_later cs ds stay));
      stay = λ stay all. then.stay (stays_later cs ds stay) (first.stay (stays_first cs ds stay) all);
      kept = λ k. then.kept (first.kept k);
    }

pub found_next : {X : Type 0} (w : Framed) (f : X → List Copy) (xs : List X) (k : ℕ) (d : X) (old mid new : Found) → k < length xs
    → IsFound w (flat_map f (take k xs)) old mid → IsFound w (f (get_or xs k d)) mid new → IsFound w (flat_map f (take (k + 1) xs)) old new
found_next w f xs k d old mid new within before next =
    rw (list_more f xs k d within) (found_more w (flat_map f (take k xs)) (f (get_or xs k d)) old mid new before next)

pub found_all : {X : Type 0} (w : Framed) (f : X → List Copy) (xs : List X) (k : ℕ) (old new : Found) → (k < length xs → ⊥)
    → IsFound w (flat_map f (take k xs)) old new → IsFound w (flat_map f xs) old new
found_all w f xs k old new ended h =
    let whole : take k xs ≡ xs = grind (arith, common_steps, ended) in subst (λ ys. IsFound w (flat_map f ys) old new) whole h

-- ---- refusals

pub many_first : (r : Rect) (cs ds : List Copy) (old : Found) (e : FlattenError) → IsRefusalOn r cs old e → IsRefusalOn r (cs ++ ds) old e
many_first r cs ds old e (inl m) = inl m
many_first r cs ds old e (inr (is, many)) = let both = met_joins r cs ds in inr (is, omega (arith, many, both))

pub many_later : (w : Framed) (cs ds : List Copy) (old mid : Found) (e : FlattenError) → IsFound w cs old mid → IsRefusalOn w.frame.now ds mid e → IsRefusalOn w.frame.now (cs ++ ds) old e
many_later w cs ds old mid e first (inl m) = inl m
many_later w cs ds old mid e first (inr (is, many)) = let both = met_joins w.frame.now cs ds in let one = first.counted in inr (is, omega (arith, many, both, one))

pub many_next : {X : Type 0} (w : Framed) (f : X → List Copy) (xs : List X) (k : ℕ) (d : X) (old mid : Found) (e : FlattenError) → k < length xs
    → IsFound w (flat_map f (take k xs)) old mid → IsRefusalOn w.frame.now (f (get_or xs k d)) mid e → IsRefusalOn w.frame.now (flat_map f xs) old e
many_next w f xs k d old mid e within before refused =
    let split : flat_map f xs ≡ flat_map f (take (k + 1) xs) ++ flat_map f (drop (k + 1) xs) =
    ap (flat_map f) (sym (take-append-drop (k + 1) xs)) ∙ flat_map-append f (take (k + 1) xs) (drop (k + 1) xs) in
    subst (λ cs. IsRefusalOn w.frame.now cs old e) (sym split) (many_first w.frame.now (flat_map f (take (k + 1) xs)) (flat_map f (drop (k + 1) xs)) old e
    (subst (λ cs. IsRefusalOn w.frame.now cs old e) (sym (list_more f xs k d within)) (many_later w (flat_map f (take k xs)) (f (get_or xs k d)) old mid e before refused)))
