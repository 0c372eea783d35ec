-- Extents that are no larger than what they hold: a window holds the extent exactly where it holds all parts of all copies.
use Rattle.std.proofs.Common.{◌≡◌, ℕ, zero, suc, ◌+◌, ◌*◌, ◌<◌, ◌≤◌, ◌⊎◌, inl, inr, ℤ, pos, ◌+ℤ◌, ◌-ℤ◌, ◌≤ℤ◌, Bool, true, false, cond, List, [], ◌∷◌, ◌++◌, map, get_or, refl, sym, subst, arith, ◌∙◌}
use Rattle.std.specs.Prelude.{Option, Some, None, All, ◌↔◌}
use Rattle.std.specs.List.{flat_map, range_with_len}
use Rattle.std.specs.Int.{int_min, int_max}
use Rattle.std.proofs.lemmas.Int.{ints, clamps}
use Rattle.std.proofs.lemmas.Bool.{cases_eq}
use Rattle.std.proofs.lemmas.Grind.{common_steps}
use Rattle.fill_base.specs.Coordinates.{lowest, highest}
use Rattle.fill_base.specs.declared.rect.Rect.{Rect}
use Rattle.gds_grammar.specs.Values.{Shape as Element}
use Rattle.gds_shape.specs.declared.bounds.Bounds.{Bounds}
use Rattle.gds_shape.specs.Paths.{AreInRange}
use Rattle.gds_shape.specs.Extents.{joined, IsExtent}
use Rattle.gds_cells.specs.declared.link.Link.{Link}
use Rattle.gds_cells.specs.declared.placement.Placement.{Placement}
use Rattle.gds_cells.specs.Placements.{signed, point_x, point_y, carried_bounds, composed, still}
use Rattle.gds_cells.specs.Copies.{Copy, own_copy, carry_copy, AllStayInRange}
use Rattle.gds_cells.specs.Links.{single}
use Rattle.gds_cells.specs.Shapes.{parts_of}
use Rattle.gds_flatten.specs.steps.Framing.{Fits, FitsCopy, FitAll, IsTight}
use Rattle.gds_cells.specs.steps.Prepared.{IsOrdered, IsPrepared, IsPart}
use Rattle.gds_cells.specs.steps.Walks.{singles_of}
use Rattle.gds_cells.proofs.Composing.{point_together_x, point_together_y}
use Rattle.gds_flatten.proofs.Drawing.{range_more}
use Rattle.gds_flatten.proofs.Holding.{turns_drawn}

-- ---- both of two rectangles

least_of : (a b c : ℤ) → a ≤ℤ int_min b c → (a ≤ℤ b) × (a ≤ℤ c)
least_of a b c h = (omega (arith, ints, clamps, h), omega (arith, ints, clamps, h))

least_from : (a b c : ℤ) → a ≤ℤ b → a ≤ℤ c → a ≤ℤ int_min b c
least_from a b c h k = omega (arith, ints, clamps)

most_of : (a b c : ℤ) → int_max b c ≤ℤ a → (b ≤ℤ a) × (c ≤ℤ a)
most_of a b c h = (omega (arith, ints, clamps, h), omega (arith, ints, clamps, h))

most_from : (a b c : ℤ) → b ≤ℤ a → c ≤ℤ a → int_max b c ≤ℤ a
most_from a b c h k = omega (arith, ints, clamps)

pub joined_fits : (w a b : Bounds) → IsPart w (joined a b) ↔ (IsPart w a × IsPart w b)
joined_fits w a b = (
  λ h.
      let l = least_of w.left a.left b.left h.left in
      let m = least_of w.bottom a.bottom b.bottom h.bottom in
      let r = most_of w.right a.right b.right h.right in
      let t = most_of w.top a.top b.top h.top in
      (record { left = l.0; bottom = m.0; right = r.0; top = t.0 }, record { left = l.1; bottom = m.1; right = r.1; top = t.1 }),
  λ h. record {
    left = least_from w.left a.left b.left h.0.left h.1.left;
    bottom = least_from w.bottom a.bottom b.bottom h.0.bottom h.1.bottom;
    right = most_from w.right a.right b.right h.0.right h.1.right;
    top = most_from w.top a.top b.top h.0.top h.1.top;
  },
)

at_most : (a b c : ℤ) → a ≤ℤ b → b ≤ℤ c → a ≤ℤ c
at_most a b c h k = omega (arith, ints, clamps)

pub part_of_part : (w b c : Bounds) → IsPart w b → IsPart b c → IsPart w c
part_of_part w b c h k = record {
  left = at_most w.left b.left c.left h.left k.left;
  bottom = at_most w.bottom b.bottom c.bottom h.bottom k.bottom;
  right = at_most c.right b.right w.right k.right h.right;
  top = at_most c.top b.top w.top k.top h.top;
}

-- ---- all of several copies

pub all_from : {X : Type 0} (P : X → Type 0) (x : X) (xs : List X) → P x → All P xs → All P (x ∷ xs)
all_from P x xs h each zero d lt = h
all_from P x xs h each (suc k) d lt = each k d (grind (arith, common_steps, lt))

pub all_first : {X : Type 0} (P : X → Type 0) (x : X) (xs : List X) → All P (x ∷ xs) → P x
all_first P x xs all = all 0 x (grind (arith, common_steps))

pub all_rest : {X : Type 0} (P : X → Type 0) (x : X) (xs : List X) → All P (x ∷ xs) → All P xs
all_rest P x xs all = λ k d lt. all (suc k) d (grind (arith, common_steps, lt))

pub none_fit : (w : Bounds) → FitAll w []
none_fit w = λ k d lt. absurd (grind (arith, common_steps, lt))

pub fit_joins : (w : Bounds) (cs ds : List Copy) → FitAll w cs → FitAll w ds → FitAll w (cs ++ ds)
fit_joins w [] ds h k = k
fit_joins w (c ∷ cs) ds h k =
    all_from (FitsCopy w) c (cs ++ ds) (all_first (FitsCopy w) c cs h) (fit_joins w cs ds (all_rest (FitsCopy w) c cs h) k)

pub fit_first : (w : Bounds) (cs ds : List Copy) → FitAll w (cs ++ ds) → FitAll w cs
fit_first w [] ds h = none_fit w
fit_first w (c ∷ cs) ds h =
    all_from (FitsCopy w) c cs (all_first (FitsCopy w) c (cs ++ ds) h) (fit_first w cs ds (all_rest (FitsCopy w) c (cs ++ ds) h))

pub fit_later : (w : Bounds) (cs ds : List Copy) → FitAll w (cs ++ ds) → FitAll w ds
fit_later w [] ds h = h
fit_later w (c ∷ cs) ds h = fit_later w cs ds (all_rest (FitsCopy w) c (cs ++ ds) h)

pub tight_next : (cs ds : List Copy) (o q : Option Bounds) → IsTight cs o → ((w : Bounds) → Fits w q ↔ (Fits w o × FitAll w ds)) → IsTight (cs ++ ds) q
tight_next cs ds o q h both w = (
  λ f. let p = (both w).0 f in fit_joins w cs ds ((h w).0 p.0) p.1,
  λ all. (both w).1 ((h w).1 (fit_first w cs ds all), fit_later w cs ds all),
)

pub tight_both : (cs ds : List Copy) (o p q : Option Bounds) → IsTight cs o → IsTight ds p → ((w : Bounds) → Fits w q ↔ (Fits w o × Fits w p)) → IsTight (cs ++ ds) q
tight_both cs ds o p q h k both =
    tight_next cs ds o q h (λ w. (
      λ f. let r = (both w).0 f in (r.0, (k w).0 r.1),
      λ r. (both w).1 (r.0, (k w).1 r.1),
    ))

-- ---- shapes

least_still : (a b : ℤ) → a ≤ℤ b → int_min (a +ℤ pos 0) (b +ℤ pos 0) ≡ a
least_still a b h = omega (arith, ints, clamps)

most_still : (a b : ℤ) → a ≤ℤ b → int_max (a +ℤ pos 0) (b +ℤ pos 0) ≡ b
most_still a b h = omega (arith, ints, clamps)

abbrev pub four : ℤ → ℤ → ℤ → ℤ → Bounds
four l m r t = record { left = l; bottom = m; right = r; top = t }

pub four_same : (l m r t l' m' r' t' : ℤ) → l ≡ l' → m ≡ m' → r ≡ r' → t ≡ t'
    → four l m r t ≡ four l' m' r' t'
four_same l m r t l' m' r' t' h i j k = rw (h, i, j, k) refl

carried_still : (b : Bounds) → IsOrdered b → carried_bounds still b ≡ b
carried_still b o =
    four_same _ _ _ _ _ _ _ _ (least_still b.left b.right o.wide) (least_still b.bottom b.top o.tall) (most_still b.left b.right o.wide) (most_still b.bottom b.top o.tall)

extent_fits : (w : Bounds) (parts : List Bounds) (b : Bounds) → IsExtent parts b → IsPart w b ↔ All (IsPart w) parts
extent_fits w parts b e = (
  λ h k d lt. record {
    left = (e.left w.left).0 h.left k d lt;
    bottom = (e.bottom w.bottom).0 h.bottom k d lt;
    right = (e.right w.right).0 h.right k d lt;
    top = (e.top w.top).0 h.top k d lt;
  },
  λ all. record {
    left = (e.left w.left).1 (λ k d lt. (all k d lt).left);
    bottom = (e.bottom w.bottom).1 (λ k d lt. (all k d lt).bottom);
    right = (e.right w.right).1 (λ k d lt. (all k d lt).right);
    top = (e.top w.top).1 (λ k d lt. (all k d lt).top);
  },
)

pub shape_tight : (e : Element) (pieces : List Rect) (o : Option Bounds) → IsPrepared e pieces o → IsTight (own_copy e ∷ []) o
shape_tight e pieces None prepared w = (
  λ f. all_from (FitsCopy w) (own_copy e) [] (λ k d lt. let bare = prepared.bare refl in absurd (omega (arith, lt, bare))) (none_fit w),
  λ all. tt,
)
shape_tight e pieces (Some b) prepared w =
    let drawn = prepared.drawn b refl in
    let fits = extent_fits w (parts_of e) b drawn.extent in (
      λ f. all_from (FitsCopy w) (own_copy e) [] (λ k d lt. subst (IsPart w) (sym (carried_still (get_or (parts_of e) k d) (drawn.ordered k d lt))) (fits.0 f k d lt)) (none_fit w),
      λ all. let one = all_first (FitsCopy w) (own_copy e) [] all in fits.1 (λ k d lt. subst (IsPart w) (carried_still (get_or (parts_of e) k d) (drawn.ordered k d lt)) (one k d lt)),
    )

-- one more beside what was there before
pub three : (w : Bounds) (before o p q : Option Bounds) (cs ds : List Copy) → Fits w q ↔ (Fits w o × Fits w p) → Fits w o ↔ (Fits w before × FitAll w cs) → Fits w p ↔ FitAll w ds
    → Fits w q ↔ (Fits w before × FitAll w (cs ++ ds))
three w before o p q cs ds join old new = (
  λ f. let r = join.0 f in let s = old.0 r.0 in (s.0, fit_joins w cs ds s.1 (new.0 r.1)),
  λ h. join.1 (old.1 (h.0, fit_first w cs ds h.1), new.1 (fit_later w cs ds h.1)),
)

-- ---- placements

-- the window that a carried rectangle lies in where the rectangle lies in this one
abbrev from_low : Bool → ℤ → ℤ → ℤ → ℤ
from_low f a b m = cond f (m -ℤ b) (a -ℤ m)

abbrev from_high : Bool → ℤ → ℤ → ℤ → ℤ
from_high f a b m = cond f (m -ℤ a) (b -ℤ m)

abbrev window_laid : Bool → Bool → Bool → ℤ → ℤ → Bounds → Bounds
window_laid s f g m n w = record {
  left = cond s (from_low g w.bottom w.top n) (from_low f w.left w.right m);
  bottom = cond s (from_low f w.left w.right m) (from_low g w.bottom w.top n);
  right = cond s (from_high g w.bottom w.top n) (from_high f w.left w.right m);
  top = cond s (from_high f w.left w.right m) (from_high g w.bottom w.top n);
}

abbrev pub window : Placement → Bounds → Bounds
window p w = window_laid p.swapped p.flip_x p.flip_y p.x p.y w

record Axis (f : Bool) (a b m u v : ℤ) : Type 0 where
  low : a ≤ℤ int_min (signed f u +ℤ m) (signed f v +ℤ m)
  high : int_max (signed f u +ℤ m) (signed f v +ℤ m) ≤ℤ b

record Back (f : Bool) (a b m u v : ℤ) : Type 0 where
  low : from_low f a b m ≤ℤ u
  high : v ≤ℤ from_high f a b m

axis_back : (f : Bool) (a b m u v : ℤ) → a ≤ℤ int_min (signed f u +ℤ m) (signed f v +ℤ m) → int_max (signed f u +ℤ m) (signed f v +ℤ m) ≤ℤ b → Back f a b m u v
axis_back true a b m u v h k = record { low = omega (arith, ints, clamps, h, k); high = omega (arith, ints, clamps, h, k) }
axis_back false a b m u v h k = record { low = omega (arith, ints, clamps, h, k); high = omega (arith, ints, clamps, h, k) }

axis_forth : (f : Bool) (a b m u v : ℤ) → u ≤ℤ v → from_low f a b m ≤ℤ u → v ≤ℤ from_high f a b m → Axis f a b m u v
axis_forth true a b m u v o h k = record { low = omega (arith, ints, clamps, o, h, k); high = omega (arith, ints, clamps, o, h, k) }
axis_forth false a b m u v o h k = record { low = omega (arith, ints, clamps, o, h, k); high = omega (arith, ints, clamps, o, h, k) }

abbrev laid : Bool → Bool → Bool → ℤ → ℤ → Bounds → Bounds
laid s f g m n b = record {
  left = int_min (signed f (cond s b.bottom b.left) +ℤ m) (signed f (cond s b.top b.right) +ℤ m);
  bottom = int_min (signed g (cond s b.left b.bottom) +ℤ n) (signed g (cond s b.right b.top) +ℤ n);
  right = int_max (signed f (cond s b.bottom b.left) +ℤ m) (signed f (cond s b.top b.right) +ℤ m);
  top = int_max (signed g (cond s b.left b.bottom) +ℤ n) (signed g (cond s b.right b.top) +ℤ n);
}

laid_back : (s f g : Bool) (m n : ℤ) (w b : Bounds) → IsPart w (laid s f g m n b) → IsPart (window_laid s f g m n w) b
laid_back true f g m n w b h =
    let u = axis_back f w.left w.right m b.bottom b.top h.left h.right in
    let v = axis_back g w.bottom w.top n b.left b.right h.bottom h.top in
    record { left = v.low; bottom = u.low; right = v.high; top = u.high }
laid_back false f g m n w b h =
    let u = axis_back f w.left w.right m b.left b.right h.left h.right in
    let v = axis_back g w.bottom w.top n b.bottom b.top h.bottom h.top in
    record { left = u.low; bottom = v.low; right = u.high; top = v.high }

laid_forth : (s f g : Bool) (m n : ℤ) (w b : Bounds) → IsOrdered b → IsPart (window_laid s f g m n w) b → IsPart w (laid s f g m n b)
laid_forth true f g m n w b o h =
    let u = axis_forth f w.left w.right m b.bottom b.top o.tall h.bottom h.top in
    let v = axis_forth g w.bottom w.top n b.left b.right o.wide h.left h.right in
    record { left = u.low; bottom = v.low; right = u.high; top = v.high }
laid_forth false f g m n w b o h =
    let u = axis_forth f w.left w.right m b.left b.right o.wide h.left h.right in
    let v = axis_forth g w.bottom w.top n b.bottom b.top o.tall h.bottom h.top in
    record { left = u.low; bottom = v.low; right = u.high; top = v.high }

pub back_fits : (p : Placement) (w b : Bounds) → IsOrdered b → IsPart w (carried_bounds p b) ↔ IsPart (window p w) b
back_fits p w b o = (laid_back p.swapped p.flip_x p.flip_y p.x p.y w b, laid_forth p.swapped p.flip_x p.flip_y p.x p.y w b o)

-- ---- two placements

min_same : (f s : Bool) (a b c d m : ℤ)
    → int_min (signed f (cond s b a) +ℤ m) (signed f (cond s d c) +ℤ m) ≡ int_min (signed f (cond s (int_min b d) (int_min a c)) +ℤ m) (signed f (cond s (int_max b d) (int_max a c)) +ℤ m)
min_same true true a b c d m = omega (arith, ints, clamps)
min_same true false a b c d m = omega (arith, ints, clamps)
min_same false true a b c d m = omega (arith, ints, clamps)
min_same false false a b c d m = omega (arith, ints, clamps)

max_same : (f s : Bool) (a b c d m : ℤ)
    → int_max (signed f (cond s b a) +ℤ m) (signed f (cond s d c) +ℤ m) ≡ int_max (signed f (cond s (int_min b d) (int_min a c)) +ℤ m) (signed f (cond s (int_max b d) (int_max a c)) +ℤ m)
max_same true true a b c d m = omega (arith, ints, clamps)
max_same true false a b c d m = omega (arith, ints, clamps)
max_same false true a b c d m = omega (arith, ints, clamps)
max_same false false a b c d m = omega (arith, ints, clamps)

both_ends : (f : ℤ → ℤ → ℤ) (a b c d : ℤ) → a ≡ b → c ≡ d → f a c ≡ f b d
both_ends f a b c d h k = rw (h, k) refl

pub bounds_together : (p q : Placement) (b : Bounds) → carried_bounds (composed p q) b ≡ carried_bounds p (carried_bounds q b)
bounds_together p q b =
    let x1 = point_x q b.left b.bottom in
    let y1 = point_y q b.left b.bottom in
    let x2 = point_x q b.right b.top in
    let y2 = point_y q b.right b.top in
    let first_x = sym (point_together_x p q b.left b.bottom) in
    let first_y = sym (point_together_y p q b.left b.bottom) in
    let last_x = sym (point_together_x p q b.right b.top) in
    let last_y = sym (point_together_y p q b.right b.top) in
    four_same _ _ _ _ _ _ _ _ (both_ends int_min _ _ _ _ first_x last_x ∙ min_same p.flip_x p.swapped x1 y1 x2 y2 p.x) (both_ends int_min _ _ _ _ first_y last_y ∙ min_same p.flip_y p.swapped y1 x1 y2 x2 p.y)
    (both_ends int_max _ _ _ _ first_x last_x ∙ max_same p.flip_x p.swapped x1 y1 x2 y2 p.x) (both_ends int_max _ _ _ _ first_y last_y ∙ max_same p.flip_y p.swapped y1 x1 y2 x2 p.y)

least_most : (a b : ℤ) → int_min a b ≤ℤ int_max a b
least_most a b = omega (arith, ints, clamps)

pub carried_ordered : (p : Placement) (b : Bounds) → IsOrdered (carried_bounds p b)
carried_ordered p b = record {
  wide = least_most (point_x p b.left b.bottom) (point_x p b.right b.top);
  tall = least_most (point_y p b.left b.bottom) (point_y p b.right b.top);
}

pub carry_back : (p : Placement) (w : Bounds) (cs : List Copy) → FitAll w (map (carry_copy p) cs) → FitAll (window p w) cs
carry_back p w [] all = none_fit (window p w)
carry_back p w (c ∷ cs) all =
    all_from (FitsCopy (window p w)) c cs
    (λ k d lt. let part = get_or (parts_of c.element) k d in (back_fits p w (carried_bounds c.placement part) (carried_ordered c.placement part)).0
    (subst (IsPart w) (bounds_together p c.placement part) (all_first (FitsCopy w) (carry_copy p c) (map (carry_copy p) cs) all k d lt)))
    (carry_back p w cs (all_rest (FitsCopy w) (carry_copy p c) (map (carry_copy p) cs) all))

pub carry_forth : (p : Placement) (w : Bounds) (cs : List Copy) → FitAll (window p w) cs → FitAll w (map (carry_copy p) cs)
carry_forth p w [] all = none_fit w
carry_forth p w (c ∷ cs) all =
    all_from (FitsCopy w) (carry_copy p c) (map (carry_copy p) cs)
    (λ k d lt. let part = get_or (parts_of c.element) k d in subst (IsPart w) (sym (bounds_together p c.placement part))
    ((back_fits p w (carried_bounds c.placement part) (carried_ordered c.placement part)).1 (all_first (FitsCopy (window p w)) c cs all k d lt)))
    (carry_forth p w cs (all_rest (FitsCopy (window p w)) c cs all))

-- what draws nothing, carried
pub nothing_fits : (p : Placement) (w : Bounds) (cs : List Copy) → IsTight cs None → FitAll w (map (carry_copy p) cs)
nothing_fits p w cs tight = carry_forth p w cs ((tight (window p w)).0 tt)

pub single_fits : (p : Placement) (w b : Bounds) (cs : List Copy) → IsOrdered b → IsTight cs (Some b) → IsPart w (carried_bounds p b) ↔ FitAll w (map (carry_copy p) cs)
single_fits p w b cs o tight = (
  λ h. carry_forth p w cs ((tight (window p w)).0 ((back_fits p w b o).0 h)),
  λ all. (back_fits p w b o).1 ((tight (window p w)).1 (carry_back p w cs all)),
)

-- ---- links

turns_fit : (w : Bounds) (f : ℕ → List Copy) (n m : ℕ) → m ≤ n → ((k : ℕ) → k < n → FitAll w (f k)) → FitAll w (flat_map f (range_with_len 0 m))
turns_fit w f n zero le each = none_fit w
turns_fit w f n (suc m) le each =
    let one : m + 1 ≡ suc m = omega arith in
    subst (λ j. FitAll w (flat_map f (range_with_len 0 j))) one
    (subst (FitAll w) (sym (range_more f m)) (fit_joins w (flat_map f (range_with_len 0 m)) (f m) (turns_fit w f n m (omega (arith, le)) each) (each m (omega (arith, le)))))

at_last : (k m : ℕ) → k < suc m → (k ≡ m) ⊎ (k < m)
at_last k m h = by (cases_eq k m) where
  by : ((k ≡ m) ⊎ (k ≡ m → ⊥)) → (k ≡ m) ⊎ (k < m)
  by (inl e) = inl e
  by (inr apart) = inr (omega (arith, h, apart))

pub turn_fits : (w : Bounds) (f : ℕ → List Copy) (m k : ℕ) → k < m → FitAll w (flat_map f (range_with_len 0 m)) → FitAll w (f k)
turn_fits w f zero k lt all = absurd (omega (arith, lt))
turn_fits w f (suc m) k lt all = cases (at_last k m lt) (λ less. turn_fits w f m k less (fit_first w (flat_map f (range_with_len 0 m)) (f m) split)) where
  split : FitAll w (flat_map f (range_with_len 0 m) ++ f m)
  split =
      let one : suc m ≡ m + 1 = omega arith in
      subst (FitAll w) (range_more f m) (subst (λ j. FitAll w (flat_map f (range_with_len 0 j))) one all)

  cases : ((k ≡ m) ⊎ (k < m)) → (k < m → FitAll w (f k)) → FitAll w (f k)
  cases (inl e) before = subst (λ j. FitAll w (f j)) (sym e) (fit_later w (flat_map f (range_with_len 0 m)) (f m) split)
  cases (inr less) before = before less

abbrev pub link_draws : (ℕ → List Copy) → Link → List Copy
link_draws below l = flat_map (λ (s : ℕ × Placement). map (carry_copy s.1) (below s.0)) (singles_of l)

pub link_fits : (w : Bounds) (below : ℕ → List Copy) (l : Link)
    → ((k : ℕ) → k < l.columns * l.rows → FitAll w (map (carry_copy (single l k)) (below l.cell))) ↔ FitAll w (link_draws below l)
link_fits w below l =
    let f : ℕ → List Copy = λ k. map (carry_copy (single l k)) (below l.cell) in
    let same = turns_drawn below l (range_with_len 0 (l.columns * l.rows)) in
    let n = l.columns * l.rows in (
      λ each. subst (FitAll w) (sym same) (turns_fit w f n n (omega arith) each),
      λ all k lt. turn_fits w f n k lt (subst (FitAll w) same all),
    )

-- a link beside what was there before, where the extent of its cell is tight
pub link_tight : (w : Bounds) (l : Link) (b all : Bounds) (before o : Option Bounds) (cs : List Copy) → IsOrdered b → IsTight cs (Some b)
    → IsPart w all ↔ ((k : ℕ) → k < l.columns * l.rows → IsPart w (carried_bounds (single l k) b))
    → Fits w o ↔ (Fits w before × Fits w (Some all))
    → Fits w o ↔ (Fits w before × ((k : ℕ) → k < l.columns * l.rows → FitAll w (map (carry_copy (single l k)) cs)))
link_tight w l b all before o cs ordered tight corners join = (
  λ f. let r = join.0 f in (r.0, λ k lt. (single_fits (single l k) w b cs ordered tight).0 (corners.0 r.1 k lt)),
  λ h. join.1 (h.0, corners.1 (λ k lt. (single_fits (single l k) w b cs ordered tight).1 (h.1 k lt))),
)

pub nothing_tight : (w : Bounds) (l : Link) (before : Option Bounds) (cs : List Copy) → IsTight cs None
    → Fits w before ↔ (Fits w before × ((k : ℕ) → k < l.columns * l.rows → FitAll w (map (carry_copy (single l k)) cs)))
nothing_tight w l before cs tight = ((λ h. (h, λ k lt. nothing_fits (single l k) w cs tight)), (λ h. h.0))

pub link_next : (old : List Copy) (below : ℕ → List Copy) (l : Link) (o q : Option Bounds) → IsTight old o
    → ((w : Bounds) → Fits w q ↔ (Fits w o × ((k : ℕ) → k < l.columns * l.rows → FitAll w (map (carry_copy (single l k)) (below l.cell)))))
    → IsTight (old ++ link_draws below l) q
link_next old below l o q tight more =
    tight_next old (link_draws below l) o q tight (λ w. (
      λ f. let r = (more w).0 f in (r.0, (link_fits w below l).0 r.1),
      λ h. (more w).1 (h.0, (link_fits w below l).1 h.1),
    ))

-- ---- the range of all coordinates

abbrev pub all_coordinates : Bounds
all_coordinates = record { left = lowest; bottom = lowest; right = highest; top = highest }

pub range_part : (b : Bounds) → IsOrdered b → IsPart all_coordinates b → AreInRange b
range_part b o h = axes b.left b.bottom b.right b.top o.wide o.tall h.left h.bottom h.right h.top where
  axes : (l m r t : ℤ) → l ≤ℤ r → m ≤ℤ t → lowest ≤ℤ l → lowest ≤ℤ m → r ≤ℤ highest → t ≤ℤ highest → AreInRange (record { left = l; bottom = m; right = r; top = t })
  axes l m r t u v a b c d = (
    (record { least = a; most = omega (arith, ints, clamps, u, c) }, record { least = b; most = omega (arith, ints, clamps, v, d) }),
    (record { least = omega (arith, ints, clamps, u, a); most = c }, record { least = omega (arith, ints, clamps, v, b); most = d }),
  )

pub part_range : (b : Bounds) → AreInRange b → IsPart all_coordinates b
part_range b r = record { left = r.0.0.least; bottom = r.0.1.least; right = r.1.0.most; top = r.1.1.most }

pub fit_stay : (cs : List Copy) → FitAll all_coordinates cs → AllStayInRange cs
fit_stay cs all = λ k d lt j e small.
    let c = get_or cs k d in
    let part = get_or (parts_of c.element) j e in range_part (carried_bounds c.placement part) (carried_ordered c.placement part) (all k d lt j e small)

pub stay_fit : (cs : List Copy) → AllStayInRange cs → FitAll all_coordinates cs
stay_fit cs all = λ k d lt j e small.
    let c = get_or cs k d in
    let part = get_or (parts_of c.element) j e in part_range (carried_bounds c.placement part) (all k d lt j e small)

pub all_inside : (b : Bounds) (cs : List Copy) → IsOrdered b → IsTight cs (Some b) → AreInRange b → AllStayInRange cs
all_inside b cs o tight range = fit_stay cs ((tight all_coordinates).0 (part_range b range))

pub not_inside : (b : Bounds) (cs : List Copy) → IsOrdered b → IsTight cs (Some b) → AllStayInRange cs → AreInRange b
not_inside b cs o tight all = range_part b o ((tight all_coordinates).1 (stay_fit cs all))

pub none_inside : (cs : List Copy) → IsTight cs None → AllStayInRange cs
none_inside cs tight = fit_stay cs ((tight all_coordinates).0 tt)
