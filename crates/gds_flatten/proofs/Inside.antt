-- Copies that lie strictly within a frame are all met, and become roots.
use Rattle.std.proofs.Common.{◌≡◌, ℕ, zero, suc, ◌+◌, ◌*◌, ◌<◌, ◌≤◌, ◌⊎◌, inl, inr, ℤ, ◌≤ℤ◌, ◌<ℤ◌, true, ◌||◌, List, [], ◌∷◌, ◌++◌, length, map, refl, sym, ap, subst, arith, ◌∙◌}
use Rattle.std.specs.Prelude.{int_lt, Option, Some, None, All}
use Rattle.std.specs.Int.{int_min, int_max}
use Rattle.std.specs.List.{flat_map, range_with_len}
use Rattle.std.proofs.lemmas.Int.{ints, clamps}
use Rattle.std.proofs.lemmas.Bool.{and_from}
use Rattle.std.proofs.lemmas.Grind.{flat_map-append}
use Rattle.std.proofs.lemmas.List.{length-append}
use Rattle.std.proofs.lemmas.List.Elements.{All-append}
use Rattle.fill_base.specs.declared.rect.Rect.{Rect}
use Rattle.fill_region.specs.Squares.{covered}
use Rattle.gds_shape.specs.declared.bounds.Bounds.{Bounds}
use Rattle.gds_shape.specs.Extents.{joined}
use Rattle.gds_shape.proofs.Counting.{count_cons}
use Rattle.gds_cells.specs.declared.cell.Cell.{Cell}
use Rattle.gds_cells.specs.declared.error.FlattenError.{FlattenError}
use Rattle.gds_cells.specs.declared.error.FlattenError.TheVariants.{TooManyShapes}
use Rattle.gds_cells.specs.declared.placement.Placement.{Placement}
use Rattle.gds_cells.specs.Copies.{Copy, copies, drawn, AllStayInRange}
use Rattle.gds_cells.specs.Graphs.{item}
use Rattle.gds_cells.specs.Links.{single}
use Rattle.gds_cells.specs.Placements.{carried_bounds, composed}
use Rattle.gds_cells.specs.Shapes.{parts_of, StaysInRange}
use Rattle.gds_cells.specs.steps.Counting.{IsCapped, AreCounted}
use Rattle.gds_cells.specs.steps.Prepared.{IsOrdered, IsPart}
use Rattle.gds_cells.specs.steps.Walks.{hierarchy}
use Rattle.gds_cells.proofs.Capping.{count_of}
use Rattle.gds_flatten.specs.declared.found.Found.{Found}
use Rattle.gds_flatten.specs.declared.found.Framed.{Framed}
use Rattle.gds_flatten.specs.declared.turns.Turns.{Turns}
use Rattle.gds_flatten.specs.Frames.{meets, meets_if, joined_if, extent_of, is_met, met}
use Rattle.gds_flatten.specs.steps.Finding.{IsReady, IsFound, IsRefusalOn, inner}
use Rattle.gds_flatten.specs.steps.Framing.{Fits, FitsCopy, FitAll, IsStrictly, AreInside}
use Rattle.gds_flatten.specs.steps.Idle.{are_some}
use Rattle.gds_flatten.specs.steps.Roots.{turn_copies, turns_copies, roots_copies, AreRooted}
use Rattle.gds_flatten.proofs.Chained.{nothing_more}
use Rattle.gds_flatten.proofs.Drawing.{drawn_joins, or_joins}
use Rattle.gds_flatten.proofs.Missed.{parts_fit}
use Rattle.gds_flatten.proofs.Sharing.{many, single_long, shifted, turns_long}
use Rattle.gds_flatten.proofs.Sparse.{AreAllFull, full_carried, range_full, copies_full}
use Rattle.gds_flatten.proofs.Tight.{all_from, all_first, all_rest, carried_ordered, none_fit, fit_joins}

-- ---- what lies strictly within is met, where it has parts

-- a frame meets what lies strictly within it
strictly_meets : (r : Rect) (w b : Bounds) → IsStrictly r w → IsPart w b → IsOrdered b → meets r b ≡ true
strictly_meets r w b s part o =
    and_from _ _ (and_from _ _ (low b.left b.right w.right r.x2 o.wide part.right s.right) (high r.x1 w.left b.left b.right s.left part.left o.wide))
    (and_from _ _ (low b.bottom b.top w.top r.y2 o.tall part.top s.top) (high r.y1 w.bottom b.bottom b.top s.bottom part.bottom o.tall))
  where
    low : (a b w z : ℤ) → a ≤ℤ b → b ≤ℤ w → w <ℤ z → int_lt a z ≡ true
    low a b w z h k l = grind (arith, ints)

    high : (z w a b : ℤ) → z <ℤ w → w ≤ℤ a → a ≤ℤ b → int_lt z b ≡ true
    high z w a b h k l = grind (arith, ints)

joined_meets : (r : Rect) (w b : Bounds) (o : Option Bounds) → IsStrictly r w → Fits w (joined_if b o) → IsOrdered b → meets_if r (joined_if b o) ≡ true
joined_meets r w b None strictly fits ordered = strictly_meets r w b strictly fits ordered
joined_meets r w b (Some c) strictly fits ordered = strictly_meets r w (joined b c) strictly fits (record { wide = order b.left b.right c.left c.right ordered.wide; tall = order b.bottom b.top c.bottom c.top ordered.tall }) where
  order : (a c b d : ℤ) → a ≤ℤ c → int_min a b ≤ℤ int_max c d
  order a c b d h = omega (arith, ints, clamps)

copy_met : (r : Rect) (w : Bounds) (p : Placement) (parts : List Bounds) → are_some parts ≡ true → IsStrictly r w → All (λ b. IsPart w (carried_bounds p b)) parts
    → meets_if r (extent_of (map (carried_bounds p) parts)) ≡ true
copy_met r w p [] some strictly fit = let both = some in cc
copy_met r w p (b ∷ parts) some strictly fit =
    joined_meets r w (carried_bounds p b) (extent_of (map (carried_bounds p) parts)) strictly ((parts_fit w p (b ∷ parts)).1 fit) (carried_ordered p b)

inside_met : (r : Rect) (w : Bounds) (cs : List Copy) → IsStrictly r w → FitAll w cs → AreAllFull cs → met r cs ≡ length cs
inside_met r w [] strictly fit full = refl
inside_met r w (c ∷ cs) strictly fit full =
    let one : is_met r c ≡ true = copy_met r w c.placement (parts_of c.element) full.0 strictly (all_first (FitsCopy w) c cs fit) in
    rw (count_cons (is_met r) c cs, one, inside_met r w cs strictly (all_rest (FitsCopy w) c cs fit) full.1) (omega arith)

-- ---- single references within

pub range_fit : (w : Bounds) (f : ℕ → List Copy) (a n : ℕ) → ((k : ℕ) → a ≤ k → k < a + n → FitAll w (f k)) → FitAll w (flat_map f (range_with_len a n))
range_fit w f a zero each = none_fit w
range_fit w f a (suc n) each =
    fit_joins w (f a) (flat_map f (range_with_len (a + 1) n)) (each a (omega arith) (omega arith)) (range_fit w f (a + 1) n (λ k ge lt. each k (omega (arith, ge)) (omega (arith, lt))))

-- ---- one root more

roots_more : (cells : List Cell) (roots : List Turns) (t : Turns) → roots_copies cells (roots ++ t ∷ []) ≡ roots_copies cells roots ++ turns_copies cells t
roots_more cells roots t =
    flat_map-append (turns_copies cells) roots (t ∷ []) ∙ ap (λ (cs : List Copy). roots_copies cells roots ++ cs) (nothing_more (turns_copies cells t))

-- the number of copies of single references, where it's not too large
module _ (w : Framed) (t : Turns) (ready : IsReady w) (counted : AreCounted w.cells.now w.counts.now t.depth t.link.cell) (inside : AreInside w.frame.now (turns_copies w.cells.now t)) (each more : ℕ)
    (each_is : each ≡ item w.counts.now t.link.cell) (more_is : more ≡ t.number * each) where
  all_met : met w.frame.now (turns_copies w.cells.now t) ≡ length (turns_copies w.cells.now t)
  all_met = inside_met w.frame.now inside.window (turns_copies w.cells.now t) inside.strictly inside.fit
      (range_full (turn_copies w.cells.now t) t.first t.number (λ k. full_carried (composed t.placement (single t.link k)) (copies (hierarchy w.cells.now) t.depth t.link.cell) (copies_full w.cells.now ready.full t.depth t.link.cell)))

  capped : (more ≡ length (turns_copies w.cells.now t)) ⊎ ((4000001 ≤ more) × (4000001 ≤ length (turns_copies w.cells.now t)))
  capped =
      let long : length (turns_copies w.cells.now t) ≡ t.number * length (copies (hierarchy w.cells.now) t.depth t.link.cell) =
      ap length (shifted (turn_copies w.cells.now t) t.first t.number)
      ∙ turns_long (λ k. turn_copies w.cells.now t (t.first + k)) (length (copies (hierarchy w.cells.now) t.depth t.link.cell))
      (λ k. single_long t.placement (copies (hierarchy w.cells.now) t.depth) t.link (t.first + k)) t.number in
      let one = count_of w.cells.now w.counts.now t.depth t.link.cell counted in
      cases long (many t.number (length (copies (hierarchy w.cells.now) t.depth t.link.cell)) each (subst (IsCapped (length (copies (hierarchy w.cells.now) t.depth t.link.cell))) (sym each_is) one))
    where
      cases : {n m : ℕ} → m ≡ n → ((t.number * each ≡ n) ⊎ ((4000001 ≤ t.number * each) × (4000001 ≤ n))) → (more ≡ m) ⊎ ((4000001 ≤ more) × (4000001 ≤ m))
      cases long (inl e) = inl (more_is ∙ e ∙ sym long)
      cases long (inr (a, b)) = inr (omega (arith, a, more_is), omega (arith, b, long))

  pub root_many : (old : Found) (e : FlattenError) → (e ≡ TooManyShapes) × (4000000 < old.copies + more) → IsRefusalOn w.frame.now (turns_copies w.cells.now t) old e
  root_many old e (is, large) = inr (is, cases capped) where
    cases : ((more ≡ length (turns_copies w.cells.now t)) ⊎ ((4000001 ≤ more) × (4000001 ≤ length (turns_copies w.cells.now t)))) → 4000000 < old.copies + met w.frame.now (turns_copies w.cells.now t)
    cases (inl e) = let all = all_met in omega (arith, large, all, e)
    cases (inr (a, b)) = let all = all_met in omega (arith, b, all)

  pub root_found : (old new : Found) → new.copies ≡ old.copies + more → new.copies ≤ 4000000 → new.inside ≡ old.inside + more → new.roots.items ≡ old.roots.items ++ t ∷ [] → new.rects.items ≡ old.rects.items
      → IsFound w (turns_copies w.cells.now t) old new
  root_found old new total few now roots rects = record {
    counted = let all = all_met in let e = exact in omega (arith, total, all, e);
    drawn = λ stay x y on.
        ap (λ rs. covered rs x y || drawn (inner w new) x y) rects ∙ ap (λ cs. covered old.rects.items x y || drawn cs x y) joined
        ∙ rw (drawn_joins (inner w old) (turns_copies w.cells.now t) x y) (sym (or_joins (covered old.rects.items x y) (drawn (inner w old) x y) (drawn (turns_copies w.cells.now t) x y)));
    stay = λ stay all. subst AllStayInRange (sym joined) (All-append (λ (c : Copy). StaysInRange c.placement c.element) (inner w old) (turns_copies w.cells.now t) all stay);
    kept = λ k. record {
      rooted = subst (AreRooted w.cells.now w.counts.now) (sym roots)
          (All-append (λ (u : Turns). AreCounted w.cells.now w.counts.now u.depth u.link.cell) old.roots.items (t ∷ []) k.rooted (all_from (λ (u : Turns). AreCounted w.cells.now w.counts.now u.depth u.link.cell) t [] counted (λ j d lt. absurd (omega (arith, lt)))));
      number = let e = exact in let was = k.number in let long = ap length joined ∙ length-append (inner w old) (turns_copies w.cells.now t) in omega (arith, now, e, was, long);
    };
  } where
    joined : inner w new ≡ inner w old ++ turns_copies w.cells.now t
    joined = ap (roots_copies w.cells.now) roots ∙ roots_more w.cells.now old.roots.items t

    exact : more ≡ length (turns_copies w.cells.now t)
    exact = cases capped where
      cases : ((more ≡ length (turns_copies w.cells.now t)) ⊎ ((4000001 ≤ more) × (4000001 ≤ length (turns_copies w.cells.now t)))) → more ≡ length (turns_copies w.cells.now t)
      cases (inl e) = e
      cases (inr (a, b)) = absurd (omega (arith, a, total, few))
