-- Cells without the shapes that have no parts draw the same, but for copies of those.
use Rattle.std.proofs.Common.{◌≡◌, ℕ, zero, suc, ◌+◌, ℤ, pos, ◌+ℤ◌, ◌≤ℤ◌, Bool, true, false, ◌||◌, cond, List, [], ◌∷◌, ◌++◌, length, map, refl, sym, ap, subst, arith, ◌∙◌}
use Rattle.std.specs.Prelude.{filter, slice_get, is_some, Option, Some, None, All}
use Rattle.std.specs.List.{AllZip, flat_map, range_with_len}
use Rattle.std.specs.Global.{Vec}
use Rattle.std.specs.Vec.{vec_items}
use Rattle.std.proofs.lemmas.Grind.{common_steps}
use Rattle.std.proofs.lemmas.Int.{ints, clamps}
use Rattle.std.proofs.lemmas.List.Elements.{filter-append}
use Rattle.fill_base.specs.declared.rect.Rect.{Rect}
use Rattle.gds_grammar.specs.Values.{Shape as Element, boundary, path, reference, array, shape_of}
use Rattle.gds_shape.specs.declared.bounds.Bounds.{Bounds}
use Rattle.gds_shape.specs.Extents.{IsExtent}
use Rattle.gds_shape.proofs.Counting.{count_cons}
use Rattle.gds_cells.specs.declared.cell.Cell.{Cell}
use Rattle.gds_cells.specs.declared.link.Link.{Link}
use Rattle.gds_cells.specs.declared.placement.Placement.{Placement}
use Rattle.gds_cells.specs.declared.shape.Shape.{Shape}
use Rattle.gds_cells.specs.Copies.{Copy, own_copy, carry_copy, copies, copy_covers, drawn, AllStayInRange}
use Rattle.gds_cells.specs.Placements.{back_x, back_y, carried_bounds}
use Rattle.gds_cells.specs.Shapes.{covers_of, parts_of}
use Rattle.gds_cells.specs.steps.Counting.{links_in}
use Rattle.gds_cells.specs.steps.Filled.{extent_in, rects_in}
use Rattle.gds_cells.specs.steps.Prepared.{IsPart, IsPrepared}
use Rattle.gds_cells.specs.steps.Walks.{singles_of, singles_in, own_in, shapes_in, hierarchy}
use Rattle.gds_flatten.specs.Frames.{meets_if, extent_of, is_met, met}
use Rattle.gds_flatten.specs.steps.Framing.{FitsCopy, FitAll}
use Rattle.gds_flatten.specs.steps.Idle.{are_some, has_parts, is_drawn, is_full, IsFilled, AreFull}
use Rattle.gds_flatten.proofs.Busy.{through, single_links, zipped_at}
use Rattle.gds_flatten.proofs.Tight.{all_from, all_first, all_rest, all_coordinates, fit_stay, stay_fit}

abbrev IsBare : Copy → Type 0
IsBare c = parts_of c.element ≡ []

bare_of : (c : Copy) → is_full c ≡ false → IsBare c
bare_of c not_full = empty (parts_of c.element) not_full where
  empty : (xs : List Bounds) → are_some xs ≡ false → xs ≡ []
  empty [] h = refl
  empty (x ∷ xs) h = let both : true ≡ false = h in cc

-- ---- a copy whose shape has no parts

nothing_covered : (e : Element) (x y : ℤ) → parts_of e ≡ [] → covers_of e x y ≡ false
nothing_covered (boundary l []) x y none = refl
nothing_covered (boundary l (p ∷ points)) x y none = let more = ap length none in absurd (grind (arith, common_steps, more))
nothing_covered (path l wire) x y none = rw none refl
nothing_covered (reference cell transform origin) x y none = refl
nothing_covered (array cell transform columns rows points) x y none = refl

bare_drawn : (c : Copy) (x y : ℤ) → IsBare c → copy_covers c x y ≡ false
bare_drawn c x y bare = nothing_covered c.element (back_x c.placement x y) (back_y c.placement x y) bare

bare_met : (r : Rect) (c : Copy) → IsBare c → is_met r c ≡ false
bare_met r c bare = ap (λ (bs : List Bounds). meets_if r (extent_of (map (carried_bounds c.placement) bs))) bare

bare_fits : (w : Bounds) (c : Copy) → IsBare c → FitsCopy w c
bare_fits w c bare = subst (All (λ b. IsPart w (carried_bounds c.placement b))) (sym bare) (λ k d lt. absurd (grind (arith, common_steps, lt)))

-- ---- copies without those

pub full_drawn : (cs : List Copy) (x y : ℤ) → drawn (filter is_full cs) x y ≡ drawn cs x y
full_drawn [] x y = refl
full_drawn (c ∷ cs) x y = cases (full_drawn cs x y) (is_full c) refl where
  cases : drawn (filter is_full cs) x y ≡ drawn cs x y → (b : Bool) → is_full c ≡ b → drawn (cond b (c ∷ filter is_full cs) (filter is_full cs)) x y ≡ (copy_covers c x y || drawn cs x y)
  cases rest true is = ap (λ d. copy_covers c x y || d) rest
  cases rest false is = rest ∙ sym (ap (λ d. d || drawn cs x y) (bare_drawn c x y (bare_of c is)))

pub full_met : (r : Rect) (cs : List Copy) → met r (filter is_full cs) ≡ met r cs
full_met r [] = refl
full_met r (c ∷ cs) = cases (full_met r cs) (is_full c) refl ∙ sym (count_cons (is_met r) c cs) where
  cases : met r (filter is_full cs) ≡ met r cs → (b : Bool) → is_full c ≡ b → met r (cond b (c ∷ filter is_full cs) (filter is_full cs)) ≡ cond (is_met r c) 1 0 + met r cs
  cases rest true is = count_cons (is_met r) c (filter is_full cs) ∙ ap (λ n. cond (is_met r c) 1 0 + n) rest
  cases rest false is = rest ∙ none_first (met r cs) ∙ sym (ap (λ t. cond t 1 0 + met r cs) (bare_met r c (bare_of c is))) where
    none_first : (k : ℕ) → k ≡ 0 + k
    none_first k = omega arith

full_fit : (w : Bounds) (cs : List Copy) → FitAll w (filter is_full cs) → FitAll w cs
full_fit w [] fit = fit
full_fit w (c ∷ cs) fit = cases (full_fit w cs) (is_full c) refl fit where
  cases : (FitAll w (filter is_full cs) → FitAll w cs) → (b : Bool) → is_full c ≡ b → FitAll w (cond b (c ∷ filter is_full cs) (filter is_full cs)) → FitAll w (c ∷ cs)
  cases rest true is all = all_from (FitsCopy w) c cs (all_first (FitsCopy w) c (filter is_full cs) all) (rest (all_rest (FitsCopy w) c (filter is_full cs) all))
  cases rest false is all = all_from (FitsCopy w) c cs (bare_fits w c (bare_of c is)) (rest all)

fit_full : (w : Bounds) (cs : List Copy) → FitAll w cs → FitAll w (filter is_full cs)
fit_full w [] fit = fit
fit_full w (c ∷ cs) fit = cases (fit_full w cs (all_rest (FitsCopy w) c cs fit)) (is_full c) where
  cases : FitAll w (filter is_full cs) → (b : Bool) → FitAll w (cond b (c ∷ filter is_full cs) (filter is_full cs))
  cases rest true = all_from (FitsCopy w) c (filter is_full cs) (all_first (FitsCopy w) c cs fit) rest
  cases rest false = rest

pub full_stay : (cs : List Copy) → AllStayInRange cs → AllStayInRange (filter is_full cs)
full_stay cs stay = fit_stay (filter is_full cs) (fit_full all_coordinates cs (stay_fit cs stay))

pub stay_full : (cs : List Copy) → AllStayInRange (filter is_full cs) → AllStayInRange cs
stay_full cs stay = fit_stay cs (full_fit all_coordinates cs (stay_fit (filter is_full cs) stay))

-- ---- shapes of a cell

some_parts : (parts : List Bounds) (b : Bounds) → IsExtent parts b → are_some parts ≡ true
some_parts [] b is = absurd (never b.left ((is.left (b.left +ℤ pos 1)).1 (λ k d lt. absurd (grind (arith, common_steps, lt))))) where
  never : (a : ℤ) → (a +ℤ pos 1) ≤ℤ a → ⊥
  never a h = omega (arith, ints, clamps, h)
some_parts (p ∷ parts) b is = refl

drawn_parts : (s : Shape) → has_parts (shape_of s.element.now) ≡ is_drawn s
drawn_parts s = by (extent_in s.filled) s.prepared where
  by : (o : Option Bounds) → IsPrepared (shape_of s.element.now) (rects_in s.filled) o → has_parts (shape_of s.element.now) ≡ is_some o
  by (Some b) prepared = some_parts (parts_of (shape_of s.element.now)) b ((prepared.drawn b refl).extent)
  by None prepared = none (parts_of (shape_of s.element.now)) (prepared.bare refl) where
    none : (parts : List Bounds) → length parts ≡ 0 → are_some parts ≡ false
    none [] h = refl
    none (p ∷ parts) h = absurd (omega (arith, h))

own_filtered : (shapes : List Shape) → map (λ (s : Shape). shape_of s.element.now) (filter is_drawn shapes) ≡ filter has_parts (map (λ (s : Shape). shape_of s.element.now) shapes)
own_filtered [] = refl
own_filtered (s ∷ shapes) = cases (own_filtered shapes) (is_drawn s) (drawn_parts s) where
  cases : map (λ (z : Shape). shape_of z.element.now) (filter is_drawn shapes) ≡ filter has_parts (map (λ (z : Shape). shape_of z.element.now) shapes) → (b : Bool) → has_parts (shape_of s.element.now) ≡ b → map (λ (z : Shape). shape_of z.element.now) (cond b (s ∷ filter is_drawn shapes) (filter is_drawn shapes))
      ≡ filter has_parts (map (λ (z : Shape). shape_of z.element.now) (s ∷ shapes))
  cases rest true is = rw is (ap (λ es. shape_of s.element.now ∷ es) rest)
  cases rest false is = rw is rest

pub chunks_filtered : (old new : List (Vec Shape)) → AllZip (λ (v w : Vec Shape). w.items ≡ filter is_drawn v.items) old new → flat_map vec_items new ≡ filter is_drawn (flat_map vec_items old)
chunks_filtered [] [] all = refl
chunks_filtered (v ∷ old) (w ∷ new) all = rw (all.0, chunks_filtered old new all.1) (sym (filter-append is_drawn v.items (flat_map vec_items old)))
chunks_filtered [] (w ∷ new) all = absurd all
chunks_filtered (v ∷ old) [] all = absurd all

-- ---- cells

module _ (old new : List Cell) (filled : AllZip IsFilled old new) where
  pub filled_own : (c : ℕ) → own_in (slice_get new c) ≡ filter has_parts (own_in (slice_get old c))
  filled_own = zipped_at IsFilled own_in (λ o. filter has_parts (own_in o)) refl (λ x y f. ap (map (λ (s : Shape). shape_of s.element.now)) f.shapes ∙ own_filtered (shapes_in x)) old new filled

  pub filled_links : (c : ℕ) → links_in (slice_get new c) ≡ links_in (slice_get old c)
  filled_links = zipped_at IsFilled links_in links_in refl (λ x y f. ap (λ (v : Vec Link). v.items) f.links) old new filled

  own_full : (es : List Element) → map own_copy (filter has_parts es) ≡ filter is_full (map own_copy es)
  own_full [] = refl
  own_full (e ∷ es) = cases (own_full es) (has_parts e) where
    cases : map own_copy (filter has_parts es) ≡ filter is_full (map own_copy es) → (b : Bool) → map own_copy (cond b (e ∷ filter has_parts es) (filter has_parts es)) ≡ cond b (own_copy e ∷ filter is_full (map own_copy es)) (filter is_full (map own_copy es))
    cases rest true = ap (λ cs. own_copy e ∷ cs) rest
    cases rest false = rest

  carried_full : (p : Placement) (cs : List Copy) → map (carry_copy p) (filter is_full cs) ≡ filter is_full (map (carry_copy p) cs)
  carried_full p [] = refl
  carried_full p (c ∷ cs) = cases (carried_full p cs) (is_full c) where
    cases : map (carry_copy p) (filter is_full cs) ≡ filter is_full (map (carry_copy p) cs) → (b : Bool) → map (carry_copy p) (cond b (c ∷ filter is_full cs) (filter is_full cs)) ≡ cond b (carry_copy p c ∷ filter is_full (map (carry_copy p) cs)) (filter is_full (map (carry_copy p) cs))
    cases rest true = ap (λ ds. carry_copy p c ∷ ds) rest
    cases rest false = rest

  singles_full : (f g : ℕ → List Copy) → ((c : ℕ) → f c ≡ filter is_full (g c)) → (ss : List (ℕ × Placement)) → flat_map (through f) ss ≡ filter is_full (flat_map (through g) ss)
  singles_full f g same [] = refl
  singles_full f g same (s ∷ ss) =
      rw (same s.0, carried_full s.1 (g s.0), singles_full f g same ss) (sym (filter-append is_full (map (carry_copy s.1) (g s.0)) (flat_map (through g) ss)))

  pub filled_copies : (n c : ℕ) → copies (hierarchy new) n c ≡ filter is_full (copies (hierarchy old) n c)
  unfolding copies
  filled_copies zero c = refl
  filled_copies (suc n) c =
      rw (
        filled_own c,
        single_links (slice_get new c),
        single_links (slice_get old c),
        filled_links c,
        own_full (own_in (slice_get old c)),
        singles_full (copies (hierarchy new) n) (copies (hierarchy old) n) (filled_copies n) (flat_map singles_of (links_in (slice_get old c))),
      )
      (sym (filter-append is_full (map own_copy (own_in (slice_get old c))) (flat_map (through (copies (hierarchy old) n)) (flat_map singles_of (links_in (slice_get old c))))))

  pub filled_full : AreFull new
  filled_full c = rw (filled_own c) (all_pass (own_in (slice_get old c))) where
    all_pass : (es : List Element) → All (λ e. has_parts e ≡ true) (filter has_parts es)
    all_pass [] = λ k d lt. absurd (grind (arith, common_steps, lt))
    all_pass (e ∷ es) = cases (all_pass es) (has_parts e) refl where
      cases : All (λ z. has_parts z ≡ true) (filter has_parts es) → (b : Bool) → has_parts e ≡ b → All (λ z. has_parts z ≡ true) (cond b (e ∷ filter has_parts es) (filter has_parts es))
      cases rest true is = all_from (λ z. has_parts z ≡ true) e (filter has_parts es) is rest
      cases rest false is = rest

-- ---- all copies have parts

abbrev pub AreAllFull : List Copy → Type 0
AreAllFull [] = Unit {0}
AreAllFull (c ∷ cs) = (is_full c ≡ true) × AreAllFull cs

full_joins : (cs ds : List Copy) → AreAllFull cs → AreAllFull ds → AreAllFull (cs ++ ds)
full_joins [] ds h k = k
full_joins (c ∷ cs) ds h k = (h.0, full_joins cs ds h.1 k)

pub full_carried : (p : Placement) (cs : List Copy) → AreAllFull cs → AreAllFull (map (carry_copy p) cs)
full_carried p [] h = tt
full_carried p (c ∷ cs) h = (h.0, full_carried p cs h.1)

pub range_full : (f : ℕ → List Copy) (a n : ℕ) → ((k : ℕ) → AreAllFull (f k)) → AreAllFull (flat_map f (range_with_len a n))
range_full f a zero each = tt
range_full f a (suc n) each = full_joins (f a) (flat_map f (range_with_len (a + 1) n)) (each a) (range_full f (a + 1) n each)

pub copies_full : (cells : List Cell) → AreFull cells → (n c : ℕ) → AreAllFull (copies (hierarchy cells) n c)
unfolding copies
copies_full cells full zero c = tt
copies_full cells full (suc n) c = full_joins (map own_copy (own_in (slice_get cells c))) _ (own (own_in (slice_get cells c)) (full c)) (below (copies_full cells full n) (singles_in (slice_get cells c))) where
  own : (es : List Element) → All (λ e. has_parts e ≡ true) es → AreAllFull (map own_copy es)
  own [] all = tt
  own (e ∷ es) all = (all_first (λ z. has_parts z ≡ true) e es all, own es (all_rest (λ z. has_parts z ≡ true) e es all))

  below : ((k : ℕ) → AreAllFull (copies (hierarchy cells) n k)) → (ss : List (ℕ × Placement)) → AreAllFull (flat_map (through (copies (hierarchy cells) n)) ss)
  below each [] = tt
  below each (s ∷ ss) = full_joins (map (carry_copy s.1) (copies (hierarchy cells) n s.0)) _ (full_carried s.1 (copies (hierarchy cells) n s.0) (each s.0)) (below each ss)
