-- The references of stacks stand at the corners of their places.
use Rattle.std.proofs.Common.{◌≡◌, refl, ap, sym, subst, ◌∙◌, ℕ, zero, suc, ◌+◌, ◌*◌, ◌/◌, ◌%◌, ◌<◌, ℤ, pos, ◌+ℤ◌, ◌*ℤ◌, arith, Bool, true, false, ◌&&◌, List, [], ◌∷◌, ◌++◌, map}
use Rattle.std.specs.Prelude.{◌==◌, if◌then◌else◌}
use Rattle.std.specs.List.{flat_map, range_with_len, AllByRecursion}
use Rattle.std.specs.List.Sorted.{IsPermutation}
use Rattle.std.proofs.lemmas.Bool.{and_parts, eqb-true}
use Rattle.std.proofs.lemmas.Int.{ints}
use Rattle.std.proofs.lemmas.List.{map-append}
use Rattle.std.proofs.lemmas.List.Sorted.{IsPermutation-map}
use Rattle.std.proofs.lemmas.Nat.{div-mul-add, mod-mul-add}
use Rattle.fill_base.specs.declared.place.Point.{Point}
use Rattle.fill_raster.specs.Axes.{box_begin}
use Rattle.fill_raster.specs.Lattice.{Lattice}
use Rattle.fill_stacks.specs.Laws.{IsOnRaster}
use Rattle.fill_stacks.specs.Places.{PlaceSet, filled_places}
use Rattle.fill_stacks.specs.Runs.{numbers_from}
use Rattle.fill_stacks.specs.Stacks.{stack_places, stacks}
use Rattle.fill_stacks.specs.declared.pieces.Stack.{Stack}
use Rattle.fill_stacks.proofs.Stacking.{hold_each_once}
use Rattle.gds_cells.specs.References.{grid_point, step_of}
use Rattle.gds_cells.proofs.Wholes.{steps_are_whole_lem}
use Rattle.gds_out.specs.FillContents.{corner_of, stack_points}
use Rattle.gds_out.specs.Laws.{ReferencesStandAtTheirPlaces, StacksStandAtTheirPlaces, stack_corners}
use Rattle.gds_out.proofs.ByStacks.{all_on}
use Rattle.gds_out.proofs.Corners.{steps_more}

-- two lists that go through equal points
pub same_points : (f : ℕ → Point) (g : ℤ → Point) (a n : ℕ) (z : ℤ) → ((k : ℕ) → k < n → f (a + k) ≡ g (z +ℤ pos k)) → map f (range_with_len a n) ≡ map g (numbers_from z n)
same_points f g a zero z each = refl
same_points f g a (suc n) z each =
    let e : a + 0 ≡ a = omega arith in
    let h : z +ℤ pos 0 ≡ z = omega (arith, ints) in
    ap (λ p. p ∷ map f (range_with_len (a + 1) n)) (ap f (sym e) ∙ (each 0 (omega arith) ∙ ap g h))
    ∙ ap (λ ps. g z ∷ ps) (same_points f g (a + 1) n (z +ℤ pos 1) (λ k lt.
    let e1 : (a + 1) + k ≡ a + suc k = omega arith in
    let h1 : (z +ℤ pos 1) +ℤ pos k ≡ z +ℤ pos (suc k) = omega (arith, ints) in
    ap f e1 ∙ (each (suc k) (omega arith) ∙ ap g (sym h1))))

pub times_zero : (n : ℕ) → pos n *ℤ pos 0 ≡ pos 0
times_zero n = omega (arith, ints)

more_of_none : (y : ℤ) (n : ℕ) → y ≡ y +ℤ (pos n *ℤ pos 0)
more_of_none y n = rw (times_zero n) (none y)
  where
    none : (y : ℤ) → y ≡ y +ℤ pos 0
    none y = omega (arith, ints)

-- the steps of a row's array
pub column_step : (x y s : ℤ) (n : ℕ) → 0 < n → step_of (record { x = x; y = y }) (record { x = x +ℤ (pos n *ℤ s); y = y }) n ≡ record { x = s; y = pos 0 }
column_step x y s n some = ((steps_are_whole_lem (record { x = x; y = y }) (record { x = x +ℤ (pos n *ℤ s); y = y }) (record { x = s; y = pos 0 }) n some).1 (refl, more_of_none y n)).1

pub paired_by : (h : ℤ → ℤ → Point) (j : ℤ) (is : List ℤ) → map (λ i. h i j) is ≡ map (λ (p : ℤ × ℤ). h p.0 p.1) (map (λ i. (i, j)) is)
paired_by h j [] = refl
paired_by h j (i ∷ is) = ap (λ qs. h i j ∷ qs) (paired_by h j is)

ranges_joined : (a n m : ℕ) → range_with_len a (n + m) ≡ range_with_len a n ++ range_with_len (a + n) m
ranges_joined a zero m = let e : a + 0 ≡ a = omega arith in let f : 0 + m ≡ m = omega arith in rw (e, f) refl
ranges_joined a (suc n) m =
    let f : suc n + m ≡ suc (n + m) = omega arith in
    let g : a + suc n ≡ (a + 1) + n = omega arith in
    rw (f, g) (ap (λ ns. a ∷ ns) (ranges_joined (a + 1) n m))

-- a row of the array after another
rows_at : (f : ℕ → ℕ → Point) (h : ℤ → ℤ → Point) (n m b : ℕ) (z w : ℤ) → 0 < n → ((i j : ℕ) → i < n → j < m → f i (b + j) ≡ h (z +ℤ pos i) (w +ℤ pos j))
    → map (λ k. f (k % n) (k / n)) (range_with_len (b * n) (n * m)) ≡ map (λ (p : ℤ × ℤ). h p.0 p.1) (flat_map (λ j. map (λ i. (i, j)) (numbers_from z n)) (numbers_from w m))
rows_at f h n zero b z w some each = let e : n * 0 ≡ 0 = omega arith in rw e refl
rows_at f h n (suc m) b z w some each =
    let split : n * suc m ≡ n + n * m = grind arith in
    let on : b * n + n ≡ (b + 1) * n = grind arith in
    let b0 : b + 0 ≡ b = omega arith in
    let w0 : w +ℤ pos 0 ≡ w = omega (arith, ints) in
    let first : map (λ k. f (k % n) (k / n)) (range_with_len (b * n) n) ≡ map (λ i. h i w) (numbers_from z n) =
    same_points (λ k. f (k % n) (k / n)) (λ i. h i w) (b * n) n z (λ k lt.
    ap (λ q. f q ((b * n + k) / n)) (mod-mul-add b n k lt) ∙ (ap (f k) (div-mul-add b n k lt) ∙ (ap (f k) (sym b0) ∙ (each k 0 lt (omega arith) ∙ ap (h (z +ℤ pos k)) w0)))) in
    let later = rows_at f h n m (b + 1) z (w +ℤ pos 1) some (λ i j li lj.
    let e1 : (b + 1) + j ≡ b + suc j = omega arith in let e2 : (w +ℤ pos 1) +ℤ pos j ≡ w +ℤ pos (suc j) = omega (arith, ints) in
    ap (f i) e1 ∙ (each i (suc j) li (omega (arith, lj)) ∙ ap (h (z +ℤ pos i)) (sym e2))) in
    ap (λ c. map (λ k. f (k % n) (k / n)) (range_with_len (b * n) c)) split
    ∙ (ap (map (λ k. f (k % n) (k / n))) (ranges_joined (b * n) n (n * m))
    ∙ (map-append (λ k. f (k % n) (k / n)) (range_with_len (b * n) n) (range_with_len (b * n + n) (n * m))
    ∙ (ap (λ c. map (λ k. f (k % n) (k / n)) (range_with_len (b * n) n) ++ map (λ k. f (k % n) (k / n)) (range_with_len c (n * m))) on
    ∙ (ap (λ ps. ps ++ map (λ k. f (k % n) (k / n)) (range_with_len ((b + 1) * n) (n * m))) (first ∙ paired_by h w (numbers_from z n))
    ∙ (ap (λ ps. map (λ (p : ℤ × ℤ). h p.0 p.1) (map (λ i. (i, w)) (numbers_from z n)) ++ ps) later
    ∙ sym (map-append (λ (p : ℤ × ℤ). h p.0 p.1) (map (λ i. (i, w)) (numbers_from z n)) (flat_map (λ j. map (λ i. (i, j)) (numbers_from z n)) (numbers_from (w +ℤ pos 1) m))))))))

row_step : (x y t : ℤ) (m : ℕ) → 0 < m → step_of (record { x = x; y = y }) (record { x = x; y = y +ℤ (pos m *ℤ t) }) m ≡ record { x = pos 0; y = t }
row_step x y t m some = ((steps_are_whole_lem (record { x = x; y = y }) (record { x = x; y = y +ℤ (pos m *ℤ t) }) (record { x = pos 0; y = t }) m some).1 (more_of_none x m, refl)).1

box_at : (r : Lattice) (s : Stack) (i j : ℕ) → 0 < s.columns → 0 < s.rows → grid_point (stack_points r s) s.columns s.rows i j ≡ corner_of r (s.column +ℤ pos i) (s.row +ℤ pos j)
box_at r s i j wide tall =
    let x = box_begin r.across s.column in let y = box_begin r.up s.row in
    let c = column_step x y r.across.step s.columns wide in
    let w = row_step x y r.up.step s.rows tall in
    let cx = ap (λ (p : Point). p.x) c in
    let cy = ap (λ (p : Point). p.y) c in
    let wx = ap (λ (p : Point). p.x) w in
    let wy = ap (λ (p : Point). p.y) w in
    rw (cx, cy, wx, wy) (parts (x_is r.across.origin s.column r.across.step i j) (y_is r.up.origin s.row r.up.step i j))
  where
    regroup : (o a b : ℤ) → (o +ℤ a) +ℤ b ≡ o +ℤ (a +ℤ b)
    regroup o a b = omega (arith, ints)

    x_is : (o z t : ℤ) (i j : ℕ) → ((o +ℤ (z *ℤ t)) +ℤ (pos i *ℤ t)) +ℤ (pos j *ℤ pos 0) ≡ o +ℤ ((z +ℤ pos i) *ℤ t)
    x_is o z t i j = rw (times_zero j, steps_more z t i) (none (z *ℤ t) (pos i *ℤ t))
      where
        none : (a b : ℤ) → ((o +ℤ a) +ℤ b) +ℤ pos 0 ≡ o +ℤ (a +ℤ b)
        none a b = omega (arith, ints)

    y_is : (o z t : ℤ) (i j : ℕ) → ((o +ℤ (z *ℤ t)) +ℤ (pos i *ℤ pos 0)) +ℤ (pos j *ℤ t) ≡ o +ℤ ((z +ℤ pos j) *ℤ t)
    y_is o z t i j = rw (times_zero i, steps_more z t j) (none (z *ℤ t) (pos j *ℤ t))
      where
        none : (a b : ℤ) → ((o +ℤ a) +ℤ pos 0) +ℤ b ≡ o +ℤ (a +ℤ b)
        none a b = omega (arith, ints)

    parts : {a b c d : ℤ} → a ≡ c → b ≡ d → let p : Point = record { x = a; y = b } in let q : Point = record { x = c; y = d } in p ≡ q
    parts e f = cc

pub stacks_stand : StacksStandAtTheirPlaces
stacks_stand r s wide tall = by ((s.columns == 1) && (s.rows == 1)) refl
  where
    zero_times : 0 * s.columns ≡ 0
    zero_times = omega arith

    all : map (λ k. grid_point (stack_points r s) s.columns s.rows (k % s.columns) (k / s.columns)) (range_with_len 0 (s.columns * s.rows)) ≡ map (λ (p : ℤ × ℤ). corner_of r p.0 p.1) (stack_places s)
    all =
        ap (λ a. map (λ k. grid_point (stack_points r s) s.columns s.rows (k % s.columns) (k / s.columns)) (range_with_len a (s.columns * s.rows))) (sym zero_times)
        ∙ rows_at (grid_point (stack_points r s) s.columns s.rows) (corner_of r) s.columns s.rows 0 s.column s.row wide (λ i j li lj. let e : 0 + j ≡ j = omega arith in ap (grid_point (stack_points r s) s.columns s.rows i) e ∙ box_at r s i j wide tall)

    by : (b : Bool) → (s.columns == 1) && (s.rows == 1) ≡ b
        → (if b then corner_of r s.column s.row ∷ [] else map (λ k. grid_point (stack_points r s) s.columns s.rows (k % s.columns) (k / s.columns)) (range_with_len 0 (s.columns * s.rows)))
        ≡ map (λ (p : ℤ × ℤ). corner_of r p.0 p.1) (stack_places s)
    by true h =
        let parts = and_parts (s.columns == 1) (s.rows == 1) h in
        let c : s.columns ≡ 1 = eqb-true s.columns 1 parts.0 in
        let t : s.rows ≡ 1 = eqb-true s.rows 1 parts.1 in
        rw (c, t) refl
    by false h = all

-- the references of some stacks
pub corners_of : (filled : PlaceSet) (r : Lattice) (ss : List Stack) → AllByRecursion (IsOnRaster filled r) ss → flat_map (stack_corners r) ss ≡ map (λ (p : ℤ × ℤ). corner_of r p.0 p.1) (flat_map stack_places ss)
corners_of filled r [] all = refl
corners_of filled r (s ∷ ss) all =
    ap (λ ps. ps ++ flat_map (stack_corners r) ss) (stacks_stand r s all.0.wide all.0.some)
    ∙ (ap (λ ps. map (λ (p : ℤ × ℤ). corner_of r p.0 p.1) (stack_places s) ++ ps) (corners_of filled r ss all.1)
    ∙ sym (map-append (λ (p : ℤ × ℤ). corner_of r p.0 p.1) (stack_places s) (flat_map stack_places ss)))

pub stand_at_places : ReferencesStandAtTheirPlaces
stand_at_places r filled =
    subst (λ ps. IsPermutation ps (map (λ (p : ℤ × ℤ). corner_of r p.0 p.1) (filled_places filled r))) (sym (corners_of filled r (stacks filled r) (all_on filled r)))
    (IsPermutation-map (λ (p : ℤ × ℤ). corner_of r p.0 p.1) (flat_map stack_places (stacks filled r)) (filled_places filled r) (hold_each_once filled r))
