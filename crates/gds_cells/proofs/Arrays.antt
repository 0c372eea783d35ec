-- The single references of an array, row by row.
use Rattle.std.proofs.Common.{negsuc, ◌-ℤ◌, ◌≤ℤ◌, ◌≤◌, ◌<◌, [], ◌∷◌, get_or, arith, None, ◌≡◌, ℕ, zero, suc, ◌*◌, ◌/◌, ◌%◌, ℤ, pos, Bool, true, false, List, refl, ap, ◌∙◌, map}
use Rattle.std.specs.Prelude.{unwrap_or, unsigned_abs, All}
use Rattle.std.specs.List.{range_with_len}
use Rattle.std.specs.Int.{int_div_euclid}
use Rattle.std.proofs.lemmas.Int.{ints}
use Rattle.std.proofs.lemmas.Bool.{and_parts, leb-true}
use Rattle.std.proofs.Math.Path.{fun_ext}
use Rattle.fill_base.specs.declared.place.Point.{Point}
use Rattle.gds_record.specs.Numbers.{IsStored}
use Rattle.gds_grammar.specs.declared.element.Transform.{Transform}
use Rattle.gds_cells.specs.declared.placement.Placement.{Placement}
use Rattle.gds_cells.specs.Placements.{placed}
use Rattle.gds_cells.specs.References.{is_bad_transform, is_count, is_whole, has_steps, array_fault, array_placements, placement_of, turns_in, is_reflected, point_at, step_of, grid_point}
use Rattle.gds_cells.specs.Links.{stepped}
use Rattle.gds_cells.specs.steps.Ranges.{IsGrid}
use Rattle.gds_cells.proofs.Wholes.{whole_size}

moved_on : (r : Bool) (n : ℕ) (x y : ℤ) (f g : ℤ → ℤ)
    → record (placed r n x y) { x = f (placed r n x y).x; y = g (placed r n x y).y } ≡ placed r n (f x) (g y)
moved_on r zero x y f g = refl
moved_on r (suc zero) x y f g = refl
moved_on r (suc (suc zero)) x y f g = refl
moved_on r (suc (suc (suc n))) x y f g = refl

-- the k-th of the single references, by the numbers of a link
abbrev pub laid : Placement → ℕ → Point → Point → ℕ → Placement
laid p columns d e k = record p {
  x = stepped p.x (k % columns) d.x (k / columns) e.x;
  y = stepped p.y (k % columns) d.y (k / columns) e.y;
}

laid_is : (p : Placement) (m : ℕ) (d e : Point) (r : Bool) (n : ℕ) (x y : ℤ) (k : ℕ) → p ≡ placed r n x y
    → laid p m d e k ≡ placed r n (stepped x (k % m) d.x (k / m) e.x) (stepped y (k % m) d.y (k / m) e.y)
laid_is p m d e r n x y k h =
    let f : ℤ → ℤ = λ v. stepped v (k % m) d.x (k / m) e.x in
    let g : ℤ → ℤ = λ v. stepped v (k % m) d.y (k / m) e.y in
    let moved : Placement → Placement = λ q. record q { x = f q.x; y = g q.y } in
    ap moved h ∙ moved_on r n x y f g

pub array_is : (t : Transform) (columns rows : ℕ) (points : List Point) (p : Placement) (m n : ℕ) (d e : Point) → p ≡ placement_of t (point_at points 0) → m ≡ columns → n ≡ rows
    → d ≡ step_of (point_at points 0) (point_at points 1) columns → e ≡ step_of (point_at points 0) (point_at points 2) rows
    → map (laid p m d e) (range_with_len 0 (m * n)) ≡ array_placements t columns rows points
array_is t columns rows points p m n d e hp hm hn hd he =
    let first = point_at points 0 in
    let there : ℕ → Placement = λ k. placement_of t (grid_point points columns rows (k % columns) (k / columns)) in
    let each : (k : ℕ) → laid p m d e k ≡ there k = λ k. laid_is p m d e (is_reflected t) (unwrap_or (turns_in t.angle) 0) first.x first.y k hp ∙ rw (hm, hd, he) refl in
    let count : m * n ≡ columns * rows = rw (hm, hn) refl in
    ap (λ n. map (laid p m d e) (range_with_len 0 n)) count ∙ ap (λ f. map f (range_with_len 0 (columns * rows))) (fun_ext each)

-- ---- how far they go

placed_x : (r : Bool) (n : ℕ) (x y : ℤ) → (placed r n x y).x ≡ x
placed_x r zero x y = refl
placed_x r (suc zero) x y = refl
placed_x r (suc (suc zero)) x y = refl
placed_x r (suc (suc (suc n))) x y = refl

placed_y : (r : Bool) (n : ℕ) (x y : ℤ) → (placed r n x y).y ≡ y
placed_y r zero x y = refl
placed_y r (suc zero) x y = refl
placed_y r (suc (suc zero)) x y = refl
placed_y r (suc (suc (suc n))) x y = refl

stored_size : (z : ℤ) → negsuc 2147483647 ≤ℤ z → z ≤ℤ pos 2147483647 → unsigned_abs z ≤ 2147483648
stored_size z h k = omega (arith, ints)

way_size : (a b : ℤ) → negsuc 2147483647 ≤ℤ a → a ≤ℤ pos 2147483647 → negsuc 2147483647 ≤ℤ b → b ≤ℤ pos 2147483647 → unsigned_abs (b -ℤ a) ≤ 4294967296
way_size a b h k l m = omega (arith, ints)

step_size : (a b s : ℤ) (n : ℕ) → 0 < n → is_whole (b -ℤ a) n ≡ true → s ≡ int_div_euclid (b -ℤ a) (pos n) → unsigned_abs (b -ℤ a) ≤ 4294967296
    → n * unsigned_abs s ≤ 4294967296
step_size a b s n some h is small = let e = whole_size (b -ℤ a) n some h in rw is (omega arith)

count_most : (n : ℕ) → is_count n ≡ true → (0 < n) × (n ≤ 32767)
count_most n h = let p = and_parts _ _ h in (leb-true 1 n p.0, leb-true n 32767 p.1)

pub grid_is : (t : Transform) (p : Placement) (a b c d e : Point) (m n : ℕ) → IsStored a → IsStored b → IsStored c → p ≡ placement_of t a → is_count m ≡ true → is_count n ≡ true
    → (has_steps a b m ≡ true) × (d ≡ step_of a b m) → (has_steps a c n ≡ true) × (e ≡ step_of a c n) → IsGrid p m n d e
grid_is t p a b c d e m n sa sb sc place cm cn dm en =
    let r = is_reflected t in
    let k = unwrap_or (turns_in t.angle) 0 in
    let mm = count_most m cm in
    let nn = count_most n cn in
    let w = and_parts _ _ dm.0 in
    let v = and_parts _ _ en.0 in
    record {
      first_x = rw (ap (λ q. q.x) place ∙ placed_x r k a.x a.y) (stored_size a.x sa.left sa.right);
      first_y = rw (ap (λ q. q.y) place ∙ placed_y r k a.x a.y) (stored_size a.y sa.low sa.high);
      some_columns = mm.0;
      few_columns = mm.1;
      some_rows = nn.0;
      few_rows = nn.1;
      columns_x = step_size a.x b.x d.x m mm.0 w.0 (ap (λ q. q.x) dm.1) (way_size a.x b.x sa.left sa.right sb.left sb.right);
      columns_y = step_size a.y b.y d.y m mm.0 w.1 (ap (λ q. q.y) dm.1) (way_size a.y b.y sa.low sa.high sb.low sb.high);
      rows_x = step_size a.x c.x e.x n nn.0 v.0 (ap (λ q. q.x) en.1) (way_size a.x c.x sa.left sa.right sc.left sc.right);
      rows_y = step_size a.y c.y e.y n nn.0 v.1 (ap (λ q. q.y) en.1) (way_size a.y c.y sa.low sa.high sc.low sc.high);
    }

-- ---- the points of the array

abbrev pub origin : Point
origin = record { x = pos 0; y = pos 0 }

pub read_at : (points : List Point) (k : ℕ) → get_or points k origin ≡ point_at points k
read_at [] k = refl
read_at (p ∷ points) zero = refl
read_at (p ∷ points) (suc k) = read_at points k

pub stored_at : (points : List Point) (k : ℕ) → All IsStored points → IsStored (get_or points k origin)
stored_at [] k h = record { left = omega (arith, ints); right = omega (arith, ints); low = omega (arith, ints); high = omega (arith, ints) }
stored_at (p ∷ points) zero h = h 0 origin (omega arith)
stored_at (p ∷ points) (suc k) h = stored_at points k (λ j d lt. h (suc j) d (omega arith))

-- why it isn't refused
pub fine : (t : Transform) (columns rows : ℕ) (points : List Point) → is_bad_transform t ≡ false → is_count columns ≡ true → is_count rows ≡ true
    → has_steps (point_at points 0) (point_at points 1) columns ≡ true → has_steps (point_at points 0) (point_at points 2) rows ≡ true
    → array_fault t columns rows points ≡ None
fine t columns rows points h m n d e = rw (h, m, n, d, e) refl
