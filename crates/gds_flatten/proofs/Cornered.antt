-- All single references of an array lie between those of its four corners.
use Rattle.std.proofs.Common.{◌≡◌, ℕ, suc, ◌+◌, ◌-◌, ◌*◌, ◌/◌, ◌%◌, ◌<◌, ◌≤◌, ◌⊎◌, inl, inr, ℤ, pos, negsuc, ◌+ℤ◌, ◌*ℤ◌, ◌≤ℤ◌, cond, refl, ap, subst, arith, ◌∙◌}
use Rattle.std.specs.Int.{int_min, int_max}
use Rattle.std.proofs.lemmas.Int.{ints, clamps}
use Rattle.std.proofs.Math.Nat.{mul-le-mul, div-mul-le_self}
use Rattle.std.proofs.lemmas.Nat.{le-div}
use Rattle.std.proofs.lemmas.Nat.{div-mul-add, mod-mul-add, mod_below, div-add-mod'}
use Rattle.gds_shape.specs.declared.bounds.Bounds.{Bounds}
use Rattle.gds_shape.specs.Extents.{joined}
use Rattle.gds_cells.specs.declared.link.Link.{Link}
use Rattle.gds_cells.specs.Links.{stepped, single}
use Rattle.gds_cells.specs.Placements.{signed, carried_bounds}
use Rattle.gds_cells.specs.steps.Prepared.{IsPart}
use Rattle.gds_cells.proofs.Stepping.{row_below}

-- some of so many steps go no further than the least and the most of them, to either side
some_steps : (d : ℤ) (i c m : ℕ) → i ≤ c → c ≤ m → (((pos i *ℤ d) ≤ℤ (pos c *ℤ d)) × ((pos c *ℤ d) ≤ℤ (pos m *ℤ d))) ⊎ (((pos m *ℤ d) ≤ℤ (pos c *ℤ d)) × ((pos c *ℤ d) ≤ℤ (pos i *ℤ d)))
some_steps (pos n) i c m ge le =
    let same : n ≤ n = omega arith in
    let few : i * n ≤ c * n = mul-le-mul ge same in
    let size : c * n ≤ m * n = mul-le-mul le same in
    inl (grind (arith, ints, few), grind (arith, ints, size))
some_steps (negsuc n) i c m ge le =
    let same : suc n ≤ suc n = omega arith in
    let few : i * suc n ≤ c * suc n = mul-le-mul ge same in
    let size : c * suc n ≤ m * suc n = mul-le-mul le same in
    inr (grind (arith, ints, size), grind (arith, ints, few))

-- ---- one axis

abbrev pub low : ℤ → ℤ → ℤ → ℤ → ℤ → ℕ → ℕ → ℤ
low a b x d e c r = int_min (a +ℤ stepped x c d r e) (b +ℤ stepped x c d r e)

abbrev pub high : ℤ → ℤ → ℤ → ℤ → ℤ → ℕ → ℕ → ℤ
high a b x d e c r = int_max (a +ℤ stepped x c d r e) (b +ℤ stepped x c d r e)

low_goes : (a b v w : ℤ) → v ≤ℤ w → int_min (a +ℤ v) (b +ℤ v) ≤ℤ int_min (a +ℤ w) (b +ℤ w)
low_goes a b v w h = omega (arith, ints, clamps)

high_goes : (a b v w : ℤ) → v ≤ℤ w → int_max (a +ℤ v) (b +ℤ v) ≤ℤ int_max (a +ℤ w) (b +ℤ w)
high_goes a b v w h = omega (arith, ints, clamps)

abbrev least : ℤ → ℤ → ℤ → ℤ → ℤ
least p q r s = int_min (int_min p q) (int_min r s)

abbrev most : ℤ → ℤ → ℤ → ℤ → ℤ
most p q r s = int_max (int_max p q) (int_max r s)

least_below : (p q r s z : ℤ) → (p ≤ℤ z) ⊎ ((q ≤ℤ z) ⊎ ((r ≤ℤ z) ⊎ (s ≤ℤ z))) → least p q r s ≤ℤ z
least_below p q r s z (inl h) = omega (arith, ints, clamps)
least_below p q r s z (inr (inl h)) = omega (arith, ints, clamps)
least_below p q r s z (inr (inr (inl h))) = omega (arith, ints, clamps)
least_below p q r s z (inr (inr (inr h))) = omega (arith, ints, clamps)

most_above : (p q r s z : ℤ) → (z ≤ℤ p) ⊎ ((z ≤ℤ q) ⊎ ((z ≤ℤ r) ⊎ (z ≤ℤ s))) → z ≤ℤ most p q r s
most_above p q r s z (inl h) = omega (arith, ints, clamps)
most_above p q r s z (inr (inl h)) = omega (arith, ints, clamps)
most_above p q r s z (inr (inr (inl h))) = omega (arith, ints, clamps)
most_above p q r s z (inr (inr (inr h))) = omega (arith, ints, clamps)

-- sums of steps, each no less than the other's
sums : (x u v s t : ℤ) → u ≤ℤ v → s ≤ℤ t → ((x +ℤ u) +ℤ s) ≤ℤ ((x +ℤ v) +ℤ t)
sums x u v s t h k = omega (arith, ints)

module _ (a b x d e : ℤ) (i c m j r n : ℕ) (ic : i ≤ c) (cm : c ≤ m) (jr : j ≤ r) (rn : r ≤ n) where
  abbrev Columns : Type 0
  Columns = (((pos i *ℤ d) ≤ℤ (pos c *ℤ d)) × ((pos c *ℤ d) ≤ℤ (pos m *ℤ d))) ⊎ (((pos m *ℤ d) ≤ℤ (pos c *ℤ d)) × ((pos c *ℤ d) ≤ℤ (pos i *ℤ d)))

  abbrev Rows : Type 0
  Rows = (((pos j *ℤ e) ≤ℤ (pos r *ℤ e)) × ((pos r *ℤ e) ≤ℤ (pos n *ℤ e))) ⊎ (((pos n *ℤ e) ≤ℤ (pos r *ℤ e)) × ((pos r *ℤ e) ≤ℤ (pos j *ℤ e)))

  pub low_corner : least (low a b x d e i j) (low a b x d e m j) (low a b x d e i n) (low a b x d e m n) ≤ℤ low a b x d e c r
  low_corner = least_below (low a b x d e i j) (low a b x d e m j) (low a b x d e i n) (low a b x d e m n) (low a b x d e c r) (by (some_steps d i c m ic cm) (some_steps e j r n jr rn)) where
    goes : (p q : ℕ) → (pos p *ℤ d) ≤ℤ (pos c *ℤ d) → (pos q *ℤ e) ≤ℤ (pos r *ℤ e) → low a b x d e p q ≤ℤ low a b x d e c r
    goes p q h k = low_goes a b (stepped x p d q e) (stepped x c d r e) (sums x (pos p *ℤ d) (pos c *ℤ d) (pos q *ℤ e) (pos r *ℤ e) h k)

    by : Columns → Rows
        → (low a b x d e i j ≤ℤ low a b x d e c r) ⊎ ((low a b x d e m j ≤ℤ low a b x d e c r) ⊎ ((low a b x d e i n ≤ℤ low a b x d e c r) ⊎ (low a b x d e m n ≤ℤ low a b x d e c r)))
    by (inl h) (inl k) = inl (goes i j h.0 k.0)
    by (inr h) (inl k) = inr (inl (goes m j h.0 k.0))
    by (inl h) (inr k) = inr (inr (inl (goes i n h.0 k.0)))
    by (inr h) (inr k) = inr (inr (inr (goes m n h.0 k.0)))

  pub high_corner : high a b x d e c r ≤ℤ most (high a b x d e i j) (high a b x d e m j) (high a b x d e i n) (high a b x d e m n)
  high_corner = most_above (high a b x d e i j) (high a b x d e m j) (high a b x d e i n) (high a b x d e m n) (high a b x d e c r) (by (some_steps d i c m ic cm) (some_steps e j r n jr rn)) where
    goes : (p q : ℕ) → (pos c *ℤ d) ≤ℤ (pos p *ℤ d) → (pos r *ℤ e) ≤ℤ (pos q *ℤ e) → high a b x d e c r ≤ℤ high a b x d e p q
    goes p q h k = high_goes a b (stepped x c d r e) (stepped x p d q e) (sums x (pos c *ℤ d) (pos p *ℤ d) (pos r *ℤ e) (pos q *ℤ e) h k)

    by : Columns → Rows
        → (high a b x d e c r ≤ℤ high a b x d e i j) ⊎ ((high a b x d e c r ≤ℤ high a b x d e m j) ⊎ ((high a b x d e c r ≤ℤ high a b x d e i n) ⊎ (high a b x d e c r ≤ℤ high a b x d e m n)))
    by (inl h) (inl k) = inr (inr (inr (goes m n h.1 k.1)))
    by (inr h) (inl k) = inr (inr (inl (goes i n h.1 k.1)))
    by (inl h) (inr k) = inr (inl (goes m j h.1 k.1))
    by (inr h) (inr k) = inl (goes i j h.1 k.1)

pub in_order : (a b c d : ℤ) → a ≤ℤ int_min b c → int_max b c ≤ℤ d → a ≤ℤ d
in_order a b c d h k = omega (arith, ints, clamps)

-- ---- both axes

-- the place of a corner among all, row by row
pub record IsPlace (columns i c r : ℕ) : Type 0 where
  pub column : i % columns ≡ c
  pub row : i / columns ≡ r

place : (columns r c i : ℕ) → c < columns → i ≡ r * columns + c → IsPlace columns i c r
place columns r c i lt is = record { column = ap (λ j. j % columns) is ∙ mod-mul-add r columns c lt; row = ap (λ j. j / columns) is ∙ div-mul-add r columns c lt }

pub column_below : (columns k : ℕ) → 0 < columns → k % columns ≤ columns - 1
column_below columns k some = let less = mod_below k columns some in omega (arith, less)

pub row_up : (columns rows k : ℕ) → 0 < columns → k < columns * rows → k / columns ≤ rows - 1
row_up columns rows k some within = let less = row_below k columns rows some within in omega (arith, less)

pub rows_rise : (columns a k : ℕ) → 0 < columns → a ≤ k → a / columns ≤ k / columns
rows_rise columns a k some le = let whole = div-mul-le_self a columns in le-div (a / columns) k columns some (omega (arith, whole, le))

-- between two places of one row
pub same_row : (columns a k b : ℕ) → 0 < columns → a ≤ k → k ≤ b → a / columns ≡ b / columns → (a % columns ≤ k % columns) × (k % columns ≤ b % columns)
same_row columns a k b some low high same =
    let first = rows_rise columns a k some low in
    let last = rows_rise columns k b some high in
    let row : a / columns ≡ k / columns = omega (arith, first, last, same) in
    let row_b : k / columns ≡ b / columns = omega (arith, first, last, same) in
    let ea = div-add-mod' a columns in
    let ek = div-add-mod' k columns in
    let eb = div-add-mod' b columns in
    (between (a / columns) (k / columns) (a % columns) (k % columns) a k columns row ea ek low, between (k / columns) (b / columns) (k % columns) (b % columns) k b columns row_b ek eb high)
  where
    between : (p q c d m n w : ℕ) → p ≡ q → p * w + c ≡ m → q * w + d ≡ n → m ≤ n → c ≤ d
    between p q c d m n w e f g h =
        let moved : q * w + c ≡ m = subst (λ z. z * w + c ≡ m) e f in omega (arith, moved, g, h)

-- a place among all, row by row
pub inside : (columns rows r c : ℕ) → c < columns → r < rows → r * columns + c < columns * rows
inside columns rows r c small lt =
    let same : columns ≤ columns = omega arith in
    let more : suc r ≤ rows = omega (arith, lt) in
    let size : suc r * columns ≤ rows * columns = mul-le-mul more same in
    fits columns rows r c small size
  where
    fits : (columns rows r c : ℕ) → c < columns → suc r * columns ≤ rows * columns → r * columns + c < columns * rows
    fits columns rows r c small size = grind (arith, small, size)

module _ (l : Link) (b : Bounds) (i m j n : ℕ) (small : m < l.columns) (ordered : i ≤ m) where
  abbrev at : ℕ → Bounds
  at k = carried_bounds (single l k) b

  abbrev index : ℕ → ℕ → ℕ
  index c r = r * l.columns + c

  spot : (c r : ℕ) → c < l.columns → IsPlace l.columns (index c r) c r
  spot c r lt = place l.columns r c (index c r) lt refl

  module _ (k : ℕ) (ic : i ≤ k % l.columns) (cm : k % l.columns ≤ m) (jr : j ≤ k / l.columns) (rn : k / l.columns ≤ n) where
    pub corners_part : IsPart (joined (joined (at (index i j)) (at (index m j))) (joined (at (index i n)) (at (index m n)))) (at k)
    corners_part =
        let p = l.placement in
        let d = l.column_step in
        let e = l.row_step in
        let xa = signed p.flip_x (cond p.swapped b.bottom b.left) in
        let xb = signed p.flip_x (cond p.swapped b.top b.right) in
        let ya = signed p.flip_y (cond p.swapped b.left b.bottom) in
        let yb = signed p.flip_y (cond p.swapped b.right b.top) in
        let low_i : i < l.columns = omega (arith, small, ordered) in
        let first = spot i j low_i in
        let second = spot m j small in
        let third = spot i n low_i in
        let fourth = spot m n small in
        record {
          left = rw (first.column, first.row, second.column, second.row, third.column, third.row, fourth.column, fourth.row)
              (low_corner xa xb p.x d.x e.x i (k % l.columns) m j (k / l.columns) n ic cm jr rn);
          bottom = rw (first.column, first.row, second.column, second.row, third.column, third.row, fourth.column, fourth.row)
              (low_corner ya yb p.y d.y e.y i (k % l.columns) m j (k / l.columns) n ic cm jr rn);
          right = rw (first.column, first.row, second.column, second.row, third.column, third.row, fourth.column, fourth.row)
              (high_corner xa xb p.x d.x e.x i (k % l.columns) m j (k / l.columns) n ic cm jr rn);
          top = rw (first.column, first.row, second.column, second.row, third.column, third.row, fourth.column, fourth.row)
              (high_corner ya yb p.y d.y e.y i (k % l.columns) m j (k / l.columns) n ic cm jr rn);
        }
