-- Where a point goes, read back from its bits.
use Rattle.std.proofs.Common.{◌≡◌, ◌*◌, ◌≤◌, ℤ, pos, negsuc, ◌+ℤ◌, ◌≤ℤ◌, Bool, true, false, cond, arith, ◌∙◌, ap, refl}
use Rattle.std.specs.Prelude.{unsigned_abs}
use Rattle.std.proofs.lemmas.Int.{ints, clamps}
use Rattle.fill_base.proofs.Signed.{read}
use Rattle.std.specs.Int.{int_min, int_max}
use Rattle.gds_shape.specs.declared.bounds.Bounds.{Bounds}
use Rattle.gds_shape.specs.Extents.{IsNear}
use Rattle.gds_cells.specs.declared.placement.Placement.{Placement}
use Rattle.gds_cells.specs.Placements.{signed, point_x, point_y, carried_bounds}
use Rattle.gds_cells.specs.steps.Ranges.{IsClose, IsWithin}
use Rattle.gds_cells.proofs.Within.{signed_size, either_size, sum_size}

pub read_close : (z : ℤ) → IsClose z → read z ≡ z
read_close z h = omega (arith, ints)

signed_close : (b : Bool) (v : ℤ) → IsClose v → IsClose (signed b v)
signed_close true v h = omega (arith, ints)
signed_close false v h = h

sum_read : (v z : ℤ) → IsClose v → unsigned_abs z ≤ 258 * 68719476736 → read (read v +ℤ read z) ≡ v +ℤ z
sum_read v z h k = omega (arith, ints)

-- the number that becomes one of the new numbers, negated or not, and moved
pub moved_along : (flip : Bool) (v z along made : ℤ) → IsClose v → unsigned_abs z ≤ 258 * 68719476736 → along ≡ read v → made ≡ signed flip along
    → read (read made +ℤ read z) ≡ signed flip v +ℤ z
moved_along flip v z along made h k is by =
    let e : made ≡ signed flip v = by ∙ ap (signed flip) (is ∙ read_close v h) in
    ap (λ m. read (read m +ℤ read z)) e ∙ sum_read (signed flip v) z (signed_close flip v h) k

-- ---- the edges of a rectangle that is carried

abbrev pub IsFair : ℤ → Type 0
IsFair z = unsigned_abs z ≤ 70368744177664

point_fair : (f s : Bool) (v w z : ℤ) → IsClose v → IsClose w → unsigned_abs z ≤ 258 * 68719476736 → IsFair (signed f (cond s v w) +ℤ z)
point_fair f s v w z h k l =
    let size = either_size s v w _ h k in
    let same = signed_size f (cond s v w) in
    let sum = sum_size (signed f (cond s v w)) z 35184372088832 (258 * 68719476736) (omega arith) l in
    omega arith

pub record FourClose (b : Bounds) : Type 0 where
  pub left : IsClose b.left
  pub bottom : IsClose b.bottom
  pub right : IsClose b.right
  pub top : IsClose b.top

pub near_fours : (b : Bounds) → IsNear b → FourClose b
near_fours b n = four b.left b.bottom b.right b.top n.left n.bottom n.right n.top n.wide n.tall
  where
    one : (a c : ℤ) → negsuc 8589934591 ≤ℤ a → a ≤ℤ c → c ≤ℤ pos 8589934592 → IsClose a
    one a c h k l = omega (arith, ints)

    other : (a c : ℤ) → negsuc 8589934591 ≤ℤ a → a ≤ℤ c → c ≤ℤ pos 8589934592 → IsClose c
    other a c h k l = omega (arith, ints)

    four : (l m r t : ℤ) → negsuc 8589934591 ≤ℤ l → negsuc 8589934591 ≤ℤ m → r ≤ℤ pos 8589934592 → t ≤ℤ pos 8589934592 → l ≤ℤ r → m ≤ℤ t → FourClose (record { left = l; bottom = m; right = r; top = t })
    four l m r t hl hm hr ht w v = record { left = one l r hl w hr; bottom = one m t hm v ht; right = other l r hl w hr; top = other m t hm v ht }

least_read : (a b x y m : ℤ) → IsFair x → IsFair y → a ≡ x → b ≡ y → m ≡ int_min (read a) (read b) → read m ≡ int_min x y
least_read a b x y m fx fy ha hb is =
    let e : m ≡ int_min (read x) (read y) = rw (ha, hb) at is in
    rw e (both x y fx fy)
  where
    both : (x y : ℤ) → IsFair x → IsFair y → read (int_min (read x) (read y)) ≡ int_min x y
    both x y h k = omega (arith, ints, clamps)

most_read : (a b x y m : ℤ) → IsFair x → IsFair y → a ≡ x → b ≡ y → m ≡ int_max (read a) (read b) → read m ≡ int_max x y
most_read a b x y m fx fy ha hb is =
    let e : m ≡ int_max (read x) (read y) = rw (ha, hb) at is in
    rw e (both x y fx fy)
  where
    both : (x y : ℤ) → IsFair x → IsFair y → read (int_max (read x) (read y)) ≡ int_max x y
    both x y h k = omega (arith, ints, clamps)

abbrev four : ℤ → ℤ → ℤ → ℤ → Bounds
four l m r t = record { left = l; bottom = m; right = r; top = t }

four_is : (l m r t l' m' r' t' : ℤ) → l ≡ l' → m ≡ m' → r ≡ r' → t ≡ t' → four l m r t ≡ four l' m' r' t'
four_is l m r t l' m' r' t' h i j k = rw (h, i, j, k) refl

pub bounds_read_close : (p : Placement) (b : Bounds) (x1 y1 x2 y2 l m r t : ℤ) → IsWithin 258 p → FourClose b
    → x1 ≡ point_x p b.left b.bottom → y1 ≡ point_y p b.left b.bottom → x2 ≡ point_x p b.right b.top → y2 ≡ point_y p b.right b.top
    → l ≡ int_min (read x1) (read x2) → m ≡ int_min (read y1) (read y2) → r ≡ int_max (read x1) (read x2) → t ≡ int_max (read y1) (read y2)
    → four (read l) (read m) (read r) (read t) ≡ carried_bounds p b
bounds_read_close p b x1 y1 x2 y2 l m r t w c hx1 hy1 hx2 hy2 hl hm hr ht =
    let fx1 : IsFair (point_x p b.left b.bottom) = point_fair p.flip_x p.swapped b.bottom b.left p.x c.bottom c.left w.x in
    let fy1 : IsFair (point_y p b.left b.bottom) = point_fair p.flip_y p.swapped b.left b.bottom p.y c.left c.bottom w.y in
    let fx2 : IsFair (point_x p b.right b.top) = point_fair p.flip_x p.swapped b.top b.right p.x c.top c.right w.x in
    let fy2 : IsFair (point_y p b.right b.top) = point_fair p.flip_y p.swapped b.right b.top p.y c.right c.top w.y in
    four_is _ _ _ _ _ _ _ _ (least_read x1 x2 _ _ l fx1 fx2 hx1 hx2 hl) (least_read y1 y2 _ _ m fy1 fy2 hy1 hy2 hm) (most_read x1 x2 _ _ r fx1 fx2 hx1 hx2 hr) (most_read y1 y2 _ _ t fy1 fy2 hy1 hy2 ht)

pub bounds_read : (p : Placement) (b : Bounds) (x1 y1 x2 y2 l m r t : ℤ) → IsWithin 258 p → IsNear b
    → x1 ≡ point_x p b.left b.bottom → y1 ≡ point_y p b.left b.bottom → x2 ≡ point_x p b.right b.top → y2 ≡ point_y p b.right b.top
    → l ≡ int_min (read x1) (read x2) → m ≡ int_min (read y1) (read y2) → r ≡ int_max (read x1) (read x2) → t ≡ int_max (read y1) (read y2)
    → four (read l) (read m) (read r) (read t) ≡ carried_bounds p b
bounds_read p b x1 y1 x2 y2 l m r t w n = bounds_read_close p b x1 y1 x2 y2 l m r t w (near_fours b n)
