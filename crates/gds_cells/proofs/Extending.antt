-- A shape that is one rectangle, and its extent.
use Rattle.std.proofs.Common.{◌≡◌, ℤ, ◌+ℤ◌, ◌-ℤ◌, ◌≤ℤ◌, ◌<ℤ◌, FitsSigned, w32, w64, of_z, to_z, arith, refl, sym, ap, ◌∙◌, Bool, true, ◌&&◌, int_eq}
use Rattle.std.proofs.Math.Path.{to_path_p}
use Rattle.std.proofs.Props.{props}
use Rattle.std.proofs.lemmas.Int.{ints, clamps}
use Rattle.fill_base.specs.Coordinates.{lowest, highest}
use Rattle.fill_base.specs.declared.rect.Rect.{Rect}
use Rattle.fill_base.proofs.Signed.{read, read32, read_is, read32_is, coordinate_fits, coordinate_fits32, lt_le}
use Rattle.gds_shape.specs.declared.bounds.Bounds.{Bounds}
use Rattle.gds_cells.specs.declared.one_rect.OneRect.{OneRect}
use Rattle.gds_cells.specs.steps.Filled.{extent_of}

lt_prop : (a b : ℤ) (p q : a <ℤ b) → p ≡ q
lt_prop a b = hlevel props

le_prop : (a b : ℤ) (p q : a ≤ℤ b) → p ≡ q
le_prop a b = hlevel props

-- two rectangles whose edges are equal
pub same_rect : (q r : Rect) → q.x1 ≡ r.x1 → q.y1 ≡ r.y1 → q.x2 ≡ r.x2 → q.y2 ≡ r.y2 → q ≡ r
same_rect q r x1 y1 x2 y2 = λ i. record {
  x1 = x1 i;
  y1 = y1 i;
  x2 = x2 i;
  y2 = y2 i;
  wide = to_path_p (λ j. x1 j <ℤ x2 j) {a = q.wide} (lt_prop r.x1 r.x2 _ r.wide) i;
  tall = to_path_p (λ j. y1 j <ℤ y2 j) {a = q.tall} (lt_prop r.y1 r.y2 _ r.tall) i;
  left = to_path_p (λ j. lowest ≤ℤ x1 j) {a = q.left} (le_prop lowest r.x1 _ r.left) i;
  bottom = to_path_p (λ j. lowest ≤ℤ y1 j) {a = q.bottom} (le_prop lowest r.y1 _ r.bottom) i;
  right = to_path_p (λ j. x2 j ≤ℤ highest) {a = q.right} (le_prop r.x2 highest _ r.right) i;
  top = to_path_p (λ j. y2 j ≤ℤ highest) {a = q.top} (le_prop r.y2 highest _ r.top) i;
}

side_read : (l : ℤ) → FitsSigned w32 l → read l ≡ l
side_read l fits = omega (arith, ints, clamps)

length_read : (b : ℤ) → lowest <ℤ b → b ≤ℤ highest → read (b -ℤ lowest) ≡ b -ℤ lowest
length_read b wide high = omega (arith, ints, clamps)

end_read : (l b : ℤ) → FitsSigned w32 l → lowest <ℤ b → b ≤ℤ highest → read (l +ℤ (b -ℤ lowest)) ≡ l +ℤ (b -ℤ lowest)
end_read l b fits wide high = omega (arith, ints, clamps)

pub extent_read : (one : OneRect) (l b r t : ℤ) → FitsSigned w32 one.left → FitsSigned w32 one.bottom
    → l ≡ read32 one.left → b ≡ read32 one.bottom → r ≡ read32 one.right → t ≡ read32 one.top
    → ◌≡◌ {A = Bounds} (record {
      left = read l;
      bottom = read b;
      right = read (read l +ℤ read (read r -ℤ lowest));
      top = read (read b +ℤ read (read t -ℤ lowest));
    }) (extent_of one)
extent_read one l b r t f g is_l is_b is_r is_t =
    let right : read32 one.right ≡ one.right = read32_is _ (coordinate_fits32 _ (lt_le _ _ one.wide) one.narrow) in
    let top : read32 one.top ≡ one.top = read32_is _ (coordinate_fits32 _ (lt_le _ _ one.tall) one.low) in
    rw (
      is_l,
      is_b,
      is_r,
      is_t,
      right,
      top,
      read32_is one.left f,
      read32_is one.bottom g,
      side_read one.left f,
      side_read one.bottom g,
      side_read one.right (coordinate_fits32 _ (lt_le _ _ one.wide) one.narrow),
      side_read one.top (coordinate_fits32 _ (lt_le _ _ one.tall) one.low),
      length_read one.right one.wide one.narrow,
      length_read one.top one.tall one.low,
      end_read one.left one.right f one.wide one.narrow,
      end_read one.bottom one.top g one.tall one.low,
    ) refl

-- two extents whose sides are equal
pub same_extent : (a b : Bounds) (same : Bool) → same ≡ (int_eq a.left b.left && (int_eq a.bottom b.bottom && (int_eq a.right b.right && int_eq a.top b.top)))
    → same ≡ true → a ≡ b
same_extent a b same tells is =
    let e = sym tells ∙ is in
    let left : a.left ≡ b.left = grind (arith, ints, e) in
    let bottom : a.bottom ≡ b.bottom = grind (arith, ints, e) in
    let right : a.right ≡ b.right = grind (arith, ints, e) in
    let top : a.top ≡ b.top = grind (arith, ints, e) in
    λ i. record { left = left i; bottom = bottom i; right = right i; top = top i }

-- an edge of a rectangle, kept in four bytes
pub edge_read : (x e : ℤ) → x ≡ e → lowest ≤ℤ e → e ≤ℤ highest → read32 (read x) ≡ e
edge_read x e is low high = rw is (omega (arith, ints, clamps))

pub le_lt : (a b c : ℤ) → a ≤ℤ b → b <ℤ c → a <ℤ c
le_lt a b c le lt = omega (arith, ints, clamps)

-- an edge that the code found to be the least
pub least_is : (x e : ℤ) → x ≡ e → lowest ≤ℤ e → e ≤ℤ highest → of_z w64 x ≡ 18446744072635809792 → lowest ≡ e
least_is x e is low high same = ap (to_z w64) (sym same) ∙ ap read is ∙ read_is e (coordinate_fits e low high)
