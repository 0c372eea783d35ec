-- Ranges that have a number in common, and rectangles that lie partly between edges.
use Rattle.std.proofs.Common.{◌≡◌, ℕ, ◌<◌, ℤ, ◌≤ℤ◌, ◌<ℤ◌, Bool, true, false, ◌&&◌, ◌↔◌, List, [], ◌∷◌, length, get_or, MatchBool, sym, refl, ◌∙◌, ap, arith, w64, FitsSigned}
use Rattle.std.specs.Prelude.{int_lt, IsTrue}
use Rattle.std.specs.Cmp.{first_so, second_so}
use Rattle.std.specs.Int.{int_max, int_min}
use Rattle.std.specs.List.{HoldsAt, AllWithin}
use Rattle.std.proofs.lemmas.Bool.{and_from, false≢true}
use Rattle.std.proofs.lemmas.Int.{ints, clamps}
use Rattle.std.proofs.lemmas.List.Folds.{list_any_at}
use Rattle.fill_base.specs.declared.rect.Rect.{Rect}
use Rattle.fill_base.specs.Squares.{squares}
use Rattle.fill_base.proofs.Signed.{read, read_is, is_lt, fits_max}
use Rattle.fill_base.proofs.Areas.{read_x1, read_x2, read_y1, read_y2}
use Rattle.fill_region.specs.Squares.{covered}
use Rattle.fill_region.proofs.Members.{holder}
use Rattle.fill_size.specs.Distance.{HasSquare}
use Rattle.fill_size.specs.Ranges.{HaveCommon}
use Rattle.fill_size.proofs.Ranges.{lt_is, squares_true, squares_inside}

fits_min : (a b : ℤ) → FitsSigned w64 a → FitsSigned w64 b → FitsSigned w64 (int_min a b)
fits_min a b f g = omega (arith, ints, clamps)

-- the test of two ranges, as the code makes it
pub common_test : (a b c d most least : ℤ) → FitsSigned w64 a → FitsSigned w64 b → FitsSigned w64 c → FitsSigned w64 d → most ≡ int_max (read a) (read c) → least ≡ int_min (read b) (read d)
    → (IsTrue (int_lt (read most) (read least)) ↔ HaveCommon a b c d)
common_test a b c d most least fa fb fc fd most_is least_is =
    let low : read most ≡ int_max a c = rw (most_is, read_is a fa, read_is c fc) (read_is _ (fits_max a c fa fc)) in
    let high : read least ≡ int_min b d = rw (least_is, read_is b fb, read_is d fd) (read_is _ (fits_min b d fb fd)) in
    rw (low, high) (
      (λ h. let lt : int_max a c <ℤ int_min b d = is_lt _ _ h in record {
        at = int_max a c;
        first_from = omega (arith, ints, clamps);
        first_to = omega (arith, ints, clamps);
        second_from = omega (arith, ints, clamps);
        second_to = omega (arith, ints, clamps);
      }),
      (λ h. lt_is _ _ (between h.at h.first_from h.first_to h.second_from h.second_to)),
    )
  where
    between : (x : ℤ) → a ≤ℤ x → x <ℤ b → c ≤ℤ x → x <ℤ d → int_max a c <ℤ int_min b d
    between x h i j k = omega (arith, ints, clamps)

-- the test of a rectangle, as the code makes it
pub met_test : (r : Rect) (left bottom right top x1 x2 y1 y2 : ℤ) (across up : Bool) → FitsSigned w64 left → FitsSigned w64 bottom → FitsSigned w64 right → FitsSigned w64 top
    → x1 ≡ r.x1 → x2 ≡ r.x2 → y1 ≡ r.y1 → y2 ≡ r.y2 → (IsTrue across ↔ HaveCommon (read x1) (read x2) (read left) (read right)) → (IsTrue up ↔ HaveCommon (read y1) (read y2) (read bottom) (read top))
    → (IsTrue (across && up) ↔ HasSquare (squares r) left bottom right top)
met_test r left bottom right top x1 x2 y1 y2 across up fl fb fr ft a b c d in_x in_y =
    let x_test : IsTrue across ↔ HaveCommon r.x1 r.x2 left right = rw (a, b, read_x1 r, read_x2 r, read_is left fl, read_is right fr) at in_x in
    let y_test : IsTrue up ↔ HaveCommon r.y1 r.y2 bottom top = rw (c, d, read_y1 r, read_y2 r, read_is bottom fb, read_is top ft) at in_y in (
      (λ h.
          let p = x_test.0 (first_so across up h) in
          let q = y_test.0 (second_so across up h) in
          record { x = p.at; y = q.at; square = squares_true r p.at q.at p.first_from p.first_to q.first_from q.first_to; from_left = p.second_from; to_right = p.second_to; from_bottom = q.second_from; to_top = q.second_to }),
      (λ h.
          let in_r = squares_inside r h.x h.y h.square in
          and_from across up
          (x_test.1 (record { at = h.x; first_from = in_r.left; first_to = in_r.right; second_from = h.from_left; second_to = h.to_right }))
          (y_test.1 (record { at = h.y; first_from = in_r.bottom; first_to = in_r.top; second_from = h.from_bottom; second_to = h.to_top }))),
    )

-- some rectangle of a list has a square there, or none has
pub list_met : (p : ℤ → ℤ → Bool) (rects : List Rect) (left bottom right top : ℤ) (found : Bool) → ((x y : ℤ) → bottom ≤ℤ y → y <ℤ top → covered rects x y ≡ p x y)
    → MatchBool found ((k : ℕ) × (k < length rects) × HoldsAt (λ r. HasSquare (squares r) left bottom right top) rects k) (AllWithin (λ r. HasSquare (squares r) left bottom right top → ⊥) rects 0 (length rects))
    → (IsTrue found ↔ HasSquare p left bottom right top)
list_met p [] left bottom right top true cover (k, lt, at) = absurd (omega (arith, lt))
list_met p (r ∷ rects) left bottom right top true cover (k, lt, at) =
    let h : HasSquare (squares (get_or (r ∷ rects) k r)) left bottom right top = at r in (
      (λ _. record { x = h.x; y = h.y; square = sym (cover h.x h.y h.from_bottom h.to_top) ∙ list_any_at (λ s. squares s h.x h.y) (r ∷ rects) k r lt h.square; from_left = h.from_left; to_right = h.to_right; from_bottom = h.from_bottom; to_top = h.to_top }),
      (λ _. refl),
    )
list_met p rects left bottom right top false cover none = (
  (λ e. absurd (false≢true e)),
  (λ h. let o = holder rects h.x h.y (cover h.x h.y h.from_bottom h.to_top ∙ h.square) in absurd (none o.among.0 o.rect (omega arith) o.among.1 (record {
    x = h.x;
    y = h.y;
    square = ap (λ s. squares s h.x h.y) o.among.2 ∙ o.holds_it;
    from_left = h.from_left;
    to_right = h.to_right;
    from_bottom = h.from_bottom;
    to_top = h.to_top;
  }))),
)
