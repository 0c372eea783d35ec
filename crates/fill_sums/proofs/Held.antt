-- Boxes that windows hold whole.
use Rattle.std.proofs.Common.{◌≡◌, ℕ, ◌≤◌, ◌<◌, refl, sym, ap, ◌∙◌, ℤ, ◌≤ℤ◌, ◌<ℤ◌, Bool, true, false, ◌&&◌, arith}
use Rattle.std.specs.Prelude.{max, min, is_some, Option, Some, None}
use Rattle.std.proofs.Math.Path.{fun_ext}
use Rattle.std.proofs.lemmas.Int.{ints, clamps}
use Rattle.fill_base.specs.Squares.{area_between, area_of, squares}
use Rattle.fill_base.specs.declared.rect.Rect.{Rect}
use Rattle.fill_base.proofs.Signed.{le_trans, lt_le}
use Rattle.fill_area.specs.Axes.{IsContaining}
use Rattle.fill_area.specs.Density.{window_area}
use Rattle.fill_area.specs.Grid.{Grid, IsGrid, all_coordinates, window_bottom, window_left, window_right, window_top}
use Rattle.fill_area.specs.Parts.{kept_within}
use Rattle.fill_area.proofs.Clipping.{area_kept, counted_all}

and_self : (b : Bool) → b && b ≡ b
and_self true = refl
and_self false = refl

kept_low : (low high z : ℤ) → low <ℤ high → z ≤ℤ low → kept_within low high z ≡ low
kept_low low high z some le = omega (arith, ints, clamps)

kept_high : (low high z : ℤ) → low <ℤ high → high ≤ℤ z → kept_within low high z ≡ high
kept_high low high z some le = omega (arith, ints, clamps)

held_across : (r : Rect) (left bottom right top : ℤ) → left ≤ℤ r.x1 → r.x2 ≤ℤ right → bottom ≤ℤ r.y1 → r.y2 ≤ℤ top
    → area_between (squares r) left bottom right top ≡ area_of (squares r) r
held_across r left bottom right top l h b t =
    let wide = le_trans left r.x1 right l (le_trans r.x1 r.x2 right (lt_le _ _ r.wide) h) in
    let tall = le_trans bottom r.y1 top b (le_trans r.y1 r.y2 top (lt_le _ _ r.tall) t) in
    ap (λ (p : ℤ → ℤ → Bool). area_between p left bottom right top) (fun_ext (λ x. fun_ext (λ y. sym (and_self (squares r x y)))))
    ∙ area_kept (squares r) left bottom right top r.x1 r.y1 r.x2 r.y2 r.wide r.tall wide tall
    ∙ rw (kept_low r.x1 r.x2 left r.wide l, kept_high r.x1 r.x2 right r.wide h, kept_low r.y1 r.y2 bottom r.tall b, kept_high r.y1 r.y2 top r.tall t) refl

-- a window that counts whole and holds a box has all of its squares
pub held_area : (r : Rect) (g : Grid) (a b : ℕ) → IsGrid g → g.clip ≡ all_coordinates → IsContaining g.across r.x1 r.x2 a → IsContaining g.up r.y1 r.y2 b
    → window_area (squares r) g a b ≡ area_of (squares r) r
held_area r g a b is all column row =
    sym (counted_all (squares r) g a b is all column.0 row.0)
    ∙ held_across r (window_left g a) (window_bottom g b) (window_right g a) (window_top g b) column.1 column.2 row.1 row.2

-- a column from where columns of a range begin, cut to another range
pub column_in : (left right start end from to a : ℕ) → from ≡ max left (min start right) → to ≡ max from (min end right) → from ≤ a → a < to → (start ≤ a) × (a < end)
column_in left right start end from to a from_is to_is low high = (omega (arith, from_is, to_is, low, high), omega (arith, from_is, to_is, low, high))

pub none_of : {T : Type 0} (o : Option T) → is_some o ≡ false → o ≡ None
none_of None h = refl
none_of (Some x) h = cc
