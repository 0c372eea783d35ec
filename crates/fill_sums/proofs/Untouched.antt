-- Windows that share no square with a rectangle.
use Rattle.std.proofs.Common.{◌<ℤ◌, ◌*◌, ◌≡◌, refl, sym, ◌∙◌, ℕ, ℤ, ◌≤ℤ◌, inl, inr, arith, List, Bool, true, false, ◌&&◌, ◌↔◌}
use Rattle.std.proofs.lemmas.Bool.{and_from, cases_Bool}
use Rattle.std.proofs.lemmas.Int.{ints, clamps}
use Rattle.fill_base.specs.Counts.{span_len, count_between}
use Rattle.fill_base.specs.Squares.{area_between, squares}
use Rattle.fill_base.specs.declared.rect.Rect.{Rect}
use Rattle.fill_base.proofs.Between.{is_between_true}
use Rattle.fill_base.proofs.Counting.{sum_between_const, count_between_const}
use Rattle.fill_area.proofs.Measuring.{longer}
use Rattle.fill_area.specs.Axes.{IsIndex}
use Rattle.fill_area.specs.Density.{window_area}
use Rattle.fill_area.specs.Grid.{Grid, IsGrid, parts_across, parts_up, window_left, window_right, window_bottom, window_top}
use Rattle.fill_area.specs.Parts.{part_begin, part_end}
use Rattle.fill_area.specs.Sharing.{IsWindow, ShareASquare, window_squares}
use Rattle.fill_sums.specs.declared.moving.Way.{Way}
use Rattle.fill_sums.specs.declared.moving.Way.TheVariants.{Up, Down}
use Rattle.fill_sums.specs.Numbers.{AreNumbers, StaysBy, StaysWithin, IsMoved, IsMovedBy, in_range, moved, number_at}
use Rattle.fill_sums.specs.steps.Moving.{CanMove, IsMovedAt}
use Rattle.fill_sums.proofs.Counted.{part_in, part_ordered}
use Rattle.fill_sums.proofs.Windowed.{range_is}

-- a part without squares has no area
pub empty_area : (p : ℤ → ℤ → Bool) (left bottom right top : ℤ) → left ≤ℤ right → bottom ≤ℤ top → ((x y : ℤ) → left ≤ℤ x → x <ℤ right → bottom ≤ℤ y → y <ℤ top → p x y ≡ false) → area_between p left bottom right top ≡ 0
empty_area p left bottom right top wide tall none =
    let whole = sum_between_const (λ y. count_between (λ x. p x y) left right) bottom top 0 tall (λ y low high. line y low high) in
    let z : span_len bottom top * 0 ≡ 0 = omega arith in whole ∙ z
  where
    line : (y : ℤ) → bottom ≤ℤ y → y <ℤ top → count_between (λ x. p x y) left right ≡ 0
    line y low high =
        let all = count_between_const (λ x. p x y) left right false wide (λ x from to. none x y from to low high) in
        let z : span_len left right * 0 ≡ 0 = omega arith in all ∙ z

-- so a window has none of a set that lies within a rectangle with which it shares no square
pub untouched : (p : ℤ → ℤ → Bool) (r : Rect) (g : Grid) (a b : ℕ) → IsGrid g → ((x y : ℤ) → p x y ≡ true → squares r x y ≡ true) → (ShareASquare (window_squares g a b) (squares r) → ⊥) → window_area p g a b ≡ 0
untouched p r g a b is within apart =
    let across = parts_across g in let up = parts_up g in
    empty_area p (part_begin across a) (part_begin up b) (part_end across a) (part_end up b)
    (part_ordered across.low across.high (window_left g a) (window_right g a) (longer (window_left g a) g.across.length is.across.length_is))
    (part_ordered up.low up.high (window_bottom g b) (window_top g b) (longer (window_bottom g b) g.up.length is.up.length_is))
    (λ x y l r' bo t. elim (cases_Bool (p x y)) [
      | inr out ↦ out
      | inl here ↦
          let column = part_in across.low across.high (window_left g a) (window_right g a) x l r' in
          let row = part_in up.low up.high (window_bottom g b) (window_top g b) y bo t in
          absurd (apart (record { x = x; y = y; first = and_from _ _ (is_between_true _ _ x column.0 column.1) (is_between_true _ _ y row.0 row.1); second = within x y here }))
    ])

-- nothing comes or goes
pub moved_nothing : (way : Way) (n : ℤ) → moved way n 0 ≡ n
moved_nothing Up n = omega (arith, ints, clamps)
moved_nothing Down n = omega (arith, ints, clamps)

-- the windows that were visited are all that had to move
pub moved_all : (way : Way) (p : ℤ → ℤ → Bool) (r : Rect) (g : Grid) (left right bottom top : ℕ) (old new : List ℤ) → IsGrid g → ((x y : ℤ) → p x y ≡ true → squares r x y ≡ true)
    → ((a b : ℕ) → (IsIndex left right a × IsIndex bottom top b) ↔ (IsWindow g a b × ShareASquare (window_squares g a b) (squares r)))
    → IsMovedAt (λ c d. in_range left right c && in_range bottom top d) way p g old new → IsMoved way p g old new
moved_all way p r g left right bottom top old new is within touching at = record {
  count = at.count;
  each = λ a b window. elim (cases_Bool (in_range left right a && in_range bottom top b)) [
    | inl visited ↦ at.each a b window ∙ rw visited refl
    | inr passed ↦
        let none : window_area p g a b ≡ 0 = untouched p r g a b is within (λ share.
        let h = (touching a b).1 (window, share) in
        let yes : in_range left right a && in_range bottom top b ≡ true = and_from _ _ (range_is left right a h.0.0 h.0.1) (range_is bottom top b h.1.0 h.1.1) in
        let no : true ≡ false = sym yes ∙ passed in cc) in
        at.each a b window ∙ rw (passed, none) (sym (moved_nothing way (number_at g old a b)))
  ];
}

pub still_numbers : (way : Way) (f : ℕ → ℕ → ℕ) (g : Grid) (old new : List ℤ) → AreNumbers g old → StaysBy way f g old → IsMovedBy way f g old new → AreNumbers g new
still_numbers way f g old new are stays is = record {
  grid = are.grid;
  count = is.count ∙ are.count;
  least = λ a b window. rw (is.each a b window) (stays.least a b window);
  most = λ a b window. rw (is.each a b window) (stays.most a b window);
}

pub can_move : (way : Way) (p : ℤ → ℤ → Bool) (g : Grid) (old : List ℤ) (a b : ℕ) → IsWindow g a b → AreNumbers g old → StaysWithin way p g old → CanMove way p g old a b
can_move way p g old a b window are stays = record { least = are.least a b window; most = are.most a b window; stays_least = stays.least a b window; stays_most = stays.most a b window }
