-- The areas of a row of cells, by the list of the rectangles that meet it.
use Rattle.std.proofs.Common.{◌≡◌, Bool, true, ℕ, ◌+◌, ◌<◌, ℤ, pos, ◌≤ℤ◌, List, length, get_or, arith, ap, ◌∙◌}
use Rattle.std.proofs.lemmas.List.{get_or_default}
use Rattle.fill_base.specs.declared.rect.Rect.{Rect}
use Rattle.fill_base.specs.Coordinates.{IsCoordinate}
use Rattle.fill_base.specs.Squares.{area_between}
use Rattle.fill_base.proofs.Between.{is_between_true}
use Rattle.fill_base.proofs.Signed.{read, read_is, coordinate_fits, lt_le}
use Rattle.fill_base.proofs.Covering.{area_same}
use Rattle.fill_region.specs.Squares.{covered}
use Rattle.fill_cells.specs.Mesh.{AreCuts, AreRowAreas, row_squares, gaps}
use Rattle.fill_measure.specs.steps.Bands.{IsRow, cell_area}

-- a cut, as the code reads it
cut_is : (cuts : List ℤ) (i : ℕ) (d : ℤ) → AreCuts cuts → i < length cuts → read (get_or cuts i (pos 0)) ≡ get_or cuts i d
cut_is cuts i d are lt =
    let is : IsCoordinate (get_or cuts i (pos 0)) = are.coordinates i (pos 0) lt in
    read_is (get_or cuts i (pos 0)) (coordinate_fits (get_or cuts i (pos 0)) is.least is.most) ∙ get_or_default cuts i (pos 0) d lt

-- one row, measured by a list that covers there the squares of the set
pub row_is : (p : ℤ → ℤ → Bool) (across up row : List ℤ) (items : List Rect) (j : ℕ) → AreCuts across → AreCuts up → j < gaps up
    → ((d : ℤ) (x y : ℤ) → row_squares (get_or up j d) (get_or up (j + 1) d) x y ≡ true → covered items x y ≡ p x y)
    → AreRowAreas (covered items) across (read (get_or up j (pos 0))) (read (get_or up (j + 1) (pos 0))) row → IsRow p across up j row
row_is p across up row items j cuts ups j_in agree areas = record {
  count = areas.count;
  each = λ i d i_in. areas.each i d i_in ∙ ap pos (rw (cut_is up j d ups first_in, cut_is up (j + 1) d ups second_in) (whole d i i_in));
}
  where
    first_in : j < length up
    first_in = omega (arith, j_in)

    second_in : j + 1 < length up
    second_in = omega (arith, j_in)

    rises : (cuts : List ℤ) (i : ℕ) (d : ℤ) → AreCuts cuts → i < gaps cuts → get_or cuts i d ≤ℤ get_or cuts (i + 1) d
    rises cuts i d are i_in = lt_le (get_or cuts i d) (get_or cuts (i + 1) d) (are.rising i (i + 1) d (omega arith) (omega (arith, i_in)))

    whole : (d : ℤ) (i : ℕ) → i < gaps across → area_between (covered items) (get_or across i d) (get_or up j d) (get_or across (i + 1) d) (get_or up (j + 1) d) ≡ cell_area p across up i j d
    whole d i i_in = area_same (covered items) p (get_or across i d) (get_or up j d) (get_or across (i + 1) d) (get_or up (j + 1) d) (rises across i d cuts i_in) (rises up j d ups j_in) (λ x y low high. agree d x y (is_between_true (get_or up j d) (get_or up (j + 1) d) y low high))
