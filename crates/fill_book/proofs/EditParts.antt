-- What an edit makes of the squares that are stored, as sets of which one is part of the other.
use Rattle.std.proofs.Common.{◌&&◌, ◌||◌}
use Rattle.fill_state.specs.Layers.{in_layer, is_drawn}
use Rattle.fill_region.specs.Runs.{holds}
use Rattle.fill_state.specs.Filling.{IsFilling, boxes_of, in_places, is_filled, left_by}
use Rattle.fill_book.specs.Standing.{IsEdited}
use Rattle.fill_book.specs.declared.edited.Edited.{Edited}
use Rattle.fill_book.specs.declared.stored.Stored.{Stored}
use Rattle.fill_book.proofs.BoxParts.{AreMovedIn, fewer_clear, places_go}
use Rattle.fill_book.proofs.Measured.{drawn_edited}
use Rattle.fill_book.proofs.MetalParts.{PartsBy, drawn_parts, total_parts}

-- the boxes that go
pub boxes_go : (s : Stored) (e : Edited) → IsFilling s.filled → IsEdited s e
    → AreMovedIn s.filled.raster (is_filled s.filled) (left_by s.filled e.out) (λ i j. is_filled s.filled i j && in_places e.out i j) (is_drawn s.drawn) e.out.columns.start e.out.columns.end e.out.rows.start e.out.rows.end
boxes_go s e filling is = places_go s.filled e.out (is_drawn s.drawn) filling is.columns is.rows is.clear

-- what is drawn alone
pub drawn_alone : (s : Stored) (e : Edited) → IsEdited s e → PartsBy e.edit (is_drawn s.drawn) (is_drawn e.drawn) (holds e.difference.metal)
drawn_alone s e is = drawn_parts e.edit (in_layer s.drawn.metal) (holds s.drawn.existing) (is_drawn e.drawn) (holds e.difference.metal) (drawn_edited s e.drawn e.edit is.metal is.existing) is.difference

-- what is drawn beside the boxes that are left
pub all_parts : (s : Stored) (e : Edited) → IsFilling s.filled → IsEdited s e
    → PartsBy e.edit (λ x y. is_drawn s.drawn x y || boxes_of s.filled.raster (left_by s.filled e.out) x y) (λ x y. is_drawn e.drawn x y || boxes_of s.filled.raster (left_by s.filled e.out) x y) (holds e.difference.metal)
all_parts s e filling is =
    let go = boxes_go s e filling is in
    total_parts e.edit (in_layer s.drawn.metal) (holds s.drawn.existing) (is_drawn e.drawn) (holds e.difference.metal) (boxes_of s.filled.raster (left_by s.filled e.out)) (drawn_edited s e.drawn e.edit is.metal is.existing) is.difference
    (fewer_clear s.filled.raster (is_filled s.filled) (left_by s.filled e.out) _ (is_drawn s.drawn) go.on go.two is.clear) is.clear_left
