-- The one box, moved to a place.
use Rattle.std.proofs.Common.{◌≡◌, refl, ap, ◌∙◌, ℤ, pos, ◌+ℤ◌, ◌-ℤ◌, ◌≤ℤ◌, arith, inl, ◌&&◌}
use Rattle.std.specs.Int.{int_min, int_max}
use Rattle.std.proofs.lemmas.Int.{ints, clamps}
use Rattle.fill_base.specs.Counts.{is_between}
use Rattle.fill_base.specs.declared.place.Point.{Point}
use Rattle.fill_raster.specs.Axes.{box_begin}
use Rattle.gds_shape.proofs.BoxCorners.{box_covers}
use Rattle.fill_raster.specs.Lattice.{Lattice, box_squares}
use Rattle.gds_shape.specs.Winding.{covers}
use Rattle.gds_cells.specs.Placements.{carried, shift}
use Rattle.gds_out.specs.FillContents.{box_points}
use Rattle.gds_out.specs.Laws.{MovedBoxIsThePlaces}

moved_range : (b w x : ℤ) → pos 1 ≤ℤ w → is_between (int_min (pos 0) w) (int_max (pos 0) w) (x -ℤ b) ≡ is_between b (b +ℤ w) x
moved_range b w x some =
    let low : int_min (pos 0) w ≡ pos 0 = omega (arith, ints, clamps) in
    let high : int_max (pos 0) w ≡ w = omega (arith, ints, clamps) in
    rw (low, high) (plain b w x)
  where
    plain : (b w x : ℤ) → is_between (pos 0) w (x -ℤ b) ≡ is_between b (b +ℤ w) x
    plain b w x = grind (arith, ints)

pub box_moved : (r : Lattice) → pos 1 ≤ℤ r.across.length → pos 1 ≤ℤ r.up.length → (i j x y : ℤ)
    → carried (shift (box_begin r.across i) (box_begin r.up j)) (covers (box_points r)) x y ≡ box_squares r i j x y
box_moved r wide tall i j x y =
    let d : Point = record { x = pos 0; y = pos 0 } in
    let b = box_begin r.across i in let c = box_begin r.up j in
    let across = moved_range b r.across.length x wide in
    let up = moved_range c r.up.length y tall in
    box_covers (box_points r) d (x -ℤ b) (y -ℤ c) (inl (refl, refl, refl, refl)) refl
    ∙ (ap (λ t. t && is_between (int_min (pos 0) r.up.length) (int_max (pos 0) r.up.length) (y -ℤ c)) across ∙ ap (λ t. is_between b (b +ℤ r.across.length) x && t) up)

pub moved_box : MovedBoxIsThePlaces
moved_box r is = box_moved r is.across.length_is.least is.up.length_is.least
