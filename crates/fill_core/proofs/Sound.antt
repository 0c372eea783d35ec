-- Every replay is sound, and what a set with boxes is.
use Rattle.std.proofs.Common.{◌≡◌, refl, sym, ◌∙◌, ℤ, ◌+ℤ◌, ◌-ℤ◌, ◌≤ℤ◌, ◌<ℤ◌, arith, inl, inr, ◌⊎◌, Bool, true, false, ◌&&◌, ◌||◌, not}
use Rattle.std.proofs.lemmas.Bool.{and_from, and_parts, or_cases}
use Rattle.std.proofs.lemmas.Int.{ints}
use Rattle.fill_base.specs.Counts.{is_between}
use Rattle.fill_base.proofs.Between.{is_between_bounds}
use Rattle.fill_raster.specs.Axes.{box_begin, box_end, first, past}
use Rattle.fill_raster.specs.Lattice.{in_raster, box_squares}
use Rattle.fill_raster.specs.Laws.{KeepsGap}
use Rattle.fill_raster.specs.declared.axis.Axis.{Axis}
use Rattle.fill_raster.proofs.RasterLaws.{places_range, spacing_kept}
use Rattle.fill_raster.proofs.Ranges.{first_past}
use Rattle.fill_size.specs.Distance.{IsNear}
use Rattle.fill_job.specs.Plans.{IsPlan, Layers, Plan, PointSet, allowed, blocked, conflicts, crowded, drawn_squares, in_window_of, is_taken, low_windows}
use Rattle.fill_job.specs.Searches.{some_within}
use Rattle.fill_job.proofs.Conflicts.{blocked_sharing, conflict_of_squares, crowding_of_squares, some_within_decides}
use Rattle.fill_core.specs.Boxes.{low_fill}
use Rattle.fill_core.specs.Laws.{BoxesKeepTheFillSpacing, BoxesAreOfPlaces, ReplayIsSound}
use Rattle.fill_core.specs.Machine.{replay}
use Rattle.fill_core.specs.Soundness.{IsSound}
use Rattle.fill_core.proofs.Keeping.{free_is, kept_replay, not_false}

-- ---- boxes keep the fill spacing

too_far : (a : Axis) (i k x u s : ℤ) → KeepsGap a s i k → is_between (box_begin a i) (box_end a i) u ≡ true → is_between (box_begin a k) (box_end a k) x ≡ true → IsNear s x u → ⊥
too_far a i k x u s (inl gap) at to n =
    let p = is_between_bounds (box_begin a i) (box_end a i) u at in let q = is_between_bounds (box_begin a k) (box_end a k) x to in
    apart (box_end a i) (box_begin a k) u x s gap p.1 q.0 n.above
  where
    apart : (e b u x s : ℤ) → (e +ℤ s) ≤ℤ b → u <ℤ e → b ≤ℤ x → (x -ℤ u) ≤ℤ s → ⊥
    apart e b u x s gap under over near = omega (arith, ints)
too_far a i k x u s (inr gap) at to n =
    let p = is_between_bounds (box_begin a i) (box_end a i) u at in let q = is_between_bounds (box_begin a k) (box_end a k) x to in
    apart (box_end a k) (box_begin a i) x u s gap q.1 p.0 n.below
  where
    apart : (e b u x s : ℤ) → (e +ℤ s) ≤ℤ b → u <ℤ e → b ≤ℤ x → (x -ℤ u) ≤ℤ s → ⊥
    apart e b u x s gap under over near = omega (arith, ints)

pub boxes_apart : BoxesKeepTheFillSpacing
boxes_apart plan is i j k l other c =
    let r = plan.raster in
    let to = and_parts _ _ c.square in
    let at = and_parts _ _ c.reached.square in
    elim (spacing_kept r plan.fill_spacing is.raster is.pitch i j k l other) [
      | inl across ↦ too_far r.across i k c.x c.reached.u plan.fill_spacing across at.0 to.0 c.reached.across
      | inr up ↦ too_far r.up j l c.y c.reached.v plan.fill_spacing up at.1 to.1 c.reached.up
    ]

no_yes : (b : Bool) → b ≡ false → b ≡ true → ⊥
no_yes b h is = let e : false ≡ true = sym h ∙ is in cc

-- places that may be filled are a sound fill
pub allowed_sound : (plan : Plan) (layers : Layers) (fill : PointSet) → IsPlan plan → ((i j : ℤ) → fill i j ≡ true → allowed plan layers i j ≡ true) → IsSound plan layers fill
allowed_sound plan layers fill is all =
    let places = λ (i j : ℤ) (h : fill i j ≡ true). and_parts (in_raster plan.raster i j) (not (is_taken plan layers i j)) (all i j h) in
    let free = λ (i j : ℤ) (h : fill i j ≡ true). free_is plan layers i j (not_false (is_taken plan layers i j) (places i j h).1) in
    record {
      on_raster = λ i j h. (places i j h).0;
      clear = λ i j h c. no_yes (conflicts plan layers.metal i j) (free i j h).apart ((conflict_of_squares plan layers.metal i j is).1 c);
      uncrowded = λ i j h c. no_yes (crowded plan layers.fill i j) (free i j h).uncrowded ((crowding_of_squares plan layers.fill i j is).1 c);
      free = λ i j h c. no_yes (blocked plan layers.keep i j) (free i j h).unblocked ((blocked_sharing plan layers.keep i j is).1 c);
      apart = λ i j k l h g other. boxes_apart plan is i j k l other;
    }

pub low_sound : (plan : Plan) (layers : Layers) → IsPlan plan → IsSound plan layers (low_fill plan layers)
low_sound plan layers is = allowed_sound plan layers (low_fill plan layers) is (λ i j h. (and_parts (allowed plan layers i j) (in_window_of plan (low_windows plan (drawn_squares layers)) i j) h).0)

pub replay_sound : ReplayIsSound
replay_sound plan layers events is =
    let s = replay plan layers events in
    allowed_sound plan s.layers s.fill is (kept_replay plan layers events).all_allowed

-- ---- a set with boxes

or_into : (a b : Bool) → (a ≡ true) ⊎ (b ≡ true) → a || b ≡ true
or_into true b either = refl
or_into false b (inl h) = absurd (let e : false ≡ true = h in cc)
or_into false b (inr h) = h

pub boxes_of_places : BoxesAreOfPlaces
boxes_of_places plan drawn fill is within x y =
    let r = plan.raster in
    let p = λ (i j : ℤ). fill i j && box_squares r i j x y in
    let found = some_within_decides p (first r.across) (first r.up) (past r.across) (past r.up) (first_past r.across) (first_past r.up) in (
      (λ h. elim (or_cases (drawn x y) (some_within p (first r.across) (first r.up) (past r.across) (past r.up)) h) [
        | inl there ↦ inl there
        | inr box ↦ let f = found.0 box in let parts = and_parts (fill f.x f.y) (box_squares r f.x f.y x y) f.square in inr (f.x, f.y, parts.0, parts.1)
      ]),
      (λ either. or_into _ _ (elim either [
        | inl there ↦ inl there
        | inr box ↦
            let on = within box.0 box.1 box.2 in
            let range = and_parts _ _ (sym (places_range r is.raster box.0 box.1) ∙ on) in
            let columns = is_between_bounds (first r.across) (past r.across) box.0 range.0 in
            let rows = is_between_bounds (first r.up) (past r.up) box.1 range.1 in
            inr (found.1 (record { x = box.0; y = box.1; square = and_from _ _ box.2 box.3; from_left = columns.0; to_right = columns.1; from_bottom = rows.0; to_top = rows.1 }))
      ])),
    )
