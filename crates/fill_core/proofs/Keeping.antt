-- What every event keeps: filled places are allowed, and the fill is that of the opening and of the tiles that are in.
use Rattle.std.proofs.Common.{◌≡◌, refl, ap, sym, ◌∙◌, ℕ, ◌+◌, inl, inr, ℤ, pos, ◌+ℤ◌, ◌-ℤ◌, List, [], ◌∷◌, Bool, true, false, ◌&&◌, ◌||◌, not}
use Rattle.std.specs.Prelude.{◌==◌}
use Rattle.std.proofs.lemmas.Bool.{cases_Bool, and_from, and_parts, or_cases}
use Rattle.fill_base.specs.Squares.{squares}
use Rattle.fill_raster.specs.Axes.{box_begin, box_end}
use Rattle.fill_raster.specs.Lattice.{Lattice, in_raster, tile_of}
use Rattle.fill_raster.proofs.Points.{and_no, or_no}
use Rattle.fill_text.specs.declared.script.Edit.{Edit}
use Rattle.fill_text.specs.declared.script.Edit.TheVariants.{Add, Cut, Keep}
use Rattle.fill_job.specs.Plans.{Layers, Plan, PointSet, allowed, blocked, conflicts, crowded, drawn_squares, in_window_of, is_taken, low_windows, meets_box, wanted}
use Rattle.fill_core.specs.Boxes.{no_places, with_boxes}
use Rattle.fill_core.specs.Machine.{State, opened, opening, is_accepted, with_tile, commit_step, fill_after, layers_after, edit_step, step, replay_from, replay}
use Rattle.fill_core.specs.declared.event.Event.{Event}
use Rattle.fill_core.specs.declared.event.Event.TheVariants as event
use Rattle.fill_core.proofs.Searches.{none_within}

pub record IsKept (plan : Plan) (s : State) : Type 0 where
  pub all_allowed : (i j : ℤ) → s.fill i j ≡ true → allowed plan s.layers i j ≡ true
  pub fill_is : (i j : ℤ) → s.fill i j ≡ s.base i j || (s.tiles_in (tile_of plan.raster i j) && (allowed plan s.layers i j && in_window_of plan s.low i j))
  pub low_is : s.low ≡ low_windows plan (with_boxes plan (drawn_squares s.layers) s.base)

kept_opened : (plan : Plan) (layers : Layers) (fill : PointSet) (version : ℕ) → ((i j : ℤ) → fill i j ≡ true → allowed plan layers i j ≡ true) → IsKept plan (opened plan layers fill version)
kept_opened plan layers fill version all = record { all_allowed = all; fill_is = λ i j. sym (or_no (fill i j)); low_is = refl }

pub kept_opening : (plan : Plan) (layers : Layers) → IsKept plan (opening plan layers)
kept_opening plan layers = kept_opened plan layers no_places 0 (λ i j h. absurd (let e : false ≡ true = h in cc))

-- ---- a tile is taken in

-- r: on the raster; t: of the tile; c: taken; w: in a low window
wanted_allowed : (r t c w : Bool) → (r && t) && (not c && w) ≡ true → r && not c ≡ true
wanted_allowed r t c w h =
    let parts = and_parts (r && t) (not c && w) h in
    and_from r (not c) (and_parts r t parts.0).0 (and_parts (not c) w parts.1).0

-- b: filled at the opening; n: its tile was in
filled_more : (b n r t c w : Bool) → (b || (n && ((r && not c) && w))) || ((r && t) && (not c && w)) ≡ b || ((n || t) && ((r && not c) && w))
filled_more true n r t c w = refl
filled_more false true true t true w = and_no t
filled_more false true true t false true = refl
filled_more false true true t false false = and_no t
filled_more false true false t c w = refl
filled_more false false true true c w = refl
filled_more false false true false c w = refl
filled_more false false false true c w = refl
filled_more false false false false c w = refl

kept_tile : (plan : Plan) (s : State) (tile : ℕ) → IsKept plan s → IsKept plan (with_tile plan s tile)
kept_tile plan s tile k = record {
  all_allowed = λ i j h. elim (or_cases (s.fill i j) (wanted plan s.layers s.low tile i j) h) [
    | inl filled ↦ k.all_allowed i j filled
    | inr now ↦ wanted_allowed (in_raster plan.raster i j) (tile_of plan.raster i j == tile) (is_taken plan s.layers i j) (in_window_of plan s.low i j) now
  ];
  fill_is = λ i j.
      ap (λ f. f || wanted plan s.layers s.low tile i j) (k.fill_is i j)
      ∙ filled_more (s.base i j) (s.tiles_in (tile_of plan.raster i j)) (in_raster plan.raster i j) (tile_of plan.raster i j == tile) (is_taken plan s.layers i j) (in_window_of plan s.low i j);
  low_is = k.low_is;
}

kept_commit : (plan : Plan) (s : State) (version tile : ℕ) (same : Bool) → IsKept plan s → IsKept plan (commit_step plan s version tile same)
kept_commit plan s version tile same k = elim (cases_Bool (is_accepted s version tile same)) [
  | inl h ↦ rw h (kept_tile plan s tile k)
  | inr h ↦ rw h k
]

-- ---- the metal is edited

pub not_false : (b : Bool) → not b ≡ true → b ≡ false
not_false true h = absurd (let e : false ≡ true = h in cc)
not_false false h = refl

free_allowed : (r c : Bool) → r ≡ true → c ≡ false → r && not c ≡ true
free_allowed r c on free = and_from r (not c) on (rw free refl)

-- what meets a box at no square leaves it free, together with what met it at none
free_of_both : (r : Lattice) (d : ℤ) (p q : PointSet) (i j : ℤ) → meets_box r d p i j ≡ false → meets_box r d q i j ≡ false → meets_box r d (λ x y. p x y || q x y) i j ≡ false
unfolding meets_box
free_of_both r d p q i j np nq =
    none_within p q (λ x y. p x y || q x y) (box_begin r.across i -ℤ d) (box_begin r.up j -ℤ d) (box_end r.across i +ℤ d) (box_end r.up j +ℤ d)
    (λ x y h. or_cases (p x y) (q x y) h) np nq

-- what is taken away meets nothing
free_of_less : (r : Lattice) (d : ℤ) (p q : PointSet) (i j : ℤ) → meets_box r d p i j ≡ false → meets_box r d (λ x y. p x y && not (q x y)) i j ≡ false
unfolding meets_box
free_of_less r d p q i j np =
    none_within p p (λ x y. p x y && not (q x y)) (box_begin r.across i -ℤ d) (box_begin r.up j -ℤ d) (box_end r.across i +ℤ d) (box_end r.up j +ℤ d)
    (λ x y h. inl (and_parts (p x y) (not (q x y)) h).0) np np

both_false : (a b : Bool) → a ≡ false → b ≡ false → a || b ≡ false
both_false a b na nb = rw (na, nb) refl

neither : (a b : Bool) → a || b ≡ false → (a ≡ false) × (b ≡ false)
neither false b h = (refl, h)
neither true b h = absurd (let e : true ≡ false = h in cc)

-- nothing takes the place
pub record IsFree (plan : Plan) (layers : Layers) (i j : ℤ) : Type 0 where
  pub apart : conflicts plan layers.metal i j ≡ false
  pub uncrowded : crowded plan layers.fill i j ≡ false
  pub unblocked : blocked plan layers.keep i j ≡ false

pub free_is : (plan : Plan) (layers : Layers) (i j : ℤ) → is_taken plan layers i j ≡ false → IsFree plan layers i j
free_is plan layers i j h =
    let parts = neither (conflicts plan layers.metal i j || crowded plan layers.fill i j) (blocked plan layers.keep i j) h in
    let squares = neither (conflicts plan layers.metal i j) (crowded plan layers.fill i j) parts.0 in
    record { apart = squares.0; uncrowded = squares.1; unblocked = parts.1 }

is_free : (plan : Plan) (layers : Layers) (i j : ℤ) → IsFree plan layers i j → is_taken plan layers i j ≡ false
is_free plan layers i j f = both_false _ _ (both_false (conflicts plan layers.metal i j) (crowded plan layers.fill i j) f.apart f.uncrowded) f.unblocked

-- a place that stays filled at an edit is free of what it leaves
still_free : (plan : Plan) (layers : Layers) (fill : PointSet) (edit : Edit) (i j : ℤ) → is_taken plan layers i j ≡ false → fill_after plan edit fill i j ≡ true → is_taken plan (layers_after edit layers) i j ≡ false
still_free plan layers fill (Add r) i j free h =
    let before = free_is plan layers i j free in
    let beside = not_false (conflicts plan (squares r) i j) (and_parts (fill i j) (not (conflicts plan (squares r) i j)) h).1 in
    is_free plan (layers_after (Add r) layers) i j (record { apart = free_of_both plan.raster plan.spacing layers.metal (squares r) i j before.apart beside; uncrowded = before.uncrowded; unblocked = before.unblocked })
still_free plan layers fill (Cut r) i j free h =
    let before = free_is plan layers i j free in
    is_free plan (layers_after (Cut r) layers) i j (record { apart = free_of_less plan.raster plan.spacing layers.metal (squares r) i j before.apart; uncrowded = before.uncrowded; unblocked = before.unblocked })
still_free plan layers fill (Keep r) i j free h =
    let before = free_is plan layers i j free in
    let beside = not_false (blocked plan (squares r) i j) (and_parts (fill i j) (not (blocked plan (squares r) i j)) h).1 in
    is_free plan (layers_after (Keep r) layers) i j (record { apart = before.apart; uncrowded = before.uncrowded; unblocked = free_of_both plan.raster (pos 0) layers.keep (squares r) i j before.unblocked beside })

-- no edit fills a place
filled_before : (plan : Plan) (fill : PointSet) (edit : Edit) (i j : ℤ) → fill_after plan edit fill i j ≡ true → fill i j ≡ true
filled_before plan fill (Add r) i j h = (and_parts (fill i j) (not (conflicts plan (squares r) i j)) h).0
filled_before plan fill (Cut r) i j h = h
filled_before plan fill (Keep r) i j h = (and_parts (fill i j) (not (blocked plan (squares r) i j)) h).0

still_allowed : (plan : Plan) (layers : Layers) (fill : PointSet) (edit : Edit) → ((i j : ℤ) → fill i j ≡ true → allowed plan layers i j ≡ true)
    → (i j : ℤ) → fill_after plan edit fill i j ≡ true → allowed plan (layers_after edit layers) i j ≡ true
still_allowed plan layers fill edit all i j h =
    let before = and_parts (in_raster plan.raster i j) (not (is_taken plan layers i j)) (all i j (filled_before plan fill edit i j h)) in
    free_allowed (in_raster plan.raster i j) (is_taken plan (layers_after edit layers) i j) before.0
    (still_free plan layers fill edit i j (not_false (is_taken plan layers i j) before.1) h)

kept_edit : (plan : Plan) (s : State) (edit : Edit) → IsKept plan s → IsKept plan (edit_step plan s edit)
kept_edit plan s edit k = kept_opened plan (layers_after edit s.layers) (fill_after plan edit s.fill) (s.version + 1) (still_allowed plan s.layers s.fill edit k.all_allowed)

-- ---- one event, and one after another

pub kept_step : (plan : Plan) (s : State) (e : Event) → IsKept plan s → IsKept plan (step plan s e)
kept_step plan s (event.Commit version tile same) k = kept_commit plan s version tile same k
kept_step plan s (event.Edit edit) k = kept_edit plan s edit k

kept_from : (plan : Plan) (s : State) (events : List Event) → IsKept plan s → IsKept plan (replay_from plan s events)
unfolding replay_from
kept_from plan s [] k = k
kept_from plan s (e ∷ es) k = kept_from plan (step plan s e) es (kept_step plan s e k)

pub kept_replay : (plan : Plan) (layers : Layers) (events : List Event) → IsKept plan (replay plan layers events)
kept_replay plan layers events = kept_from plan (opening plan layers) events (kept_opening plan layers)
