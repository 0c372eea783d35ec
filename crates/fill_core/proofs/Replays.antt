-- What holds of every replay.
use Rattle.std.proofs.Common.{◌≡◌, refl, ap, sym, ◌∙◌, ℕ, arith, inl, inr, ◌⊎◌, ℤ, List, [], ◌∷◌, ◌++◌, Bool, true, false, ◌&&◌, ◌||◌, not}
use Rattle.std.specs.Prelude.{◌==◌}
use Rattle.std.proofs.Math.Path.{fun_ext}
use Rattle.std.proofs.lemmas.Bool.{cases_Bool, and_from, and_parts, or_cases}
use Rattle.std.proofs.lemmas.Bool.Decides.{nat_tests}
use Rattle.fill_raster.specs.Lattice.{in_raster, tile_of}
use Rattle.fill_raster.proofs.Points.{and_no, or_no}
use Rattle.fill_raster.proofs.RasterLaws.{place_has_a_tile}
use Rattle.fill_job.specs.Plans.{Plan, IsPlan, Layers, PointSet, allowed, drawn_squares, is_taken, in_window_of, low_windows, wanted}
use Rattle.fill_job.proofs.Searching.{none_passes}
use Rattle.fill_core.specs.Boxes.{no_places, with_boxes}
use Rattle.fill_core.specs.Machine.{State, IsComplete, step, reply_of, replay_from, replies_from, replay, replies, opening}
use Rattle.fill_core.specs.declared.event.Event.{Event}
use Rattle.fill_core.specs.declared.event.Event.TheVariants as event
use Rattle.fill_core.specs.Laws.{IsRefusal, FilledPlacesAreAllowed, RefusedChangesNothing, FillIsThatOfItsTiles, LowIsThatOfTheOpening, OpeningIsLowOfTheDesign, CompleteFill}
use Rattle.fill_core.proofs.Keeping.{IsKept, kept_replay}

-- ---- one event more

replay_from_push : (plan : Plan) (s : State) (events : List Event) (e : Event) → replay_from plan s (events ++ e ∷ []) ≡ step plan (replay_from plan s events) e
unfolding replay_from
replay_from_push plan s [] e = refl
replay_from_push plan s (x ∷ xs) e = replay_from_push plan (step plan s x) xs e

replies_from_push : (plan : Plan) (s : State) (events : List Event) (e : Event)
    → replies_from plan s (events ++ e ∷ []) ≡ replies_from plan s events ++ reply_of plan (replay_from plan s events) e ∷ []
unfolding replay_from replies_from
replies_from_push plan s [] e = refl
replies_from_push plan s (x ∷ xs) e = ap (λ rs. reply_of plan s x ∷ rs) (replies_from_push plan (step plan s x) xs e)

-- the state after one event more
pub replay_push : (plan : Plan) (layers : Layers) (events : List Event) (e : Event) → replay plan layers (events ++ e ∷ []) ≡ step plan (replay plan layers events) e
replay_push plan layers events e = replay_from_push plan (opening plan layers) events e

pub replies_push : (plan : Plan) (layers : Layers) (events : List Event) (e : Event) → replies plan layers (events ++ e ∷ []) ≡ replies plan layers events ++ reply_of plan (replay plan layers events) e ∷ []
replies_push plan layers events e = replies_from_push plan (opening plan layers) events e

-- states with the same points are one state
pub same_state : (s t : State) → ((x y : ℤ) → s.layers.metal x y ≡ t.layers.metal x y) → ((x y : ℤ) → s.layers.fill x y ≡ t.layers.fill x y) → ((x y : ℤ) → s.layers.keep x y ≡ t.layers.keep x y) → ((i j : ℤ) → s.fill i j ≡ t.fill i j)
    → s.version ≡ t.version → ((a b : ℕ) → s.low a b ≡ t.low a b) → ((n : ℕ) → s.tiles_in n ≡ t.tiles_in n) → ((i j : ℤ) → s.base i j ≡ t.base i j) → s ≡ t
same_state s t metal existing keep fill version low tiles_in base = λ k. record {
  layers = record { metal = λ x y. metal x y k; fill = λ x y. existing x y k; keep = λ x y. keep x y k };
  fill = λ i j. fill i j k;
  version = version k;
  low = λ a b. low a b k;
  tiles_in = λ n. tiles_in n k;
  base = λ i j. base i j k;
}

-- ---- the laws

pub filled_allowed : FilledPlacesAreAllowed
filled_allowed plan layers events i j h =
    let k = kept_replay plan layers events in
    let free = k.all_allowed i j h in
    ((and_parts _ _ free).0, free)

refused_commit : (plan : Plan) (s : State) (version tile : ℕ) (same : Bool) → IsRefusal (reply_of plan s (event.Commit version tile same)) → step plan s (event.Commit version tile same) ≡ s
refused_commit plan s version tile same h = elim (cases_Bool (version == s.version)) [
  | inr other ↦ rw other refl
  | inl at ↦ elim (cases_Bool (s.tiles_in tile)) [
    | inl already ↦ rw (at, already) refl
    | inr out ↦ elim (cases_Bool same) [
      | inr foreign ↦ rw (at, out, foreign) refl
      | inl equal ↦ absurd (rw (at, out, equal) at h)
    ]
  ]
]

pub refused_nothing : RefusedChangesNothing
refused_nothing plan s (event.Commit version tile same) h = refused_commit plan s version tile same h
refused_nothing plan s (event.Edit edit) h = absurd h

nat_eq_is : (a b : ℕ) → (a == b) ≡ true → a ≡ b
nat_eq_is a b h = grind (arith, nat_tests)

nat_eq_same : (a : ℕ) → (a == a) ≡ true
nat_eq_same a = grind (arith, nat_tests)

-- a place that its tile wants; r, t, c, w as above
wanted_from : (r t c w : Bool) → t ≡ true → (r && not c) && w ≡ true → (r && t) && (not c && w) ≡ true
wanted_from r t c w own h =
    let parts = and_parts (r && not c) w h in
    let free = and_parts r (not c) parts.0 in
    and_from _ _ (and_from r t free.0 own) (and_from (not c) w free.1 parts.1)

wanted_into : (r t c w : Bool) → (r && t) && (not c && w) ≡ true → (t ≡ true) × ((r && not c) && w ≡ true)
wanted_into r t c w h =
    let parts = and_parts (r && t) (not c && w) h in
    let place = and_parts r t parts.0 in
    let free = and_parts (not c) w parts.1 in
    (place.1, and_from _ _ (and_from r (not c) place.0 free.0) free.1)

or_left : (a b : Bool) → a ≡ true → a || b ≡ true
or_left a b h = rw h refl

or_right : (a b : Bool) → b ≡ true → a || b ≡ true
or_right true b h = refl
or_right false b h = h

fill_from : (plan : Plan) (s : State) → IsKept plan s → (i j : ℤ) → s.fill i j ≡ true → (s.base i j ≡ true) ⊎ ((t : ℕ) × (s.tiles_in t ≡ true) × (wanted plan s.layers s.low t i j ≡ true))
fill_from plan s k i j h =
    let t = tile_of plan.raster i j in
    elim (or_cases (s.base i j) (s.tiles_in t && (allowed plan s.layers i j && in_window_of plan s.low i j)) (sym (k.fill_is i j) ∙ h)) [
      | inl filled ↦ inl filled
      | inr now ↦ let parts = and_parts (s.tiles_in t) (allowed plan s.layers i j && in_window_of plan s.low i j) now in
          inr (t, parts.0, wanted_from (in_raster plan.raster i j) (t == t) (is_taken plan s.layers i j) (in_window_of plan s.low i j) (nat_eq_same t) parts.1)
    ]

fill_with : (plan : Plan) (s : State) → IsKept plan s → (i j : ℤ) → (s.base i j ≡ true) ⊎ ((t : ℕ) × (s.tiles_in t ≡ true) × (wanted plan s.layers s.low t i j ≡ true)) → s.fill i j ≡ true
fill_with plan s k i j (inl filled) = k.fill_is i j ∙ or_left _ _ filled
fill_with plan s k i j (inr now) =
    let t = tile_of plan.raster i j in
    let parts = wanted_into (in_raster plan.raster i j) (t == now.0) (is_taken plan s.layers i j) (in_window_of plan s.low i j) now.2 in
    let own : t ≡ now.0 = nat_eq_is t now.0 parts.0 in
    k.fill_is i j ∙ or_right (s.base i j) _ (and_from _ _ (rw own now.1) parts.1)

pub fill_of_tiles : FillIsThatOfItsTiles
fill_of_tiles plan layers events i j = let k = kept_replay plan layers events in (fill_from plan (replay plan layers events) k i j, fill_with plan (replay plan layers events) k i j)

pub low_of_opening : LowIsThatOfTheOpening
low_of_opening plan layers events = (kept_replay plan layers events).low_is

-- no place has no box
pub no_boxes : (plan : Plan) (drawn : PointSet) → with_boxes plan drawn no_places ≡ drawn
no_boxes plan drawn = fun_ext (λ x. fun_ext (λ y. rw (none_passes _ _ _ _ _ (λ i j. refl)) (or_no (drawn x y))))

pub opening_low : OpeningIsLowOfTheDesign
opening_low plan layers = ap (low_windows plan) (no_boxes plan (drawn_squares layers))

-- n: the tile of the place is in, as it is where the place is on the raster
all_in : (b n r c w : Bool) → (r ≡ true → n ≡ true) → b || (n && ((r && c) && w)) ≡ b || ((r && c) && w)
all_in b n true c w h = rw (h refl) refl
all_in b n false c w h = rw (and_no n) refl

pub complete_of : (plan : Plan) (s : State) → IsKept plan s → IsPlan plan → IsComplete plan s → s.fill ≡ (λ i j. s.base i j || (allowed plan s.layers i j && in_window_of plan s.low i j))
complete_of plan s k is all = fun_ext (λ i. fun_ext (λ j.
    k.fill_is i j
    ∙ all_in (s.base i j) (s.tiles_in (tile_of plan.raster i j)) (in_raster plan.raster i j) (not (is_taken plan s.layers i j)) (in_window_of plan s.low i j)
    (λ on. all (tile_of plan.raster i j) (place_has_a_tile plan.raster is.raster i j on))))

pub complete_fill : CompleteFill
complete_fill plan layers events is all = complete_of plan (replay plan layers events) (kept_replay plan layers events) is all
