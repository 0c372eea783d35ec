-- What is measured: windows that are low, the total of a window, and that boxes of a sound fill share no square with what is drawn.
use Rattle.std.proofs.Common.{◌≡◌, refl, ap, sym, subst, ◌∙◌, ℕ, ◌<◌, ℤ, pos, ◌+ℤ◌, ◌-ℤ◌, ◌≤ℤ◌, arith, inl, inr, List, [], ◌∷◌, ◌++◌, Bool, true, false, ◌&&◌, ◌||◌, not}
use Rattle.std.specs.Prelude.{nat_lt}
use Rattle.std.proofs.Math.Path.{fun_ext}
use Rattle.std.proofs.lemmas.Bool.{and_parts, cases_Bool, or_cases}
use Rattle.std.proofs.lemmas.Bool.Decides.{nat_tests}
use Rattle.std.proofs.lemmas.Int.{ints}
use Rattle.fill_state.specs.Layers.{Drawn, in_layer, is_drawn}
use Rattle.fill_region.specs.Runs.{holds}
use Rattle.fill_area.specs.Density.{AreMeasured}
use Rattle.fill_raster.specs.Axes.{first, past}
use Rattle.fill_raster.specs.Lattice.{Lattice, box_squares, in_raster, KeepsPitch}
use Rattle.fill_raster.proofs.Ranges.{first_past}
use Rattle.fill_text.specs.declared.script.Edit.{Edit}
use Rattle.fill_job.specs.Basis.{layers_of, windows_in}
use Rattle.fill_job.specs.Plans.{Layers, Plan, IsPlan, PointSet, drawn_squares, low_windows, plan_of}
use Rattle.fill_job.specs.declared.shared.Pieces.{Pieces}
use Rattle.fill_job.proofs.Conflicts.{some_within_decides}
use Rattle.fill_raster.specs.Marks.{Marked, is_marked}
use Rattle.fill_job.specs.ReadSets.{ReadSet, wanted_of}
use Rattle.fill_core.specs.Accounts.{Account, IsSame, opening_of, state_of}
use Rattle.fill_core.specs.Boxes.{no_places, with_boxes}
use Rattle.fill_core.specs.Histories.{events_in}
use Rattle.fill_core.specs.Machine.{State, fill_after, layers_after, metal_after, opening, replay, step, with_tile}
use Rattle.fill_core.specs.Soundness.{IsSound}
use Rattle.fill_core.specs.declared.event.Event.TheVariants as event
use Rattle.fill_core.proofs.Replays.{no_boxes, replay_push, same_state}
use Rattle.fill_core.proofs.Sound.{replay_sound}
use Rattle.fill_state.specs.Filling.{Filling, KeepsClear, in_places, is_filled, left_by, drawn_or_box}
use Rattle.fill_book.specs.Keeping.{state_by, stored_layers}
use Rattle.fill_state.specs.Low.{low_by}
use Rattle.fill_state.specs.Tiles.{is_in}
use Rattle.fill_book.proofs.Kept.{accepted, wanted_marks}
use Rattle.fill_state.proofs.Nearby.{filled_on}
use Rattle.fill_state.specs.declared.places.Places.{Places}
use Rattle.fill_book.specs.declared.stored.Stored.{Stored}

-- ---- low windows

-- windows that are low by a list of their areas are low
pub low_measured : (plan : Plan) (p : PointSet) (totals : List ℤ) (a b : ℕ) → AreMeasured p plan.windows totals → low_by plan.windows plan.least totals a b ≡ low_windows plan p a b
low_measured plan p totals a b are = elim (cases_Bool (nat_lt a plan.windows.across.count)) [
  | inr beyond ↦ rw beyond refl
  | inl column ↦ elim (cases_Bool (nat_lt b plan.windows.up.count)) [
    | inr above ↦ rw above refl
    | inl row ↦ rw (are.each a b (below a _ column) (below b _ row)) refl
  ]
]
  where
    below : (m n : ℕ) → nat_lt m n ≡ true → m < n
    below m n h = grind (arith, nat_tests)

pub opened : (plan : Plan) (s : Stored) (design : Pieces) (totals : List ℤ) → ((x y : ℤ) → in_layer s.drawn.metal x y ≡ holds design.metal x y) → s.drawn.existing ≡ design.fill → ((x y : ℤ) → in_layer s.keep x y ≡ holds design.keep x y)
    → s.version ≡ 0 → AreMeasured (drawn_squares (layers_of design)) plan.windows totals
    → ((a b : ℕ) → windows_in s.low a b ≡ low_by plan.windows plan.least totals a b) → ((i j : ℤ) → is_filled s.filled i j ≡ false) → ((t : ℕ) → is_in s.tiles t ≡ false)
    → state_by no_places s ≡ opening plan (layers_of design)
opened plan s design totals metal existing keep version are low none out =
    let drawn = drawn_squares (layers_of design) in
    same_state (state_by no_places s) (opening plan (layers_of design)) metal (λ x y. ap (λ b. holds b x y) existing) keep none version
    (λ a b. low a b ∙ (low_measured plan drawn totals a b are ∙ ap (λ (p : PointSet). low_windows plan p a b) (sym (no_boxes plan drawn)))) out (λ i j. refl)

pub pitch_kept : (plan : Plan) → IsPlan plan → KeepsPitch plan.raster (pos 0)
pitch_kept plan is = (least plan.raster.across.length plan.fill_spacing plan.raster.across.step is.fill_spacing.least is.pitch.0, least plan.raster.up.length plan.fill_spacing plan.raster.up.step is.fill_spacing.least is.pitch.1)
  where
    least : (l s p : ℤ) → pos 0 ≤ℤ s → (l +ℤ s) ≤ℤ p → (l +ℤ pos 0) ≤ℤ p
    least l s p h k = omega (arith, ints)

-- ---- boxes and what is drawn

near : (x s : ℤ) → pos 0 ≤ℤ s → (x -ℤ x) ≤ℤ s
near x s h = omega (arith, ints)

-- a box that keeps the spacings shares no square with metal or existing fill
pub keeps_clear : (plan : Plan) (layers : Layers) (fill : PointSet) → IsPlan plan → IsSound plan layers fill → KeepsClear plan.raster fill (drawn_squares layers)
keeps_clear plan layers fill is sound x y drawn box =
    let r = plan.raster in
    let found = some_within_decides (λ i j. fill i j && box_squares r i j x y) (first r.across) (first r.up) (past r.across) (past r.up) (first_past r.across) (first_past r.up) in
    let f = found.0 box in
    let parts = and_parts (fill f.x f.y) (box_squares r f.x f.y x y) f.square in
    elim (or_cases (layers.metal x y) (layers.fill x y) drawn) [
      | inl metal ↦
          let across = near x plan.spacing is.spacing.least in let up = near y plan.spacing is.spacing.least in
          sound.clear f.x f.y parts.0 (record { x = x; y = y; square = parts.1; reached = record { u = x; v = y; square = metal; across = record { above = across; below = across }; up = record { above = up; below = up } } })
      | inr existing ↦
          let across = near x plan.fill_spacing is.fill_spacing.least in let up = near y plan.fill_spacing is.fill_spacing.least in
          sound.uncrowded f.x f.y parts.0 (record { x = x; y = y; square = parts.1; reached = record { u = x; v = y; square = existing; across = record { above = across; below = across }; up = record { above = up; below = up } } })
    ]

sound_at : (plan : Plan) (s t : State) → s ≡ t → IsSound plan s.layers s.fill → IsSound plan t.layers t.fill
sound_at plan s t e sound = subst (λ (q : State). IsSound plan q.layers q.fill) e sound

-- so it is in a book, and in the book after an edit
pub clear_now : (a : Account) (s : Stored) (base : PointSet) → IsPlan (plan_of a.rules) → state_of a ≡ state_by base s → KeepsClear (plan_of a.rules).raster (is_filled s.filled) (is_drawn s.drawn)
clear_now a s base is state =
    let plan = plan_of a.rules in
    keeps_clear plan (stored_layers s) (is_filled s.filled) is (sound_at plan (state_of a) (state_by base s) state (replay_sound plan (opening_of a) (events_in a.history) is))

pub clear_after : (a : Account) (s : Stored) (base : PointSet) (edit : Edit) → IsPlan (plan_of a.rules) → state_of a ≡ state_by base s
    → KeepsClear (plan_of a.rules).raster (fill_after (plan_of a.rules) edit (is_filled s.filled)) (drawn_squares (layers_after edit (stored_layers s)))
clear_after a s base edit is state =
    let plan = plan_of a.rules in let events = events_in a.history in
    let next : replay plan (opening_of a) (events ++ event.Edit edit ∷ []) ≡ step plan (state_by base s) (event.Edit edit) = replay_push plan (opening_of a) events (event.Edit edit) ∙ ap (λ (q : State). step plan q (event.Edit edit)) state in
    keeps_clear plan (layers_after edit (stored_layers s)) (fill_after plan edit (is_filled s.filled)) is (sound_at plan _ (step plan (state_by base s) (event.Edit edit)) next (replay_sound plan (opening_of a) (events ++ event.Edit edit ∷ []) is))

-- the same sets, told otherwise
pub same_set : (p q : PointSet) → ((x y : ℤ) → p x y ≡ q x y) → p ≡ q
same_set p q each = fun_ext (λ x. fun_ext (λ y. each x y))

pub clear_same : (r q : Lattice) (f g m n : PointSet) → q ≡ r → ((i j : ℤ) → g i j ≡ f i j) → ((x y : ℤ) → n x y ≡ m x y) → KeepsClear r f m → KeepsClear q g n
clear_same r q f g m n raster fill metal clear = rw (raster, same_set g f fill, same_set n m metal) clear

-- and in the book after a commit that is accepted
pub clear_commit : (a : Account) (s : Stored) (base : PointSet) (version tile : ℕ) (read : ReadSet) (m : Marked) → IsPlan (plan_of a.rules) → state_of a ≡ state_by base s → IsSame a.rules (state_by base s) version tile read true
    → ((i j : ℤ) → is_marked m i j ≡ wanted_of read tile i j) → KeepsClear (plan_of a.rules).raster (λ i j. is_filled s.filled i j || is_marked m i j) (is_drawn s.drawn)
clear_commit a s base version tile read m is state same marked =
    let plan = plan_of a.rules in let events = events_in a.history in
    let after = with_tile plan (state_by base s) tile in
    let step_is : step plan (state_by base s) (event.Commit version tile true) ≡ after = rw (accepted a.rules base s version tile read true same) refl in
    let next : replay plan (opening_of a) (events ++ event.Commit version tile true ∷ []) ≡ after =
    replay_push plan (opening_of a) events (event.Commit version tile true) ∙ (ap (λ (q : State). step plan q (event.Commit version tile true)) state ∙ step_is) in
    let wanted_clear = keeps_clear plan (stored_layers s) after.fill is (sound_at plan _ after next (replay_sound plan (opening_of a) (events ++ event.Commit version tile true ∷ []) is)) in
    clear_same plan.raster plan.raster after.fill (λ i j. is_filled s.filled i j || is_marked m i j) (is_drawn s.drawn) (is_drawn s.drawn) refl
    (λ i j. ap (λ b. is_filled s.filled i j || b) (wanted_marks a.rules base s version tile read m is same marked i j)) (λ x y. refl) wanted_clear

-- ---- the total of a window

-- but for no place, all are left
pub all_left : (f : Filling) (p : Places) → ((i j : ℤ) → in_places p i j ≡ false) → left_by f p ≡ is_filled f
all_left f p none = fun_ext (λ i. fun_ext (λ j. ap (λ b. is_filled f i j && not b) (none i j) ∙ and_yes (is_filled f i j)))
  where
    and_yes : (b : Bool) → b && true ≡ b
    and_yes true = refl
    and_yes false = refl

-- ---- the same sets, told otherwise

pub squares_same : (plan : Plan) (r : Lattice) (f g m n : PointSet) → r ≡ plan.raster → ((i j : ℤ) → f i j ≡ g i j) → ((x y : ℤ) → m x y ≡ n x y) → drawn_or_box r f m ≡ with_boxes plan n g
squares_same plan r f g m n raster fill metal = rw (raster, same_set f g fill, same_set m n metal) refl

-- what is drawn after an edit
pub drawn_edited : (s : Stored) (d : Drawn) (edit : Edit) → ((x y : ℤ) → in_layer d.metal x y ≡ metal_after edit (in_layer s.drawn.metal) x y) → d.existing ≡ s.drawn.existing → (x y : ℤ) → is_drawn d x y ≡ drawn_squares (layers_after edit (stored_layers s)) x y
drawn_edited s d edit metal existing x y = ap (λ b. b || holds d.existing x y) (metal x y) ∙ ap (λ l. metal_after edit (in_layer s.drawn.metal) x y || holds l x y) existing

-- the places left by an edit, where each filled place is on the raster
pub left_after : (plan : Plan) (f : Filling) (out : Places) (edit : Edit) → f.raster ≡ plan.raster
    → ((fill : PointSet) → ((i j : ℤ) → fill i j ≡ true → in_raster plan.raster i j ≡ true) → (i j : ℤ) → fill_after plan edit fill i j ≡ fill i j && not (in_places out i j))
    → (i j : ℤ) → left_by f out i j ≡ fill_after plan edit (is_filled f) i j
left_after plan f out edit raster near i j = sym (near (is_filled f) (λ k l h. rw raster at (filled_on f k l h)) i j)
