-- What a fill is between events, and what each event makes of it. Low windows and areas are found anew from the sets each time.
use Rattle.std.specs.Prelude.{◌≡◌, ℕ, ◌+◌, ◌<◌, Bool, true, false, ◌&&◌, ◌||◌, not, ◌==◌, List, [], ◌∷◌, if◌then◌else◌}
use Rattle.fill_base.specs.Squares.{squares}
use Rattle.fill_raster.specs.Lattice.{tiles}
use Rattle.fill_text.specs.declared.script.Edit.{Edit}
use Rattle.fill_text.specs.declared.script.Edit.TheVariants.{Add, Cut, Keep}
use Rattle.fill_job.specs.Plans.{Layers, Plan, PointSet, WindowSet, blocked, conflicts, drawn_squares, low_windows, wanted}
use Rattle.fill_core.specs.Boxes.{no_places, with_boxes, count_places}
use Rattle.fill_core.specs.declared.event.Event.{Event}
use Rattle.fill_core.specs.declared.event.Event.TheVariants as event
use Rattle.fill_core.specs.declared.event.Reply.{Reply}
use Rattle.fill_core.specs.declared.event.Reply.TheVariants.{Placed, Stale, Already, Foreign, Withdrawn}

-- the metal, the existing fill and the keep-outs, the filled places, the version, the windows that were low when it opened, the tiles that
-- are in, and the places that were filled when it opened
pub record State : Type 0 where
  pub layers : Layers
  pub fill : PointSet
  pub version : ℕ
  pub low : WindowSet
  pub tiles_in : ℕ → Bool
  pub base : PointSet

-- a version opens: its low windows are those of metal, existing fill and boxes together, and no tile is in
abbrev pub opened : Plan → Layers → PointSet → ℕ → State
opened plan layers fill version = record {
  layers = layers;
  fill = fill;
  version = version;
  low = low_windows plan (with_boxes plan (drawn_squares layers) fill);
  tiles_in = λ tile. false;
  base = fill;
}

-- version 0 opens on the design alone
abbrev pub opening : Plan → Layers → State
opening plan layers = opened plan layers no_places 0

-- every tile is in
abbrev pub IsComplete : Plan → State → Type 0
IsComplete plan s = (tile : ℕ) → tile < tiles plan.raster → s.tiles_in tile ≡ true

-- ---- a tile is committed, with its version, and with whether all that was read for it is the same

abbrev pub is_accepted : State → ℕ → ℕ → Bool → Bool
is_accepted s version tile same = (version == s.version) && (not (s.tiles_in tile) && same)

-- the wanted places of the tile are filled, and the tile is in
abbrev pub with_tile : Plan → State → ℕ → State
with_tile plan s tile = record s {
  fill = λ i j. s.fill i j || wanted plan s.layers s.low tile i j;
  tiles_in = λ t. s.tiles_in t || (t == tile);
}

-- a place that is filled already is not counted again
abbrev pub newly_placed : Plan → State → ℕ → ℕ
newly_placed plan s tile = count_places plan.raster (λ i j. wanted plan s.layers s.low tile i j && not (s.fill i j))

abbrev pub commit_step : Plan → State → ℕ → ℕ → Bool → State
commit_step plan s version tile same = if is_accepted s version tile same then with_tile plan s tile else s

abbrev pub commit_reply : Plan → State → ℕ → ℕ → Bool → Reply
commit_reply plan s version tile same =
    if not (version == s.version) then Stale s.version else (if s.tiles_in tile then Already else (if not same then Foreign else Placed (newly_placed plan s tile)))

-- ---- metal or keep-outs are edited

abbrev pub metal_after : Edit → PointSet → PointSet
metal_after (Add r) metal x y = metal x y || squares r x y
metal_after (Cut r) metal x y = metal x y && not (squares r x y)
metal_after (Keep r) metal x y = metal x y

abbrev pub keep_after : Edit → PointSet → PointSet
keep_after (Add r) keep x y = keep x y
keep_after (Cut r) keep x y = keep x y
keep_after (Keep r) keep x y = keep x y || squares r x y

-- no edit changes the existing fill, which also counts where metal over it is cut
abbrev pub layers_after : Edit → Layers → Layers
layers_after edit layers = record { metal = metal_after edit layers.metal; fill = layers.fill; keep = keep_after edit layers.keep }

-- added metal takes out the boxes that it comes too near to, an added keep-out those that it shares a square with
abbrev pub fill_after : Plan → Edit → PointSet → PointSet
fill_after plan (Add r) fill i j = fill i j && not (conflicts plan (squares r) i j)
fill_after plan (Cut r) fill i j = fill i j
fill_after plan (Keep r) fill i j = fill i j && not (blocked plan (squares r) i j)

-- the next version opens
abbrev pub edit_step : Plan → State → Edit → State
edit_step plan s edit = opened plan (layers_after edit s.layers) (fill_after plan edit s.fill) (s.version + 1)

abbrev pub withdrawn_places : Plan → State → Edit → ℕ
withdrawn_places plan s edit = count_places plan.raster (λ i j. s.fill i j && not (fill_after plan edit s.fill i j))

abbrev pub edit_reply : Plan → State → Edit → Reply
edit_reply plan s edit = Withdrawn (withdrawn_places plan s edit)

-- ---- one event, and one after another

abbrev pub step : Plan → State → Event → State
step plan s (event.Commit version tile same) = commit_step plan s version tile same
step plan s (event.Edit edit) = edit_step plan s edit

abbrev pub reply_of : Plan → State → Event → Reply
reply_of plan s (event.Commit version tile same) = commit_reply plan s version tile same
reply_of plan s (event.Edit edit) = edit_reply plan s edit

unfoldable pub replay_from : Plan → State → List Event → State
replay_from plan s [] = s
replay_from plan s (e ∷ es) = replay_from plan (step plan s e) es

unfoldable pub replies_from : Plan → State → List Event → List Reply
replies_from plan s [] = []
replies_from plan s (e ∷ es) = reply_of plan s e ∷ replies_from plan (step plan s e) es

-- the state after the events, from the opening on the design, and the reply to each
abbrev pub replay : Plan → Layers → List Event → State
replay plan layers events = replay_from plan (opening plan layers) events

abbrev pub replies : Plan → Layers → List Event → List Reply
replies plan layers events = replies_from plan (opening plan layers) events
