-- What holds of every fill, whatever events came.
use Rattle.std.specs.Prelude.{◌≡◌, ◌⊎◌, ◌↔◌, ℕ, ◌+◌, ◌*◌, ◌^◌, ◌<◌, ◌≤◌, ℤ, ◌≤ℤ◌, Bool, true, ◌&&◌, ◌||◌, List, [], length, IsTrue, ⊤, None, Some}
use Rattle.fill_base.specs.Counts.{is_between}
use Rattle.fill_base.specs.Squares.{area_between}
use Rattle.fill_raster.specs.Lattice.{Lattice, IsLattice, in_raster, in_tile, box_squares}
use Rattle.fill_raster.specs.Marks.{IsBlock, in_block}
use Rattle.fill_raster.specs.declared.block.Block.{Block}
use Rattle.fill_size.specs.Distance.{InConflict}
use Rattle.fill_job.specs.Plans.{Plan, IsPlan, Layers, PointSet, allowed, drawn_squares, in_window_of, low_windows, plan_of, wanted}
use Rattle.fill_core.specs.Accounts.{Account, IsKeeping, IsLegal, state_of, with_entry}
use Rattle.fill_core.specs.Boxes.{count_places, low_fill, with_boxes}
use Rattle.fill_core.specs.Histories.{edits_in, placed_in, withdrawn_in}
use Rattle.fill_core.specs.Machine.{State, IsComplete, opening, step, reply_of, replay, replies}
use Rattle.fill_core.specs.Soundness.{IsSound}
use Rattle.fill_core.specs.Tiles.{IsNext, next_tile}
use Rattle.fill_core.specs.declared.event.Event.{Event}
use Rattle.fill_core.specs.declared.event.Reply.{Reply}
use Rattle.fill_core.specs.declared.event.Reply.TheVariants.{Placed, Stale, Already, Foreign, Withdrawn}

-- every filled place may be filled
abbrev pub FilledPlacesAreAllowed : Type 0
FilledPlacesAreAllowed = (plan : Plan) (layers : Layers) (events : List Event) (i j : ℤ) → let s = replay plan layers events in
    s.fill i j ≡ true → (in_raster plan.raster i j ≡ true) × (allowed plan s.layers i j ≡ true)

-- the boxes of two different places keep the fill spacing
abbrev pub BoxesKeepTheFillSpacing : Type 0
BoxesKeepTheFillSpacing = (plan : Plan) → IsPlan plan → (i j k l : ℤ) → ¬ ((i ≡ k) × (j ≡ l)) → ¬ InConflict (box_squares plan.raster i j) (box_squares plan.raster k l) plan.fill_spacing

-- after any events the fill is sound
abbrev pub ReplayIsSound : Type 0
ReplayIsSound = (plan : Plan) (layers : Layers) (events : List Event) → IsPlan plan → let s = replay plan layers events in IsSound plan s.layers s.fill

-- the replies that refuse
abbrev pub IsRefusal : Reply → Type 0
IsRefusal (Placed n) = ⊥
IsRefusal (Stale at) = ⊤
IsRefusal Already = ⊤
IsRefusal Foreign = ⊤
IsRefusal (Withdrawn n) = ⊥

-- what is refused changes nothing, in any state
abbrev pub RefusedChangesNothing : Type 0
RefusedChangesNothing = (plan : Plan) (s : State) (e : Event) → IsRefusal (reply_of plan s e) → step plan s e ≡ s

-- the filled places are those of the version's opening and the wanted ones of the tiles that are in
abbrev pub FillIsThatOfItsTiles : Type 0
FillIsThatOfItsTiles = (plan : Plan) (layers : Layers) (events : List Event) (i j : ℤ) → let s = replay plan layers events in
    (s.fill i j ≡ true) ↔ ((s.base i j ≡ true) ⊎ ((t : ℕ) × (s.tiles_in t ≡ true) × (wanted plan s.layers s.low t i j ≡ true)))

-- the low windows are those of the version's opening, whatever has risen since
abbrev pub LowIsThatOfTheOpening : Type 0
LowIsThatOfTheOpening = (plan : Plan) (layers : Layers) (events : List Event) → let s = replay plan layers events in s.low ≡ low_windows plan (with_boxes plan (drawn_squares s.layers) s.base)

-- the first version's are those of metal and existing fill
abbrev pub OpeningIsLowOfTheDesign : Type 0
OpeningIsLowOfTheDesign = (plan : Plan) (layers : Layers) → (opening plan layers).low ≡ low_windows plan (drawn_squares layers)

-- the existing fill stays as it was, whatever edits came
abbrev pub ExistingFillStays : Type 0
ExistingFillStays = (plan : Plan) (layers : Layers) (events : List Event) → (replay plan layers events).layers.fill ≡ layers.fill

-- once every tile is in, the fill is that of the version's opening and all allowed places wholly in a window that was low then
abbrev pub CompleteFill : Type 0
CompleteFill = (plan : Plan) (layers : Layers) (events : List Event) → IsPlan plan → let s = replay plan layers events in
    IsComplete plan s → s.fill ≡ (λ i j. s.base i j || (allowed plan s.layers i j && in_window_of plan s.low i j))

-- without edits, that is what may be filled in windows that are low in metal and existing fill: the same in whatever order the tiles came
abbrev pub CompleteFillWithoutEdits : Type 0
CompleteFillWithoutEdits = (plan : Plan) (layers : Layers) (events : List Event) → IsPlan plan → edits_in events ≡ [] → let s = replay plan layers events in
    IsComplete plan s → s.fill ≡ low_fill plan layers

-- the filled places are as many as were placed, less those taken out
abbrev pub CountIsPlacedLessWithdrawn : Type 0
CountIsPlacedLessWithdrawn = (plan : Plan) (layers : Layers) (events : List Event) → let rs = replies plan layers events in
    count_places plan.raster (replay plan layers events).fill + withdrawn_in rs ≡ placed_in rs

-- no event places or takes out more places than a raster may have
abbrev pub SumsAreBounded : Type 0
SumsAreBounded = (plan : Plan) (layers : Layers) (events : List Event) → IsPlan plan → let rs = replies plan layers events in
    (placed_in rs ≤ 16777216 * length events) × (withdrawn_in rs ≤ 16777216 * length events)

-- the version is the number of edits
abbrev pub VersionCountsEdits : Type 0
VersionCountsEdits = (plan : Plan) (layers : Layers) (events : List Event) → (replay plan layers events).version ≡ length (edits_in events)

-- a set with boxes is the set and the squares of the boxes of filled places
abbrev pub BoxesAreOfPlaces : Type 0
BoxesAreOfPlaces = (plan : Plan) (drawn fill : PointSet) → IsPlan plan → ((i j : ℤ) → fill i j ≡ true → in_raster plan.raster i j ≡ true)
    → (x y : ℤ) → IsTrue (with_boxes plan drawn fill x y) ↔ ((drawn x y ≡ true) ⊎ ((i j : ℤ) × (fill i j ≡ true) × (box_squares plan.raster i j x y ≡ true)))

-- a set that lies in a part of a rectangle may be counted in the part
pub record IsPart (left bottom right top a b c d : ℤ) : Type 0 where
  pub from_left : left ≤ℤ a
  pub columns : a ≤ℤ c
  pub to_right : c ≤ℤ right
  pub from_bottom : bottom ≤ℤ b
  pub rows : b ≤ℤ d
  pub to_top : d ≤ℤ top

abbrev pub CountedInAPart : Type 0
CountedInAPart = (p : PointSet) (left bottom right top a b c d : ℤ) → IsPart left bottom right top a b c d
    → ((x y : ℤ) → p x y ≡ true → is_between a c x && is_between b d y ≡ true) → area_between p left bottom right top ≡ area_between p a b c d

-- one more entry is one more step, and where its reply is that of its event the replies stay those of the replay
abbrev pub EntryIsAStep : Type 0
EntryIsAStep = (a : Account) (e : Event) (reply : Reply) → state_of (with_entry a e reply) ≡ step (plan_of a.rules) (state_of a) e

abbrev pub AnswersStayLegal : Type 0
AnswersStayLegal = (a : Account) (e : Event) (reply : Reply) → IsLegal a → reply ≡ reply_of (plan_of a.rules) (state_of a) e → IsLegal (with_entry a e reply)

-- an account keeps all that is said of every book, where its replies are those of the replay and its history has room
abbrev pub LegalAccountsKeep : Type 0
LegalAccountsKeep = (a : Account) → IsPlan (plan_of a.rules) → IsLegal a → length a.history ≤ a.most → a.most ≤ 2 ^ 32 → IsKeeping a

-- the next tile is the first one that isn't in; there is none exactly where all are
abbrev pub NextTileIsFirst : Type 0
NextTileIsFirst = (count : ℕ) (tiles_in : ℕ → Bool) (from tile : ℕ) → next_tile count tiles_in from ≡ Some tile → IsNext count tiles_in from tile

abbrev pub NoNextTileWhereAllAreIn : Type 0
NoNextTileWhereAllAreIn = (count : ℕ) (tiles_in : ℕ → Bool) (from : ℕ) → (next_tile count tiles_in from ≡ None) ↔ ((tile : ℕ) → tile < count → tiles_in tile ≡ true)

-- places of one tile may be counted over the tile's block of columns and rows, as the marks of a tile are
abbrev pub CountedInABlock : Type 0
CountedInABlock = (r : Lattice) (tile : ℕ) (b : Block) (p : PointSet) → IsLattice r → IsBlock b → ((i j : ℤ) → in_block b i j ≡ in_tile r tile i j)
    → ((i j : ℤ) → p i j ≡ true → in_tile r tile i j ≡ true) → count_places r p ≡ area_between p b.left b.bottom b.right b.top
