-- The walk within a rectangle: cells whose extent doesn't meet it are not entered.
use Rattle.std.specs.Prelude.{◌<ℤ◌, ◌≡◌, ℕ, zero, suc, ℤ, pos, ◌-ℤ◌, ◌*◌, Bool, true, false, List, [], ◌++◌, map, get_or, slice_get, Option, Some, None, All, ◌↔◌}
use Rattle.std.specs.List.{flat_map}
use Rattle.fill_base.specs.declared.rect.Rect.{Rect}
use Rattle.fill_base.specs.Squares.{squares}
use Rattle.gds_shape.specs.declared.bounds.Bounds.{Bounds}
use Rattle.gds_shape.specs.Paths.{in_bounds}
use Rattle.gds_cells.specs.declared.cell.Cell.{Cell}
use Rattle.gds_cells.specs.declared.link.Link.{Link}
use Rattle.gds_cells.specs.Graphs.{Graph, IsDeep}
use Rattle.gds_cells.specs.Placements.{carried_bounds}
use Rattle.gds_cells.specs.Shapes.{parts_of}
use Rattle.gds_cells.specs.Copies.{Copy, own_copy, carry_copy, copies, drawn}
use Rattle.gds_flatten.specs.Frames.{met}
use Rattle.gds_cells.specs.steps.Prepared.{IsOrdered, IsPart}
use Rattle.gds_cells.specs.steps.Ranges.{IsClose}
use Rattle.gds_cells.specs.steps.Counting.{links_in}
use Rattle.gds_cells.specs.steps.Walks.{own_in, singles_of, hierarchy}

-- the frame sees nothing of the copies
abbrev pub IsUnseen : Rect → List Copy → Type 0
IsUnseen r cs = (x y : ℤ) → squares r x y ≡ true → drawn cs x y ≡ false

-- they draw nothing on it, and none of their extents meets it
pub record IsMissed (r : Rect) (cs : List Copy) : Type 0 where
  pub dark : IsUnseen r cs
  pub none : met r cs ≡ 0

-- edges in order, far from where sums of 64 bits end
pub record IsFine (b : Bounds) : Type 0 where
  pub ordered : IsOrdered b
  pub left : IsClose b.left
  pub bottom : IsClose b.bottom
  pub right : IsClose b.right
  pub top : IsClose b.top

abbrev pub IsFineIf : Option Bounds → Type 0
IsFineIf None = ⊥ → ⊥
IsFineIf (Some b) = IsFine b

-- the squares of an extent
abbrev pub in_if : Option Bounds → ℤ → ℤ → Bool
in_if None x y = false
in_if (Some b) x y = in_bounds b x y

-- all squares of the one are squares of the other
abbrev pub IsAround : Option Bounds → Option Bounds → Type 0
IsAround o p = (x y : ℤ) → in_if p x y ≡ true → in_if o x y ≡ true

-- the copies draw within the extent, and nothing where there is none
abbrev pub IsHeld : List Copy → Option Bounds → Type 0
IsHeld cs o = (x y : ℤ) → drawn cs x y ≡ true → in_if o x y ≡ true

abbrev pub extent_at : List (Option Bounds) → ℕ → Option Bounds
extent_at extents c = get_or extents c None

-- the extent lies within the window, which is any four numbers
abbrev pub Fits : Bounds → Option Bounds → Type 0
Fits w None = Unit {0}
Fits w (Some b) = IsPart w b

-- so do all parts of the copy
abbrev pub FitsCopy : Bounds → Copy → Type 0
FitsCopy w c = All (λ b. IsPart w (carried_bounds c.placement b)) (parts_of c.element)

abbrev pub FitAll : Bounds → List Copy → Type 0
FitAll w cs = All (FitsCopy w) cs

-- all parts of the copies lie in a window strictly within the frame, which so meets each copy, also one that is a line or a point
pub record IsStrictly (r : Rect) (w : Bounds) : Type 0 where
  pub left : r.x1 <ℤ w.left
  pub bottom : r.y1 <ℤ w.bottom
  pub right : w.right <ℤ r.x2
  pub top : w.top <ℤ r.y2

pub record AreInside (r : Rect) (cs : List Copy) : Type 0 where
  pub window : Bounds
  pub strictly : IsStrictly r window
  pub fit : FitAll window cs

-- a window holds the extent exactly where it holds all copies
abbrev pub IsTight : List Copy → Option Bounds → Type 0
IsTight cs o = (w : Bounds) → Fits w o ↔ FitAll w cs

-- the window of m times 2^36 to each side
abbrev pub square : ℕ → Bounds
square m = record {
  left = pos 0 -ℤ pos (m * 68719476736);
  bottom = pos 0 -ℤ pos (m * 68719476736);
  right = pos (m * 68719476736);
  top = pos (m * 68719476736);
}

-- what the copies draw lies within the extent, which is no larger than they are
pub record IsRight (cs : List Copy) (o : Option Bounds) : Type 0 where
  pub held : IsHeld cs o
  pub tight : IsTight cs o

-- the extent of a cell is that of its copies through chains of at most n cells, and so are those of all that it refers to
unfoldable pub AreHeld : List Cell → List (Option Bounds) → ℕ → ℕ → Type 0
AreHeld cells extents zero c = IsRight [] (extent_at extents c)
AreHeld cells extents (suc n) c =
    IsRight (copies (hierarchy cells) (suc n) c) (extent_at extents c)
    × All (λ l. AreHeld cells extents n l.cell) (links_in (slice_get cells c))

-- what a cell draws, where the cells that it refers to draw so
abbrev pub links_draw : (ℕ → List Copy) → List Link → List Copy
links_draw below links = flat_map (λ s. map (carry_copy s.1) (below s.0)) (flat_map singles_of links)

abbrev pub cell_draws : (ℕ → List Copy) → Cell → List Copy
cell_draws below c = map own_copy (own_in (Some c)) ++ links_draw below c.links.items

-- the extents of the cells that the links refer to are right
abbrev pub AreRightlyHeld : (ℕ → List Copy) → List (Option Bounds) → List Link → Type 0
AreRightlyHeld below extents links = All (λ l. IsRight (below l.cell) (extent_at extents l.cell)) links

-- the extents of the cells that the links refer to lie within the window
abbrev pub AllFit : Bounds → List (Option Bounds) → List Link → Type 0
AllFit w extents links = All (λ l. Fits w (extent_at extents l.cell)) links

-- the extent is that of all copies, through chains of any number of cells that no chain exceeds
abbrev pub IsExtentOf : Graph → List Cell → ℕ → Option Bounds → Type 0
IsExtentOf g cells c extent = (n : ℕ) → (IsDeep g n c → ⊥) → IsRight (copies (hierarchy cells) n c) extent
