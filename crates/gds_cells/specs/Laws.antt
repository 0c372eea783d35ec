-- The laws of placements, of references and of lists of layers.
use Rattle.std.specs.Prelude.{◌≡◌, ◌↔◌, ℕ, zero, suc, ◌*◌, ◌<◌, ◌≤◌, ℤ, pos, ◌+ℤ◌, ◌-ℤ◌, ◌*ℤ◌, Bool, true, false, ◌||◌, List, [], ◌∷◌, ◌++◌, Option, Some, None}
use Rattle.fill_base.specs.declared.layer.Layer.{Layer}
use Rattle.fill_base.specs.declared.place.Point.{Point}
use Rattle.gds_record.specs.Reals.{bits_of, HasValue, turns_of}
use Rattle.gds_grammar.specs.Layers.{has_layer}
use Rattle.gds_grammar.specs.Values.{boundary, path, reference, array, Shape as Element}
use Rattle.gds_cells.specs.declared.placement.Placement.{Placement}
use Rattle.gds_cells.specs.Copies.{drawn}
use Rattle.gds_cells.specs.Designs.{Entry, copies_of, element_fault}
use Rattle.gds_cells.specs.Placements.{signed, back_x, back_y, carried, composed, placed}
use Rattle.gds_cells.specs.References.{turns_of_bits, is_magnified, has_steps, step_of}
use Rattle.gds_cells.specs.Shapes.{is_shape}

-- ---- the rule in its own words, on the centres of squares, in half units

abbrev pub centre : ℤ → ℤ → ℤ × ℤ
centre x y = ((pos 2 *ℤ x) +ℤ pos 1, (pos 2 *ℤ y) +ℤ pos 1)

-- about the x axis, or not
abbrev pub reflected : Bool → ℤ × ℤ → ℤ × ℤ
reflected b c = (c.0, signed b c.1)

-- counter-clockwise about the origin, so many quarters
abbrev pub turned : ℕ → ℤ × ℤ → ℤ × ℤ
turned zero c = c
turned (suc n) c = (pos 0 -ℤ (turned n c).1, (turned n c).0)

abbrev pub moved : ℤ → ℤ → ℤ × ℤ → ℤ × ℤ
moved x y c = (c.0 +ℤ (pos 2 *ℤ x), c.1 +ℤ (pos 2 *ℤ y))

-- The centre of the square that a square comes from is reflected, turned and moved to its centre.
abbrev pub ActsOnCentres : Type 0
ActsOnCentres = (r : Bool) (n : ℕ) → n < 4 → (dx dy x y : ℤ)
    → moved dx dy (turned n (reflected r (centre (back_x (placed r n dx dy) x y) (back_y (placed r n dx dy) x y))))
    ≡ centre x y

-- What is carried by one placement after another is carried by the first, then by the second.
abbrev pub ActsInTurn : Type 0
ActsInTurn = (p q : Placement) (s : ℤ → ℤ → Bool) (x y : ℤ)
    → carried (composed p q) s x y ≡ carried p (carried q s) x y

-- Of three placements in a row, it makes no difference which two are taken together.
abbrev pub GroupsFreely : Type 0
GroupsFreely = (p q r : Placement) → composed p (composed q r) ≡ composed (composed p q) r

-- ---- what the numbers of a reference say

-- the real with these bits is so many degrees, and they are t quarter turns counter-clockwise
abbrev pub IsTurnBy : ℕ → ℕ → Type 0
IsTurnBy bits t = (negative : Bool) × (k : ℕ) × (k ≤ 4) × HasValue bits negative (90 * k) × (t ≡ turns_of negative k)

-- An angle is taken exactly where it's a multiple of 90 degrees from -360 to 360.
abbrev pub TurnsAreDegrees : Type 0
TurnsAreDegrees = (bits t : ℕ) → (turns_of_bits bits ≡ Some t) ↔ IsTurnBy bits t

-- A magnification is taken exactly where it's 1.
abbrev pub UnitIsOne : Type 0
UnitIsOne = (bytes : List ℕ) → (is_magnified (Some bytes) ≡ false) ↔ HasValue (bits_of bytes) false 1

-- so many steps from one point lead to the other
abbrev pub IsStep : Point → Point → ℕ → Point → Type 0
IsStep p q n d = (q.x ≡ p.x +ℤ (pos n *ℤ d.x)) × (q.y ≡ p.y +ℤ (pos n *ℤ d.y))

-- Steps are taken exactly where there are whole ones, and they are those.
abbrev pub StepsAreWhole : Type 0
StepsAreWhole = (p q d : Point) (n : ℕ) → 0 < n
    → ((has_steps p q n ≡ true) × (step_of p q n ≡ d)) ↔ IsStep p q n d

-- ---- lists of layers

-- the layer of a boundary or path
abbrev pub layer_of : Element → Option Layer
layer_of (boundary l points) = Some l
layer_of (path l wire) = Some l
layer_of (reference cell transform origin) = None
layer_of (array cell transform columns rows points) = None

-- The shapes of a list of one layer are those on that layer.
abbrev pub ShapesOfOneLayer : Type 0
ShapesOfOneLayer = (l : Layer) (e : Element) → (is_shape (l ∷ []) e ≡ true) ↔ (layer_of e ≡ Some l)

-- Order and repeats don't matter: of lists that have the same layers the copies are the same, and each element's fault.
abbrev pub OrderIsFree : Type 0
OrderIsFree = (a b : List Layer) → ((l : Layer) → has_layer a l ≡ has_layer b l)
    → ((cells : List Entry) (top : List ℕ) → copies_of cells top a ≡ copies_of cells top b) × ((e : Element) → element_fault a e ≡ element_fault b e)

-- On two lists one after the other the top draws what it draws on the one or the other.
abbrev pub DrawsTheUnion : Type 0
DrawsTheUnion = (cells : List Entry) (top : List ℕ) (a b : List Layer) (x y : ℤ)
    → drawn (copies_of cells top (a ++ b)) x y ≡ (drawn (copies_of cells top a) x y || drawn (copies_of cells top b) x y)
