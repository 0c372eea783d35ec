-- What a path covers: the rectangles of the segments between its corners.
use Rattle.std.specs.Prelude.{◌≡◌, ℕ, ◌/◌, ◌%◌, ℤ, pos, ◌+ℤ◌, ◌-ℤ◌, Bool, false, ◌&&◌, ◌||◌, not, List, [], ◌∷◌, length, Option, Some, None, All, int_lt, unsigned_abs, unwrap_or, nat_lt, ◌==◌, if◌then◌else◌}
use Rattle.std.specs.Ordering.{int_eq}
use Rattle.std.specs.List.{list_any}
use Rattle.fill_base.specs.declared.place.Point.{Point}
use Rattle.fill_base.specs.Counts.{is_between}
use Rattle.fill_base.specs.Coordinates.{IsCoordinate}
use Rattle.gds_grammar.specs.Values.{Wire}
use Rattle.gds_shape.specs.declared.bounds.Bounds.{Bounds}
use Rattle.gds_shape.specs.declared.error.ShapeError.{ShapeError}
use Rattle.gds_shape.specs.declared.error.ShapeError.TheVariants as errors
use Rattle.gds_shape.specs.Winding.{edges}

abbrev pub is_same : Point → Point → Bool
is_same p q = int_eq p.x q.x && int_eq p.y q.y

-- strictly between two numbers
abbrev pub is_inside : ℤ → ℤ → ℤ → Bool
is_inside a b c = (int_lt a b && int_lt b c) || (int_lt c b && int_lt b a)

-- one number stays, and the other goes on
abbrev pub goes_on : ℤ → ℤ → ℤ → ℤ → ℤ → ℤ → Bool
goes_on a b c d e f = int_eq a b && int_eq b c && is_inside d e f

-- strictly between two points on one line
abbrev pub is_inner : Point → Point → Point → Bool
is_inner p q r = goes_on p.x q.x r.x p.y q.y r.y || goes_on p.y q.y r.y p.x q.x r.x

-- A path's corners: a point is dropped that equals a neighbour or lies strictly between them.
abbrev pub is_dropped : Point → Point → Point → Bool
is_dropped p q r = is_same p q || is_same q r || is_inner p q r

abbrev pub corners_from : Point → Point → List Point → List Point
corners_from p q [] = if is_same p q then p ∷ [] else p ∷ q ∷ []
corners_from p q (r ∷ points) =
    if is_dropped p q r then corners_from p r points else p ∷ corners_from q r points

abbrev pub corners : List Point → List Point
corners [] = []
corners (p ∷ points) = corners_from p p points

-- the rectangle of a segment: so far to both sides, and so far past its ends
abbrev pub low_end : ℤ → ℤ → ℤ → ℤ → ℤ
low_end a b before after = if int_lt a b then a -ℤ before else b -ℤ after

abbrev pub high_end : ℤ → ℤ → ℤ → ℤ → ℤ
high_end a b before after = if int_lt a b then b +ℤ after else a +ℤ before

abbrev pub segment : Point → Point → ℤ → ℤ → ℤ → Bounds
segment p q half before after =
    if int_eq p.x q.x then record {
      left = p.x -ℤ half;
      bottom = low_end p.y q.y before after;
      right = p.x +ℤ half;
      top = high_end p.y q.y before after;
    } else record {
      left = low_end p.x q.x before after;
      bottom = p.y -ℤ half;
      right = high_end p.x q.x before after;
      top = p.y +ℤ half;
    }

-- past a segment's end: half the width where another follows, else the path's own extension
abbrev pub ending : ℤ → ℤ → List Point → ℤ
ending half after [] = after
ending half after (r ∷ points) = half

abbrev pub segments_from : ℤ → ℤ → ℤ → Point → List Point → List Bounds
segments_from half before after p [] = []
segments_from half before after p (q ∷ points) =
    segment p q half before (ending half after points) ∷ segments_from half half after q points

abbrev pub segments : ℤ → ℤ → ℤ → List Point → List Bounds
segments half before after [] = []
segments half before after (p ∷ points) = segments_from half before after p points

-- ---- what the records of a path say

abbrev pub width_of : Wire → ℤ
width_of path = unwrap_or path.width (pos 0)

abbrev pub type_of : Wire → ℕ
type_of path = unwrap_or path.path_type 0

abbrev pub corners_of : Wire → List Point
corners_of path = corners path.points

-- the sign of the width concerns magnification alone
abbrev pub half_of : Wire → ℤ
half_of path = pos (unsigned_abs (width_of path) / 2)

-- past an end of the path: nothing, half the width, or what is given
abbrev pub extension : ℕ → ℤ → Option ℤ → ℤ
extension type half given =
    if type == 2 then half else if type == 4 then unwrap_or given (pos 0) else pos 0

abbrev pub begin_of : Wire → ℤ
begin_of path = extension (type_of path) (half_of path) path.begin_extension

abbrev pub end_of : Wire → ℤ
end_of path = extension (type_of path) (half_of path) path.end_extension

-- A path of no width covers nothing, nor does one whose points are all equal: it has one corner.
abbrev pub is_drawn : Wire → Bool
is_drawn path = not (int_eq (width_of path) (pos 0)) && nat_lt 1 (length (corners_of path))

abbrev pub segments_of : Wire → List Bounds
segments_of path =
    if is_drawn path then segments (half_of path) (begin_of path) (end_of path) (corners_of path) else []

abbrev pub in_bounds : Bounds → ℤ → ℤ → Bool
in_bounds b x y = is_between b.left b.right x && is_between b.bottom b.top y

-- a path covers the squares of its segments
abbrev pub path_covers : Wire → ℤ → ℤ → Bool
path_covers path x y = list_any (λ b. in_bounds b x y) (segments_of path)

-- all four edges are coordinates
abbrev pub AreInRange : Bounds → Type 0
AreInRange b =
    (IsCoordinate b.left × IsCoordinate b.bottom) × (IsCoordinate b.right × IsCoordinate b.top)

-- ---- refusals

abbrev pub is_slanted : Point × Point → Bool
is_slanted e = not (int_eq e.0.x e.1.x || int_eq e.0.y e.1.y)

abbrev pub on_one_line : Point → Point → Point → Bool
on_one_line p q r = (int_eq p.x q.x && int_eq q.x r.x) || (int_eq p.y q.y && int_eq q.y r.y)

-- three corners in a row on one line: the second segment goes back along the first
abbrev pub doubles_back : List Point → Bool
doubles_back (p ∷ q ∷ r ∷ points) = on_one_line p q r || doubles_back (q ∷ r ∷ points)
doubles_back _ = false

abbrev pub has_round_end : Wire → Bool
has_round_end path = not (type_of path == 0 || type_of path == 2 || type_of path == 4)

abbrev pub has_odd_width : Wire → Bool
has_odd_width path = unsigned_abs (width_of path) % 2 == 1

abbrev pub has_bad_extension : Wire → Bool
has_bad_extension path =
    type_of path == 4 && (int_lt (begin_of path) (pos 0) || int_lt (end_of path) (pos 0))

-- the first row whose test holds
abbrev pub first_of : List (Bool × ShapeError) → Option ShapeError
first_of [] = None
first_of (row ∷ rows) = if row.0 then Some row.1 else first_of rows

-- why a path with these corners is refused, the first cause in this order
abbrev pub fault_among : Wire → List Point → Option ShapeError
fault_among path points = first_of (
    (list_any is_slanted (edges points), errors.NotManhattan)
    ∷ (has_round_end path, errors.RoundEnd)
    ∷ (has_odd_width path, errors.OddWidth)
    ∷ (doubles_back points, errors.DoublesBack)
    ∷ (has_bad_extension path, errors.BadExtension) ∷ [])

-- a path that covers nothing isn't checked
abbrev pub path_fault : Wire → Option ShapeError
path_fault path = if is_drawn path then fault_among path (corners_of path) else None

-- each refusal comes where its cause is the first; want of memory has none in the path
abbrev pub IsPathRefusal : Wire → ShapeError → Type 0
IsPathRefusal path errors.Memory = Unit {0}
IsPathRefusal path errors.OutOfRange =
    (path_fault path ≡ None) × (All AreInRange (segments_of path) → ⊥)
IsPathRefusal path e = path_fault path ≡ Some e
