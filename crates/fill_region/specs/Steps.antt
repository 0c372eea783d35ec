-- What serves the functions of the crate alone: lists of rectangles that are runs of a set, in any order.
use Rattle.std.specs.Prelude.{◌≡◌, true, ℤ, pos, ◌-ℤ◌, ◌<ℤ◌, ◌≤ℤ◌, ◌⊎◌, Bool, ◌&&◌, ◌||◌, not, int_lt, List, ◌++◌, map, length, get_or, All, ℕ, ◌+◌, ◌<◌, ◌≤◌}
use Rattle.std.specs.Ordering.{int_eq}
use Rattle.std.specs.List.{Contains}
use Rattle.std.specs.List.Sorted.{IsPermutation}
use Rattle.fill_base.specs.declared.rect.Rect.{Rect}
use Rattle.fill_base.specs.Squares.{squares}
use Rattle.fill_base.specs.Counts.{is_between}
use Rattle.fill_spans.specs.Spans.{inside}
use Rattle.fill_spans.specs.Columns.{IsRisingBy}
use Rattle.fill_bands.specs.Squares.{covered}
use Rattle.fill_region.specs.Runs.{sides_of, IsInterval, IsRun, Precedes, AreInOrder}
use Rattle.fill_region.specs.declared.lines.Line.{Line}
use Rattle.fill_region.specs.declared.lines.Line.TheVariants.{Upright, Level}
use Rattle.fill_region.specs.declared.edges.Edge.{Edge}
use Rattle.fill_region.specs.declared.edges.Edge.TheVariants.{Left, Bottom, Right, Top}

-- each rectangle is a run of the set, and each square of the set lies in one of them
pub record AreRunsOf (p : ℤ → ℤ → Bool) (rects : List Rect) : Type 0 where
  pub each : All (λ r. IsRun p (sides_of r)) rects
  pub all : (x y : ℤ) → p x y ≡ true → covered rects x y ≡ true

-- the squares of one row, from a line up to another
abbrev pub squares_between : List ℤ → ℤ → ℤ → ℤ → ℤ → Bool
squares_between edges bottom top x y = inside edges x && is_between bottom top y

-- the square lies left of an upright line, or below a level one
abbrev pub is_before : Line → ℤ → ℤ → Bool
is_before (Upright at) x y = int_lt x at
is_before (Level at) x y = int_lt y at

-- what of a set lies before a line, and behind it
abbrev pub before : Line → (ℤ → ℤ → Bool) → ℤ → ℤ → Bool
before line p x y = p x y && is_before line x y

abbrev pub behind : Line → (ℤ → ℤ → Bool) → ℤ → ℤ → Bool
behind line p x y = p x y && not (is_before line x y)

-- where that side of a rectangle lies
abbrev pub edge_of : Edge → Rect → ℤ
edge_of Left r = r.x1
edge_of Bottom r = r.y1
edge_of Right r = r.x2
edge_of Top r = r.y2

abbrev pub is_at : Edge → ℤ → Rect → Bool
is_at edge at r = int_eq (edge_of edge r) at

-- the list in two: the rectangles of which that side lies at `at`, and the others
pub record AreParted (edge : Edge) (at : ℤ) (all there others : List Rect) : Type 0 where
  pub same : IsPermutation all (there ++ others)
  pub are_there : All (λ r. edge_of edge r ≡ at) there
  pub are_not : All (λ r. edge_of edge r ≡ at → ⊥) others

-- `upper` begins where `lower` ends, between the same sides
pub record StandsOn (upper lower : Rect) : Type 0 where
  pub line : lower.y2 ≡ upper.y1
  pub left : lower.x1 ≡ upper.x1
  pub right : lower.x2 ≡ upper.x2

-- those that begin in one column are the same
abbrev pub AreOfOneRow : List Rect → Type 0
AreOfOneRow row = (r s : Rect) → Contains row r → Contains row s → r.x1 ≡ s.x1 → sides_of r ≡ sides_of s

-- some rectangle of the list lies between these sides
pub record HasSides (left right : ℤ) (rects : List Rect) : Type 0 where
  pub rect : Rect
  pub among : Contains rects rect
  pub left_is : rect.x1 ≡ left
  pub right_is : rect.x2 ≡ right

-- the first `n` begin left of the column
abbrev pub AreLeftOf : List Rect → ℕ → ℤ → Type 0
AreLeftOf rects n column = (j : ℕ) (d : Rect) → j < n → (get_or rects j d).x1 <ℤ column

-- the first `n` begin left of the column, and no other does
pub record IsPlaceOf (rects : List Rect) (column : ℤ) (n : ℕ) : Type 0 where
  pub within : n ≤ length rects
  pub left : AreLeftOf rects n column
  pub right : (j : ℕ) (d : Rect) → n ≤ j → j < length rects → column ≤ℤ (get_or rects j d).x1

-- of a set's runs below the line, `lower` are those that end there, and of those above it `upper` are those that begin there
pub record MeetAt (p : ℤ → ℤ → Bool) (at : ℤ) (lower upper : List Rect) : Type 0 where
  pub end : All (λ r. r.y2 ≡ at) lower
  pub begin : All (λ r. r.y1 ≡ at) upper
  pub lower_runs : All (λ r. IsRun (before (Level at) p) (sides_of r)) lower
  pub upper_runs : All (λ r. IsRun (behind (Level at) p) (sides_of r)) upper
  pub lower_all : (left right : ℤ) → left <ℤ right → IsInterval p left right (at -ℤ pos 1) → HasSides left right lower
  pub upper_all : (left right : ℤ) → left <ℤ right → IsInterval p left right at → HasSides left right upper

-- the rectangle stands on one of the list
pub record HasLower (upper : Rect) (lower : List Rect) : Type 0 where
  pub rect : Rect
  pub among : Contains lower rect
  pub stands : StandsOn upper rect

-- of the lower runs those on which an upper one stands have become `runs`, as far as that one goes, and the others have come to `ended`
pub record AreGoneOn (p : ℤ → ℤ → Bool) (lower upper before_ended runs ended : List Rect) : Type 0 where
  pub are_runs : All (λ r. IsRun p (sides_of r)) runs
  pub ended_runs : All (λ r. IsRun p (sides_of r)) before_ended → All (λ r. IsRun p (sides_of r)) ended
  pub lower_in : (x y : ℤ) → (covered lower x y || covered before_ended x y) ≡ true → (covered runs x y || covered ended x y) ≡ true
  pub upper_in : (r : Rect) → Contains upper r → HasLower r lower → (x y : ℤ) → squares r x y ≡ true → covered runs x y ≡ true

-- all squares of those passed, and of those that went on before, are in `runs`
pub record AreBegun (p : ℤ → ℤ → Bool) (passed first runs : List Rect) : Type 0 where
  pub are_runs : All (λ r. IsRun p (sides_of r)) runs
  pub first_in : (x y : ℤ) → covered first x y ≡ true → covered runs x y ≡ true
  pub passed_in : (x y : ℤ) → covered passed x y ≡ true → covered runs x y ≡ true

-- all squares of both are in `runs` or `ended`, which are runs of the set
pub record AreStacked (p : ℤ → ℤ → Bool) (lower upper before_ended runs ended : List Rect) : Type 0 where
  pub are_runs : All (λ r. IsRun p (sides_of r)) runs
  pub ended_runs : All (λ r. IsRun p (sides_of r)) before_ended → All (λ r. IsRun p (sides_of r)) ended
  pub all_in : (x y : ℤ) → ((covered lower x y || covered upper x y) || covered before_ended x y) ≡ true → (covered runs x y || covered ended x y) ≡ true

-- a lower run that holds the square, and an upper one that stands on it
pub record GoesOnAt (lower upper : List Rect) (x y : ℤ) : Type 0 where
  pub below : Rect
  pub above : Rect
  pub in_lower : Contains lower below
  pub in_upper : Contains upper above
  pub stands : StandsOn above below
  pub holds_it : squares below x y ≡ true

-- of the lower runs that were passed those on which no upper one stands have come to `ended`
pub record AreEnded (p : ℤ → ℤ → Bool) (lower upper passed before_ended ended : List Rect) : Type 0 where
  pub ended_runs : All (λ r. IsRun p (sides_of r)) before_ended → All (λ r. IsRun p (sides_of r)) ended
  pub before_in : (x y : ℤ) → covered before_ended x y ≡ true → covered ended x y ≡ true
  pub passed_in : (x y : ℤ) → covered passed x y ≡ true → (covered ended x y ≡ true) ⊎ GoesOnAt lower upper x y

-- the upper runs that were passed, each from where the lower one begins that it stands on
pub record AreLengthened (p : ℤ → ℤ → Bool) (lower passed runs : List Rect) : Type 0 where
  pub are_runs : All (λ r. IsRun p (sides_of r)) runs
  pub passed_in : (x y : ℤ) → covered passed x y ≡ true → covered runs x y ≡ true
  pub lower_in : (x y : ℤ) → GoesOnAt lower passed x y → covered runs x y ≡ true

-- rectangles between two lines, by their left edges
pub record IsRow (bottom top : ℤ) (rects : List Rect) : Type 0 where
  pub rising : IsRisingBy (λ r. r.x1) rects
  pub bottoms : All (λ r. r.y1 ≡ bottom) rects
  pub tops : All (λ r. r.y2 ≡ top) rects

-- none precedes the one before it
abbrev pub AreNotFalling : List Rect → Type 0
AreNotFalling rects = (k : ℕ) (d : Rect) → k + 1 < length rects → Precedes (sides_of (get_or rects (k + 1) d)) (sides_of (get_or rects k d)) → ⊥

-- each precedes the next one; they are of the rectangles, and hold what those hold if these are runs of one set
pub record AreOrdered (rects ordered : List Rect) : Type 0 where
  pub order : AreInOrder (map sides_of ordered)
  pub among : (r : Rect) → Contains ordered r → Contains rects r
  pub all : (p : ℤ → ℤ → Bool) → All (λ r. IsRun p (sides_of r)) rects → (x y : ℤ) → covered rects x y ≡ true → covered ordered x y ≡ true
