-- Elements: which records stand in them, and what they say.
use Rattle.std.specs.Prelude.{ℕ, Bool, true, false, List, [], ◌∷◌, length, map, take, drop, Option, Some, None, ◌==◌, nat_lt, ◌/◌, ◌%◌, ◌&&◌, ◌||◌, not, if◌then◌else◌}
use Rattle.std.specs.Ordering.{int_eq}
use Rattle.std.specs.List.{list_all}
use Rattle.fill_base.specs.declared.layer.Layer.{Layer}
use Rattle.fill_base.specs.declared.place.Point.{Point}
use Rattle.gds_record.specs.declared.kind.TheConstants as kinds
use Rattle.gds_record.specs.Records.{Rec}
use Rattle.gds_record.specs.Numbers.{word_of, number_of, point_of, trimmed}
use Rattle.gds_grammar.specs.declared.element.ElementKind.{ElementKind}
use Rattle.gds_grammar.specs.declared.element.ElementKind.TheVariants.{Boundary, Path, Reference, Array, Text, Node, Box}
use Rattle.gds_grammar.specs.declared.element.Transform.{Transform}
use Rattle.gds_grammar.specs.Forms.{among}
use Rattle.gds_grammar.specs.Values.{Shape, boundary, path, reference, array}
use Rattle.gds_grammar.specs.Points.{points_of}

-- the kind of element that a record of this kind opens
unfoldable pub opening : ℕ → Option ElementKind
opening kind =
    if kind == kinds.BOUNDARY then Some Boundary
    else if kind == kinds.PATH then Some Path
    else if kind == kinds.SREF then Some Reference
    else if kind == kinds.AREF then Some Array
    else if kind == kinds.TEXT then Some Text
    else if kind == kinds.NODE then Some Node
    else if kind == kinds.BOX then Some Box
    else None

-- the records that have to stand before XY
abbrev pub required : ElementKind → List ℕ
required Boundary = kinds.LAYER ∷ kinds.DATATYPE ∷ []
required Path = kinds.LAYER ∷ kinds.DATATYPE ∷ []
required Reference = kinds.SNAME ∷ []
required Array = kinds.SNAME ∷ kinds.COLROW ∷ []
required Text = kinds.LAYER ∷ kinds.TEXTTYPE ∷ []
required Node = kinds.LAYER ∷ kinds.NODETYPE ∷ []
required Box = kinds.LAYER ∷ kinds.BOXTYPE ∷ []

-- those that may stand there too
abbrev pub optional : ElementKind → List ℕ
optional Boundary = []
optional Path = kinds.PATHTYPE ∷ kinds.WIDTH ∷ kinds.BGNEXTN ∷ kinds.ENDEXTN ∷ []
optional Reference = kinds.STRANS ∷ kinds.MAG ∷ kinds.ANGLE ∷ []
optional Array = kinds.STRANS ∷ kinds.MAG ∷ kinds.ANGLE ∷ []
optional Text =
    kinds.PRESENTATION ∷ kinds.PATHTYPE ∷ kinds.WIDTH ∷ kinds.STRANS ∷ kinds.MAG ∷ kinds.ANGLE ∷ []
optional Node = []
optional Box = []

-- Whether a record of the kind may stand before XY behind records of these kinds: ELFLAGS stands
-- first, PLEX first or behind ELFLAGS, and the element's own records stand in any order, each once.
abbrev pub may_stand : ElementKind → List ℕ → ℕ → Bool
may_stand element seen kind =
    if kind == kinds.ELFLAGS then length seen == 0
    else if kind == kinds.PLEX then list_all (λ k. k == kinds.ELFLAGS) seen
    else (among (required element) kind || among (optional element) kind) && not (among seen kind)

abbrev pub kinds_in : List Rec → List ℕ
kinds_in records = map (λ r. r.kind) records

-- what has to stand before XY stands there
abbrev pub is_whole : ElementKind → List ℕ → Bool
is_whole element seen = list_all (λ k. among seen k) (required element)

-- how many points an element has
abbrev pub has_count : ElementKind → ℕ → Bool
has_count Boundary n = nat_lt 3 n
has_count Reference n = n == 1
has_count Array n = n == 3
has_count Path n = true
has_count Text n = true
has_count Node n = true
has_count Box n = true

-- a positive multiple of eight bytes, with as many points as the element has
abbrev pub are_points : ElementKind → List ℕ → Bool
are_points element xy =
    nat_lt 0 (length xy) && (length xy % 8 == 0) && has_count element (length xy / 8)

abbrev pub is_same_point : Point → Point → Bool
is_same_point p q = int_eq p.x q.x && int_eq p.y q.y

abbrev pub last_of : Point → List Point → Point
last_of p [] = p
last_of p (q ∷ qs) = last_of q qs

abbrev pub is_ring : List Point → Bool
is_ring [] = false
is_ring (p ∷ ps) = is_same_point p (last_of p ps)

-- a boundary's last point is its first
abbrev pub is_closed : ElementKind → List ℕ → Bool
is_closed Boundary xy = is_ring (points_of xy)
is_closed Path xy = true
is_closed Reference xy = true
is_closed Array xy = true
is_closed Text xy = true
is_closed Node xy = true
is_closed Box xy = true

-- a text has a string behind its points
abbrev pub has_string : ElementKind → Bool
has_string Text = true
has_string Boundary = false
has_string Path = false
has_string Reference = false
has_string Array = false
has_string Node = false
has_string Box = false

-- ---- what an element says: records are looked up by their kind, so their order doesn't matter

abbrev pub body_of : ℕ → List Rec → Option (List ℕ)
body_of kind [] = None
body_of kind (r ∷ rs) = if r.kind == kind then Some r.body else body_of kind rs

abbrev pub value_of : {A : Type 0} → (List ℕ → A) → Option (List ℕ) → A
value_of read (Some body) = read body
value_of read None = read []

abbrev pub value_if : {A : Type 0} → (List ℕ → A) → Option (List ℕ) → Option A
value_if read (Some body) = Some (read body)
value_if read None = None

abbrev pub word_in : ℕ → List Rec → ℕ
word_in kind before = value_of word_of (body_of kind before)

abbrev pub layer_in : List Rec → Layer
layer_in before = record { layer = word_in kinds.LAYER before; data_type = word_in kinds.DATATYPE before }

abbrev pub name_in : List Rec → List ℕ
name_in before = value_of trimmed (body_of kinds.SNAME before)

-- STRANS that is left out counts as 0
abbrev pub transform_in : List Rec → Transform
transform_in before = record {
  flags = value_of word_of (body_of kinds.STRANS before);
  magnification = body_of kinds.MAG before;
  angle = body_of kinds.ANGLE before;
}

abbrev pub columns_in : List Rec → ℕ
columns_in before = value_of (λ body. word_of (take 2 body)) (body_of kinds.COLROW before)

abbrev pub rows_in : List Rec → ℕ
rows_in before = value_of (λ body. word_of (drop 2 body)) (body_of kinds.COLROW before)

-- what an element with these records before XY says; texts, nodes and boxes say nothing
abbrev pub shapes_in : ElementKind → List Rec → List ℕ → List Shape
shapes_in Boundary before xy =
    boundary (layer_in before) (points_of xy) ∷ []
shapes_in Path before xy =
    path (layer_in before) (record {
      path_type = value_if word_of (body_of kinds.PATHTYPE before);
      width = value_if number_of (body_of kinds.WIDTH before);
      begin_extension = value_if number_of (body_of kinds.BGNEXTN before);
      end_extension = value_if number_of (body_of kinds.ENDEXTN before);
      points = points_of xy;
    }) ∷ []
shapes_in Reference before xy =
    reference (name_in before) (transform_in before) (point_of xy) ∷ []
shapes_in Array before xy =
    array (name_in before) (transform_in before) (columns_in before) (rows_in before) (points_of xy) ∷ []
shapes_in Text before xy = []
shapes_in Node before xy = []
shapes_in Box before xy = []
