-- Lists of rectangles that stand for a set of squares within a part.
use Rattle.std.proofs.Common.{◌≡◌, ◌==◌, Bool, true, false, ◌&&◌, ◌||◌, ℕ, ◌+◌, ◌-◌, ◌≤◌, ◌<◌, ℤ, ◌≤ℤ◌, ◌<ℤ◌, List, [], ◌∷◌, ◌++◌, length, take, get_or, refl, arith, ap, ◌∙◌, sym, subst, int_eq, w64, FitsSigned, Some}
use Rattle.std.specs.Int.{int_max, int_min}
use Rattle.std.specs.List.{slice_get}
use Rattle.std.proofs.lemmas.Int.{ints, clamps}
use Rattle.std.proofs.lemmas.List.{take_more, take_all}
use Rattle.std.proofs.lemmas.Option.{slice_get_within, get_or_from_slice_get}
use Rattle.std.proofs.lemmas.List.Folds.{list_any-append, list_any_at}
use Rattle.fill_base.specs.declared.rect.Rect.{Rect}
use Rattle.fill_base.specs.Coordinates.{lowest}
use Rattle.fill_base.specs.Counts.{is_between}
use Rattle.fill_base.specs.Squares.{squares}
use Rattle.fill_base.proofs.Signed.{read, read_is, fits_min, fits_max}
use Rattle.fill_region.specs.Squares.{covered}
use Rattle.fill_cells.specs.steps.Within.{AreWithin, AreMore, IsWhole, IsWithLast}

or_false : (b : Bool) → (b || false) ≡ b
or_false true = refl
or_false false = refl

or_true : (b : Bool) → (b || true) ≡ true
or_true true = refl
or_true false = refl

or_assoc : (a b c : Bool) → ((a || b) || c) ≡ (a || (b || c))
or_assoc true b c = refl
or_assoc false b c = refl

and_true : (b : Bool) → b && true ≡ b
and_true true = refl
and_true false = refl

and_or : (a b t : Bool) → (a || b) && t ≡ ((a && t) || (b && t))
and_or true b true = refl
and_or true true false = refl
and_or true false false = refl
and_or false b t = refl

or_and : (t a b : Bool) → t && (a || b) ≡ ((t && a) || (t && b))
or_and true a b = refl
or_and false a b = refl

-- one rectangle more
pub covered_push : (xs : List Rect) (r : Rect) (x y : ℤ) → covered (xs ++ r ∷ []) x y ≡ (covered xs x y || squares r x y)
covered_push xs r x y = list_any-append (λ q. squares q x y) xs (r ∷ []) ∙ ap (λ t. covered xs x y || t) (or_false (squares r x y))

-- one rectangle more, by the list that comes of it
pub covered_pushed : (xs new : List Rect) (r : Rect) → new ≡ xs ++ r ∷ [] → (x y : ℤ) → covered new x y ≡ (covered xs x y || squares r x y)
covered_pushed xs new r is x y = ap (λ zs. covered zs x y) is ∙ covered_push xs r x y

-- two rectangles more, as one
pub joined_pushed : (xs new : List Rect) (a b r : Rect) → ((x y : ℤ) → squares r x y ≡ (squares a x y || squares b x y)) → new ≡ xs ++ r ∷ []
    → (x y : ℤ) → covered new x y ≡ (covered xs x y || (squares a x y || squares b x y))
joined_pushed xs new a b r both is x y = covered_pushed xs new r is x y ∙ ap (λ t. covered xs x y || t) (both x y)

-- the last of a list that has one, with a piece
pub with_last_is : (list : List Rect) (piece last both : Rect) → slice_get list (length list - 1) ≡ Some last → ((x y : ℤ) → squares both x y ≡ (squares last x y || squares piece x y)) → IsWithLast list piece both
with_last_is list piece last both is same = record {
  some = let within = slice_get_within list (length list - 1) last is in omega (arith, within);
  both = λ d x y. same x y ∙ ap (λ q. squares q x y || squares piece x y) (sym (get_or_from_slice_get list (length list - 1) last d is));
}

-- the last rectangle taken off, and put again with a piece
pub last_joined : (old rest new : List Rect) (piece both : Rect) (n : ℕ) → IsWithLast old piece both → n ≡ length old → rest ≡ take (n - 1) old → new ≡ rest ++ both ∷ []
    → (x y : ℤ) → covered new x y ≡ (covered old x y || squares piece x y)
last_joined old rest new piece both n is count rest_is new_is x y =
    joined_pushed rest new (get_or old (length old - 1) piece) piece both (is.both piece) new_is x y
    ∙ (sym (or_assoc (covered rest x y) (squares (get_or old (length old - 1) piece) x y) (squares piece x y))
    ∙ ap (λ t. t || squares piece x y) (sym (covered_pushed rest old (get_or old (length old - 1) piece) parts x y)))
  where
    parts : old ≡ rest ++ get_or old (length old - 1) piece ∷ []
    parts =
        sym (take_all (length old - 1 + 1) old (omega (arith, is.some)))
        ∙ (take_more old (length old - 1) piece (omega (arith, is.some)) ∙ ap (λ zs. zs ++ get_or old (length old - 1) piece ∷ []) (sym (rest_is ∙ ap (λ k. take (k - 1) old) count)))

-- ranges that overlap or touch make one
range_or : (a b c d x : ℤ) → a <ℤ b → c <ℤ d → a ≤ℤ d → c ≤ℤ b → is_between (int_min a c) (int_max b d) x ≡ (is_between a b x || is_between c d x)
range_or a b c d x ab cd ad cb = grind (arith, ints, clamps)

-- two rectangles side by side
pub side_by_side : (a b r : Rect) → a.y1 ≡ b.y1 → a.y2 ≡ b.y2 → a.x1 ≤ℤ b.x2 → b.x1 ≤ℤ a.x2
    → r.x1 ≡ int_min a.x1 b.x1 → r.y1 ≡ a.y1 → r.x2 ≡ int_max a.x2 b.x2 → r.y2 ≡ a.y2
    → (x y : ℤ) → squares r x y ≡ (squares a x y || squares b x y)
side_by_side a b r bottom top left right x1 y1 x2 y2 x y =
    rw (x1, y1, x2, y2, ← bottom, ← top)
    (ap (λ t. t && is_between a.y1 a.y2 y) (range_or a.x1 a.x2 b.x1 b.x2 x a.wide b.wide left right)
    ∙ and_or (is_between a.x1 a.x2 x) (is_between b.x1 b.x2 x) (is_between a.y1 a.y2 y))

-- two rectangles one above the other
pub one_above : (a b r : Rect) → a.x1 ≡ b.x1 → a.x2 ≡ b.x2 → a.y1 ≤ℤ b.y2 → b.y1 ≤ℤ a.y2
    → r.x1 ≡ a.x1 → r.y1 ≡ int_min a.y1 b.y1 → r.x2 ≡ a.x2 → r.y2 ≡ int_max a.y2 b.y2
    → (x y : ℤ) → squares r x y ≡ (squares a x y || squares b x y)
one_above a b r left right bottom top x1 y1 x2 y2 x y =
    rw (x1, y1, x2, y2, ← left, ← right)
    (ap (λ t. is_between a.x1 a.x2 x && t) (range_or a.y1 a.y2 b.y1 b.y2 y a.tall b.tall bottom top)
    ∙ or_and (is_between a.x1 a.x2 x) (is_between a.y1 a.y2 y) (is_between b.y1 b.y2 y))

-- a rectangle without squares in the part adds none there
pub nothing_more : (part rect : Rect) (list : List Rect) → ((x y : ℤ) → squares rect x y && squares part x y ≡ false) → AreMore part rect list list
nothing_more part rect list apart x y inside =
    let none : squares rect x y ≡ false = sym (and_true (squares rect x y)) ∙ (ap (λ t. squares rect x y && t) (sym inside) ∙ apart x y) in
    sym (ap (λ t. covered list x y || t) none ∙ or_false (covered list x y))

-- in the part, a piece of a rectangle is the rectangle
pub piece_more : (part rect piece : Rect) (old new : List Rect) → ((x y : ℤ) → squares piece x y ≡ squares rect x y && squares part x y)
    → AreMore part piece old new → AreMore part rect old new
piece_more part rect piece old new is more x y inside =
    more x y inside ∙ ap (λ t. covered old x y || t) (is x y ∙ (ap (λ t. squares rect x y && t) inside ∙ and_true (squares rect x y)))

-- a piece that is the whole part needs nothing beside it
pub whole_alone : (part piece : Rect) (old none new : List Rect) → none ≡ [] → ((x y : ℤ) → squares piece x y ≡ squares part x y)
    → ((x y : ℤ) → covered new x y ≡ (covered none x y || squares piece x y)) → AreMore part piece old new
whole_alone part piece old none new empty same put x y inside =
    let here : squares piece x y ≡ true = same x y ∙ inside in
    put x y ∙ (ap (λ t. covered none x y || t) here ∙ (or_true (covered none x y) ∙ sym (ap (λ t. covered old x y || t) here ∙ or_true (covered old x y))))

-- rectangles that compare equal have the same squares
pub equal_squares : (r s : Rect) → int_eq r.x1 s.x1 && (int_eq r.y1 s.y1 && (int_eq r.x2 s.x2 && int_eq r.y2 s.y2)) ≡ true → (x y : ℤ) → squares r x y ≡ squares s x y
equal_squares r s equal x y =
    let a : r.x1 ≡ s.x1 = grind (arith, ints) in
    let b : r.y1 ≡ s.y1 = grind (arith, ints) in
    let c : r.x2 ≡ s.x2 = grind (arith, ints) in
    let d : r.y2 ≡ s.y2 = grind (arith, ints) in
    rw (a, b, c, d) refl

-- a list whose first rectangle is the part covers it
pub equal_first : (part first : Rect) (list : List Rect) → false ≡ (length list == 0) → first ≡ get_or list 0 first
    → int_eq first.x1 part.x1 && (int_eq first.y1 part.y1 && (int_eq first.x2 part.x2 && int_eq first.y2 part.y2)) ≡ true → IsWhole part list
equal_first part first list some is equal x y inside =
    let filled : 0 < length list = grind (arith, some) in
    list_any_at (λ q. squares q x y) list 0 first filled (ap (λ q. squares q x y) (sym is) ∙ (equal_squares first part equal x y ∙ inside))

-- nothing of a list put yet, and one rectangle of it more
pub none_within : (part : Rect) (rects list : List Rect) → list ≡ [] → AreWithin part (covered (take 0 rects)) list
none_within part rects list is x y inside = ap (λ zs. covered zs x y) is

pub more_within : (part q : Rect) (rects old new : List Rect) (k : ℕ) → k < length rects → q ≡ get_or rects k q
    → AreWithin part (covered (take k rects)) old → AreMore part q old new → AreWithin part (covered (take (k + 1) rects)) new
more_within part q rects old new k lt item before more x y inside =
    more x y inside ∙ (ap (λ t. t || squares q x y) (before x y inside)
    ∙ sym (covered_pushed (take k rects) (take (k + 1) rects) q (take_more rects k q lt ∙ ap (λ r. take k rects ++ r ∷ []) (sym item)) x y))

-- all of a list put
pub all_within : (part : Rect) (rects list : List Rect) (k : ℕ) → length rects ≤ k → AreWithin part (covered (take k rects)) list → AreWithin part (covered rects) list
all_within part rects list k all within x y inside = within x y inside ∙ ap (λ zs. covered zs x y) (take_all k rects all)

-- the lesser and the greater of two coordinates, as the code reads them
pub least_is : (a b u v m : ℤ) → FitsSigned w64 a → FitsSigned w64 b → u ≡ a → v ≡ b → m ≡ int_min (read u) (read v) → read m ≡ int_min a b
least_is a b u v m fa fb first second is =
    let reads : m ≡ int_min a b = is ∙ rw (first, second) (rw (read_is a fa, read_is b fb) refl) in
    ap read reads ∙ read_is (int_min a b) (fits_min a b fa fb)

pub most_is : (a b u v m : ℤ) → FitsSigned w64 a → FitsSigned w64 b → u ≡ a → v ≡ b → m ≡ int_max (read u) (read v) → read m ≡ int_max a b
most_is a b u v m fa fb first second is =
    let reads : m ≡ int_max a b = is ∙ rw (first, second) (rw (read_is a fa, read_is b fb) refl) in
    ap read reads ∙ read_is (int_max a b) (fits_max a b fa fb)

-- an edge, as the code reads it
pub edge_is : (z v e : ℤ) → FitsSigned w64 z → v ≡ z → e ≡ read v → e ≡ z
edge_is z v e fits same is = is ∙ (ap read same ∙ read_is z fits)

pub x1_fits : (r : Rect) → FitsSigned w64 r.x1
x1_fits r = let a = r.left in let b = r.wide in let c = r.right in omega (arith, ints)

pub x2_fits : (r : Rect) → FitsSigned w64 r.x2
x2_fits r = let a = r.left in let b = r.wide in let c = r.right in omega (arith, ints)

pub y1_fits : (r : Rect) → FitsSigned w64 r.y1
y1_fits r = let a = r.bottom in let b = r.tall in let c = r.top in omega (arith, ints)

pub y2_fits : (r : Rect) → FitsSigned w64 r.y2
y2_fits r = let a = r.bottom in let b = r.tall in let c = r.top in omega (arith, ints)

pub least_low : (a b m : ℤ) → lowest ≤ℤ a → lowest ≤ℤ b → m ≡ int_min a b → lowest ≤ℤ m
least_low a b m first second is = omega (arith, ints, clamps, is)

-- a cut right of an edge, and one left of it
pub edge_lt : (e v m : ℤ) → FitsSigned w64 e → v ≡ e → read v <ℤ m → e <ℤ m
edge_lt e v m fits same lt = subst (λ z. z <ℤ m) (ap read same ∙ read_is e fits) lt

pub lt_edge : (e v m : ℤ) → FitsSigned w64 e → v ≡ e → m <ℤ read v → m <ℤ e
lt_edge e v m fits same lt = subst (λ z. m <ℤ z) (ap read same ∙ read_is e fits) lt

pub fits_within : (lo hi m : ℤ) → FitsSigned w64 lo → FitsSigned w64 hi → lo <ℤ m → m <ℤ hi → FitsSigned w64 m
fits_within lo hi m low high l h = omega (arith, ints)
