-- The sweep upwards over the edges of a boundary: what it has written so far, each step, and its end.
use Rattle.std.proofs.Common.{◌≡◌, ℕ, ◌+◌, ◌-◌, ◌≤◌, ◌<◌, ℤ, ◌-ℤ◌, ◌≤ℤ◌, ◌<ℤ◌, negsuc, List, [], ◌++◌, length, get_or, take, drop, refl, arith, ap, ◌∙◌, sym, Bool, true, false, cond, not, ◌||◌, ◌&&◌, eqb, eq-eqb}
use Rattle.std.specs.Prelude.{int_lt, All, count_by, unsigned_abs}
use Rattle.std.specs.List.Sorted.{IsPartitionPoint}
use Rattle.std.proofs.lemmas.Int.{ints, by_lt_z}
use Rattle.std.proofs.lemmas.List.{get_or-take, get_or-drop, length-take-le, length-drop, take-append-drop}
use Rattle.std.proofs.lemmas.List.Sums.{sum_by-append}
use Rattle.fill_base.specs.declared.place.Point.{Point}
use Rattle.fill_base.specs.declared.rect.Rect.{Rect}
use Rattle.fill_base.specs.Coordinates.{lowest, highest}
use Rattle.fill_base.specs.Counts.{is_between}
use Rattle.fill_base.proofs.Signed.{read, read_is, lt_le}
use Rattle.fill_region.specs.Squares.{covered}
use Rattle.gds_shape.specs.declared.edge.Edge.{Edge}
use Rattle.gds_shape.specs.Winding.{edges, covers, IsManhattan, IsClosed, IsPoint}
use Rattle.gds_shape.specs.steps.Edges.{goes, spans, passes, passing, going, AreRisingBy}
use Rattle.gds_shape.specs.steps.Lines.{Crosses, IsNextLine, IsCrossed}
use Rattle.gds_shape.proofs.Counting.{same_counts, no_count, left_right}
use Rattle.gds_shape.proofs.Closed.{closed_row}
use Rattle.gds_shape.proofs.Walk.{inside}

-- below the line all is written; the edges that span rows from there on are at hand
pub record SweptTo (points : List Point) (later crossing : List Edge) (old out : List Rect) (line : ℤ) : Type 0 where
  pub sorted : AreRisingBy (λ e. e.bottom) later
  pub begins : All (λ e. line ≤ℤ e.bottom) later
  pub begun : All (λ e. e.bottom ≤ℤ line) crossing
  pub low : lowest ≤ℤ line
  pub high : line ≤ℤ highest
  pub ahead : (way : Bool) (x y : ℤ) → line ≤ℤ y → count_by (passes way x y) (edges points) ≡ passing way crossing x y + passing way later x y
  pub written : (x y : ℤ) → covered out x y ≡ (covered old x y || (int_lt y line && covers points x y))

off : (a b : Bool) → (a && (b && false)) ≡ false
off true true = refl
off true false = refl
off false b = refl

-- edges that all begin above the row don't count
none_yet : (way : Bool) (es : List Edge) (x y : ℤ) → All (λ e. y <ℤ e.bottom) es → passing way es x y ≡ 0
none_yet way es x y above = no_count (λ e. goes way e && (int_lt x e.x && spans y e)) es (λ k d lt. here (goes way (get_or es k d)) (int_lt x (get_or es k d).x) (get_or es k d).bottom (get_or es k d).top (above k d lt))
  where
    here : (a b : Bool) (bottom top : ℤ) → y <ℤ bottom → (a && (b && is_between bottom top y)) ≡ false
    here a b bottom top h = rw (below bottom top h) (off a b)
      where
        below : (bottom top : ℤ) → y <ℤ bottom → is_between bottom top y ≡ false
        below bottom top h = grind (arith, ints)

-- nor do those that all end at the row or below
none_more : (way : Bool) (es : List Edge) (x y : ℤ) → All (λ e. e.top ≤ℤ y) es → passing way es x y ≡ 0
none_more way es x y ended = no_count (λ e. goes way e && (int_lt x e.x && spans y e)) es (λ k d lt. here (goes way (get_or es k d)) (int_lt x (get_or es k d).x) (get_or es k d).bottom (get_or es k d).top (ended k d lt))
  where
    here : (a b : Bool) (bottom top : ℤ) → top ≤ℤ y → (a && (b && is_between bottom top y)) ≡ false
    here a b bottom top h = rw (above bottom top h) (off a b)
      where
        above : (bottom top : ℤ) → top ≤ℤ y → is_between bottom top y ≡ false
        above bottom top h = grind (arith, ints)

-- where no edge counts nothing is covered
uncovered : (points : List Point) (x y : ℤ) → count_by (passes true x y) (edges points) ≡ 0 → count_by (passes false x y) (edges points) ≡ 0 → covers points x y ≡ false
uncovered points x y h k = rw (h, k) refl

pub swept_start : (points : List Point) (sorted : List Edge) (old : List Rect) → AreRisingBy (λ e. e.bottom) sorted
    → ((way : Bool) (x y : ℤ) → passing way sorted x y ≡ count_by (passes way x y) (edges points)) → SweptTo points sorted [] old old lowest
swept_start points sorted old rising same = record {
  sorted = rising;
  begins = λ k d lt. (get_or sorted k d).low;
  begun = λ k d lt. absurd (omega arith);
  low = omega (arith, ints);
  high = omega (arith, ints);
  ahead = λ way x y le. sym (same way x y) ∙ sym (plus (passing way sorted x y));
  written = λ x y. by_lt_z y lowest
      (λ lt.
      let nothing : covers points x y ≡ false = uncovered points x y (sym (same true x y) ∙ none_yet true sorted x y (λ k d h. lt_le_lt y lowest _ lt (get_or sorted k d).low)) (sym (same false x y) ∙ none_yet false sorted x y (λ k d h. lt_le_lt y lowest _ lt (get_or sorted k d).low)) in
      rw nothing (first (covered old x y) (int_lt y lowest)))
      (λ le. rw (not_less y lowest le) (second (covered old x y) (covers points x y)));
}
  where
    plus : (n : ℕ) → 0 + n ≡ n
    plus n = omega arith

    lt_le_lt : (a b c : ℤ) → a <ℤ b → b ≤ℤ c → a <ℤ c
    lt_le_lt a b c h k = omega (arith, ints)

    not_less : (a b : ℤ) → b ≤ℤ a → int_lt a b ≡ false
    not_less a b h = grind (arith, ints)

    first : (a b : Bool) → a ≡ (a || (b && false))
    first true b = refl
    first false true = refl
    first false false = refl

    second : (a b : Bool) → a ≡ (a || (false && b))
    second true b = refl
    second false b = refl

lt_le_lt : (a b c : ℤ) → a <ℤ b → b ≤ℤ c → a <ℤ c
lt_le_lt a b c h k = omega (arith, ints)

le_lt_lt : (a b c : ℤ) → a ≤ℤ b → b <ℤ c → a <ℤ c
le_lt_lt a b c h k = omega (arith, ints)

-- the edges that begin at the line
first_low : (later begun : List Edge) (line : ℤ) (n : ℕ) → IsPartitionPoint (λ e. e.bottom ≤ℤ line) (λ e. line <ℤ e.bottom) later n → n ≤ length later
    → begun ≡ take n later → All (λ e. e.bottom ≤ℤ line) begun
first_low later begun line n parted within is = rw is (λ k d lt.
    let here : k < n = rw (length-take-le n later within) at lt in
    rw (get_or-take n later k d here) (parted.0 k d (omega arith) here))

others_later : (later rest : List Edge) (line : ℤ) (n : ℕ) → IsPartitionPoint (λ e. e.bottom ≤ℤ line) (λ e. line <ℤ e.bottom) later n → n ≤ length later
    → rest ≡ drop n later → All (λ e. line <ℤ e.bottom) rest
others_later later rest line n parted within is = rw is (λ k d lt.
    let within_rest : k < length later - n = rw (length-drop n later) at lt in
    let here : n + k < length later = omega arith in
    rw (get_or-drop n later k d) (parted.1 (n + k) d (omega arith) here))

rest_sorted : (later rest : List Edge) (n : ℕ) → AreRisingBy (λ e. e.bottom) later → rest ≡ drop n later → AreRisingBy (λ e. e.bottom) rest
rest_sorted later rest n sorted is = rw is (λ i j d le lt.
    let h : j < length later - n = rw (length-drop n later) at lt in
    rw (get_or-drop n later i d, get_or-drop n later j d) (sorted (n + i) (n + j) d (omega arith) (omega arith)))

-- where the sweep stands once the edges of the line are taken in
pub record AtLine (points : List Point) (rest crossing : List Edge) (line next : ℤ) : Type 0 where
  pub sorted : AreRisingBy (λ e. e.bottom) rest
  pub far : line <ℤ next
  pub cross : All (Crosses line) crossing
  pub above : All (λ e. line <ℤ e.bottom) rest
  pub ahead : (way : Bool) (x y : ℤ) → line ≤ℤ y → count_by (passes way x y) (edges points) ≡ passing way crossing x y + passing way rest x y

pub taken_in : (points : List Point) (later begun rest crossing crossing' : List Edge) (old out : List Rect) (line next : ℤ) (n : ℕ)
    → SweptTo points later crossing old out line → line <ℤ highest → n ≤ length later → IsPartitionPoint (λ e. e.bottom ≤ℤ line) (λ e. line <ℤ e.bottom) later n
    → begun ≡ take n later → rest ≡ drop n later → IsCrossed line crossing begun crossing' → IsNextLine rest crossing' next → AtLine points rest crossing' line next
taken_in points later begun rest crossing crossing' old out line next n s high within parted begun_is rest_is crossed below =
    let above = others_later later rest line n parted within rest_is in
    let cross = crossed.cross s.begun (first_low later begun line n parted within begun_is) in
    let whole : later ≡ begun ++ rest = rw (begun_is, rest_is) (sym (take-append-drop n later)) in
    record {
      sorted = rest_sorted later rest n s.sorted rest_is;
      far = below.nearest line high above (λ k d lt. (cross k d lt).1);
      cross = cross;
      above = above;
      ahead = λ way x y le.
          let parts : passing way later x y ≡ passing way begun x y + passing way rest x y =
          ap (λ es. passing way es x y) whole ∙ sum_by-append (λ e. cond (goes way e && (int_lt x e.x && spans y e)) 1 0) begun rest in
          sum_up _ _ _ _ _ _ (s.ahead way x y le) parts (crossed.same way x y le);
    }
  where
    sum_up : (all old later begun rest new : ℕ) → all ≡ old + later → later ≡ begun + rest → new ≡ old + begun → all ≡ new + rest
    sum_up all old later begun rest new h k l = omega arith

-- the edges that cross a line go up as often as down
pub balanced : (points : List Point) (rest crossing : List Edge) (line next : ℤ) → IsManhattan points → IsClosed points → All IsPoint points → AtLine points rest crossing line next
    → going true crossing ≡ going false crossing
balanced points rest crossing line next manhattan closed within s =
    sym (right true) ∙ (all_of _ _ _ _ _ _ (closed_row points (negsuc 1073741824) line manhattan closed within (omega (arith, ints))) (s.ahead true (negsuc 1073741824) line (self line)) (s.ahead false (negsuc 1073741824) line (self line))
    (none_yet true rest (negsuc 1073741824) line s.above) (none_yet false rest (negsuc 1073741824) line s.above) ∙ right false)
  where
    self : (a : ℤ) → a ≤ℤ a
    self a = omega (arith, ints)

    right : (way : Bool) → passing way crossing (negsuc 1073741824) line ≡ going way crossing
    right way = same_counts (λ e. goes way e && (int_lt (negsuc 1073741824) e.x && spans line e)) (goes way) crossing (λ k d lt. here (goes way (get_or crossing k d)) (get_or crossing k d) (s.cross k d lt))
      where
        here : (g : Bool) (e : Edge) → Crosses line e → (g && (int_lt (negsuc 1073741824) e.x && spans line e)) ≡ g
        here g e h = rw (far e.x e.left, between e.bottom e.top h.0 h.1) (table g)
          where
            far : (a : ℤ) → lowest ≤ℤ a → int_lt (negsuc 1073741824) a ≡ true
            far a h = grind (arith, ints)

            between : (a b : ℤ) → a ≤ℤ line → line <ℤ b → is_between a b line ≡ true
            between a b h k = grind (arith, ints)

            table : (g : Bool) → (g && (true && true)) ≡ g
            table true = refl
            table false = refl

    all_of : (u d pu pd ru rd : ℕ) → u ≡ d → u ≡ pu + ru → d ≡ pd + rd → ru ≡ 0 → rd ≡ 0 → pu ≡ pd
    all_of u d pu pd ru rd h k l m n = omega arith

-- between two lines, inside is what is covered
row_same : (points : List Point) (rest crossing : List Edge) (line next x y : ℤ) → AtLine points rest crossing line next → IsNextLine rest crossing next
    → going true crossing ≡ going false crossing → line ≤ℤ y → y <ℤ next → covers points x y ≡ inside crossing x
row_same points rest crossing line next x y s below balance le lt =
    let none : (way : Bool) → passing way rest x y ≡ 0 = λ way. none_yet way rest x y (λ k d h. lt_le_lt y next (get_or rest k d).bottom lt (below.begins k d h)) in
    let span : All (λ e. spans y e ≡ true) crossing = λ k d h. between (get_or crossing k d).bottom (get_or crossing k d).top (s.cross k d h).0 (lt_le_lt y next (get_or crossing k d).top lt (below.ends k d h)) in
    same_test _ _ _ _ _ _ _ _ _ _ (s.ahead true x y le) (s.ahead false x y le) (none true) (none false) (left_right true crossing x y span) (left_right false crossing x y span) balance
  where
    between : (a b : ℤ) → a ≤ℤ line → y <ℤ b → is_between a b y ≡ true
    between a b h k = grind (arith, ints)

    same_test : (u d pu pd ru rd lu ld gu gd : ℕ) → u ≡ pu + ru → d ≡ pd + rd → ru ≡ 0 → rd ≡ 0 → pu + lu ≡ gu → pd + ld ≡ gd → gu ≡ gd → not (eqb u d) ≡ not (eqb lu ld)
    same_test u d pu pd ru rd lu ld gu gd a b c e f g h = ap not {x = eqb u d} (both (eqb u d) (eqb lu ld) refl refl)
      where
        both : (p q : Bool) → eqb u d ≡ p → eqb lu ld ≡ q → eqb u d ≡ eqb lu ld
        both true true i j = i ∙ sym j
        both false false i j = i ∙ sym j
        both true false i j = let ud : u ≡ d = grind arith in let f : lu ≡ ld = omega arith in let k : eqb lu ld ≡ true = eq-eqb lu ld f in cc
        both false true i j = let lr : lu ≡ ld = grind arith in let f : u ≡ d = omega arith in let k : eqb u d ≡ true = eq-eqb u d f in cc

-- one turn: from the line to the next one
pub swept_turn : (points : List Point) (later rest crossing crossing' : List Edge) (old out new : List Rect) (line next : ℤ)
    → SweptTo points later crossing old out line → AtLine points rest crossing' line next → IsNextLine rest crossing' next → going true crossing' ≡ going false crossing'
    → ((x y : ℤ) → covered new x y ≡ (covered out x y || (inside crossing' x && is_between line next y)))
    → SweptTo points rest crossing' old new next
swept_turn points later rest crossing crossing' old out new line next s at_line below balance put = record {
  sorted = at_line.sorted;
  begins = below.begins;
  begun = λ k d lt. lt_le _ next (le_lt_lt (get_or crossing' k d).bottom line next (at_line.cross k d lt).0 at_line.far);
  low = le_le lowest line next s.low (lt_le line next at_line.far);
  high = below.high;
  ahead = λ way x y le. at_line.ahead way x y (le_le line next y (lt_le line next at_line.far) le);
  written = λ x y. put x y ∙ (ap (λ b. b || (inside crossing' x && is_between line next y)) (s.written x y)
      ∙ paint (covered old x y) (covers points x y) (inside crossing' x) y (λ le lt. row_same points rest crossing' line next x y at_line below balance le lt));
}
  where
    le_le : (a b c : ℤ) → a ≤ℤ b → b ≤ℤ c → a ≤ℤ c
    le_le a b c h k = omega (arith, ints)

    paint : (a c i : Bool) (y : ℤ) → (line ≤ℤ y → y <ℤ next → c ≡ i) → ((a || (int_lt y line && c)) || (i && is_between line next y)) ≡ (a || (int_lt y next && c))
    paint a c i y same = by_lt_z y line
        (λ lt. rw (under line next y lt, less y line lt, less y next (lt_lt y line next lt at_line.far)) (first a c i))
        (λ le. by_lt_z y next
        (λ lt. rw (within line next y le lt, not_less y line le, less y next lt, same le lt) (second a i))
        (λ far. rw (over line next y far, not_less y line le, not_less y next far) (third a c i)))
      where
        less : (a b : ℤ) → a <ℤ b → int_lt a b ≡ true
        less a b h = grind (arith, ints)

        not_less : (a b : ℤ) → b ≤ℤ a → int_lt a b ≡ false
        not_less a b h = grind (arith, ints)

        lt_lt : (a b c : ℤ) → a <ℤ b → b <ℤ c → a <ℤ c
        lt_lt a b c h k = omega (arith, ints)

        under : (a b y : ℤ) → y <ℤ a → is_between a b y ≡ false
        under a b y h = grind (arith, ints)

        over : (a b y : ℤ) → b ≤ℤ y → is_between a b y ≡ false
        over a b y h = grind (arith, ints)

        within : (a b y : ℤ) → a ≤ℤ y → y <ℤ b → is_between a b y ≡ true
        within a b y h k = grind (arith, ints)

        first : (a c i : Bool) → ((a || (true && c)) || (i && false)) ≡ (a || (true && c))
        first true c i = refl
        first false true i = refl
        first false false true = refl
        first false false false = refl

        second : (a i : Bool) → ((a || (false && i)) || (i && true)) ≡ (a || (true && i))
        second true i = refl
        second false true = refl
        second false false = refl

        third : (a c i : Bool) → ((a || (false && c)) || (i && false)) ≡ (a || (false && c))
        third true c i = refl
        third false c true = refl
        third false c false = refl

-- the sweep has come to its end
pub swept_end : (points : List Point) (later crossing : List Edge) (old out : List Rect) (line : ℤ) → SweptTo points later crossing old out line → highest ≤ℤ line
    → (x y : ℤ) → covered out x y ≡ (covered old x y || covers points x y)
swept_end points later crossing old out line s end x y = s.written x y ∙ by_lt_z y line
    (λ lt. rw (less y line lt) refl)
    (λ le.
    let none : (way : Bool) → count_by (passes way x y) (edges points) ≡ 0 = λ way. nothing _ _ _ (s.ahead way x y le) (none_more way crossing x y (λ k d h. top_low (get_or crossing k d) le)) (none_more way later x y (λ k d h. top_low (get_or later k d) le)) in
    rw (not_less y line le, uncovered points x y (none true) (none false)) refl)
  where
    less : (a b : ℤ) → a <ℤ b → int_lt a b ≡ true
    less a b h = grind (arith, ints)

    not_less : (a b : ℤ) → b ≤ℤ a → int_lt a b ≡ false
    not_less a b h = grind (arith, ints)

    nothing : (n a b : ℕ) → n ≡ a + b → a ≡ 0 → b ≡ 0 → n ≡ 0
    nothing n a b h k l = omega arith

    top_low : (e : Edge) → line ≤ℤ y → e.top ≤ℤ y
    top_low e le = past e.top e.high le
      where
        past : (a : ℤ) → a ≤ℤ highest → line ≤ℤ y → a ≤ℤ y
        past a h k = omega (arith, ints)

pub smaller : (line next : ℤ) → line <ℤ next → next ≤ℤ highest → lowest ≤ℤ line → unsigned_abs (highest -ℤ read next) < unsigned_abs (highest -ℤ line)
smaller line next up high low =
    let is : read next ≡ next = read_is next (omega (arith, ints)) in
    rw is (omega (arith, ints))

pub turn_read : (points : List Point) (later crossing : List Edge) (old out : List Rect) (line : ℤ) → SweptTo points later crossing old out line → SweptTo points later crossing old out (read line)
turn_read points later crossing old out line s = rw (read_is line (let low = s.low in let high = s.high in omega (arith, ints))) s
