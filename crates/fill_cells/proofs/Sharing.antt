-- A rectangle put to the lists of the parts that it meets.
use Rattle.std.proofs.Common.{◌≡◌, Bool, true, false, ◌||◌, ℕ, ◌+◌, ◌≤◌, ◌<◌, ℤ, pos, ◌≤ℤ◌, ◌<ℤ◌, List, [], ◌∷◌, ◌++◌, length, take, get_or, set, refl, arith, ap, ◌∙◌, sym, subst}
use Rattle.std.proofs.lemmas.Bool.{and_parts}
use Rattle.std.specs.Global.{Vec}
use Rattle.std.proofs.lemmas.Int.{ints}
use Rattle.std.proofs.lemmas.List.{get_or_default, get_or-set_same, get_or-set_other, length-set, take_more, take_all}
use Rattle.std.proofs.Math.Seq.{take-append_seam}
use Rattle.fill_area.proofs.Begun.{by_lt}
use Rattle.fill_base.specs.declared.rect.Rect.{Rect}
use Rattle.fill_base.specs.Counts.{is_between}
use Rattle.fill_base.specs.Squares.{squares}
use Rattle.fill_base.proofs.Between.{is_between_bounds}
use Rattle.fill_base.proofs.Signed.{read, read_is}
use Rattle.fill_region.specs.Squares.{covered}
use Rattle.fill_cells.specs.Mesh.{AreCuts, gaps, covered_at, row_squares, AreListsOf}
use Rattle.fill_cells.specs.steps.Parts.{cell_squares, AreShared, AreListed, AreMoreIn, IsMoreAt, AreMet}
use Rattle.fill_cells.proofs.Gaps.{cut_read}
use Rattle.fill_cells.proofs.Lists.{covered_pushed, x1_fits, x2_fits, y1_fits, y2_fits}

-- the rectangle is put to the lists from `first` on and below `n`
pub record AreMoreTo (V : Type 0) (cover : V → ℤ → ℤ → Bool) (part : ℤ → ℤ → ℤ → ℤ → Bool) (cuts : List ℤ) (rect : Rect) (first n : ℕ) (old new : List V) : Type 0 where
  pub count : length new ≡ length old
  pub put : (k : ℕ) (d : ℤ) (e : V) → first ≤ k → k < n → (x y : ℤ) → part (get_or cuts k d) (get_or cuts (k + 1) d) x y ≡ true
      → cover (get_or new k e) x y ≡ (cover (get_or old k e) x y || squares rect x y)
  pub before : (k : ℕ) (e : V) → k < first → get_or new k e ≡ get_or old k e
  pub after : (k : ℕ) (e : V) → n ≤ k → get_or new k e ≡ get_or old k e

pub more_to_none : (V : Type 0) (cover : V → ℤ → ℤ → Bool) (part : ℤ → ℤ → ℤ → ℤ → Bool) (cuts : List ℤ) (rect : Rect) (first : ℕ) (old : List V) → AreMoreTo V cover part cuts rect first first old old
more_to_none V cover part cuts rect first old = record {
  count = refl;
  put = λ k d e low high. absurd (omega (arith, low, high));
  before = λ k e lt. refl;
  after = λ k e le. refl;
}

-- one list more
pub more_to_more : (V : Type 0) (cover : V → ℤ → ℤ → Bool) (part : ℤ → ℤ → ℤ → ℤ → Bool) (cuts : List ℤ) (rect : Rect) (first n : ℕ) (old mid new : List V) → first ≤ n
    → AreMoreTo V cover part cuts rect first n old mid → IsMoreAt V cover part cuts rect n mid new → AreMoreTo V cover part cuts rect first (n + 1) old new
more_to_more V cover part cuts rect first n old mid new ordered to at = record {
  count = at.count ∙ to.count;
  put = λ k d e low high x y inside. by_lt k n (λ lt. earlier k d e low lt x y inside) (λ ge. here k d e (omega (arith, high, ge)) x y inside);
  before = λ k e lt. at.others k e (λ is. absurd (omega (arith, is, lt, ordered))) ∙ to.before k e lt;
  after = λ k e le. at.others k e (λ is. absurd (omega (arith, is, le))) ∙ to.after k e (omega (arith, le));
}
  where
    earlier : (k : ℕ) (d : ℤ) (e : V) → first ≤ k → k < n → (x y : ℤ) → part (get_or cuts k d) (get_or cuts (k + 1) d) x y ≡ true
        → cover (get_or new k e) x y ≡ (cover (get_or old k e) x y || squares rect x y)
    earlier k d e low lt x y inside = ap (λ v. cover v x y) (at.others k e (λ is. absurd (omega (arith, is, lt)))) ∙ to.put k d e low lt x y inside

    here : (k : ℕ) (d : ℤ) (e : V) → k ≡ n → (x y : ℤ) → part (get_or cuts k d) (get_or cuts (k + 1) d) x y ≡ true
        → cover (get_or new k e) x y ≡ (cover (get_or old k e) x y || squares rect x y)
    here k d e is = subst (λ j. (x y : ℤ) → part (get_or cuts j d) (get_or cuts (j + 1) d) x y ≡ true
        → cover (get_or new j e) x y ≡ (cover (get_or old j e) x y || squares rect x y)) (sym is)
        (λ x y inside. at.here d e x y inside ∙ ap (λ v. cover v x y || squares rect x y) (to.after n e (omega arith)))

or_false : (b : Bool) → (b || false) ≡ b
or_false true = refl
or_false false = refl

-- two ranges with a number in both
both_hold : (a b c d z : ℤ) → is_between a b z ≡ true → is_between c d z ≡ true → (c <ℤ b) × (a <ℤ d)
both_hold a b c d z h k = let p = is_between_bounds a b z h in let q = is_between_bounds c d z k in joined a b c d z p.0 p.1 q.0 q.1
  where
    joined : (a b c d z : ℤ) → a ≤ℤ z → z <ℤ b → c ≤ℤ z → z <ℤ d → (c <ℤ b) × (a <ℤ d)
    joined a b c d z h i j k = (omega (arith, ints), omega (arith, ints))

-- all lists that the rectangle meets, where one with a square in a part begins before the part ends, and the part before it ends
pub more_to_all : (V : Type 0) (cover : V → ℤ → ℤ → Bool) (part : ℤ → ℤ → ℤ → ℤ → Bool) (cuts : List ℤ) (rect : Rect) (begin end : ℤ) (first k past : ℕ) (old new : List V)
    → ((lo hi x y : ℤ) → part lo hi x y ≡ true → squares rect x y ≡ true → (begin <ℤ hi) × (lo <ℤ end)) → AreMet cuts begin end first past → past ≤ k
    → AreMoreTo V cover part cuts rect first k old new → AreMoreIn V cover part cuts rect old new
more_to_all V cover part cuts rect begin end first past' past old new meets met all to = record {
  count = to.count;
  each = λ j d e j_in x y inside. by_lt j first
      (λ below. missed j d e x y inside (to.before j e below) (λ high low. absurd (let from = met.from_first j d j_in high low in omega (arith, from, below))))
      (λ from. by_lt j past'
      (λ lt. to.put j d e from lt x y inside)
      (λ above. missed j d e x y inside (to.after j e above) (λ high low. absurd (let under = met.to_past j d j_in high low in omega (arith, under, above, all)))));
}
  where
    apart_more : (lo hi x y : ℤ) (b : Bool) → part lo hi x y ≡ true → (lo <ℤ end → begin <ℤ hi → ⊥) → (t : Bool) → squares rect x y ≡ t → b ≡ (b || squares rect x y)
    apart_more lo hi x y b inside apart true held = absurd (let m = meets lo hi x y inside held in apart m.1 m.0)
    apart_more lo hi x y b inside apart false held = sym (ap (λ s. b || s) held ∙ or_false b)

    missed : (j : ℕ) (d : ℤ) (e : V) (x y : ℤ) → part (get_or cuts j d) (get_or cuts (j + 1) d) x y ≡ true → get_or new j e ≡ get_or old j e
        → (begin <ℤ get_or cuts (j + 1) d → get_or cuts j d <ℤ end → ⊥) → cover (get_or new j e) x y ≡ (cover (get_or old j e) x y || squares rect x y)
    missed j d e x y inside same apart = ap (λ v. cover v x y) same
        ∙ apart_more (get_or cuts j d) (get_or cuts (j + 1) d) x y (cover (get_or old j e) x y) inside (λ low high. apart high low) (squares rect x y) refl

-- the same where the code reads both ends of the rectangle
pub shared_all : (row rect : Rect) (cuts : List ℤ) (begin end : ℤ) (first k past : ℕ) (old new : List (Vec Rect)) → begin ≡ rect.x1 → end ≡ rect.x2
    → AreMet cuts (read begin) (read end) first past → past ≤ k → AreMoreTo (Vec Rect) (λ v. covered v.items) (cell_squares row) cuts rect first k old new → AreShared row cuts rect old new
shared_all row rect cuts begin end first k past old new begin_is end_is met all to =
    more_to_all (Vec Rect) (λ v. covered v.items) (cell_squares row) cuts rect (read begin) (read end) first k past old new meets met all to
  where
    meets : (lo hi x y : ℤ) → cell_squares row lo hi x y ≡ true → squares rect x y ≡ true → (read begin <ℤ hi) × (lo <ℤ read end)
    meets lo hi x y inside held =
        rw (ap read begin_is ∙ read_is rect.x1 (x1_fits rect), ap read end_is ∙ read_is rect.x2 (x2_fits rect))
        (both_hold lo hi rect.x1 rect.x2 x (and_parts (is_between lo hi x) (is_between row.y1 row.y2 y) inside).0 (and_parts (is_between rect.x1 rect.x2 x) (is_between rect.y1 rect.y2 y) held).0)

pub listed_all : (rects : List Rect) (rect : Rect) (up : List ℤ) (begin end : ℤ) (first k past : ℕ) (old new : List (Vec ℕ)) → begin ≡ rect.y1 → end ≡ rect.y2
    → AreMet up (read begin) (read end) first past → past ≤ k → AreMoreTo (Vec ℕ) (λ v. covered_at rects v.items) row_squares up rect first k old new → AreListed rects up rect old new
listed_all rects rect up begin end first k past old new begin_is end_is met all to =
    more_to_all (Vec ℕ) (λ v. covered_at rects v.items) row_squares up rect (read begin) (read end) first k past old new meets met all to
  where
    meets : (lo hi x y : ℤ) → row_squares lo hi x y ≡ true → squares rect x y ≡ true → (read begin <ℤ hi) × (lo <ℤ read end)
    meets lo hi x y inside held =
        rw (ap read begin_is ∙ read_is rect.y1 (y1_fits rect), ap read end_is ∙ read_is rect.y2 (y2_fits rect))
        (both_hold lo hi rect.y1 rect.y2 y inside (and_parts (is_between rect.x1 rect.x2 x) (is_between rect.y1 rect.y2 y) held).1)

-- the list at one place written
pub more_at : (V : Type 0) (cover : V → ℤ → ℤ → Bool) (part : ℤ → ℤ → ℤ → ℤ → Bool) (cuts : List ℤ) (rect : Rect) (k : ℕ) (old : List V) (list : V) → k < length old
    → ((d : ℤ) (e : V) (x y : ℤ) → part (get_or cuts k d) (get_or cuts (k + 1) d) x y ≡ true → cover list x y ≡ (cover (get_or old k e) x y || squares rect x y))
    → IsMoreAt V cover part cuts rect k old (set old k list)
more_at V cover part cuts rect k old list lt more = record {
  count = length-set old k list;
  others = λ j e other. get_or-set_other old k j list e other;
  here = λ d e x y inside. ap (λ v. cover v x y) (get_or-set_same old k list e lt) ∙ more d e x y inside;
}

-- no rectangle put yet, one more, and all
pub lists_none : (V : Type 0) (cover : V → ℤ → ℤ → Bool) (part : ℤ → ℤ → ℤ → ℤ → Bool) (cuts : List ℤ) (rects : List Rect) (lists : List V) → length lists ≡ gaps cuts
    → ((k : ℕ) (e : V) → k < length lists → (x y : ℤ) → cover (get_or lists k e) x y ≡ false) → AreListsOf V cover part cuts (covered (take 0 rects)) lists
lists_none V cover part cuts rects lists count empty = record {
  count = count;
  each = λ k d e k_in x y inside. empty k e (omega (arith, count, k_in)) x y;
}

pub lists_more : (V : Type 0) (cover : V → ℤ → ℤ → Bool) (part : ℤ → ℤ → ℤ → ℤ → Bool) (cuts : List ℤ) (rects : List Rect) (q : Rect) (k : ℕ) (old new : List V) → k < length rects → q ≡ get_or rects k q
    → AreListsOf V cover part cuts (covered (take k rects)) old → AreMoreIn V cover part cuts q old new → AreListsOf V cover part cuts (covered (take (k + 1) rects)) new
lists_more V cover part cuts rects q k old new lt item lists more = record {
  count = more.count ∙ lists.count;
  each = λ j d e j_in x y inside. more.each j d e j_in x y inside ∙ (ap (λ t. t || squares q x y) (lists.each j d e j_in x y inside)
      ∙ sym (covered_pushed (take k rects) (take (k + 1) rects) q (take_more rects k q lt ∙ ap (λ r. take k rects ++ r ∷ []) (sym item)) x y));
}

pub lists_all : (V : Type 0) (cover : V → ℤ → ℤ → Bool) (part : ℤ → ℤ → ℤ → ℤ → Bool) (cuts : List ℤ) (rects : List Rect) (k : ℕ) (lists : List V) → length rects ≤ k
    → AreListsOf V cover part cuts (covered (take k rects)) lists → AreListsOf V cover part cuts (covered rects) lists
lists_all V cover part cuts rects k lists all are = record {
  count = are.count;
  each = λ j d e j_in x y inside. are.each j d e j_in x y inside ∙ ap (λ zs. covered zs x y) (take_all k rects all);
}

-- the cell between two neighbouring cuts, as the code reads them
pub cell_within : (row cell : Rect) (cuts : List ℤ) (k : ℕ) → AreCuts cuts → k < gaps cuts
    → (cell.x1 ≡ read (get_or cuts k (pos 0))) × (cell.y1 ≡ row.y1) × (cell.x2 ≡ read (get_or cuts (k + 1) (pos 0))) × (cell.y2 ≡ row.y2)
    → (d x y : ℤ) → cell_squares row (get_or cuts k d) (get_or cuts (k + 1) d) x y ≡ true → squares cell x y ≡ true
cell_within row cell cuts k are k_in edges d x y inside =
    rw (
      edges.0 ∙ (cut_read cuts k (pos 0) are first_in ∙ get_or_default cuts k (pos 0) d first_in),
      edges.1,
      edges.2 ∙ (cut_read cuts (k + 1) (pos 0) are second_in ∙ get_or_default cuts (k + 1) (pos 0) d second_in),
      edges.3,
    ) inside
  where
    first_in : k < length cuts
    first_in = omega (arith, k_in)

    second_in : k + 1 < length cuts
    second_in = omega (arith, k_in)

-- what a whole list was written with is the list
pub kept_after : {V : Type 0} (P : List V → Type 0) (n : ℕ) (new rest : List V) → n ≡ length new → P new → P (take n (new ++ rest))
kept_after P n new rest is holds = subst P (sym (ap (λ m. take m (new ++ rest)) is ∙ take-append_seam new rest)) holds
