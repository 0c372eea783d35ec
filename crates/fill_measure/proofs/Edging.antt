-- Cuts at the ends of spans, or at the edges of rectangles: what they hold, and where a set is uniform between them.
use Rattle.std.proofs.Common.{◌≡◌, ℕ, suc, ◌+◌, ◌<◌, ℤ, ◌≤ℤ◌, ◌<ℤ◌, List, [], ◌∷◌, ◌++◌, length, get_or, take, All, refl, arith, ap, subst, ◌∙◌, sym, Bool, ◌||◌, ◌&&◌}
use Rattle.std.specs.Prelude.{int_le, int_lt}
use Rattle.std.specs.Global.{Vec}
use Rattle.std.specs.List.{Contains, flat_map}
use Rattle.std.specs.Vec.{vec_items}
use Rattle.std.proofs.lemmas.Int.{ints, clamps, by_lt_z}
use Rattle.std.proofs.lemmas.Grind.{flat_map-append}
use Rattle.std.proofs.lemmas.List.{get_or_default, take_more, append-nil}
use Rattle.std.proofs.lemmas.List.Elements.{All-append, All-push, Contains-append_left, Contains-push}
use Rattle.fill_base.specs.declared.rect.Rect.{Rect}
use Rattle.fill_base.specs.Coordinates.{IsCoordinate}
use Rattle.fill_base.specs.Counts.{is_between}
use Rattle.fill_base.specs.Squares.{squares}
use Rattle.fill_base.proofs.Signed.{read, read_is, coordinate_fits, le_trans, lt_le}
use Rattle.fill_area.proofs.Begun.{by_lt}
use Rattle.fill_area.specs.Parts.{kept_within}
use Rattle.fill_area.specs.declared.parts.Parts.{Parts}
use Rattle.fill_cells.specs.Mesh.{AreCuts, gaps}
use Rattle.fill_cells.proofs.Gaps.{cut_le}
use Rattle.fill_region.specs.Squares.{covered}
use Rattle.fill_measure.specs.declared.edges.Direction.TheVariants.{Across, Up}
use Rattle.fill_measure.specs.declared.edges.Direction.{Direction}
use Rattle.fill_measure.specs.steps.Edges.{HoldEdges, IsFromTo, edge_from, edge_to}
use Rattle.fill_measure.specs.steps.Ends.{AreAmong, HoldEnds, IsAmong}
use Rattle.fill_measure.specs.steps.Uniform.{IsUniform, IsUniformAbout, IsUniformAboutEnds, along}

apart : (x z : ℤ) → x ≤ℤ z → z <ℤ x → ⊥
apart x z h k = omega (arith, ints)

-- a cut lies among the cuts, and amid no two neighbours
among_cuts : (cuts : List ℤ) (z : ℤ) → AreCuts cuts → Contains cuts z → IsAmong cuts z
among_cuts cuts z are has = record {
  low = λ d. rw (at d) at (cut_le cuts 0 has.0 d are (omega arith) has.1);
  high = λ d. rw (at d) at (cut_le cuts has.0 (gaps cuts) d are (omega (arith, has.1)) (omega (arith, has.1)));
}
  where
    at : (d : ℤ) → get_or cuts has.0 d ≡ z
    at d = get_or_default cuts has.0 d z has.1 ∙ has.2

amid_none : (cuts : List ℤ) (z : ℤ) (i : ℕ) (d : ℤ) → AreCuts cuts → Contains cuts z → i + 1 < length cuts → get_or cuts i d <ℤ z → z <ℤ get_or cuts (i + 1) d → ⊥
amid_none cuts z i d are has lt above below = by_lt has.0 (i + 1)
    (λ before. apart z _ (rw at at (cut_le cuts has.0 i d are (omega (arith, before)) (omega (arith, lt)))) above)
    (λ past. apart _ _ (rw at at (cut_le cuts (i + 1) has.0 d are past has.1)) below)
  where
    at : get_or cuts has.0 d ≡ z
    at = get_or_default cuts has.0 d z has.1 ∙ has.2

-- the cuts at the ends of spans
pub held_among : (cuts : List ℤ) (parts : Parts) → AreCuts cuts → HoldEnds cuts parts parts.axis.count → AreAmong cuts parts
held_among cuts parts are hold = record { begins = λ a lt. among_cuts cuts _ are (hold.begins a lt); ends = λ a lt. among_cuts cuts _ are (hold.ends a lt) }

pub held_uniform : (p : ℤ → ℤ → Bool) (cuts : List ℤ) (parts : Parts) → AreCuts cuts → HoldEnds cuts parts parts.axis.count → IsUniformAboutEnds p cuts parts
held_uniform p cuts parts are hold = record { begins = λ a lt. nowhere _ (hold.begins a lt); ends = λ a lt. nowhere _ (hold.ends a lt) }
  where
    nowhere : (z : ℤ) → Contains cuts z → IsUniformAbout p cuts z
    nowhere z has i d lt above below = absurd (amid_none cuts z i d are has lt above below)

-- a span that neither begins nor ends amid two cuts is the same from one to the other
span_same : (a b c next x : ℤ) → (c <ℤ a → a <ℤ next → ⊥) → (c <ℤ b → b <ℤ next → ⊥) → c ≤ℤ x → x <ℤ next → is_between a b x ≡ is_between a b c
span_same a b c next x no_begin no_end low high = both _ _ _ _ begins ends
  where
    both : (m n k l : Bool) → m ≡ k → n ≡ l → (m && n) ≡ (k && l)
    both m n k l h i = rw (h, i) refl

    before : (a c next x : ℤ) → next ≤ℤ a → c ≤ℤ x → x <ℤ next → int_le a x ≡ int_le a c
    before a c next x h k l = grind (arith, ints)

    begun : (a c x : ℤ) → a ≤ℤ c → c ≤ℤ x → int_le a x ≡ int_le a c
    begun a c x h k = grind (arith, ints)

    not_over : (b c next x : ℤ) → next ≤ℤ b → c ≤ℤ x → x <ℤ next → int_lt x b ≡ int_lt c b
    not_over b c next x h k l = grind (arith, ints)

    over : (b c x : ℤ) → b ≤ℤ c → c ≤ℤ x → int_lt x b ≡ int_lt c b
    over b c x h k = grind (arith, ints)

    begins : int_le a x ≡ int_le a c
    begins = by_lt_z c a (λ above. by_lt_z a next (λ below. absurd (no_begin above below)) (λ past. before a c next x past low high)) (λ le. begun a c x le low)

    ends : int_lt x b ≡ int_lt c b
    ends = by_lt_z c b (λ above. by_lt_z b next (λ below. absurd (no_end above below)) (λ past. not_over b c next x past low high)) (λ le. over b c x le low)

-- between cuts at all edges the squares of rectangles are uniform
one_uniform : (direction : Direction) (r : Rect) (c next x y : ℤ) → (c <ℤ edge_from direction r → edge_from direction r <ℤ next → ⊥) → (c <ℤ edge_to direction r → edge_to direction r <ℤ next → ⊥)
    → c ≤ℤ x → x <ℤ next → along direction (squares r) x y ≡ along direction (squares r) c y
one_uniform Across r c next x y no_begin no_end low high = ap (λ b. b && is_between r.y1 r.y2 y) (span_same r.x1 r.x2 c next x no_begin no_end low high)
one_uniform Up r c next x y no_begin no_end low high = ap (λ b. is_between r.x1 r.x2 y && b) (span_same r.y1 r.y2 c next x no_begin no_end low high)

rects_uniform : (direction : Direction) (rects : List Rect) (c next x y : ℤ) → All (λ r. c <ℤ edge_from direction r → edge_from direction r <ℤ next → ⊥) rects → All (λ r. c <ℤ edge_to direction r → edge_to direction r <ℤ next → ⊥) rects
    → c ≤ℤ x → x <ℤ next → along direction (covered rects) x y ≡ along direction (covered rects) c y
rects_uniform Across [] c next x y no_begin no_end low high = refl
rects_uniform Up [] c next x y no_begin no_end low high = refl
rects_uniform Across (r ∷ rects) c next x y no_begin no_end low high = rw (one_uniform Across r c next x y (no_begin 0 r (omega arith)) (no_end 0 r (omega arith)) low high)
    (ap (λ b. squares r c y || b) (rects_uniform Across rects c next x y (λ k d lt. no_begin (suc k) d (omega arith)) (λ k d lt. no_end (suc k) d (omega arith)) low high))
rects_uniform Up (r ∷ rects) c next x y no_begin no_end low high = rw (one_uniform Up r c next x y (no_begin 0 r (omega arith)) (no_end 0 r (omega arith)) low high)
    (ap (λ b. squares r y c || b) (rects_uniform Up rects c next x y (λ k d lt. no_begin (suc k) d (omega arith)) (λ k d lt. no_end (suc k) d (omega arith)) low high))

pub edges_uniform : (direction : Direction) (rects : List Rect) (numbers cuts : List ℤ) (parts : Parts) → AreCuts cuts → ((z : ℤ) → Contains numbers z → Contains cuts z) → HoldEdges direction rects numbers
    → IsUniformAboutEnds (along direction (covered rects)) cuts parts
edges_uniform direction rects numbers cuts parts are kept hold = record { begins = λ a lt i d i_in above below. all i i_in; ends = λ a lt i d i_in above below. all i i_in }
  where
    all : (i : ℕ) → i + 1 < length cuts → IsUniform (along direction (covered rects)) cuts i
    all i lt x y d low high = rects_uniform direction rects (get_or cuts i d) (get_or cuts (i + 1) d) x y
        (λ k e k_in. amid_none cuts _ i d are (kept _ (hold.from k e k_in)) lt) (λ k e k_in. amid_none cuts _ i d are (kept _ (hold.to k e k_in)) lt) low high

-- what counts of a span lies between the numbers between which spans count
pub clip_among : (cuts : List ℤ) (parts : Parts) → AreCuts cuts → Contains cuts parts.low → Contains cuts parts.high → parts.low <ℤ parts.high → AreAmong cuts parts
clip_among cuts parts are low high some = record { begins = λ a lt. within _; ends = λ a lt. within _ }
  where
    first : IsAmong cuts parts.low
    first = among_cuts cuts parts.low are low

    last : IsAmong cuts parts.high
    last = among_cuts cuts parts.high are high

    kept : (a b z : ℤ) → a <ℤ b → (a ≤ℤ kept_within a b z) × (kept_within a b z ≤ℤ b)
    kept a b z lt = (omega (arith, ints, clamps), omega (arith, ints, clamps))

    within : (z : ℤ) → IsAmong cuts (kept_within parts.low parts.high z)
    within z = record {
      low = λ d. le_trans _ _ _ (first.low d) (kept parts.low parts.high z some).0;
      high = λ d. le_trans _ _ _ (kept parts.low parts.high z some).1 (last.high d);
    }

-- numbers that hold what others do
pub hold_kept : (direction : Direction) (rects : List Rect) (old new : List ℤ) → ((z : ℤ) → Contains old z → Contains new z) → HoldEdges direction rects old → HoldEdges direction rects new
hold_kept direction rects old new kept hold = record { from = λ k d lt. kept _ (hold.from k d lt); to = λ k d lt. kept _ (hold.to k d lt) }

-- both edges of one rectangle more
edges_more : (direction : Direction) (rects : List Rect) (r : Rect) (n : ℕ) (from to : ℤ) (begun old mid new : List ℤ) → n < length rects → r ≡ get_or rects n r → from ≡ edge_from direction r → to ≡ edge_to direction r
    → IsCoordinate from → IsCoordinate to → mid ≡ old ++ from ∷ [] → new ≡ mid ++ to ∷ []
    → All IsCoordinate old × (((z : ℤ) → Contains begun z → Contains old z) × HoldEdges direction (take n rects) old)
    → All IsCoordinate new × (((z : ℤ) → Contains begun z → Contains new z) × HoldEdges direction (take (n + 1) rects) new)
edges_more direction rects r n from to begun old mid new n_in r_is from_is to_is from_in to_in mid_is new_is (all, (begun_kept, hold)) = (
  subst (All IsCoordinate) (sym all_is) (All-push IsCoordinate (old ++ from ∷ []) to (All-push IsCoordinate old from all from_in) to_in),
  (
    λ z has. kept z (begun_kept z has),
    record {
      from = rw (take_more rects n r n_in, ← r_is) (All-push (λ q. Contains new (edge_from direction q)) (take n rects) r (before.from) (rw (← from_is) has_from));
      to = rw (take_more rects n r n_in, ← r_is) (All-push (λ q. Contains new (edge_to direction q)) (take n rects) r (before.to) (rw (← to_is) has_to));
    },
  ),
)
  where
    all_is : new ≡ (old ++ from ∷ []) ++ to ∷ []
    all_is = new_is ∙ ap (λ xs. xs ++ to ∷ []) mid_is

    kept : (z : ℤ) → Contains old z → Contains new z
    kept z has = subst (λ xs. Contains xs z) (sym all_is) (Contains-append_left (old ++ from ∷ []) (to ∷ []) z (Contains-append_left old (from ∷ []) z has))

    has_from : Contains new from
    has_from = subst (λ xs. Contains xs from) (sym all_is) (Contains-append_left (old ++ from ∷ []) (to ∷ []) from (Contains-push old from))

    has_to : Contains new to
    has_to = subst (λ xs. Contains xs to) (sym all_is) (Contains-push (old ++ from ∷ []) to)

    before : HoldEdges direction (take n rects) new
    before = hold_kept direction (take n rects) old new kept hold

-- those of one list more
pub lists_more : (direction : Direction) (lists : List (Vec Rect)) (list : Vec Rect) (rects : List Rect) (n : ℕ) (old new : List ℤ) → n < length lists → list ≡ get_or lists n list → rects ≡ list.items
    → ((z : ℤ) → Contains old z → Contains new z) → HoldEdges direction rects new → HoldEdges direction (flat_map vec_items (take n lists)) old → HoldEdges direction (flat_map vec_items (take (n + 1) lists)) new
lists_more direction lists list rects n old new n_in list_is rects_is kept here hold = rw whole (record {
  from = All-append (λ q. Contains new (edge_from direction q)) (flat_map vec_items (take n lists)) rects before.from here.from;
  to = All-append (λ q. Contains new (edge_to direction q)) (flat_map vec_items (take n lists)) rects before.to here.to;
})
  where
    before : HoldEdges direction (flat_map vec_items (take n lists)) new
    before = hold_kept direction _ old new kept hold

    whole : flat_map vec_items (take (n + 1) lists) ≡ flat_map vec_items (take n lists) ++ rects
    whole = ap (flat_map vec_items) (take_more lists n list n_in ∙ ap (λ l. take n lists ++ l ∷ []) (sym list_is))
        ∙ (flat_map-append vec_items (take n lists) (list ∷ []) ∙ ap (λ zs. flat_map vec_items (take n lists) ++ zs) (append-nil list.items ∙ sym rects_is))

-- edges are coordinates, as the code reads them too
from_in : (direction : Direction) (r : Rect) → IsCoordinate (edge_from direction r)
from_in Across r = record { least = r.left; most = le_trans _ _ _ (lt_le _ _ r.wide) r.right }
from_in Up r = record { least = r.bottom; most = le_trans _ _ _ (lt_le _ _ r.tall) r.top }

to_in : (direction : Direction) (r : Rect) → IsCoordinate (edge_to direction r)
to_in Across r = record { least = le_trans _ _ _ r.left (lt_le _ _ r.wide); most = r.right }
to_in Up r = record { least = le_trans _ _ _ r.bottom (lt_le _ _ r.tall); most = r.top }

pub edges_put : (direction : Direction) (rects : List Rect) (r : Rect) (n : ℕ) (from to : ℤ) (begun old mid new : List ℤ) → n < length rects → r ≡ get_or rects n r → IsFromTo direction r from to → mid ≡ old ++ read from ∷ [] → new ≡ mid ++ read to ∷ []
    → All IsCoordinate old × (((z : ℤ) → Contains begun z → Contains old z) × HoldEdges direction (take n rects) old)
    → All IsCoordinate new × (((z : ℤ) → Contains begun z → Contains new z) × HoldEdges direction (take (n + 1) rects) new)
edges_put direction rects r n from to begun old mid new n_in r_is is mid_is new_is before =
    edges_more direction rects r n (edge_from direction r) (edge_to direction r) begun old mid new n_in r_is refl refl (from_in direction r) (to_in direction r)
    (mid_is ∙ ap (λ z. old ++ z ∷ []) (ap read is.from_is ∙ read_coordinate _ (from_in direction r))) (new_is ∙ ap (λ z. mid ++ z ∷ []) (ap read is.to_is ∙ read_coordinate _ (to_in direction r))) before
  where
    read_coordinate : (z : ℤ) → IsCoordinate z → read z ≡ z
    read_coordinate z is = read_is z (coordinate_fits z is.least is.most)
