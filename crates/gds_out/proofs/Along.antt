-- A row that goes on from tile to tile.
use Rattle.std.proofs.Common.{◌≡◌, refl, ap, sym, subst, ◌∙◌, ℕ, ◌<◌, ℤ, pos, ◌-ℤ◌, ◌≤ℤ◌, ◌<ℤ◌, arith, Bool, true, false, ◌&&◌, ◌⊎◌, inl, inr, List, length, get_or, Bor, Option, Some, None, IfSome}
use Rattle.std.specs.Prelude.{not, slice_get, ◌==◌}
use Rattle.std.proofs.lemmas.Bool.{and_parts, and_from, cases_Bool, cases_eq, eqb-true, eq-eqb}
use Rattle.std.proofs.lemmas.Int.{ints, clamps}
use Rattle.std.proofs.lemmas.List.Folds.{list_any_none, list_any_at}
use Rattle.std.proofs.lemmas.Option.{slice_get-get_or, slice_get_within, get_or_from_slice_get}
use Rattle.fill_base.specs.Counts.{span_len, is_between}
use Rattle.fill_base.proofs.Between.{is_between_true, is_between_bounds}
use Rattle.fill_raster.specs.Axes.{first, past, is_on}
use Rattle.fill_raster.specs.Lattice.{Lattice, IsLattice, in_raster, in_tile, tile_of}
use Rattle.fill_raster.specs.Marks.{Marked, in_block, is_marked}
use Rattle.fill_raster.specs.declared.block.Block.{Block}
use Rattle.fill_raster.proofs.Ranges.{on_range}
use Rattle.fill_raster.proofs.Searching.{here, none_between}
use Rattle.gds_out.specs.Places.{AreOfTiles, marked_by}
use Rattle.gds_out.specs.steps.Columns.{IsNext}

-- a place of the raster is of the tile with its number
pub of_its_tile : (r : Lattice) (t : ℕ) (i j : ℤ) → in_raster r i j ≡ true → t ≡ tile_of r i j → in_tile r t i j ≡ true
of_its_tile r t i j on is = and_from (in_raster r i j) (tile_of r i j == t) on (eq-eqb _ _ (sym is))

pub tile_on : (r : Lattice) (t : ℕ) (i j : ℤ) → in_tile r t i j ≡ true → (in_raster r i j ≡ true) × (tile_of r i j ≡ t)
tile_on r t i j h = let p = and_parts (in_raster r i j) (tile_of r i j == t) h in (p.0, eqb-true _ _ p.1)

pub unmarked : (m : Marked) (i j : ℤ) → in_block m.block i j ≡ false → is_marked m i j ≡ false
unmarked m i j off = rw off refl

-- in a tile the marks are those of the tile
pub tile_marks : (r : Lattice) (marks : List (Bor Marked)) (t : ℕ) (m : Bor Marked) (i j : ℤ) → AreOfTiles r marks → slice_get marks t ≡ Some m → t < length marks
    → in_tile r t i j ≡ true → marked_by marks i j ≡ is_marked m.now i j
tile_marks r marks t m i j are here below inside = elim (cases_Bool (is_marked m.now i j)) [
  | inl on ↦ list_any_at test marks t m below (ap (λ (x : Bor Marked). is_marked x.now i j) (get_or_from_slice_get marks t m m here) ∙ on) ∙ sym on
  | inr off ↦ list_any_none test marks (λ k d lt. others k d lt off) ∙ sym off
]
  where
    test : Bor Marked → Bool
    test x = is_marked x.now i j

    apart : (k : ℕ) → (k ≡ t → ⊥) → in_tile r k i j ≡ false
    apart k differ = elim (cases_Bool (in_tile r k i j)) [
      | inl on ↦ absurd (differ (sym (tile_on r k i j on).1 ∙ (tile_on r t i j inside).1))
      | inr off ↦ off
    ]

    others : (k : ℕ) (d : Bor Marked) → k < length marks → is_marked m.now i j ≡ false → is_marked (get_or marks k d).now i j ≡ false
    others k d lt off = elim (cases_eq k t) [
      | inl same ↦ ap (λ (x : Bor Marked). is_marked x.now i j) (ap (λ n. get_or marks n d) same ∙ get_or_from_slice_get marks t m d here) ∙ off
      | inr differ ↦ unmarked (get_or marks k d).now i j (are.places k (get_or marks k d) (slice_get-get_or marks k d lt) i j ∙ apart k differ)
    ]

chain : (a b c : ℤ) → a ≤ℤ b → b ≤ℤ c → a ≤ℤ c
chain a b c h g = omega (arith, ints, clamps)

at_most : (a b : ℤ) → a <ℤ b → a ≤ℤ b
at_most a b h = omega (arith, ints, clamps)

pub under_or_over : (n i : ℤ) → (n <ℤ i) ⊎ (i ≤ℤ n)
under_or_over n i = grind (arith, ints)

block_between : (b : Block) (i n k j : ℤ) → in_block b i j ≡ true → in_block b k j ≡ true → i ≤ℤ n → n <ℤ k → in_block b n j ≡ true
block_between b i n k j in_i in_k low high =
    let pi = and_parts (is_between b.left b.right i) (is_between b.bottom b.top j) in_i in
    let pk = and_parts (is_between b.left b.right k) (is_between b.bottom b.top j) in_k in
    and_from _ _ (is_between_true b.left b.right n (chain b.left i n (is_between_bounds b.left b.right i pi.0).0 low) (less n k b.right high (is_between_bounds b.left b.right k pk.0).1)) pi.1
  where
    less : (n k r : ℤ) → n <ℤ k → k <ℤ r → n <ℤ r
    less n k r h g = omega (arith, ints, clamps)

-- the column of a place of a tile is before the one past the last
pub before_past : (r : Lattice) (t : ℕ) (k j : ℤ) → IsLattice r → in_tile r t k j ≡ true → k <ℤ past r.across
before_past r t k j is inside =
    let on = (and_parts (is_on r.across k) (is_on r.up j) (tile_on r t k j inside).0).0 in
    (is_between_bounds (first r.across) (past r.across) k (sym (on_range r.across k is.across.step_is.least) ∙ on)).1

-- the place that was asked for stands in this tile
pub found_here : (r : Lattice) (marks : List (Bor Marked)) (t : ℕ) (m : Bor Marked) (start i j k : ℤ) (wanted : Bool) → IsLattice r → AreOfTiles r marks → slice_get marks t ≡ Some m → t < length marks
    → start ≤ℤ i → ((n : ℤ) → start ≤ℤ n → n <ℤ i → marked_by marks n j ≡ not wanted)
    → in_tile r t i j ≡ true → i ≤ℤ k → in_block m.now.block k j ≡ true → is_marked m.now k j ≡ wanted
    → ((n : ℤ) → i ≤ℤ n → n <ℤ k → is_marked m.now n j ≡ not wanted)
    → IsNext r (marked_by marks) start j wanted k
found_here r marks t m start i j k wanted is are here below from before inside i_k in_k marked between =
    let k_in : in_tile r t k j ≡ true = sym (are.places t m here k j) ∙ in_k in
    let in_i : in_block m.now.block i j ≡ true = are.places t m here i j ∙ inside in
    record {
      from = chain start i k from i_k;
      to = at_most k (past r.across) (before_past r t k j is k_in);
      between = λ n low high. elim (under_or_over n i) [
        | inl under ↦ before n low under
        | inr over ↦ tile_marks r marks t m n j are here below (sym (are.places t m here n j) ∙ block_between m.now.block i n k j in_i in_k over high) ∙ between n over high
      ];
      found = λ _. tile_marks r marks t m k j are here below k_in ∙ marked;
    }

-- what a search in one tile finds is what was asked for
pub found_in_tile : (r : Lattice) (marks : List (Bor Marked)) (t : ℕ) (m : Bor Marked) (i j : ℤ) (wanted : Bool) (o : Option ℤ) → IsLattice r → AreOfTiles r marks → slice_get marks t ≡ Some m → in_block m.now.block i j ≡ true
    → IfSome o (λ k. i ≤ℤ k × (in_block m.now.block k j ≡ true) × (is_marked m.now k j ≡ wanted))
    → IfSome o (λ k. (n : ℤ) → i ≤ℤ n → n <ℤ k → is_marked m.now n j ≡ not wanted)
    → IfSome o (IsNext r (marked_by marks) i j wanted)
found_in_tile r marks t m i j wanted None is are there inside found between = tt
found_in_tile r marks t m i j wanted (Some k) is are there inside found between =
    found_here r marks t m i i j k wanted is are there (slice_get_within marks t m there) (here i) (none_between (λ n. marked_by marks n j) wanted i)
    (sym (are.places t m there i j) ∙ inside) found.0 found.1 found.2 between

-- none stands in this tile
pub record IsPassed (r : Lattice) (marks : List (Bor Marked)) (start i j e : ℤ) (wanted : Bool) : Type 0 where
  pub after : i <ℤ e
  pub from : start ≤ℤ e
  pub to : e ≤ℤ past r.across
  pub before : (n : ℤ) → start ≤ℤ n → n <ℤ e → marked_by marks n j ≡ not wanted

pub tile_passed : (r : Lattice) (marks : List (Bor Marked)) (t : ℕ) (m : Bor Marked) (start i j s e lo hi : ℤ) (wanted : Bool) → IsLattice r → AreOfTiles r marks → slice_get marks t ≡ Some m → t < length marks
    → start ≤ℤ i → ((n : ℤ) → start ≤ℤ n → n <ℤ i → marked_by marks n j ≡ not wanted)
    → in_tile r t i j ≡ true → s <ℤ e → ((k l : ℤ) → (is_between s e k && is_between lo hi l) ≡ in_tile r t k l)
    → ((n : ℤ) → i ≤ℤ n → in_block m.now.block n j ≡ true → is_marked m.now n j ≡ not wanted)
    → IsPassed r marks start i j e wanted
tile_passed r marks t m start i j s e lo hi wanted is are here below from before inside wide places none =
    let parts = and_parts (is_between s e i) (is_between lo hi j) (places i j ∙ inside) in
    let ends = is_between_bounds s e i parts.0 in
    let in_tile_on : (n : ℤ) → i ≤ℤ n → n <ℤ e → in_tile r t n j ≡ true =
    λ n low high. sym (places n j) ∙ and_from (is_between s e n) (is_between lo hi j) (is_between_true s e n (chain s i n ends.0 low) high) parts.1 in
    record {
      after = ends.1;
      from = chain start i e from (at_most i e ends.1);
      to = one_past e (past r.across) (before_past r t (e -ℤ pos 1) j is (in_tile_on (e -ℤ pos 1) (one_less i e ends.1) (one_before e)));
      before = λ n low high. elim (under_or_over n i) [
        | inl under ↦ before n low under
        | inr over ↦ tile_marks r marks t m n j are here below (in_tile_on n over high) ∙ none n over (are.places t m here n j ∙ in_tile_on n over high)
      ];
    }
  where
    one_past : (e p : ℤ) → (e -ℤ pos 1) <ℤ p → e ≤ℤ p
    one_past e p h = omega (arith, ints, clamps)

    one_less : (i e : ℤ) → i <ℤ e → i ≤ℤ (e -ℤ pos 1)
    one_less i e h = omega (arith, ints, clamps)

    one_before : (e : ℤ) → (e -ℤ pos 1) <ℤ e
    one_before e = omega (arith, ints, clamps)

pub shorter : (i e p : ℤ) → i <ℤ e → e ≤ℤ p → span_len e p < span_len i p
shorter i e p h g = omega (arith, ints, clamps)

-- the row has ended
pub row_ends : (r : Lattice) (filled : ℤ → ℤ → Bool) (start i j p : ℤ) (wanted : Bool) → p ≡ past r.across → start ≤ℤ p → i ≤ℤ p → p ≤ℤ i
    → ((n : ℤ) → start ≤ℤ n → n <ℤ i → filled n j ≡ not wanted) → IsNext r filled start j wanted p
row_ends r filled start i j p wanted p_is from to over before = record {
  from = from;
  to = subst (λ z. p ≤ℤ z) p_is (self p);
  between = λ n low high. before n low (less n p i high over);
  found = λ lt. absurd (never p (past r.across) p_is lt);
}
  where
    self : (p : ℤ) → p ≤ℤ p
    self p = omega (arith, ints, clamps)

    less : (n p i : ℤ) → n <ℤ p → p ≤ℤ i → n <ℤ i
    less n p i h g = omega (arith, ints, clamps)

    never : (p q : ℤ) → p ≡ q → p <ℤ q → ⊥
    never p q e lt = omega (arith, ints, clamps, e, lt)
