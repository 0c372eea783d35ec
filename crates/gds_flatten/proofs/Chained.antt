-- Chains of single references, composed.
use Rattle.std.proofs.Common.{◌≡◌, ℕ, zero, suc, ◌+◌, ◌-◌, ◌*◌, ◌<◌, ◌≤◌, ℤ, ◌+ℤ◌, Bool, List, get_or, [], ◌∷◌, ◌++◌, length, map, refl, sym, ap, subst, arith, ◌∙◌}
use Rattle.std.specs.Prelude.{unsigned_abs, cond, Some, slice_get, All}
use Rattle.std.specs.List.{flat_map, range_with_len}
use Rattle.std.proofs.lemmas.Grind.{common_steps}
use Rattle.gds_cells.specs.declared.cell.Cell.{Cell}
use Rattle.gds_cells.specs.declared.link.Link.{Link}
use Rattle.gds_cells.specs.declared.placement.Placement.{Placement}
use Rattle.gds_cells.specs.Placements.{signed, composed, still}
use Rattle.gds_cells.specs.Links.{single}
use Rattle.gds_cells.specs.Copies.{Copy, own_copy, carry_copy, copies}
use Rattle.gds_cells.specs.steps.Counting.{AreCounted}
use Rattle.gds_cells.specs.steps.Ranges.{IsWithin}
use Rattle.gds_cells.specs.steps.Walks.{hierarchy, own_in, shapes_in, singles_in, singles_of}
use Rattle.gds_cells.proofs.Capping.{counts_below}
use Rattle.gds_cells.proofs.Composing.{still_composed}
use Rattle.gds_cells.proofs.Within.{signed_size, either_size, sum_size}
use Rattle.gds_flatten.specs.steps.Chains.{HasOnly, LeadsTo}
use Rattle.gds_flatten.proofs.Drawing.{carried_twice}

-- ---- how far placements move

more_moved : (b c : Bool) (v w z : ℤ) (m n : ℕ) → unsigned_abs v ≤ n * 68719476736 → unsigned_abs w ≤ n * 68719476736
    → unsigned_abs z ≤ m * 68719476736 → unsigned_abs (signed b (cond c v w) +ℤ z) ≤ (m + n) * 68719476736
more_moved b c v w z m n h k l =
    let size = either_size c v w _ h k in
    let same = signed_size b (cond c v w) in
    let sum = sum_size (signed b (cond c v w)) z (n * 68719476736) (m * 68719476736) (omega (arith, size, same)) l in
    omega (arith, sum)

-- the moves of both
pub within_both : (m n : ℕ) (p q : Placement) → IsWithin m p → IsWithin n q → IsWithin (m + n) (composed p q)
within_both m n p q h k = record {
  x = more_moved p.flip_x p.swapped q.y q.x p.x m n k.y k.x h.x;
  y = more_moved p.flip_y p.swapped q.x q.y p.y m n k.x k.y h.y;
}

pub within_more : (m n : ℕ) (p : Placement) → m ≤ n → IsWithin m p → IsWithin n p
within_more m n p le h = record { x = let x = h.x in omega (arith, le, x); y = let y = h.y in omega (arith, le, y) }

-- ---- copies through a cell with one reference

pub still_carried : (cs : List Copy) → map (carry_copy still) cs ≡ cs
still_carried [] = refl
still_carried (c ∷ cs) = λ k. record { placement = still_composed c.placement k; element = c.element } ∷ still_carried cs k

pub nothing_more : (cs : List Copy) → cs ++ [] ≡ cs
nothing_more [] = refl
nothing_more (c ∷ cs) = ap (λ ds. c ∷ ds) (nothing_more cs)

own_none : (c : Cell) → shapes_in c ≡ [] → map own_copy (own_in (Some c)) ≡ []
own_none c bare = rw bare refl

singles_one : (c : Cell) (l : Link) → HasOnly c l → singles_in (Some c) ≡ (l.cell, single l 0) ∷ []
singles_one c l only =
    let one : l.columns * l.rows ≡ 1 = rw (only.columns, only.rows) refl in
    ap (λ ls. flat_map singles_of ls) only.links ∙ ap singles_upto one where
      singles_upto : ℕ → List (ℕ × Placement)
      singles_upto n = map (λ p. (l.cell, p)) (map (single l) (range_with_len 0 n)) ++ []

pub one_below : (cells : List Cell) (n i : ℕ) (c : Cell) (l : Link) → 0 < n → slice_get cells i ≡ Some c → HasOnly c l
    → copies (hierarchy cells) n i ≡ map (carry_copy (single l 0)) (copies (hierarchy cells) (n - 1) l.cell)
unfolding copies
one_below cells zero i c l some is only = absurd (omega (arith, some))
one_below cells (suc n) i c l some is only =
    let less : suc n - 1 ≡ n = omega arith in
    rw (is, own_none c only.bare, singles_one c l only, less) (nothing_more (map (carry_copy (single l 0)) (copies (hierarchy cells) n l.cell)))

-- ---- chains

pub chain_begins : (cells : List Cell) (counts : List ℕ) (depth index : ℕ) → AreCounted cells counts depth index → LeadsTo cells counts depth index depth index still
chain_begins cells counts depth index counted = record {
  shorter = omega arith;
  near = record { x = omega arith; y = omega arith };
  same = sym (still_carried (copies (hierarchy cells) depth index));
  counted = counted;
}

pub chain_goes_on : (cells : List Cell) (counts : List ℕ) (depth index below cell : ℕ) (p q r : Placement) (c : Cell) (l : Link)
    → LeadsTo cells counts depth index below cell p → 0 < below → slice_get cells cell ≡ Some c → HasOnly c l
    → q ≡ single l 0 → IsWithin 1 q → r ≡ composed p q → LeadsTo cells counts depth index (below - 1) l.cell r
chain_goes_on cells counts depth index below cell p q r c l leads some is only q_is near r_is = record {
  shorter = let shorter = leads.shorter in omega (arith, shorter);
  near =
      let shorter = leads.shorter in
      let more : (depth - below) + 1 ≡ depth - (below - 1) = omega (arith, shorter, some) in
      rw r_is (subst (λ n. IsWithin n (composed p q)) more (within_both (depth - below) 1 p q leads.near near));
  same =
      leads.same ∙ ap (map (carry_copy p)) (one_below cells below cell c l some is only)
      ∙ carried_twice p (single l 0) (copies (hierarchy cells) (below - 1) l.cell)
      ∙ ap (λ t. map (carry_copy t) (copies (hierarchy cells) (below - 1) l.cell)) (sym (r_is ∙ ap (composed p) q_is));
  counted =
      let first : 0 < length c.links.items = rw only.links (grind (arith, common_steps)) in
      let link_is : l ≡ get_or c.links.items 0 l = rw only.links refl in
      counts_below cells counts below cell 0 c l some is first link_is leads.counted;
}

-- ---- chunks without shapes

both_empty : {Y : Type 0} (ys zs : List Y) → length ys ≡ 0 → zs ≡ [] → ys ++ zs ≡ []
both_empty [] zs none is = is
both_empty (y ∷ ys) zs none is = absurd (omega (arith, none))

pub no_shape : {X Y : Type 0} (f : X → List Y) (xs : List X) → All (λ x. length (f x) ≡ 0) xs → flat_map f xs ≡ []
no_shape f [] all = refl
no_shape f (x ∷ xs) all =
    both_empty (f x) (flat_map f xs) (all 0 x (grind (arith, common_steps))) (no_shape f xs (λ k d within. all (suc k) d (grind (arith, common_steps, within))))

-- ---- the walk through a chain

module _ (cells : List Cell) (counts : List ℕ) (depth index below cell : ℕ) (p : Placement) (leads : LeadsTo cells counts depth index below cell p) where
  -- what the last cell draws, carried by the chain and then so, is what the first one draws, carried so
  pub chain_carries : (s r : Placement) → r ≡ composed s p → map (carry_copy r) (copies (hierarchy cells) below cell) ≡ map (carry_copy s) (copies (hierarchy cells) depth index)
  chain_carries s r is =
      ap (λ t. map (carry_copy t) (copies (hierarchy cells) below cell)) is
      ∙ sym (carried_twice s p (copies (hierarchy cells) below cell)) ∙ ap (map (carry_copy s)) (sym leads.same)

  pub chain_near : depth ≤ 256 → IsWithin 257 p
  chain_near few = let shorter = leads.shorter in within_more (depth - below) 257 p (omega (arith, few)) leads.near

  pub chain_within : (s r : Placement) → depth ≤ 256 → IsWithin (257 - depth) s → r ≡ composed s p → IsWithin (257 - below) r
  chain_within s r few near is =
      let shorter = leads.shorter in
      let sum : (257 - depth) + (depth - below) ≡ 257 - below = omega (arith, few, shorter) in
      rw is (subst (λ n. IsWithin n (composed s p)) sum (within_both (257 - depth) (depth - below) s p near leads.near))

pub lone : {X : Type 0} (xs : List X) (d : X) → length xs ≡ 1 → d ≡ get_or xs 0 d → xs ≡ d ∷ []
lone [] d one is = absurd (omega (arith, one))
lone (x ∷ []) d one is = ap (λ y. y ∷ []) (sym is)
lone (x ∷ (y ∷ xs)) d one is = absurd (grind (arith, common_steps, one))
