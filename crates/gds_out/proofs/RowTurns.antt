-- Rows, run by run, and runs, piece by piece.
use Rattle.std.proofs.Common.{◌≡◌, refl, ap, sym, subst, ◌∙◌, ℕ, zero, suc, ◌+◌, ◌*◌, ◌<◌, ◌≤◌, ℤ, pos, negsuc, ◌+ℤ◌, ◌-ℤ◌, ◌≤ℤ◌, ◌<ℤ◌, arith, Bool, true, false, ◌⊎◌, inl, inr, List, [], ◌∷◌, ◌++◌, map, Fits, w32, w64, FitsSigned}
use Rattle.std.specs.Int.{div_ceil}
use Rattle.std.specs.List.{flat_map, filter, range_with_len}
use Rattle.std.proofs.lemmas.Int.{ints, clamps, by_lt_z}
use Rattle.std.proofs.lemmas.Grind.{flat_map-append}
use Rattle.std.proofs.lemmas.List.{append-nil, append_assoc, map-append}
use Rattle.std.proofs.lemmas.List.FromFn.{map-range_with_len_more}
use Rattle.fill_base.specs.Counts.{span_len}
use Rattle.fill_base.proofs.Signed.{read, read_is, le_trans}
use Rattle.gds_record.specs.Records.{Rec, spelling}
use Rattle.fill_raster.specs.Axes.{first, past}
use Rattle.fill_raster.specs.Lattice.{Lattice, IsLattice}
use Rattle.fill_raster.proofs.Bands.{starts_below}
use Rattle.fill_raster.proofs.Ranges.{first_bounded, past_bounded, extent_bounded}
use Rattle.fill_stacks.specs.Counting.{as_piece}
use Rattle.fill_stacks.specs.Runs.{Run, run, runs, piece, pieces, numbers_from}
use Rattle.fill_stacks.specs.declared.pieces.Piece.{Piece}
use Rattle.gds_out.specs.steps.Columns.{IsNext}
use Rattle.gds_out.proofs.Appending.{then}
use Rattle.gds_out.proofs.Cutting.{one_turn, if_some}

-- ---- pieces

pub number_fits : (z : ℤ) → negsuc 2147483647 ≤ℤ z → z ≤ℤ pos 2147483648 → FitsSigned w64 z
number_fits z low high = omega (arith, ints, clamps)

pub number_read : (z : ℤ) → negsuc 2147483647 ≤ℤ z → z ≤ℤ pos 2147483648 → read z ≡ z
number_read z low high = read_is z (number_fits z low high)

pub record IsPart (i : ℤ) (d : ℕ) : Type 0 where
  pub begins : read i ≡ i
  pub offset : read (pos d) ≡ pos d
  pub fits : FitsSigned w64 (i +ℤ pos d)
  pub at : read (i +ℤ pos d) ≡ i +ℤ pos d

-- a piece of a run begins in it
pub part_of : (i : ℤ) (count k : ℕ) → negsuc 2147483647 ≤ℤ i → (i +ℤ pos count) ≤ℤ pos 2147483648 → k < div_ceil count 32767 → IsPart i (k * 32767)
part_of i count k low high lt =
    let below : k * 32767 < count = starts_below count 32767 k (omega arith) lt in
    let at_low = further i (k * 32767) low in
    let at_high = to_high i count (k * 32767) high below in
    record {
      begins = number_read i low (to_self i count high);
      offset = read_is (pos (k * 32767)) (pos_high i count (k * 32767) low high below);
      fits = number_fits (i +ℤ pos (k * 32767)) at_low at_high;
      at = number_read (i +ℤ pos (k * 32767)) at_low at_high;
    }
  where
    to_self : (i : ℤ) (n : ℕ) → (i +ℤ pos n) ≤ℤ pos 2147483648 → i ≤ℤ pos 2147483648
    to_self i n h = omega (arith, ints, clamps)

    further : (i : ℤ) (d : ℕ) → negsuc 2147483647 ≤ℤ i → negsuc 2147483647 ≤ℤ (i +ℤ pos d)
    further i d h = omega (arith, ints, clamps)

    to_high : (i : ℤ) (n d : ℕ) → (i +ℤ pos n) ≤ℤ pos 2147483648 → d < n → (i +ℤ pos d) ≤ℤ pos 2147483648
    to_high i n d h lt = omega (arith, ints, clamps)

    pos_high : (i : ℤ) (n d : ℕ) → negsuc 2147483647 ≤ℤ i → (i +ℤ pos n) ≤ℤ pos 2147483648 → d < n → FitsSigned w64 (pos d)
    pos_high i n d l h lt = omega (arith, ints, clamps)

-- one piece more
pub piece_more : (r : Run) (k : ℕ) (old mid new : List Piece) → mid ≡ old ++ map as_piece (map (piece r) (range_with_len 0 k)) → new ≡ mid ++ as_piece (piece r k) ∷ []
    → new ≡ old ++ map as_piece (map (piece r) (range_with_len 0 (k + 1)))
piece_more r k old mid new before this =
    this ∙ (ap (λ ps. ps ++ as_piece (piece r k) ∷ []) before
    ∙ (append_assoc old (map as_piece (map (piece r) (range_with_len 0 k))) (as_piece (piece r k) ∷ [])
    ∙ ap (λ ps. old ++ ps) (sym (ap (map as_piece) (map-range_with_len_more (piece r) 0 k k (omega arith)) ∙ map-append as_piece (map (piece r) (range_with_len 0 k)) (piece r k ∷ [])))))

-- ---- runs

-- a range's length is how far its end lies behind its beginning
far : (lo hi : ℤ) → lo ≤ℤ hi → pos (span_len lo hi) ≡ hi -ℤ lo
far lo hi h = omega (arith, ints, clamps)

added : (n a b c : ℕ) (i s e q : ℤ) → pos n ≡ q -ℤ i → pos a ≡ s -ℤ i → pos b ≡ e -ℤ s → pos c ≡ q -ℤ e → n ≡ a + (b + c)
added n a b c i s e q w x y z = omega (arith, ints)

none_left : (i q : ℤ) → i ≤ℤ q → q ≤ℤ i → span_len i q ≡ 0
none_left i q a b = omega (arith, ints, clamps)

pub record IsTurn (i s e q : ℤ) (p : ℤ → Bool) : Type 0 where
  pub first_from : i ≤ℤ s
  pub then_from : s ≤ℤ e
  pub to : e ≤ℤ q
  pub none : (m : ℤ) → i ≤ℤ m → m <ℤ s → p m ≡ false
  pub starts : s <ℤ q → p s ≡ true
  pub all : (m : ℤ) → s ≤ℤ m → m <ℤ e → p m ≡ true
  pub ends : e <ℤ q → p e ≡ false

pub run_turn : (f : Run → List Run) (p : ℤ → Bool) (i s e q : ℤ) → IsTurn i s e q p → ((z : ℤ) → f (run z 0) ≡ [])
    → flat_map f (runs (filter p (numbers_from i (span_len i q)))) ≡ f (run s (span_len s e)) ++ flat_map f (runs (filter p (numbers_from e (span_len e q))))
run_turn f p i s e q t nothing =
    let a = span_len i s in let k = span_len s e in let n = span_len e q in
    let whole : span_len i q ≡ a + (k + n) = spans i s e q t.first_from t.then_from t.to in
    let s_is : i +ℤ pos a ≡ s = behind i s t.first_from in
    let e_is : s +ℤ pos k ≡ e = behind s e t.then_from in
    let turned = one_turn p i a k n (λ m low high. t.none m low (subst (λ z. m <ℤ z) s_is high))
    (λ m low high. t.all m (subst (λ z. z ≤ℤ m) s_is low) (subst (λ z. m <ℤ z) (ap (λ z. z +ℤ pos k) s_is ∙ e_is) high))
    (elim (ended e q t.to) [ inl none ↦ inl none | inr lt ↦ inr (ap p (ap (λ z. z +ℤ pos k) s_is ∙ e_is) ∙ t.ends lt) ]) in
    ap (λ m. flat_map f (runs (filter p (numbers_from i m)))) whole
    ∙ (ap (flat_map f) turned
    ∙ (ap (λ z. flat_map f (if_some z k ++ runs (filter p (numbers_from (z +ℤ pos k) n)))) s_is
    ∙ (ap (λ z. flat_map f (if_some s k ++ runs (filter p (numbers_from z n)))) e_is
    ∙ by k)))
  where
    spans : (i s e q : ℤ) → i ≤ℤ s → s ≤ℤ e → e ≤ℤ q → span_len i q ≡ span_len i s + (span_len s e + span_len e q)
    spans i s e q a b c =
        added (span_len i q) (span_len i s) (span_len s e) (span_len e q) i s e q (far i q (le_trans i s q a (le_trans s e q b c))) (far i s a) (far s e b) (far e q c)

    behind : (i s : ℤ) → i ≤ℤ s → i +ℤ pos (span_len i s) ≡ s
    behind i s h = omega (arith, ints, clamps)

    ended : (e q : ℤ) → e ≤ℤ q → (span_len e q ≡ 0) ⊎ (e <ℤ q)
    ended e q h = by_lt_z e q (λ lt. inr lt) (λ over. inl (none_left e q h over))

    by : (k : ℕ) → flat_map f (if_some s k ++ runs (filter p (numbers_from e (span_len e q)))) ≡ f (run s k) ++ flat_map f (runs (filter p (numbers_from e (span_len e q))))
    by zero = sym (ap (λ t. t ++ flat_map f (runs (filter p (numbers_from e (span_len e q))))) (nothing s))
    by (suc k) = refl

-- the row with one run more
pub row_more : (p : ℤ → Bool) (i s e q : ℤ) (old new whole : List Piece) → IsTurn i s e q p
    → new ≡ old ++ map as_piece (pieces (run s (span_len s e)))
    → old ++ map as_piece (flat_map pieces (runs (filter p (numbers_from i (span_len i q))))) ≡ whole
    → new ++ map as_piece (flat_map pieces (runs (filter p (numbers_from e (span_len e q))))) ≡ whole
row_more p i s e q old new whole t new_is before =
    ap (λ u. u ++ map as_piece (flat_map pieces (runs (filter p (numbers_from e (span_len e q)))))) new_is
    ∙ (append_assoc old (map as_piece (pieces (run s (span_len s e)))) (map as_piece (flat_map pieces (runs (filter p (numbers_from e (span_len e q))))))
    ∙ (ap (λ u. old ++ u) (sym (ap (map as_piece) (run_turn pieces p i s e q t (λ z. refl))
    ∙ map-append as_piece (pieces (run s (span_len s e))) (flat_map pieces (runs (filter p (numbers_from e (span_len e q)))))))
    ∙ before))

-- nothing is left at the row's end
pub row_done : (p : ℤ → Bool) (i q : ℤ) (list whole : List Piece) → i ≤ℤ q → q ≤ℤ i
    → list ++ map as_piece (flat_map pieces (runs (filter p (numbers_from i (span_len i q))))) ≡ whole → list ≡ whole
row_done p i q list whole to over is =
    sym (ap (λ n. list ++ map as_piece (flat_map pieces (runs (filter p (numbers_from i n))))) (none_left i q to over) ∙ append-nil list) ∙ is

-- ---- rows

numbers_more : (z : ℤ) (n : ℕ) → numbers_from z (n + 1) ≡ numbers_from z n ++ (z +ℤ pos n) ∷ []
numbers_more z zero = let e : z +ℤ pos zero ≡ z = omega (arith, ints, clamps) in rw e refl
numbers_more z (suc n) =
    let e : suc n + 1 ≡ suc (n + 1) = omega arith in
    let g : (z +ℤ pos 1) +ℤ pos n ≡ z +ℤ pos (suc n) = omega (arith, ints, clamps) in
    rw e (ap (λ t. z ∷ t) (numbers_more (z +ℤ pos 1) n ∙ ap (λ y. numbers_from (z +ℤ pos 1) n ++ y ∷ []) g))

pub rows_begin : (f : ℤ → List Rec) (z : ℤ) (text : List ℕ) → text ≡ text ++ flat_map spelling (flat_map f (numbers_from z (span_len z z)))
rows_begin f z text = let e : span_len z z ≡ 0 = omega (arith, ints, clamps) in rw e (sym (append-nil text))

pub rows_more : (f : ℤ → List Rec) (z j : ℤ) (old mid new : List ℕ) → z ≤ℤ j → mid ≡ old ++ flat_map spelling (flat_map f (numbers_from z (span_len z j)))
    → new ≡ mid ++ flat_map spelling (f j) → new ≡ old ++ flat_map spelling (flat_map f (numbers_from z (span_len z (j +ℤ pos 1))))
rows_more f z j old mid new from before this =
    let e : span_len z (j +ℤ pos 1) ≡ span_len z j + 1 = omega (arith, ints, clamps) in
    let g : z +ℤ pos (span_len z j) ≡ j = omega (arith, ints, clamps) in
    then old mid new (flat_map f (numbers_from z (span_len z j))) (f j) before this
    ∙ ap (λ rs. old ++ flat_map spelling rs) (sym (ap (λ n. flat_map f (numbers_from z n)) e ∙ (ap (flat_map f) (numbers_more z (span_len z j))
    ∙ (flat_map-append f (numbers_from z (span_len z j)) ((z +ℤ pos (span_len z j)) ∷ [])
    ∙ (ap (λ y. flat_map f (numbers_from z (span_len z j)) ++ flat_map f (y ∷ [])) g ∙ ap (λ rs. flat_map f (numbers_from z (span_len z j)) ++ rs) (append-nil (f j)))))))

pub rows_done : (f : ℤ → List Rec) (z j q : ℤ) (old text : List ℕ) → j ≤ℤ q → q ≤ℤ j → text ≡ old ++ flat_map spelling (flat_map f (numbers_from z (span_len z j)))
    → text ≡ old ++ flat_map spelling (flat_map f (numbers_from z (span_len z q)))
rows_done f z j q old text to over is = subst (λ y. text ≡ old ++ flat_map spelling (flat_map f (numbers_from z (span_len z y)))) (same j q to over) is
  where
    same : (j q : ℤ) → j ≤ℤ q → q ≤ℤ j → j ≡ q
    same j q a b = omega (arith, ints, clamps)

-- ---- a run's length

pub record IsLength (s e : ℤ) : Type 0 where
  pub start : read s ≡ s
  pub end : read e ≡ e
  pub fits : FitsSigned w64 (e -ℤ s)
  pub difference : read (e -ℤ s) ≡ pos (span_len s e)
  pub small : Fits w32 (span_len s e)
  pub behind : s +ℤ pos (span_len s e) ≡ e
  pub low : negsuc 2147483647 ≤ℤ s
  pub high : (s +ℤ pos (span_len s e)) ≤ℤ pos 2147483648

pub length_of : (f q s e : ℤ) → negsuc 2147483647 ≤ℤ f → q ≤ℤ pos 2147483648 → span_len f q ≤ 2147483648 → f ≤ℤ s → s ≤ℤ e → e ≤ℤ q → IsLength s e
length_of f q s e low high few fs se eq = record {
  start = number_read s (omega (arith, ints, clamps)) (omega (arith, ints, clamps));
  end = number_read e (omega (arith, ints, clamps)) (omega (arith, ints, clamps));
  fits = omega (arith, ints, clamps);
  difference = read_is (e -ℤ s) (omega (arith, ints, clamps)) ∙ omega (arith, ints, clamps);
  small = omega (arith, ints, clamps);
  behind = omega (arith, ints, clamps);
  low = omega (arith, ints, clamps);
  high = omega (arith, ints, clamps);
}

-- ---- what the search for a run has found

pub record Turned (r : Lattice) (filled : ℤ → ℤ → Bool) (j i s e : ℤ) : Type 0 where
  pub turn : IsTurn i s e (past r.across) (λ k. filled k j)
  pub on : i <ℤ e
  pub low : first r.across ≤ℤ s
  pub length : IsLength s e

pub turn_of : (r : Lattice) (filled : ℤ → ℤ → Bool) (j i s e : ℤ) → IsLattice r → i <ℤ past r.across → first r.across ≤ℤ i
    → IsNext r filled i j true s → IsNext r filled s j false e → Turned r filled j i s e
turn_of r filled j i s e is lt low start end =
    let s_low = chain (first r.across) i s low start.from in
    record {
      turn = record {
        first_from = start.from;
        then_from = end.from;
        to = end.to;
        none = start.between;
        starts = start.found;
        all = end.between;
        ends = end.found;
      };
      on = elim (cases s (past r.across)) [
        | inl under ↦ elim (cases s e) [
          | inl before ↦ further i s e start.from before
          | inr over ↦ absurd (never (filled s j) (start.found under) (ap (λ z. filled z j) (same s e end.from over) ∙ end.found (below s e (past r.across) over under)))
        ]
        | inr over ↦ last i s e (past r.across) lt over end.from
      ];
      low = s_low;
      length = length_of (first r.across) (past r.across) s e (first_bounded r.across is.across).least (past_bounded r.across is.across).most (extent_bounded r.across is.across) s_low end.from end.to;
    }
  where
    chain : (a b c : ℤ) → a ≤ℤ b → b ≤ℤ c → a ≤ℤ c
    chain a b c h g = omega (arith, ints, clamps)

    cases : (a b : ℤ) → (a <ℤ b) ⊎ (b ≤ℤ a)
    cases a b = grind (arith, ints)

    further : (i s e : ℤ) → i ≤ℤ s → s <ℤ e → i <ℤ e
    further i s e h g = omega (arith, ints, clamps)

    same : (s e : ℤ) → s ≤ℤ e → e ≤ℤ s → s ≡ e
    same s e h g = omega (arith, ints, clamps)

    below : (s e p : ℤ) → e ≤ℤ s → s <ℤ p → e <ℤ p
    below s e p h g = omega (arith, ints, clamps)

    last : (i s e p : ℤ) → i <ℤ p → p ≤ℤ s → s ≤ℤ e → i <ℤ e
    last i s e p h g k = omega (arith, ints, clamps)

    never : (b : Bool) → b ≡ true → b ≡ false → ⊥
    never b h g = let e : true ≡ false = sym h ∙ g in cc e

pub next_to : (j q : ℤ) → j <ℤ q → (j +ℤ pos 1) ≤ℤ q
next_to j q lt = omega (arith, ints, clamps)
