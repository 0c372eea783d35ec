-- Rows of pieces with their heights and levels, row by row and piece by piece.
use Rattle.std.proofs.Common.{◌≡◌, refl, ap, sym, subst, ◌∙◌, ℕ, zero, suc, ◌+◌, ◌-◌, ◌<◌, ◌≤◌, ℤ, pos, negsuc, ◌+ℤ◌, ◌-ℤ◌, ◌≤ℤ◌, ◌<ℤ◌, arith, Bool, true, false, List, [], ◌∷◌, ◌++◌, length, map, take, drop, get_or}
use Rattle.std.specs.Prelude.{◌==◌, if◌then◌else◌, int_lt, int_le, filter}
use Rattle.std.specs.List.{flat_map, AllByRecursion}
use Rattle.std.proofs.lemmas.Bool.{eq-eqb, ne_eqb}
use Rattle.std.proofs.lemmas.Int.{ints, clamps}
use Rattle.std.proofs.lemmas.Grind.{flat_map-append}
use Rattle.std.proofs.lemmas.List.{append-nil, length-append, length-map}
use Rattle.std.proofs.lemmas.Simd.{map-map}
use Rattle.fill_base.specs.Counts.{span_len}
use Rattle.fill_base.proofs.Signed.{read}
use Rattle.fill_raster.specs.Axes.{first, past}
use Rattle.fill_raster.specs.Lattice.{Lattice}
use Rattle.fill_stacks.specs.Counting.{as_piece, counted, counted_row, found, heights_at, levels_at, next_height, next_level, rows_above, rows_below}
use Rattle.fill_stacks.specs.Places.{PlaceSet, row_pieces}
use Rattle.fill_stacks.specs.Runs.{Run}
use Rattle.fill_stacks.specs.Stacks.{begins, row_stacks, stack_at}
use Rattle.fill_stacks.specs.declared.pieces.Counted.{Counted}
use Rattle.fill_stacks.specs.declared.pieces.Piece.{Piece}
use Rattle.fill_stacks.specs.declared.pieces.Stack.{Stack}
use Rattle.fill_stacks.proofs.Bounds.{bounds}
use Rattle.fill_stacks.proofs.Folds.{heights_row, levels_row}
use Rattle.fill_stacks.proofs.Lists.{all_filter, one_all}
use Rattle.gds_record.specs.Records.{Rec, spelling}
use Rattle.gds_out.specs.steps.Ranges.{IsStackOf}
use Rattle.gds_out.specs.steps.Rows.{AreBegun, begun, counts, heights_down, row_heights, stack_of}
use Rattle.gds_out.proofs.Appending.{then}
use Rattle.gds_out.proofs.ByStacks.{part_of}
use Rattle.gds_out.proofs.RowTurns.{number_read}

-- ---- heights, from the highest row down

pub below_read : (f j p : ℤ) → negsuc 2147483647 ≤ℤ f → p ≤ℤ pos 2147483648 → f <ℤ j → j ≤ℤ p → read (j -ℤ pos 1) ≡ j -ℤ pos 1
below_read f j p low high lt le = number_read (j -ℤ pos 1) (omega (arith, ints, clamps)) (omega (arith, ints, clamps))

pub from_below : (f j : ℤ) → f <ℤ j → f ≤ℤ (j -ℤ pos 1)
from_below f j lt = omega (arith, ints, clamps)

pub under_past : (j p : ℤ) → j ≤ℤ p → (j -ℤ pos 1) <ℤ p
under_past j p le = omega (arith, ints, clamps)

pub to_past : (j p : ℤ) → j ≤ℤ p → (j -ℤ pos 1) ≤ℤ p
to_past j p le = omega (arith, ints, clamps)

pub one_less : (f j : ℤ) → f <ℤ j → span_len f (j -ℤ pos 1) < span_len f j
one_less f j lt = omega (arith, ints, clamps)

pub no_heights : (filled : PlaceSet) (r : Lattice) → [] ≡ heights_at filled r (past r.up)
no_heights filled r = by (int_lt (past r.up) (past r.up)) (never (past r.up))
  where
    never : (p : ℤ) → int_lt p p ≡ false
    never p = grind (arith, ints)

    by : (b : Bool) → b ≡ false → [] ≡ (if b then counted_row (rows_above filled r (past r.up)) (row_pieces filled r (past r.up)) else [])
    by b h = rw h refl

pub none_down : (filled : PlaceSet) (r : Lattice) (j : ℤ) → [] ≡ heights_down filled r j (span_len j j)
none_down filled r j = let e : span_len j j ≡ 0 = omega (arith, ints, clamps) in rw e refl

-- the heights of the row below
pub heights_next : (filled : PlaceSet) (r : Lattice) (j : ℤ) (above new : List Counted) (row : List Piece) → j ≤ℤ past r.up → above ≡ heights_at filled r j
    → row ≡ map as_piece (row_pieces filled r (j -ℤ pos 1)) → new ≡ map (λ p. counted p (next_height (found above p))) row → new ≡ heights_at filled r (j -ℤ pos 1)
heights_next filled r j above new row le above_is row_is new_is =
    let e : j ≡ (j -ℤ pos 1) +ℤ pos 1 = omega (arith, ints, clamps) in
    new_is ∙ (ap (λ (cs : List Counted). map (λ p. counted p (next_height (found cs p))) row) (above_is ∙ ap (heights_at filled r) e)
    ∙ (ap (λ (ps : List Piece). map (λ p. counted p (next_height (found (heights_at filled r ((j -ℤ pos 1) +ℤ pos 1)) p))) ps) row_is
    ∙ heights_row filled r (j -ℤ pos 1) (under_past j (past r.up) le)))

counts_are : (filled : PlaceSet) (r : Lattice) (j : ℤ) → j <ℤ past r.up → counts (heights_at filled r j) ≡ row_heights filled r j
counts_are filled r j lt = by (int_lt j (past r.up)) (is_lt j (past r.up) lt)
  where
    is_lt : (x y : ℤ) → x <ℤ y → int_lt x y ≡ true
    is_lt x y h = grind (arith, ints)

    by : (b : Bool) → b ≡ true → counts (if b then counted_row (rows_above filled r j) (row_pieces filled r j) else []) ≡ row_heights filled r j
    by b h = rw h (map-map (λ (c : Counted). c.rows) (λ p. counted (as_piece p) (rows_above filled r j p)) (row_pieces filled r j))

pub heights_more : (filled : PlaceSet) (r : Lattice) (j : ℤ) → j <ℤ past r.up → heights_down filled r j (span_len j (past r.up)) ≡ heights_down filled r (j +ℤ pos 1) (span_len (j +ℤ pos 1) (past r.up)) ++ row_heights filled r j
heights_more filled r j lt = let e : span_len j (past r.up) ≡ suc (span_len (j +ℤ pos 1) (past r.up)) = more j (past r.up) lt in rw e refl
  where
    more : (j p : ℤ) → j <ℤ p → span_len j p ≡ suc (span_len (j +ℤ pos 1) p)
    more j p lt = omega (arith, ints, clamps)

pub down_next : (filled : PlaceSet) (r : Lattice) (j : ℤ) (list new : List ℕ) (cs : List Counted) → j ≤ℤ past r.up → list ≡ heights_down filled r j (span_len j (past r.up))
    → cs ≡ heights_at filled r (j -ℤ pos 1) → new ≡ list ++ counts cs → new ≡ heights_down filled r (j -ℤ pos 1) (span_len (j -ℤ pos 1) (past r.up))
down_next filled r j list new cs le list_is cs_is new_is =
    let e : j ≡ (j -ℤ pos 1) +ℤ pos 1 = omega (arith, ints, clamps) in
    new_is ∙ (ap (λ ns. ns ++ counts cs) (list_is ∙ ap (λ z. heights_down filled r z (span_len z (past r.up))) e)
    ∙ (ap (λ ns. heights_down filled r ((j -ℤ pos 1) +ℤ pos 1) (span_len ((j -ℤ pos 1) +ℤ pos 1) (past r.up)) ++ ns) (ap counts cs_is ∙ counts_are filled r (j -ℤ pos 1) (under_past j (past r.up) le))
    ∙ sym (heights_more filled r (j -ℤ pos 1) (under_past j (past r.up) le))))

pub down_done : (filled : PlaceSet) (r : Lattice) (f j p : ℤ) (list : List ℕ) → f ≤ℤ j → j ≤ℤ f → list ≡ heights_down filled r j (span_len j p) → list ≡ heights_down filled r f (span_len f p)
down_done filled r f j p list le over is = subst (λ z. list ≡ heights_down filled r z (span_len z p)) (same f j le over) is
  where
    same : (f j : ℤ) → f ≤ℤ j → j ≤ℤ f → j ≡ f
    same f j le over = omega (arith, ints, clamps)

-- ---- the stacks that begin in a row, piece by piece

begun_more : (j : ℤ) (cs : List Counted) (hs : List ℕ) (k : ℕ) (d : Counted) (e : ℕ) → k < length cs → k < length hs
    → begun j (take (suc k) cs) (take (suc k) hs) ≡ begun j (take k cs) (take k hs) ++ begun j (get_or cs k d ∷ []) (get_or hs k e ∷ [])
begun_more j [] hs k d e lt below = absurd (omega (arith, lt))
begun_more j (c ∷ cs) [] k d e lt below = absurd (omega (arith, below))
begun_more j (c ∷ cs) (h ∷ hs) zero d e lt below = refl
begun_more j (c ∷ cs) (h ∷ hs) (suc k) d e lt below = by (c.rows == 0) (begun_more j cs hs k d e (omega (arith, lt)) (omega (arith, below)))
  where
    more : List Stack
    more = begun j (get_or cs k d ∷ []) (get_or hs k e ∷ [])

    by : (b : Bool) → begun j (take (suc k) cs) (take (suc k) hs) ≡ begun j (take k cs) (take k hs) ++ begun j (get_or cs k d ∷ []) (get_or hs k e ∷ [])
        → (if b then stack_of j c h ∷ begun j (take (suc k) cs) (take (suc k) hs) else begun j (take (suc k) cs) (take (suc k) hs))
        ≡ (if b then stack_of j c h ∷ begun j (take k cs) (take k hs) else begun j (take k cs) (take k hs)) ++ begun j (get_or cs k d ∷ []) (get_or hs k e ∷ [])
    by true later = ap (λ ss. stack_of j c h ∷ ss) later
    by false later = later

module _ (f : Stack → List Rec) (j : ℤ) (cs : List Counted) (hs : List ℕ) (k : ℕ) (d : Counted) (e : ℕ) (lt : k < length cs) (below : k < length hs) where
  next : k + 1 ≡ suc k
  next = omega arith

  -- the piece begins a stack
  pub begun_one : (old mid new : List ℕ) → mid ≡ old ++ flat_map spelling (flat_map f (begun j (take k cs) (take k hs))) → (get_or cs k d).rows ≡ 0
      → new ≡ mid ++ flat_map spelling (f (stack_of j (get_or cs k d) (get_or hs k e))) → new ≡ old ++ flat_map spelling (flat_map f (begun j (take (k + 1) cs) (take (k + 1) hs)))
  begun_one old mid new before none this =
      let one : begun j (get_or cs k d ∷ []) (get_or hs k e ∷ []) ≡ stack_of j (get_or cs k d) (get_or hs k e) ∷ [] = rw none refl in
      (then) old mid new (flat_map f (begun j (take k cs) (take k hs))) (f (stack_of j (get_or cs k d) (get_or hs k e))) before this
      ∙ ap (λ rs. old ++ flat_map spelling rs) (sym (ap (λ n. flat_map f (begun j (take n cs) (take n hs))) next
      ∙ (ap (flat_map f) (begun_more j cs hs k d e lt below ∙ ap (λ ss. begun j (take k cs) (take k hs) ++ ss) one)
      ∙ (flat_map-append f (begun j (take k cs) (take k hs)) (stack_of j (get_or cs k d) (get_or hs k e) ∷ [])
      ∙ ap (λ rs. flat_map f (begun j (take k cs) (take k hs)) ++ rs) (append-nil (f (stack_of j (get_or cs k d) (get_or hs k e))))))))

  -- it doesn't
  pub begun_none : (old mid : List ℕ) → mid ≡ old ++ flat_map spelling (flat_map f (begun j (take k cs) (take k hs))) → ((get_or cs k d).rows ≡ 0 → ⊥)
      → mid ≡ old ++ flat_map spelling (flat_map f (begun j (take (k + 1) cs) (take (k + 1) hs)))
  begun_none old mid before some =
      let none : begun j (get_or cs k d ∷ []) (get_or hs k e ∷ []) ≡ [] = rw (ne_eqb (get_or cs k d).rows 0 some) refl in
      before ∙ ap (λ ss. old ++ flat_map spelling (flat_map f ss)) (sym (ap (λ n. begun j (take n cs) (take n hs)) next
      ∙ (begun_more j cs hs k d e lt below ∙ (ap (λ ss. begun j (take k cs) (take k hs) ++ ss) none ∙ append-nil (begun j (take k cs) (take k hs))))))

take_all : {X : Type 0} (xs : List X) (n : ℕ) → length xs ≤ n → take n xs ≡ xs
take_all [] zero le = refl
take_all [] (suc n) le = refl
take_all (x ∷ xs) zero le = absurd (omega (arith, le))
take_all (x ∷ xs) (suc n) le = ap (λ ys. x ∷ ys) (take_all xs n (omega (arith, le)))

pub begun_all : (f : Stack → List Rec) (j : ℤ) (cs : List Counted) (hs : List ℕ) (k : ℕ) (old text : List ℕ) → length cs ≡ length hs → length cs ≤ k
    → text ≡ old ++ flat_map spelling (flat_map f (begun j (take k cs) (take k hs))) → text ≡ old ++ flat_map spelling (flat_map f (begun j cs hs))
begun_all f j cs hs k old text same over is = let a = take_all cs k over in let b = take_all hs k (omega (arith, same, over)) in rw (a, b) at is

-- what holds of each such stack, by its index
pub begun_each : (P : Stack → Type 0) (j : ℤ) (cs : List Counted) (hs : List ℕ) (k : ℕ) (d : Counted) (e : ℕ) → AllByRecursion P (begun j cs hs) → k < length cs → k < length hs
    → (get_or cs k d).rows ≡ 0 → P (stack_of j (get_or cs k d) (get_or hs k e))
begun_each P j [] hs k d e all lt below none = absurd (omega (arith, lt))
begun_each P j (c ∷ cs) [] k d e all lt below none = absurd (omega (arith, below))
begun_each P j (c ∷ cs) (h ∷ hs) zero d e all lt below none = by (c.rows == 0) (eq-eqb c.rows 0 none) all
  where
    by : (b : Bool) → b ≡ true → AllByRecursion P (if b then stack_of j c h ∷ begun j cs hs else begun j cs hs) → P (stack_of j c h)
    by true h all = all.0
    by false h all = absurd (let e : false ≡ true = h in cc e)
begun_each P j (c ∷ cs) (h ∷ hs) (suc k) d e all lt below none =
    by (c.rows == 0) all (λ rest. begun_each P j cs hs k d e rest (omega (arith, lt)) (omega (arith, below)) none)
  where
    by : (b : Bool) → AllByRecursion P (if b then stack_of j c h ∷ begun j cs hs else begun j cs hs) → (AllByRecursion P (begun j cs hs) → P (stack_of j (get_or cs k d) (get_or hs k e))) → P (stack_of j (get_or cs k d) (get_or hs k e))
    by true all later = later all.1
    by false all later = later all

-- the column of such a stack is read as it is
pub column_read : (r : Lattice) (s : Stack) → negsuc 2147483647 ≤ℤ first r.across → past r.across ≤ℤ pos 2147483648 → IsStackOf r s → read s.column ≡ s.column
column_read r s low high is = number_read s.column (chain _ _ _ low is.left) (within s.column s.columns (past r.across) is.right high)
  where
    chain : (a b c : ℤ) → a ≤ℤ b → b ≤ℤ c → a ≤ℤ c
    chain a b c h k = omega (arith, ints, clamps)

    within : (i : ℤ) (n : ℕ) (p : ℤ) → (i +ℤ pos n) ≤ℤ p → p ≤ℤ pos 2147483648 → i ≤ℤ pos 2147483648
    within i n p h k = omega (arith, ints, clamps)

-- ---- levels, from the lowest row up

pub no_levels : (filled : PlaceSet) (r : Lattice) → [] ≡ levels_at filled r (first r.up -ℤ pos 1)
no_levels filled r = by (int_le (first r.up) (first r.up -ℤ pos 1)) (never (first r.up))
  where
    never : (p : ℤ) → int_le p (p -ℤ pos 1) ≡ false
    never p = grind (arith, ints)

    by : (b : Bool) → b ≡ false → [] ≡ (if b then counted_row (rows_below filled r (first r.up -ℤ pos 1)) (row_pieces filled r (first r.up -ℤ pos 1)) else [])
    by b h = rw h refl

levels_are : (filled : PlaceSet) (r : Lattice) (j : ℤ) → first r.up ≤ℤ j → levels_at filled r j ≡ counted_row (rows_below filled r j) (row_pieces filled r j)
levels_are filled r j le = by (int_le (first r.up) j) (is_le (first r.up) j le)
  where
    is_le : (x y : ℤ) → x ≤ℤ y → int_le x y ≡ true
    is_le x y h = grind (arith, ints)

    by : (b : Bool) → b ≡ true → (if b then counted_row (rows_below filled r j) (row_pieces filled r j) else []) ≡ counted_row (rows_below filled r j) (row_pieces filled r j)
    by b h = rw h refl

-- the levels of the next row
pub levels_next : (filled : PlaceSet) (r : Lattice) (j : ℤ) (below new : List Counted) (row : List Piece) → first r.up ≤ℤ j → below ≡ levels_at filled r (j -ℤ pos 1)
    → row ≡ map as_piece (row_pieces filled r j) → new ≡ map (λ p. counted p (next_level (found below p))) row → new ≡ levels_at filled r j
levels_next filled r j below new row le below_is row_is new_is =
    new_is ∙ (ap (λ (cs : List Counted). map (λ p. counted p (next_level (found cs p))) row) below_is
    ∙ (ap (λ (ps : List Piece). map (λ p. counted p (next_level (found (levels_at filled r (j -ℤ pos 1)) p))) ps) row_is ∙ levels_row filled r j le))

-- the stacks of a row by its levels and heights are those that begin in it
begun_is : (filled : PlaceSet) (r : Lattice) (j : ℤ) (ps : List Run) → begun j (counted_row (rows_below filled r j) ps) (map (rows_above filled r j) ps) ≡ map (stack_at filled r j) (filter (begins filled r j) ps)
begun_is filled r j [] = refl
begun_is filled r j (p ∷ ps) = by (begins filled r j p) (begun_is filled r j ps)
  where
    by : (b : Bool) → begun j (counted_row (rows_below filled r j) ps) (map (rows_above filled r j) ps) ≡ map (stack_at filled r j) (filter (begins filled r j) ps)
        → (if b then stack_at filled r j p ∷ begun j (counted_row (rows_below filled r j) ps) (map (rows_above filled r j) ps) else begun j (counted_row (rows_below filled r j) ps) (map (rows_above filled r j) ps))
        ≡ map (stack_at filled r j) (if b then p ∷ filter (begins filled r j) ps else filter (begins filled r j) ps)
    by true later = ap (λ ss. stack_at filled r j p ∷ ss) later
    by false later = later

all_map : {X Y : Type 0} (P : Y → Type 0) (f : X → Y) (xs : List X) → AllByRecursion (λ x. P (f x)) xs → AllByRecursion P (map f xs)
all_map P f [] all = tt
all_map P f (x ∷ xs) all = (all.0, all_map P f xs all.1)

row_on : (filled : PlaceSet) (r : Lattice) (j : ℤ) → first r.up ≤ℤ j → j <ℤ past r.up → AllByRecursion (IsStackOf r) (row_stacks filled r j)
row_on filled r j low high =
    all_map (IsStackOf r) (stack_at filled r j) (filter (begins filled r j) (row_pieces filled r j))
    (all_filter (λ p. IsStackOf r (stack_at filled r j p)) (begins filled r j) (row_pieces filled r j)
    (one_all (λ p. IsStackOf r (stack_at filled r j p)) (row_pieces filled r j) (λ p is. part_of filled r (stack_at filled r j p) (bounds filled r j p low high is))))

taken : (xs ys : List ℕ) → take (length xs) (xs ++ ys) ≡ xs
taken [] ys = refl
taken (x ∷ xs) ys = ap (λ zs. x ∷ zs) (taken xs ys)

dropped : (xs ys : List ℕ) → drop (length xs) (xs ++ ys) ≡ ys
dropped [] ys = refl
dropped (x ∷ xs) ys = dropped xs ys

-- what is left from an index on, as a slice has it
short : {X : Type 0} (n : ℕ) (xs : List X) → length (drop n xs) ≤ length xs - n
short zero xs = omega arith
short (suc n) [] = omega arith
short (suc n) (x ∷ xs) = let later = short n xs in omega (arith, later)

pub from_index : (r : Lattice) (j : ℤ) (cs levels : List Counted) (hs left : List ℕ) (n : ℕ) → cs ≡ levels → hs ≡ left → AreBegun r j levels (drop n left)
    → AreBegun r j cs (take (length hs - n) (drop n hs))
from_index r j cs levels hs left n cs_is hs_is are = let all = take_all (drop n left) (length left - n) (short n left) in rw (cs_is, hs_is, all) are

pub begun_from : (j : ℤ) (cs levels : List Counted) (hs left : List ℕ) (n : ℕ) (ss : List Stack) → cs ≡ levels → hs ≡ left → begun j levels (drop n left) ≡ ss
    → begun j cs (take (length hs - n) (drop n hs)) ≡ ss
begun_from j cs levels hs left n ss cs_is hs_is is = let all = take_all (drop n left) (length left - n) (short n left) in rw (cs_is, hs_is, all) is

-- row `j` by its levels, and by its heights, which stand at the end of those that are left
pub record IsRow (filled : PlaceSet) (r : Lattice) (j : ℤ) (levels : List Counted) (left : List ℕ) (others : ℕ) : Type 0 where
  pub are : AreBegun r j levels (drop others left)
  pub stacks : begun j levels (drop others left) ≡ row_stacks filled r j
  pub rest : take others left ≡ heights_down filled r (j +ℤ pos 1) (span_len (j +ℤ pos 1) (past r.up))

pub enough : (filled : PlaceSet) (r : Lattice) (j : ℤ) (levels : List Counted) (left : List ℕ) → first r.up ≤ℤ j → j <ℤ past r.up → levels ≡ levels_at filled r j
    → left ≡ heights_down filled r j (span_len j (past r.up)) → length left ≡ length (heights_down filled r (j +ℤ pos 1) (span_len (j +ℤ pos 1) (past r.up))) + length levels
enough filled r j levels left low high levels_is left_is =
    ap length (left_is ∙ heights_more filled r j high)
    ∙ (length-append (heights_down filled r (j +ℤ pos 1) (span_len (j +ℤ pos 1) (past r.up))) (row_heights filled r j)
    ∙ ap (λ n. length (heights_down filled r (j +ℤ pos 1) (span_len (j +ℤ pos 1) (past r.up))) + n)
    (length-map (row_pieces filled r j) (rows_above filled r j) ∙ sym (ap length (levels_is ∙ levels_are filled r j low) ∙ length-map (row_pieces filled r j) (λ p. counted (as_piece p) (rows_below filled r j p)))))

pub row_of : (filled : PlaceSet) (r : Lattice) (j : ℤ) (levels : List Counted) (left : List ℕ) (others : ℕ) → first r.up ≤ℤ j → j <ℤ past r.up → levels ≡ levels_at filled r j
    → left ≡ heights_down filled r j (span_len j (past r.up)) → others + length levels ≡ length left → IsRow filled r j levels left others
row_of filled r j levels left others low high levels_is left_is sum =
    let up = heights_down filled r (j +ℤ pos 1) (span_len (j +ℤ pos 1) (past r.up)) in
    let long = enough filled r j levels left low high levels_is left_is in
    let n : others ≡ length up = omega (arith, sum, long) in
    let l : left ≡ up ++ row_heights filled r j = left_is ∙ heights_more filled r j high in
    let d : drop others left ≡ row_heights filled r j = ap (λ m. drop m left) n ∙ (ap (drop (length up)) l ∙ dropped up (row_heights filled r j)) in
    let v : levels ≡ counted_row (rows_below filled r j) (row_pieces filled r j) = levels_is ∙ levels_are filled r j low in
    let s : begun j levels (drop others left) ≡ row_stacks filled r j = ap (λ cs. begun j cs (drop others left)) v ∙ (ap (begun j (counted_row (rows_below filled r j) (row_pieces filled r j))) d ∙ begun_is filled r j (row_pieces filled r j)) in
    record {
      are = record {
        count = ap length v ∙ (length-map (row_pieces filled r j) (λ p. counted (as_piece p) (rows_below filled r j p)) ∙ (sym (length-map (row_pieces filled r j) (rows_above filled r j)) ∙ sym (ap length d)));
        each = subst (AllByRecursion (IsStackOf r)) (sym s) (row_on filled r j low high);
      };
      stacks = s;
      rest = ap (λ m. take m left) n ∙ (ap (take (length up)) l ∙ taken up (row_heights filled r j));
    }
