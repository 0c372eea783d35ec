-- Blocks and marks, as the code reckons them.
use Rattle.std.proofs.Common.{◌≡◌, ℕ, zero, ◌+◌, ◌*◌, ◌/◌, ◌%◌, ◌≤◌, ◌<◌, ℤ, pos, negsuc, ◌≤ℤ◌, ◌<ℤ◌, arith, ap, ◌∙◌, sym, refl, inl, inr, true, false, ◌&&◌, ◌||◌, ◌==◌, List, length, get_or, replicate, take, drop, ◌++◌, Fits, w32, w64, FitsSigned}
use Rattle.std.specs.Int.{div_ceil}
use Rattle.std.proofs.lemmas.Bool.{and_parts, cases_Bool, cases_lt, eq-eqb, eqb-true}
use Rattle.std.proofs.lemmas.Grind.{div_ceil_times}
use Rattle.std.proofs.lemmas.Int.{ints, clamps}
use Rattle.std.specs.Ordering.{int_eq}
use Rattle.std.proofs.Math.Seq.{take-append_seam}
use Rattle.std.proofs.lemmas.Bool.Decides.{Decides-int_eq}
use Rattle.std.proofs.lemmas.List.{length-replicate, get_or-replicate, get_or_past}
use Rattle.std.proofs.lemmas.Nat.Bits.{bit_at-zero}
use Rattle.std.proofs.lemmas.Nat.{mul-add-lt, same_from_place}
use Rattle.std.proofs.Math.Nat.{mul_comm}
use Rattle.fill_base.proofs.Distances.{distance, distance_is}
use Rattle.fill_base.specs.Counts.{span_len}
use Rattle.fill_base.proofs.Between.{is_between_bounds}
use Rattle.fill_base.proofs.Signed.{read, read_is, lt_le}
use Rattle.fill_base.proofs.Covering.{area_none, area_few}
use Rattle.fill_raster.specs.Marks.{IsBlock, in_block, block_len, index_in, is_marked, count_marked, AreMarks}
use Rattle.fill_raster.proofs.Points.{area_more, and_no, or_no, int_eq_yes}
use Rattle.fill_raster.proofs.Ranges.{both}
use Rattle.fill_raster.specs.Bits.{has_bit}
use Rattle.fill_raster.specs.declared.block.Block.{Block}

-- ---- blocks

pub record BlockRead (b : Block) : Type 0 where
  pub left_is : read b.left ≡ b.left
  pub bottom_is : read b.bottom ≡ b.bottom
  pub right_is : read b.right ≡ b.right
  pub top_is : read b.top ≡ b.top

number_read : (z : ℤ) → negsuc 2147483647 ≤ℤ z → z ≤ℤ pos 2147483648 → read z ≡ z
number_read z low high = read_is z (fits z low high)
  where
    fits : (z : ℤ) → negsuc 2147483647 ≤ℤ z → z ≤ℤ pos 2147483648 → FitsSigned w64 z
    fits z low high = omega (arith, ints, clamps)

pub block_read : (b : Block) → IsBlock b → BlockRead b
block_read b is = record {
  left_is = number_read b.left is.least_column (below b.left b.right is.columns is.most_column);
  bottom_is = number_read b.bottom is.least_row (below b.bottom b.top is.rows is.most_row);
  right_is = number_read b.right (above b.left b.right is.least_column is.columns) is.most_column;
  top_is = number_read b.top (above b.bottom b.top is.least_row is.rows) is.most_row;
}
  where
    below : (z y : ℤ) → z <ℤ y → y ≤ℤ pos 2147483648 → z ≤ℤ pos 2147483648
    below z y h k = omega (arith, ints, clamps)

    above : (z y : ℤ) → negsuc 2147483647 ≤ℤ z → z <ℤ y → negsuc 2147483647 ≤ℤ y
    above z y h k = omega (arith, ints, clamps)

-- a place of a block, and where it is there
pub record InBlock (b : Block) (i j : ℤ) : Type 0 where
  pub left : b.left ≤ℤ i
  pub right : i <ℤ b.right
  pub bottom : b.bottom ≤ℤ j
  pub top : j <ℤ b.top

pub place_in : (b : Block) (i j : ℤ) → in_block b i j ≡ true → InBlock b i j
place_in b i j h =
    let x = is_between_bounds b.left b.right i (and_parts _ _ h).0 in
    let y = is_between_bounds b.bottom b.top j (and_parts _ _ h).1 in
    record { left = x.0; right = x.1; bottom = y.0; top = y.1 }

apart : (lo hi z : ℤ) → lo ≤ℤ z → z <ℤ hi → span_len lo z < span_len lo hi
apart lo hi z low high = omega (arith, ints, clamps)

pub index_below : (b : Block) (i j : ℤ) → in_block b i j ≡ true → index_in b i j < block_len b
index_below b i j h =
    let p = place_in b i j h in
    let below = mul-add-lt (span_len b.bottom j) (span_len b.left b.right) (span_len b.left i) (span_len b.bottom b.top) (apart b.bottom b.top j p.bottom p.top) (apart b.left b.right i p.left p.right) in
    turned (span_len b.left b.right) (span_len b.bottom b.top) (index_in b i j) below
  where
    turned : (w h n : ℕ) → n < w * h → n < h * w
    turned w h n lt = let e = mul_comm w h in omega (arith, lt, e)

-- two places with one index are one
pub index_apart : (b : Block) (i j k l : ℤ) → in_block b i j ≡ true → in_block b k l ≡ true → index_in b i j ≡ index_in b k l → (i ≡ k) × (j ≡ l)
index_apart b i j k l h g e =
    let p = place_in b i j h in let q = place_in b k l g in
    let s = same_from_place (span_len b.bottom j) (span_len b.left i) (span_len b.bottom l) (span_len b.left k) (span_len b.left b.right) (apart b.left b.right i p.left p.right) (apart b.left b.right k q.left q.right) e in
    (same b.left i k p.left q.left s.1, same b.bottom j l p.bottom q.bottom s.0)
  where
    same : (lo x y : ℤ) → lo ≤ℤ x → lo ≤ℤ y → span_len lo x ≡ span_len lo y → x ≡ y
    same lo x y h g e = omega (arith, ints, clamps, e)

-- the rows below a place
pub rows_fit : (b : Block) (i j : ℤ) (row columns : ℕ) → IsBlock b → FitsSigned w64 j → in_block b i j ≡ true → row ≡ distance (read b.bottom) (read j) → columns ≡ distance (read b.left) (read b.right) → Fits w64 (row * columns)
rows_fit b i j row columns is j_fits h row_is columns_is =
    let r = block_read b is in
    let p = place_in b i j h in
    rw (row_is, columns_is, r.left_is, r.right_is, r.bottom_is, read_is j j_fits, distance_is b.bottom j p.bottom, distance_is b.left b.right (lt_le _ _ is.columns)) (part (span_len b.bottom j * span_len b.left b.right) (span_len b.left i) (block_len b) (index_below b i j h) is.few)
  where
    part : (m n t : ℕ) → m + n < t → t ≤ 16777216 → Fits w64 m
    part m n t lt few = omega (arith, lt, few)

pub record IndexReckoned (b : Block) (i j : ℤ) (row columns column : ℕ) : Type 0 where
  pub fits : Fits w64 (row * columns + column)
  pub index : row * columns + column ≡ index_in b i j
  pub below : row * columns + column < block_len b

pub index_reckoned : (b : Block) (i j : ℤ) (row columns column : ℕ) → IsBlock b → FitsSigned w64 i → FitsSigned w64 j → in_block b i j ≡ true
    → row ≡ distance (read b.bottom) (read j) → columns ≡ distance (read b.left) (read b.right) → column ≡ distance (read b.left) (read i) → IndexReckoned b i j row columns column
index_reckoned b i j row columns column is i_fits j_fits h row_is columns_is column_is =
    let r = block_read b is in
    let p = place_in b i j h in
    let e : row * columns + column ≡ index_in b i j =
    rw (row_is, columns_is, column_is, r.left_is, r.right_is, r.bottom_is, read_is i i_fits, read_is j j_fits, distance_is b.bottom j p.bottom, distance_is b.left b.right (lt_le _ _ is.columns), distance_is b.left i p.left) refl in
    let below : row * columns + column < block_len b = rw e (index_below b i j h) in
    record { fits = whole (row * columns + column) (block_len b) below is.few; index = e; below = below }
  where
    whole : (m t : ℕ) → m < t → t ≤ 16777216 → Fits w64 m
    whole m t lt few = omega (arith, lt, few)

-- ---- marks

get_or-replicate-zero : (n i : ℕ) → get_or (replicate n zero) i zero ≡ zero
get_or-replicate-zero n i = elim (cases_lt i n) [
  | inl below ↦ get_or-replicate n i 0 0 below
  | inr above ↦ get_or_past (replicate n 0) i 0 (rw (length-replicate n zero) above)
]

-- no place is marked where no bit is set
pub no_marks : (b : Block) (words : List ℕ) (n : ℕ) → words ≡ replicate n 0 → (i j : ℤ) → is_marked (record { block = b; bits = words }) i j ≡ false
no_marks b words n words_is i j = rw (words_is, get_or-replicate-zero n (index_in b i j / 64), bit_at-zero (index_in b i j % 64)) (and_no (in_block b i j))

-- a bit for each place, none of them set
pub none_marked : (b : Block) (words : List ℕ) (n : ℕ) → IsBlock b → n ≡ div_ceil (block_len b) 64 → words ≡ replicate n 0 → AreMarks (record { block = b; bits = words }) 0
none_marked b words n is n_is words_is = record {
  block = is;
  room = rw (words_is, length-replicate n zero) (room (block_len b) n n_is);
  counted = sym (area_none _ b.left b.bottom b.right b.top (lt_le _ _ is.columns) (lt_le _ _ is.rows) (no_marks b words n words_is));
}
  where
    room : (len n : ℕ) → n ≡ div_ceil len 64 → len ≤ 64 * n
    room len n e = let h = (div_ceil_times len 64 (omega arith)).0 in let t : n * 64 ≡ div_ceil len 64 * 64 = ap (λ m. m * 64) e in omega (arith, h, t)

-- the place where two numbers of each pair are equal
pub int_both : (x y i j : ℤ) → int_eq x i && int_eq y j ≡ true → (x ≡ i) × (y ≡ j)
int_both x y i j h = let p = and_parts _ _ h in ((Decides-int_eq x i).0 p.0, (Decides-int_eq y j).0 p.1)

-- a place more is marked
pub marked_more : (b : Block) (words new : List ℕ) (i j : ℤ) (k : ℕ) → in_block b i j ≡ true → k ≡ index_in b i j → ((n : ℕ) → has_bit new n ≡ has_bit words n || (n == k))
    → (x y : ℤ) → is_marked (record { block = b; bits = new }) x y ≡ is_marked (record { block = b; bits = words }) x y || (int_eq x i && int_eq y j)
marked_more b words new i j k inside k_is bits x y = elim (cases_Bool (in_block b x y)) [
  | inl on ↦ rw (on, bits (index_in b x y), same_index on) refl
  | inr off ↦ rw (off, elsewhere off) refl
]
  where
    same_index : in_block b x y ≡ true → (index_in b x y == k) ≡ (int_eq x i && int_eq y j)
    same_index on = both _ _
        (λ e. let p = index_apart b x y i j on inside (eqb-true _ _ e ∙ k_is) in rw (p.0, p.1, int_eq_yes i, int_eq_yes j) refl)
        (λ e. let p = int_both x y i j e in eq-eqb _ _ (rw (p.0, p.1) (sym k_is)))

    elsewhere : in_block b x y ≡ false → (int_eq x i && int_eq y j) ≡ false
    elsewhere off = elim (cases_Bool (int_eq x i && int_eq y j)) [
      | inl here ↦ let p = int_both x y i j here in absurd (let h : in_block b x y ≡ true = rw (p.0, p.1) inside in let f : true ≡ false = sym h ∙ off in cc)
      | inr apart ↦ apart
    ]

-- a place that is marked already
pub marked_same : (b : Block) (words : List ℕ) (i j : ℤ) (k : ℕ) → in_block b i j ≡ true → k ≡ index_in b i j → has_bit words k ≡ true
    → (x y : ℤ) → is_marked (record { block = b; bits = words }) x y ≡ is_marked (record { block = b; bits = words }) x y || (int_eq x i && int_eq y j)
marked_same b words i j k inside k_is bit x y = elim (cases_Bool (int_eq x i && int_eq y j)) [
  | inl here ↦
      let p = int_both x y i j here in
      let h : is_marked (record { block = b; bits = words }) x y ≡ true = rw (p.0, p.1, inside) (rw k_is at bit) in
      rw (here, h) refl
  | inr other ↦ rw other (sym (or_no (is_marked (record { block = b; bits = words }) x y)))
]

pub count_fits : (b : Block) (words : List ℕ) (count : ℕ) → AreMarks (record { block = b; bits = words }) count → Fits w32 (count + 1)
count_fits b words count are = small count (count_marked (record { block = b; bits = words })) (block_len b) are.counted (area_few (is_marked (record { block = b; bits = words })) b.left b.bottom b.right b.top) are.block.few
  where
    small : (c m l : ℕ) → c ≡ m → m ≤ l → l ≤ 16777216 → Fits w32 (c + 1)
    small c m l e le few = omega (arith, e, le, few)

pub marks_more : (b : Block) (words new : List ℕ) (count : ℕ) (i j : ℤ) (k : ℕ) → AreMarks (record { block = b; bits = words }) count → in_block b i j ≡ true → k ≡ index_in b i j
    → ((n : ℕ) → has_bit new n ≡ has_bit words n || (n == k)) → length new ≡ length words → has_bit words k ≡ false → AreMarks (record { block = b; bits = new }) (count + 1)
marks_more b words new count i j k are inside k_is bits len off = record {
  block = are.block;
  room = rw len are.room;
  counted = ap (λ n. n + 1) are.counted ∙ sym (area_more (is_marked (record { block = b; bits = words })) (is_marked (record { block = b; bits = new })) b.left b.bottom b.right b.top i j at.left at.right at.bottom at.top
      (marked_more b words new i j k inside k_is bits) (rw (inside, ← k_is) off));
}
  where
    at : InBlock b i j
    at = place_in b i j inside

-- a list of words that was lent out and is given back
pub given_back : (len : ℕ) (items new : List ℕ) → len ≡ length items → length new ≡ length items → take len (new ++ drop (length new) items) ≡ new
given_back len items new len_is same = rw (len_is ∙ sym same) (take-append_seam new (drop (length new) items))
