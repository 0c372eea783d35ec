-- What counts of windows is what they have within the clip.
use Rattle.std.proofs.Common.{◌≡◌, refl, ap, sym, ◌∙◌, ℕ, ◌+◌, ◌*◌, ◌<◌, ◌≤◌, ℤ, pos, ◌+ℤ◌, ◌-ℤ◌, ◌*ℤ◌, ◌≤ℤ◌, ◌<ℤ◌, arith, inl, inr, ◌⊎◌, Bool, true, false, cond, ◌&&◌, length}
use Rattle.std.specs.Prelude.{int_lt}
use Rattle.std.specs.Int.{int_max, int_min}
use Rattle.std.proofs.lemmas.Int.{ints, clamps}
use Rattle.fill_base.specs.Coordinates.{lowest, highest}
use Rattle.fill_base.specs.Counts.{sum_from, span_len, is_between, sum_between, count_between}
use Rattle.fill_base.specs.Squares.{area_between}
use Rattle.fill_base.proofs.Between.{is_between_true, is_between_below, is_between_above}
use Rattle.fill_base.proofs.Counting.{sum_between_same, sum_between_const, sum_between_split}
use Rattle.fill_area.specs.Axes.{IsExtent, axis_begin, axis_end}
use Rattle.fill_area.specs.Density.{IsArea, window_area}
use Rattle.std.proofs.Common.{w64, FitsSigned, negsuc, ◌^◌}
use Rattle.std.proofs.Math.Nat.{mul-le-mul}
use Rattle.fill_base.specs.Limits.{IsLength}
use Rattle.fill_area.specs.Grid.{Grid, IsGrid, all_coordinates, counted_size, parts_across, parts_up, window_left, window_right, window_bottom, window_top}
use Rattle.fill_area.specs.Parts.{AreParts, IsPart, kept_within}
use Rattle.fill_area.specs.declared.parts.Parts.{Parts}
use Rattle.fill_base.proofs.Signed.{read, read_is, coordinate_fits}
use Rattle.fill_area.specs.Sharing.{part_squares}
use Rattle.fill_area.proofs.Axes as axes

-- ---- one range cut by another

pub kept_ordered : (low high b e : ℤ) → low <ℤ high → b ≤ℤ e → kept_within low high b ≤ℤ kept_within low high e
kept_ordered low high b e some le = omega (arith, ints, clamps)

le_self : (z : ℤ) → z ≤ℤ z
le_self z = omega (arith, ints, clamps)

order : (x y : ℤ) → (x ≤ℤ y) ⊎ (y <ℤ x)
order x y = grind (arith, ints)

within : (low high x : ℤ) → low ≤ℤ x → x <ℤ high → is_between low high x ≡ true
within low high x a b = is_between_true low high x a b

-- what lies before the cut, and behind it, has no part in a sum
sum_before : (f : ℤ → ℕ) (low high b e : ℤ) → b ≤ℤ e → e ≤ℤ low → sum_between (λ x. cond (is_between low high x) (f x) 0) b e ≡ 0
sum_before f low high b e le before =
    let each = sum_between_const (λ x. cond (is_between low high x) (f x) 0) b e 0 le (λ x from to. ap (λ t. cond t (f x) 0) (is_between_below low high x (lt_le x e low to before))) in
    let none : span_len b e * 0 ≡ 0 = omega arith in each ∙ none
  where
    lt_le : (x e low : ℤ) → x <ℤ e → e ≤ℤ low → x <ℤ low
    lt_le x e low lt le = omega (arith, ints, clamps)

sum_behind : (f : ℤ → ℕ) (low high b e : ℤ) → b ≤ℤ e → high ≤ℤ b → sum_between (λ x. cond (is_between low high x) (f x) 0) b e ≡ 0
sum_behind f low high b e le behind =
    let each = sum_between_const (λ x. cond (is_between low high x) (f x) 0) b e 0 le (λ x from to. ap (λ t. cond t (f x) 0) (is_between_above low high x (le_le high b x behind from))) in
    let none : span_len b e * 0 ≡ 0 = omega arith in each ∙ none
  where
    le_le : (a b c : ℤ) → a ≤ℤ b → b ≤ℤ c → a ≤ℤ c
    le_le a b c h k = omega (arith, ints, clamps)

sum_within : (f : ℤ → ℕ) (low high b e : ℤ) → b ≤ℤ e → low ≤ℤ b → e ≤ℤ high → sum_between (λ x. cond (is_between low high x) (f x) 0) b e ≡ sum_between f b e
sum_within f low high b e le from to =
    sum_between_same (λ x. cond (is_between low high x) (f x) 0) f b e le (λ x low_x high_x. ap (λ t. cond t (f x) 0) (within low high x (le_le low b x from low_x) (lt_le x e high high_x to)))
  where
    le_le : (a b c : ℤ) → a ≤ℤ b → b ≤ℤ c → a ≤ℤ c
    le_le a b c h k = omega (arith, ints, clamps)

    lt_le : (x e high : ℤ) → x <ℤ e → e ≤ℤ high → x <ℤ high
    lt_le x e high lt le = omega (arith, ints, clamps)

nothing_between : (f : ℤ → ℕ) (z : ℤ) → sum_between f z z ≡ 0
unfolding sum_from
nothing_between f z = let e : span_len z z ≡ 0 = omega (arith, ints, clamps) in rw e refl

-- where the two ranges share a number
sum_shared : (f : ℤ → ℕ) (low high b e lo hi : ℤ) → lo ≡ int_max b low → hi ≡ int_min e high → b ≤ℤ e → low <ℤ high → low <ℤ e → b <ℤ high
    → sum_between (λ x. cond (is_between low high x) (f x) 0) b e ≡ sum_between f lo hi
sum_shared f low high b e lo hi lo_is hi_is le some under over =
    let g = λ (x : ℤ). cond (is_between low high x) (f x) 0 in
    let first = sum_between_split g b lo e (omega (arith, ints, clamps)) (omega (arith, ints, clamps)) in
    let second = sum_between_split g lo hi e (omega (arith, ints, clamps)) (omega (arith, ints, clamps)) in
    let before = begins (max_is b low) in
    let behind = ends (min_is e high) in
    let middle = sum_within f low high lo hi (omega (arith, ints, clamps)) (omega (arith, ints, clamps)) (omega (arith, ints, clamps)) in
    add_up _ _ _ _ _ _ first second before middle behind
  where
    add_up : (w x r m z f : ℕ) → w ≡ x + r → r ≡ m + z → x ≡ 0 → m ≡ f → z ≡ 0 → w ≡ f
    add_up w x r m z f a b c d e = omega (arith, a, b, c, d, e)

    max_is : (b low : ℤ) → (b ≤ℤ low × (int_max b low ≡ low)) ⊎ (int_max b low ≡ b)
    max_is b low = elim (order b low) [
      | inl under ↦ inl (under, omega (arith, ints, clamps))
      | inr over ↦ inr (omega (arith, ints, clamps))
    ]

    min_is : (e high : ℤ) → (high ≤ℤ e × (int_min e high ≡ high)) ⊎ (int_min e high ≡ e)
    min_is e high = elim (order high e) [
      | inl under ↦ inl (under, omega (arith, ints, clamps))
      | inr over ↦ inr (omega (arith, ints, clamps))
    ]

    begins : (b ≤ℤ low × (int_max b low ≡ low)) ⊎ (int_max b low ≡ b) → sum_between (λ x. cond (is_between low high x) (f x) 0) b lo ≡ 0
    begins (inl cut) = ap (λ z. sum_between (λ x. cond (is_between low high x) (f x) 0) b z) (lo_is ∙ cut.1) ∙ sum_before f low high b low cut.0 (le_self low)
    begins (inr whole) = ap (λ z. sum_between (λ x. cond (is_between low high x) (f x) 0) b z) (lo_is ∙ whole) ∙ nothing_between (λ x. cond (is_between low high x) (f x) 0) b

    ends : (high ≤ℤ e × (int_min e high ≡ high)) ⊎ (int_min e high ≡ e) → sum_between (λ x. cond (is_between low high x) (f x) 0) hi e ≡ 0
    ends (inl cut) = ap (λ z. sum_between (λ x. cond (is_between low high x) (f x) 0) z e) (hi_is ∙ cut.1) ∙ sum_behind f low high high e cut.0 (le_self high)
    ends (inr whole) = ap (λ z. sum_between (λ x. cond (is_between low high x) (f x) 0) z e) (hi_is ∙ whole) ∙ nothing_between (λ x. cond (is_between low high x) (f x) 0) e

-- a sum over a range of what lies within another is the sum over the part of the range that is kept within it
sum_kept : (f : ℤ → ℕ) (low high b e : ℤ) → low <ℤ high → b ≤ℤ e → sum_between (λ x. cond (is_between low high x) (f x) 0) b e ≡ sum_between f (kept_within low high b) (kept_within low high e)
sum_kept f low high b e some le = elim (order e low) [
  | inl before ↦
      let first : kept_within low high b ≡ low = omega (arith, ints, clamps) in let last : kept_within low high e ≡ low = omega (arith, ints, clamps) in
      sum_before f low high b e le before ∙ rw (first, last) (sym (nothing_between f low))
  | inr after ↦ elim (order high b) [
    | inl behind ↦
        let first : kept_within low high b ≡ high = omega (arith, ints, clamps) in let last : kept_within low high e ≡ high = omega (arith, ints, clamps) in
        sum_behind f low high b e le behind ∙ rw (first, last) (sym (nothing_between f high))
    | inr inner ↦
        let first : kept_within low high b ≡ int_max b low = omega (arith, ints, clamps) in let last : kept_within low high e ≡ int_min e high = omega (arith, ints, clamps) in
        rw (first, last) (sum_shared f low high b e (int_max b low) (int_min e high) refl refl le some after inner)
  ]
]

-- ---- areas

abbrev number_of : Bool → ℕ
number_of b = cond b 1 0

no_square : (p x : Bool) → number_of (p && (x && false)) ≡ 0
no_square true true = refl
no_square true false = refl
no_square false x = refl

one_square : (p x : Bool) → number_of (p && (x && true)) ≡ cond x (number_of p) 0
one_square true true = refl
one_square true false = refl
one_square false true = refl
one_square false false = refl

-- the squares of a line that lie within a rectangle
line_kept : (p : ℤ → ℤ → Bool) (left right low high y : ℤ) (inside : Bool) → low <ℤ high → left ≤ℤ right
    → count_between (λ x. p x y && (is_between low high x && inside)) left right ≡ cond inside (count_between (λ x. p x y) (kept_within low high left) (kept_within low high right)) 0
line_kept p left right low high y true some wide =
    sum_between_same _ (λ x. cond (is_between low high x) (cond (p x y) 1 0) 0) left right wide (λ x from to. one_square (p x y) (is_between low high x)) ∙ sum_kept (λ x. cond (p x y) 1 0) low high left right some wide
line_kept p left right low high y false some wide =
    let none : span_len left right * 0 ≡ 0 = omega arith in
    sum_between_const _ left right 0 wide (λ x from to. no_square (p x y) (is_between low high x)) ∙ none

pub area_kept : (p : ℤ → ℤ → Bool) (left bottom right top l b r t : ℤ) → l <ℤ r → b <ℤ t → left ≤ℤ right → bottom ≤ℤ top
    → area_between (λ x y. p x y && (is_between l r x && is_between b t y)) left bottom right top
    ≡ area_between p (kept_within l r left) (kept_within b t bottom) (kept_within l r right) (kept_within b t top)
area_kept p left bottom right top l b r t across up wide tall =
    sum_between_same _ (λ y. cond (is_between b t y) (count_between (λ x. p x y) (kept_within l r left) (kept_within l r right)) 0) bottom top tall
    (λ y from to. line_kept p left right l r y (is_between b t y) across wide)
    ∙ sum_kept (λ y. count_between (λ x. p x y) (kept_within l r left) (kept_within l r right)) b t bottom top up tall

kept_all : (z : ℤ) → lowest ≤ℤ z → z ≤ℤ highest → kept_within lowest highest z ≡ z
kept_all z low high = omega (arith, ints, clamps)

-- how many squares of the whole window in column `a` and row `b` are in the set
abbrev pub whole_area : (ℤ → ℤ → Bool) → Grid → ℕ → ℕ → ℕ
whole_area p g a b = area_between p (window_left g a) (window_bottom g b) (window_right g a) (window_top g b)

-- where nothing is cut off, windows count whole
pub counted_all : (p : ℤ → ℤ → Bool) (g : Grid) (a b : ℕ) → IsGrid g → g.clip ≡ all_coordinates → a < g.across.count → b < g.up.count → whole_area p g a b ≡ window_area p g a b
counted_all p g a b is all column row =
    let x : IsExtent g.across a (axis_begin g.across a) (axis_end g.across a) = axes.extent g.across.first g.across.length g.across.step g.across.count a is.across column in
    let y : IsExtent g.up b (axis_begin g.up b) (axis_end g.up b) = axes.extent g.up.first g.up.length g.up.step g.up.count b is.up row in
    sym (rw (all, kept_all _ x.low (le_le _ _ _ (lt_le _ _ x.some) x.high), kept_all _ (le_le _ _ _ x.low (lt_le _ _ x.some)) x.high, kept_all _ y.low (le_le _ _ _ (lt_le _ _ y.some) y.high), kept_all _ (le_le _ _ _ y.low (lt_le _ _ y.some)) y.high) refl)
  where
    lt_le : (a b : ℤ) → a <ℤ b → a ≤ℤ b
    lt_le a b h = omega (arith, ints, clamps)

    le_le : (a b c : ℤ) → a ≤ℤ b → b ≤ℤ c → a ≤ℤ c
    le_le a b c h k = omega (arith, ints, clamps)

-- ---- as the code finds the ends

pub part_is : (p : Parts) (a : ℕ) (lo hi m n k l : ℤ) → AreParts p → IsExtent p.axis a lo hi → m ≡ int_max (read lo) (read p.low) → n ≡ int_min (read m) (read p.high)
    → k ≡ int_max (read hi) (read p.low) → l ≡ int_min (read k) (read p.high) → IsPart p a (read n) (read l)
part_is p a lo hi m n k l is at m_is n_is k_is l_is =
    let low = read_is p.low (coordinate_fits p.low is.least (le_le _ _ _ (lt_le _ _ is.some) is.most)) in
    let high = read_is p.high (coordinate_fits p.high (le_le _ _ _ is.least (lt_le _ _ is.some)) is.most) in
    let begin = kept_read p.low p.high lo m n is at.low (le_le _ _ _ (lt_le _ _ at.some) at.high) (rw low at m_is) (rw high at n_is) is.least is.some is.most in
    let end = kept_read p.low p.high hi k l is (le_le _ _ _ at.low (lt_le _ _ at.some)) at.high (rw low at k_is) (rw high at l_is) is.least is.some is.most in
    record {
      begins = begin ∙ ap (kept_within p.low p.high) at.begins;
      ends = end ∙ ap (kept_within p.low p.high) at.ends;
      ordered = rw (begin, end) (kept_ordered p.low p.high lo hi is.some (lt_le _ _ at.some));
      low = rw begin (least p.low p.high lo is.least is.some);
      high = rw end (most p.low p.high hi is.most);
    }
  where
    lt_le : (a b : ℤ) → a <ℤ b → a ≤ℤ b
    lt_le a b h = omega (arith, ints, clamps)

    le_le : (a b c : ℤ) → a ≤ℤ b → b ≤ℤ c → a ≤ℤ c
    le_le a b c h k = omega (arith, ints, clamps)

    least : (low high z : ℤ) → lowest ≤ℤ low → low <ℤ high → lowest ≤ℤ kept_within low high z
    least low high z h some = omega (arith, ints, clamps)

    most : (low high z : ℤ) → high ≤ℤ highest → kept_within low high z ≤ℤ highest
    most low high z h = omega (arith, ints, clamps)

    kept_read : (low high z m n : ℤ) → AreParts p → lowest ≤ℤ z → z ≤ℤ highest → m ≡ int_max (read z) low → n ≡ int_min (read m) high → lowest ≤ℤ low → low <ℤ high → high ≤ℤ highest → read n ≡ kept_within low high z
    kept_read low high z m n is from to m_is n_is least some most =
        let z_is = read_is z (coordinate_fits z from to) in
        let m_at : m ≡ int_max z low = rw z_is at m_is in
        let m_read : read m ≡ int_max z low = ap read m_at ∙ read_is (int_max z low) (coordinate_fits _ (omega (arith, ints, clamps)) (omega (arith, ints, clamps))) in
        let n_at : n ≡ kept_within low high z = rw m_read at n_is in
        ap read n_at ∙ read_is (kept_within low high z) (coordinate_fits _ (omega (arith, ints, clamps)) (omega (arith, ints, clamps)))

-- ---- how much counts

part_short : (p : Parts) (a : ℕ) (lo hi : ℤ) → AreParts p → IsPart p a lo hi → pos 0 ≤ℤ (hi -ℤ lo) × (hi -ℤ lo) ≤ℤ pos 1048576
part_short p a lo hi is at = short lo hi p.low p.high (axis_begin p.axis a) p.axis.length is.some is.axis.length_is at.begins at.ends at.ordered
  where
    short : (lo hi low high b length : ℤ) → low <ℤ high → IsLength length → lo ≡ kept_within low high b → hi ≡ kept_within low high (b +ℤ length) → lo ≤ℤ hi → pos 0 ≤ℤ (hi -ℤ lo) × (hi -ℤ lo) ≤ℤ pos 1048576
    short lo hi low high b length some is lo_is hi_is le = let least : pos 1 ≤ℤ length = is.least in let most : length ≤ℤ pos 1048576 = is.most in (omega (arith, ints, clamps), omega (arith, ints, clamps))

pub record IsCountedSize (g : Grid) (a b : ℕ) (x0 x1 y0 y1 : ℤ) : Type 0 where
  pub fits : FitsSigned w64 (read (read x1 -ℤ read x0) *ℤ read (read y1 -ℤ read y0))
  pub size : read (read (read x1 -ℤ read x0) *ℤ read (read y1 -ℤ read y0)) ≡ counted_size g a b
  pub area : IsArea (counted_size g a b)

small_product : (m n : ℕ) → m ≤ 1048576 → n ≤ 1048576 → m * n ≤ 1048576 * 1048576
small_product m n a b = mul-le-mul a b

product_area : (z w : ℤ) → pos 0 ≤ℤ z → z ≤ℤ pos 1048576 → pos 0 ≤ℤ w → w ≤ℤ pos 1048576 → IsArea (z *ℤ w)
product_area (pos m) (pos n) a b c d = let small = small_product m n (omega (arith, ints, clamps)) (omega (arith, ints, clamps)) in area (m * n) small
  where
    area : (k : ℕ) → k ≤ 1048576 * 1048576 → IsArea (pos k)
    area k le = record { least = omega (arith, ints, clamps); most = omega (arith, ints, clamps) }
product_area (pos m) (negsuc n) a b c d = absurd (omega (arith, ints, clamps))
product_area (negsuc m) w a b c d = absurd (omega (arith, ints, clamps))

area_fits : (z : ℤ) → IsArea z → FitsSigned w64 z
area_fits z is = let a : pos 0 ≤ℤ z = is.least in let b : z ≤ℤ pos (2 ^ 40) = is.most in omega (arith, ints, clamps)

pub counted_size_is : (g : Grid) (a b : ℕ) (x0 x1 y0 y1 : ℤ) → AreParts (parts_across g) → AreParts (parts_up g) → IsPart (parts_across g) a x0 x1 → IsPart (parts_up g) b y0 y1 → IsCountedSize g a b x0 x1 y0 y1
counted_size_is g a b x0 x1 y0 y1 across up column row =
    let wide = part_short (parts_across g) a x0 x1 across column in
    let tall = part_short (parts_up g) b y0 y1 up row in
    let w = side_read x0 x1 column.low column.ordered column.high in
    let h = side_read y0 y1 row.low row.ordered row.high in
    let is = product_area (x1 -ℤ x0) (y1 -ℤ y0) wide.0 wide.1 tall.0 tall.1 in
    let fits = area_fits ((x1 -ℤ x0) *ℤ (y1 -ℤ y0)) is in
    let same : (x1 -ℤ x0) *ℤ (y1 -ℤ y0) ≡ counted_size g a b = rw (column.begins, column.ends, row.begins, row.ends) refl in
    record {
      fits = rw (w, h) fits;
      size = rw (w, h) (read_is _ fits ∙ same);
      area = rw same at is;
    }
  where
    side_read : (lo hi : ℤ) → lowest ≤ℤ lo → lo ≤ℤ hi → hi ≤ℤ highest → read (read hi -ℤ read lo) ≡ hi -ℤ lo
    side_read lo hi low ordered high =
        let a = read_is lo (coordinate_fits lo low (le_le lo hi highest ordered high)) in
        let b = read_is hi (coordinate_fits hi (le_le lowest lo hi low ordered) high) in
        rw (a, b) (read_is (hi -ℤ lo) (omega (arith, ints, clamps)))
      where
        le_le : (a b c : ℤ) → a ≤ℤ b → b ≤ℤ c → a ≤ℤ c
        le_le a b c h k = omega (arith, ints, clamps)

-- where both ends are one number on some axis, nothing counts
pub nothing_counts : (g : Grid) (a b : ℕ) (x0 x1 y0 y1 : ℤ) → IsPart (parts_across g) a x0 x1 → IsPart (parts_up g) b y0 y1 → (x1 ≤ℤ x0) ⊎ (y1 ≤ℤ y0) → (x y : ℤ) → part_squares g a b x y ≡ false
nothing_counts g a b x0 x1 y0 y1 column row either x y = rw (← column.begins, ← column.ends, ← row.begins, ← row.ends) (none either)
  where
    empty : (lo hi z : ℤ) → hi ≤ℤ lo → is_between lo hi z ≡ false
    empty lo hi z le = grind (arith, ints)

    and_false : (t : Bool) → t && false ≡ false
    and_false true = refl
    and_false false = refl

    none : (x1 ≤ℤ x0) ⊎ (y1 ≤ℤ y0) → is_between x0 x1 x && is_between y0 y1 y ≡ false
    none (inl left) = ap (λ t. t && is_between y0 y1 y) (empty x0 x1 x left)
    none (inr up) = ap (λ t. is_between x0 x1 x && t) (empty y0 y1 y up) ∙ and_false (is_between x0 x1 x)

pub nothing_has_area : (p : ℤ → ℤ → Bool) (g : Grid) (a b : ℕ) (x0 x1 y0 y1 : ℤ) → IsPart (parts_across g) a x0 x1 → IsPart (parts_up g) b y0 y1 → (x1 ≤ℤ x0) ⊎ (y1 ≤ℤ y0) → window_area p g a b ≡ 0
nothing_has_area p g a b x0 x1 y0 y1 column row either = rw (← column.begins, ← column.ends, ← row.begins, ← row.ends) (none either)
  where
    one : (lo hi : ℤ) → lo ≤ℤ hi → hi ≤ℤ lo → hi ≡ lo
    one lo hi le ge = omega (arith, ints, clamps)

    none : (x1 ≤ℤ x0) ⊎ (y1 ≤ℤ y0) → area_between p x0 y0 x1 y1 ≡ 0
    none (inl left) =
        let same = one x0 x1 column.ordered left in let nothing : span_len y0 y1 * 0 ≡ 0 = omega arith in
        sum_between_const (λ y. count_between (λ x. p x y) x0 x1) y0 y1 0 row.ordered (λ y from to. ap (λ z. count_between (λ x. p x y) x0 z) same ∙ nothing_between (λ x. cond (p x y) 1 0) x0) ∙ nothing
    none (inr up) = ap (λ z. sum_between (λ y. count_between (λ x. p x y) x0 x1) y0 z) (one y0 y1 row.ordered up) ∙ nothing_between (λ y. count_between (λ x. p x y) x0 x1) y0

pub not_less : (x y : ℤ) → FitsSigned w64 x → FitsSigned w64 y → int_lt (read x) (read y) ≡ false → y ≤ℤ x
not_less x y fx fy h = not_lt y x (rw (read_is x fx, read_is y fy) at h)
  where
    not_lt : (y x : ℤ) → int_lt x y ≡ false → y ≤ℤ x
    not_lt y x h = grind (arith, ints)
