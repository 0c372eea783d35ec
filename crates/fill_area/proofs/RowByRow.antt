-- Windows measured row by row.
use Rattle.std.proofs.Common.{◌≡◌, ℕ, ◌+◌, ◌-◌, ◌*◌, ◌/◌, ◌≤◌, ◌<◌, ℤ, pos, ◌≤ℤ◌, ◌<ℤ◌, Bool, true, false, ◌&&◌, List, [], ◌∷◌, ◌++◌, length, get_or, refl, sym, ap, arith, ◌∙◌, w64, FitsSigned}
use Rattle.std.specs.List.{All}
use Rattle.std.proofs.lemmas.Int.{ints, clamps}
use Rattle.std.proofs.lemmas.List.{get_or_append_left, length-append}
use Rattle.std.proofs.lemmas.Nat.{div-mul-add, mod-mul-add}
use Rattle.std.proofs.Math.Nat.{mul_comm}
use Rattle.std.proofs.Math.Seq.{get_or-append_right}
use Rattle.fill_base.specs.Coordinates.{lowest, highest}
use Rattle.fill_base.specs.Counts.{is_between, count_between}
use Rattle.fill_base.proofs.Between.{is_between_true}
use Rattle.fill_base.proofs.Counting.{count_between_same, sum_between_same}
use Rattle.fill_base.specs.declared.rect.Rect.{Rect}
use Rattle.fill_base.specs.Squares.{squares}
use Rattle.fill_base.proofs.Signed.{read, read_is}
use Rattle.fill_area.specs.Density.{AreMeasured, IsArea, window_area}
use Rattle.fill_area.specs.Grid.{Grid, IsGrid, parts_across, parts_up, window_bottom, window_left}
use Rattle.fill_area.specs.Parts.{kept_within, part_begin, part_end}
use Rattle.fill_area.specs.steps.Measured.{AreFirst, area_at}
use Rattle.fill_area.proofs.Begun.{by_lt}
use Rattle.fill_area.proofs.Clipping.{kept_ordered}
use Rattle.fill_area.proofs.Measuring.{bounded, longer, measured}
use Rattle.fill_area.proofs.SharedAreas.{and_yes}

-- ---- the lines of a row of windows

-- the rectangle over all lines from one on and below another, as the code makes it
pub all_lines : (r : Rect) (bottom top lo hi : ℤ) → (r.x1 ≡ lowest) × (r.y1 ≡ read bottom) × (r.x2 ≡ highest) × (r.y2 ≡ read top) → FitsSigned w64 bottom → FitsSigned w64 top → bottom ≡ lo → top ≡ hi
    → (x y : ℤ) → squares r x y ≡ is_between lowest highest x && is_between lo hi y
all_lines r bottom top lo hi edges low high lo_is hi_is x y = rw (edges.0, edges.1, edges.2, edges.3, read_is bottom low, read_is top high, lo_is, hi_is) refl

-- lines of which none counts have no square
pub no_lines : (p q : ℤ → ℤ → Bool) (bottom top : ℤ) → top ≤ℤ bottom → ((x y : ℤ) → q x y ≡ false) → (x y : ℤ) → q x y ≡ p x y && (is_between lowest highest x && is_between bottom top y)
no_lines p q bottom top over none x y = none x y ∙ sym (nothing (p x y) (is_between lowest highest x) (is_between bottom top y) (empty bottom top y over))
  where
    empty : (lo hi z : ℤ) → hi ≤ℤ lo → is_between lo hi z ≡ false
    empty lo hi z le = grind (arith, ints)

    nothing : (a b c : Bool) → c ≡ false → a && (b && c) ≡ false
    nothing true true c is = is
    nothing true false c is = refl
    nothing false b c is = refl

-- the windows of a row have what they have in its lines
pub near_area : (p q : ℤ → ℤ → Bool) (g : Grid) (a b : ℕ) → IsGrid g
    → ((x y : ℤ) → q x y ≡ p x y && (is_between lowest highest x && is_between (part_begin (parts_up g) b) (part_end (parts_up g) b) y)) → window_area q g a b ≡ window_area p g a b
near_area p q g a b is same =
    let wide = kept_ordered g.clip.left g.clip.right _ _ is.clip.across (longer (window_left g a) g.across.length is.across.length_is) in
    let tall = kept_ordered g.clip.bottom g.clip.top _ _ is.clip.up (longer (window_bottom g b) g.up.length is.up.length_is) in
    sum_between_same (λ y. count_between (λ x. q x y) left right) (λ y. count_between (λ x. p x y) left right) bottom top tall
    (λ y low high. count_between_same (λ x. q x y) (λ x. p x y) left right wide (λ x from to. here x y from to low high))
  where
    left : ℤ
    left = part_begin (parts_across g) a

    right : ℤ
    right = part_end (parts_across g) a

    bottom : ℤ
    bottom = part_begin (parts_up g) b

    top : ℤ
    top = part_end (parts_up g) b

    least : (low high z x : ℤ) → lowest ≤ℤ low → low <ℤ high → kept_within low high z ≤ℤ x → lowest ≤ℤ x
    least low high z x from some le = omega (arith, ints, clamps)

    most : (low high z x : ℤ) → high ≤ℤ highest → x <ℤ kept_within low high z → x <ℤ highest
    most low high z x to lt = omega (arith, ints, clamps)

    here : (x y : ℤ) → left ≤ℤ x → x <ℤ right → bottom ≤ℤ y → y <ℤ top → q x y ≡ p x y
    here x y from to low high =
        same x y
        ∙ rw (is_between_true lowest highest x (least g.clip.left g.clip.right _ x is.clip.left is.clip.across from) (most g.clip.left g.clip.right _ x is.clip.right to), is_between_true bottom top y low high) (and_yes (p x y))

-- ---- the list

pub none_first : (p : ℤ → ℤ → Bool) (g : Grid) (n : ℕ) (areas : List ℤ) → n ≡ 0 → areas ≡ [] → AreFirst p g n areas
none_first p g n areas none is = record { count = ap length is ∙ sym none; each = λ k d lt. absurd (omega (arith, none, lt)) }

-- one window more
pub one_more : (p : ℤ → ℤ → Bool) (g : Grid) (a b m n : ℕ) (areas more : List ℤ) (area : ℤ) → a < g.across.count → m ≡ b * g.across.count + a → n ≡ b * g.across.count + (a + 1) → area ≡ pos (window_area p g a b) → more ≡ areas ++ area ∷ []
    → AreFirst p g m areas → AreFirst p g n more
one_more p g a b m n areas more area column m_is n_is is more_is first = record {
  count = ap length more_is ∙ (length-append areas (area ∷ []) ∙ omega (arith, first.count, m_is, n_is));
  each = λ k d lt. ap (λ xs. get_or xs k d) more_is ∙ by_lt k m (earlier k d) (last k d lt);
}
  where
    earlier : (k : ℕ) (d : ℤ) → k < m → get_or (areas ++ area ∷ []) k d ≡ area_at p g k
    earlier k d low = get_or_append_left areas (area ∷ []) d k (omega (arith, low, first.count)) ∙ first.each k d low

    at : (k : ℕ) → k ≡ b * g.across.count + a → pos (window_area p g a b) ≡ area_at p g k
    at k place = sym (ap (area_at p g) place
        ∙ (ap (λ c. pos (window_area p g c ((b * g.across.count + a) / g.across.count))) (mod-mul-add b g.across.count a column)
        ∙ ap (λ r. pos (window_area p g a r)) (div-mul-add b g.across.count a column)))

    last : (k : ℕ) (d : ℤ) → k < n → m ≤ k → get_or (areas ++ area ∷ []) k d ≡ area_at p g k
    last k d lt high =
        let place : k ≡ b * g.across.count + a = omega (arith, lt, high, m_is, n_is) in
        let front : k ≡ length areas = omega (arith, place, m_is, first.count) in
        get_or-append_right areas (area ∷ []) k d (omega (arith, front)) ∙ (alone k d (omega (arith, front)) ∙ (is ∙ at k place))
      where
        alone : (k : ℕ) (d : ℤ) → k ≡ length areas → get_or (area ∷ []) (k - length areas) d ≡ area
        alone k d front = let none : k - length areas ≡ 0 = omega (arith, front) in rw none refl

-- all rows
pub all_rows : (p : ℤ → ℤ → Bool) (g : Grid) (b : ℕ) (areas : List ℤ) → IsGrid g → b ≡ g.up.count → AreFirst p g (b * g.across.count) areas → AreMeasured p g areas × All IsArea areas
all_rows p g b areas grid all first = (measured p g areas grid count each, bounded p g areas grid count each)
  where
    turned : b * g.across.count ≡ g.across.count * g.up.count
    turned = ap (λ n. n * g.across.count) all ∙ mul_comm g.up.count g.across.count

    count : length areas ≡ g.across.count * g.up.count
    count = first.count ∙ turned

    each : (k : ℕ) (d : ℤ) → k < g.across.count * g.up.count → get_or areas k d ≡ area_at p g k
    each k d lt = first.each k d (rw turned lt)

-- the windows of a row are over
pub row_over : (p : ℤ → ℤ → Bool) (g : Grid) (b a : ℕ) (areas : List ℤ) → a ≡ g.across.count → AreFirst p g (b * g.across.count + a) areas → AreFirst p g ((b + 1) * g.across.count) areas
row_over p g b a areas is first = rw (next (g.across.count) b a is) first
  where
    next : (n b a : ℕ) → a ≡ n → (b + 1) * n ≡ b * n + a
    next n b a is = let e : (b + 1) * n ≡ b * n + n = grind (arith) in omega (arith, e, is)
