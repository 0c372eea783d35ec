-- What lies below a band, and the numbers of a cut from those of its band.
use Rattle.std.proofs.Common.{◌≡◌, ℕ, ◌+◌, ◌-◌, ◌*◌, ◌/◌, ◌≤◌, ◌<◌, min, ℤ, pos, ◌+ℤ◌, Bool, List, length, get_or, arith, ap, subst, ◌∙◌, sym, w64, FitsSigned, Vec, Global, vec_len}
use Rattle.std.proofs.lemmas.Grind.{common_steps}
use Rattle.std.proofs.Math.Nat.{mul-le-mul, div-mul-le_self, lt-div-mul-add}
use Rattle.fill_base.proofs.Signed.{read}
use Rattle.fill_area.proofs.Begun.{by_lt}
use Rattle.fill_cells.specs.Mesh.{AreCuts, gaps}
use Rattle.fill_measure.proofs.SumsAbove.{prefix_sum_in, prefix_sum_read, stacked}
use Rattle.fill_measure.specs.declared.prefix_sums.PrefixSums.{PrefixSums}
use Rattle.fill_measure.specs.steps.PrefixSums.{block_area, ArePrefixSums}
use Rattle.fill_measure.specs.steps.Meshes.{AreAllPrefixSums, IsBand}

-- the band in which a cut is looked for, and how far above the lowest of that band it lies
pub band_of : (j height bands rows k : ℕ) → 1 ≤ rows → rows ≤ bands * height → j ≤ rows → k ≡ min (j / height) (bands - 1)
    → (k < bands) × ((k * height ≤ j) × (j - k * height ≤ min height (rows - k * height)))
band_of j height bands rows k some all j_in k_is = by_lt (j / height) bands
    (λ below. let is : k ≡ j / height = omega (arith, k_is, below) in rw is (below, (low, near (j / height * height) low (lt-div-mul-add tall))))
    (λ past.
    let le : bands * height ≤ j / height * height = mul-le-mul past (same height) in
    last (bands - 1) (omega (arith, few)) (omega (arith, k_is, past)) (omega (arith, le, low)))
  where
    same : (n : ℕ) → n ≤ n
    same n = omega arith

    tall : 0 < height
    tall = by_lt 0 height (λ lt. lt) (λ none. absurd (let flat : rows ≤ bands * 0 = subst (λ n. rows ≤ bands * n) (omega (arith, none)) all in omega (arith, flat, some)))

    few : 0 < bands
    few = by_lt 0 bands (λ lt. lt) (λ none. absurd (let flat : rows ≤ 0 * height = subst (λ n. rows ≤ n * height) (omega (arith, none)) all in omega (arith, flat, some)))

    low : j / height * height ≤ j
    low = div-mul-le_self j height

    near : (m : ℕ) → m ≤ j → j < m + height → j - m ≤ min height (rows - m)
    near m le lt = omega (arith, le, lt, j_in)

    last : (n : ℕ) → bands ≡ n + 1 → k ≡ n → bands * height ≤ j → (k < bands) × ((k * height ≤ j) × (j - k * height ≤ min height (rows - k * height)))
    last n is k_n le =
        let whole : bands * height ≡ n * height + height = ap (λ m. m * height) is ∙ omega arith in
        rw k_n (omega (arith, is), (omega (arith, whole, le), omega (arith, whole, le, all, j_in)))

-- the same of the prefix sums on cuts
pub found : (p : ℤ → ℤ → Bool) (across up : List ℤ) (prefix_sums : PrefixSums) (j k m : ℕ) → AreAllPrefixSums p across up prefix_sums → AreCuts up → j < length up → m ≡ vec_len prefix_sums.bands → k ≡ min (j / prefix_sums.height) (m - 1)
    → (k < length prefix_sums.bands.items) × ((k * prefix_sums.height ≤ j) × (j - k * prefix_sums.height ≤ min prefix_sums.height (gaps up - k * prefix_sums.height)))
found p across up prefix_sums j k m are y_are j_in m_is k_is =
    let count : vec_len prefix_sums.bands ≡ length prefix_sums.bands.items = grind (arith, common_steps) in
    let some : 2 ≤ length up = y_are.some in
    band_of j prefix_sums.height (length prefix_sums.bands.items) (gaps up) k (omega (arith, some)) are.bands.all (omega (arith, j_in)) (rw (m_is ∙ count) at k_is)

pub band_at : (p : ℤ → ℤ → Bool) (across up : List ℤ) (prefix_sums : PrefixSums) (k : ℕ) (v : Vec ℤ Global) (xs : List ℤ) → AreAllPrefixSums p across up prefix_sums → k < length prefix_sums.bands.items → v ≡ get_or prefix_sums.bands.items k v → xs ≡ v.items → IsBand p across up prefix_sums.height k xs
band_at p across up prefix_sums k v xs are k_in v_is xs_is = subst (IsBand p across up prefix_sums.height k) (sym (xs_is ∙ ap (λ (v : Vec ℤ Global). v.items) v_is)) (are.bands.each k v k_in)

-- the number of a cut in a column: what lies below its band, and what lies above in the band
pub number_of : (p : ℤ → ℤ → Bool) (across up below band : List ℤ) (i j k height bands count : ℕ) (x : ℤ) (e : ℤ) → AreCuts across → AreCuts up → i < length across → j < length up → (k < bands) × ((k * height ≤ j) × (j - k * height ≤ count))
    → ArePrefixSums p across up 0 height (bands * length across) below → ArePrefixSums p across up (k * height) 1 ((count + 1) * length across) band
    → x ≡ get_or below (k * length across + i) x
    → FitsSigned w64 (read x +ℤ read (get_or band ((j - k * height) * length across + i) e))
    × ((d : ℤ) → read (read x +ℤ read (get_or band ((j - k * height) * length across + i) e)) ≡ pos (block_area p across up 0 0 i j d))
number_of p across up below band i j k height bands count x e x_are y_are i_in j_in (k_in, (low, high)) below_are band_are x_is =
    stacked p across up i 0 (k * height) j (read x) (read (get_or band ((j - k * height) * length across + i) e)) x_are y_are i_in (omega arith) low j_in
    (λ d. ap read x_is ∙ (prefix_sum_read p across up below 0 height (bands * length across) i k x_are y_are below_are i_in (prefix_sum_in (length across) bands i k i_in k_in) (omega (arith, low, j_in)) x d ∙ ap (λ n. pos (block_area p across up 0 0 i n d)) first))
    (λ d. prefix_sum_read p across up band (k * height) 1 ((count + 1) * length across) i (j - k * height) x_are y_are band_are i_in (prefix_sum_in (length across) (count + 1) i (j - k * height) i_in (omega (arith, high))) (rw back j_in) e d
    ∙ ap (λ n. pos (block_area p across up 0 (k * height) i n d)) back)
  where
    first : 0 + k * height ≡ k * height
    first = omega arith

    back : k * height + (j - k * height) * 1 ≡ j
    back = omega (arith, low)

-- one number more of what lies below a band: what lies below the one before, and what that one has on its highest cut
pub added_below : (p : ℤ → ℤ → Bool) (across up below band : List ℤ) (i k height count n : ℕ) (x e : ℤ) → AreCuts across → AreCuts up → i < length across → 1 ≤ k → k * height ≤ gaps up → count ≡ min height (gaps up - (k - 1) * height)
    → ArePrefixSums p across up 0 height n below → k * length across ≤ n → ArePrefixSums p across up ((k - 1) * height) 1 ((count + 1) * length across) band → x ≡ get_or below ((k - 1) * length across + i) x
    → FitsSigned w64 (read x +ℤ read (get_or band (height * length across + i) e)) × ((d : ℤ) → read (read x +ℤ read (get_or band (height * length across + i) e)) ≡ pos (block_area p across up 0 0 i (0 + k * height) d))
added_below p across up below band i k height count n x e x_are y_are i_in some within count_is below_are enough band_are x_is =
    stacked p across up i 0 ((k - 1) * height) (0 + k * height) (read x) (read (get_or band (height * length across + i) e)) x_are y_are i_in (omega arith) (omega (arith, before)) (omega (arith, within, cuts))
    (λ d. ap read x_is ∙ (prefix_sum_read p across up below 0 height n i (k - 1) x_are y_are below_are i_in (omega (arith, last, enough)) (omega (arith, before, within, cuts)) x d ∙ ap (λ n. pos (block_area p across up 0 0 i n d)) first))
    (λ d. prefix_sum_read p across up band ((k - 1) * height) 1 ((count + 1) * length across) i height x_are y_are band_are i_in (prefix_sum_in (length across) (count + 1) i height i_in (omega (arith, top))) (omega (arith, before, within, cuts)) e d
    ∙ ap (λ n. pos (block_area p across up 0 ((k - 1) * height) i n d)) back)
  where
    cuts : 2 ≤ length up
    cuts = y_are.some

    before : k * height ≡ (k - 1) * height + height
    before = step (k - 1) (omega (arith, some))
      where
        step : (m : ℕ) → k ≡ m + 1 → k * height ≡ m * height + height
        step m is = ap (λ n. n * height) is ∙ omega arith

    top : height ≤ count
    top = omega (arith, count_is, before, within)

    last : (k - 1) * length across + i < k * length across
    last = prefix_sum_in (length across) k i (k - 1) i_in (omega (arith, some))

    first : 0 + (k - 1) * height ≡ (k - 1) * height
    first = omega arith

    back : (k - 1) * height + height * 1 ≡ 0 + k * height
    back = omega (arith, before)

-- where the number of a crossing stands in the list of what lies below the bands, and in that of its band
pub record IsPlaced (prefix_sums : PrefixSums) (xs : List ℤ) (w i j k : ℕ) : Type 0 where
  pub below : k * w + i < length prefix_sums.below.items
  pub above : (j - k * prefix_sums.height) * w + i < length xs

pub placed : (p : ℤ → ℤ → Bool) (across up : List ℤ) (prefix_sums : PrefixSums) (i j k m : ℕ) (v : Vec ℤ Global) (xs : List ℤ) → AreAllPrefixSums p across up prefix_sums → AreCuts up → i < length across → j < length up → m ≡ vec_len prefix_sums.bands → k ≡ min (j / prefix_sums.height) (m - 1)
    → v ≡ get_or prefix_sums.bands.items k v → xs ≡ v.items → IsPlaced prefix_sums xs (length across) i j k
placed p across up prefix_sums i j k m v xs are y_are i_in j_in m_is k_is v_is xs_is =
    let place = found p across up prefix_sums j k m are y_are j_in m_is k_is in
    let band = band_at p across up prefix_sums k v xs are place.0 v_is xs_is in
    let low = prefix_sum_in (length across) (length prefix_sums.bands.items) i k i_in place.0 in
    let within : j - k * prefix_sums.height < min prefix_sums.height (gaps up - k * prefix_sums.height) + 1 = omega (arith, place.1.1) in
    let high = prefix_sum_in (length across) _ i (j - k * prefix_sums.height) i_in within in
    record { below = rw are.below.count low; above = rw band.count high }

-- what both together tell
pub placed_number : (p : ℤ → ℤ → Bool) (across up : List ℤ) (prefix_sums : PrefixSums) (i j k m : ℕ) (v : Vec ℤ Global) (xs : List ℤ) (x e : ℤ) → AreAllPrefixSums p across up prefix_sums → AreCuts across → AreCuts up → i < length across → j < length up → m ≡ vec_len prefix_sums.bands → k ≡ min (j / prefix_sums.height) (m - 1)
    → v ≡ get_or prefix_sums.bands.items k v → xs ≡ v.items → x ≡ get_or prefix_sums.below.items (k * length across + i) x
    → FitsSigned w64 (read x +ℤ read (get_or xs ((j - k * prefix_sums.height) * length across + i) e)) × ((d : ℤ) → read (read x +ℤ read (get_or xs ((j - k * prefix_sums.height) * length across + i) e)) ≡ pos (block_area p across up 0 0 i j d))
placed_number p across up prefix_sums i j k m v xs x e are x_are y_are i_in j_in m_is k_is v_is xs_is x_is =
    let place = found p across up prefix_sums j k m are y_are j_in m_is k_is in
    let band = band_at p across up prefix_sums k v xs are place.0 v_is xs_is in
    number_of p across up prefix_sums.below.items xs i j k prefix_sums.height (length prefix_sums.bands.items) _ x e x_are y_are i_in j_in place are.below band x_is
