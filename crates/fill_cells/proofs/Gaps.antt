-- Which gaps between rising cuts a range meets.
use Rattle.std.proofs.Common.{◌≡◌, true, false, ℕ, ◌+◌, ◌-◌, ◌≤◌, ◌<◌, ℤ, pos, ◌≤ℤ◌, ◌<ℤ◌, List, length, get_or, arith, sym, subst, w64, FitsSigned}
use Rattle.std.specs.Prelude.{int_le, int_lt}
use Rattle.std.proofs.lemmas.Int.{ints}
use Rattle.std.proofs.lemmas.List.{get_or_default}
use Rattle.fill_area.proofs.Begun.{by_lt}
use Rattle.fill_base.specs.Coordinates.{IsCoordinate}
use Rattle.fill_base.proofs.Signed.{read, read_is, coordinate_fits, lt_le, not_lt}
use Rattle.fill_cells.specs.Mesh.{AreCuts, gaps}
use Rattle.fill_cells.specs.steps.Parts.{AreMet}

-- cuts rise
pub cut_le : (cuts : List ℤ) (i j : ℕ) (d : ℤ) → AreCuts cuts → i ≤ j → j < length cuts → get_or cuts i d ≤ℤ get_or cuts j d
cut_le cuts i j d are le lt = by_lt i j (λ below. lt_le (get_or cuts i d) (get_or cuts j d) (are.rising i j d below lt)) (λ above. same i j (omega (arith, le, above)))
  where
    same : (i j : ℕ) → i ≡ j → get_or cuts i d ≤ℤ get_or cuts j d
    same i j is = subst (λ k. get_or cuts i d ≤ℤ get_or cuts k d) is (le_self (get_or cuts i d))
      where
        le_self : (z : ℤ) → z ≤ℤ z
        le_self z = omega (arith, ints)

pub cut_fits : (cuts : List ℤ) (i : ℕ) (d : ℤ) → AreCuts cuts → i < length cuts → FitsSigned w64 (get_or cuts i d)
cut_fits cuts i d are lt = let is : IsCoordinate (get_or cuts i d) = are.coordinates i d lt in coordinate_fits (get_or cuts i d) is.least is.most

pub cut_read : (cuts : List ℤ) (i : ℕ) (d : ℤ) → AreCuts cuts → i < length cuts → read (get_or cuts i d) ≡ get_or cuts i d
cut_read cuts i d are lt = read_is (get_or cuts i d) (cut_fits cuts i d are lt)

last_within : (cuts : List ℤ) → AreCuts cuts → length cuts - 1 < length cuts
last_within cuts are = let some : 2 ≤ length cuts = are.some in omega (arith, some)

-- no gap meets a range below all cuts
pub none_below : (cuts : List ℤ) (lo hi : ℤ) → AreCuts cuts → FitsSigned w64 hi → int_le (read hi) (read (get_or cuts 0 (pos 0))) ≡ true → AreMet cuts lo hi 0 0
none_below cuts lo hi are fits below = record {
  within = omega arith;
  from_first = λ k d lt low high. omega arith;
  to_past = λ k d lt low high. absurd (apart hi (get_or cuts 0 d) (get_or cuts k d) (under d) (cut_le cuts 0 k d are (omega arith) (omega (arith, lt, are.some))) high);
}
  where
    some : 0 < length cuts
    some = omega (arith, are.some)

    le_is : (a b : ℤ) → int_le a b ≡ true → a ≤ℤ b
    le_is a b h = grind (arith, ints)

    under : (d : ℤ) → hi ≤ℤ get_or cuts 0 d
    under d = rw (get_or_default cuts 0 d (pos 0) some) (rw (read_is hi fits, cut_read cuts 0 (pos 0) are some) at (le_is (read hi) (read (get_or cuts 0 (pos 0))) below))

    apart : (hi a b : ℤ) → hi ≤ℤ a → a ≤ℤ b → b <ℤ hi → ⊥
    apart hi a b h k l = absurd (omega (arith, ints))

-- nor one above them
pub none_above : (cuts : List ℤ) (lo hi : ℤ) → AreCuts cuts → FitsSigned w64 lo → int_le (read (get_or cuts (length cuts - 1) (pos 0))) (read lo) ≡ true → AreMet cuts lo hi 0 0
none_above cuts lo hi are fits above = record {
  within = omega arith;
  from_first = λ k d lt low high. omega arith;
  to_past = λ k d lt low high. absurd (apart lo (get_or cuts (length cuts - 1) d) (get_or cuts (k + 1) d) (over d) (cut_le cuts (k + 1) (length cuts - 1) d are (omega (arith, lt)) (last_within cuts are)) low);
}
  where
    le_is : (a b : ℤ) → int_le a b ≡ true → a ≤ℤ b
    le_is a b h = grind (arith, ints)

    over : (d : ℤ) → get_or cuts (length cuts - 1) d ≤ℤ lo
    over d = rw (get_or_default cuts (length cuts - 1) d (pos 0) (last_within cuts are)) (rw (read_is lo fits, cut_read cuts (length cuts - 1) (pos 0) are (last_within cuts are)) at (le_is (read (get_or cuts (length cuts - 1) (pos 0))) (read lo) above))

    apart : (lo a b : ℤ) → a ≤ℤ lo → b ≤ℤ a → lo <ℤ b → ⊥
    apart lo a b h k l = absurd (omega (arith, ints))

-- each gap that begins below a cut is before the first one that does not
pub before_past : (cuts : List ℤ) (hi : ℤ) (past k : ℕ) (d : ℤ) → AreCuts cuts → FitsSigned w64 hi → past < length cuts - 1
    → int_lt (read (get_or cuts past (pos 0))) (read hi) ≡ false → k < gaps cuts → get_or cuts k d <ℤ hi → k < past
before_past cuts hi past k d are fits lt over k_in below = by_lt k past (λ yes. yes) (λ no. absurd (apart hi (get_or cuts past d) (get_or cuts k d) from (cut_le cuts past k d are no (omega (arith, k_in))) below))
  where
    inside : past < length cuts
    inside = omega (arith, lt)

    from : hi ≤ℤ get_or cuts past d
    from = rw (get_or_default cuts past d (pos 0) inside) (rw (read_is hi fits, cut_read cuts past (pos 0) are inside) at (not_lt (read (get_or cuts past (pos 0))) (read hi) over))

    apart : (hi a b : ℤ) → hi ≤ℤ a → a ≤ℤ b → b <ℤ hi → ⊥
    apart hi a b h k l = absurd (omega (arith, ints))

-- a cut that is not above a number, as the code compares them
pub cut_under : (cuts : List ℤ) (lo : ℤ) (n : ℕ) (d : ℤ) → AreCuts cuts → FitsSigned w64 lo → n ≤ gaps cuts → int_lt (read lo) (read (get_or cuts n (pos 0))) ≡ false → get_or cuts n d ≤ℤ lo
cut_under cuts lo n d are fits within under =
    rw (get_or_default cuts n d (pos 0) inside) (rw (read_is lo fits, cut_read cuts n (pos 0) are inside) at (not_lt (read lo) (read (get_or cuts n (pos 0))) under))
  where
    inside : n < length cuts
    inside = let some : 2 ≤ length cuts = are.some in omega (arith, within, some)

pub cut_from : (cuts : List ℤ) (lo : ℤ) (n : ℕ) (d : ℤ) → AreCuts cuts → FitsSigned w64 lo → n < gaps cuts → int_le (read (get_or cuts (n + 1) (pos 0))) (read lo) ≡ true → get_or cuts (n + 1) d ≤ℤ lo
cut_from cuts lo n d are fits within under =
    rw (get_or_default cuts (n + 1) d (pos 0) inside) (rw (read_is lo fits, cut_read cuts (n + 1) (pos 0) are inside) at (le_is (read (get_or cuts (n + 1) (pos 0))) (read lo) under))
  where
    inside : n + 1 < length cuts
    inside = omega (arith, within)

    le_is : (a b : ℤ) → int_le a b ≡ true → a ≤ℤ b
    le_is a b h = grind (arith, ints)

-- the cuts on both sides of a gap, as the code compares them
pub cut_at_most : (cuts : List ℤ) (lo : ℤ) (k : ℕ) (d : ℤ) → AreCuts cuts → FitsSigned w64 lo → k < gaps cuts → int_le (read (get_or cuts k (pos 0))) (read lo) ≡ true → get_or cuts k d ≤ℤ lo
cut_at_most cuts lo k d are fits within under =
    rw (get_or_default cuts k d (pos 0) inside) (rw (read_is lo fits, cut_read cuts k (pos 0) are inside) at (le_is (read (get_or cuts k (pos 0))) (read lo) under))
  where
    inside : k < length cuts
    inside = omega (arith, within)

    le_is : (a b : ℤ) → int_le a b ≡ true → a ≤ℤ b
    le_is a b h = grind (arith, ints)

pub cut_at_least : (cuts : List ℤ) (hi : ℤ) (k : ℕ) (d : ℤ) → AreCuts cuts → FitsSigned w64 hi → k < gaps cuts → int_le (read hi) (read (get_or cuts (k + 1) (pos 0))) ≡ true → hi ≤ℤ get_or cuts (k + 1) d
cut_at_least cuts hi k d are fits within over =
    rw (get_or_default cuts (k + 1) d (pos 0) inside) (rw (read_is hi fits, cut_read cuts (k + 1) (pos 0) are inside) at (le_is (read hi) (read (get_or cuts (k + 1) (pos 0))) over))
  where
    inside : k + 1 < length cuts
    inside = omega (arith, within)

    le_is : (a b : ℤ) → int_le a b ≡ true → a ≤ℤ b
    le_is a b h = grind (arith, ints)

-- each gap that ends above a number begins at a cut at the number or below, or above it
pub after_cut : (cuts : List ℤ) (lo : ℤ) (m k : ℕ) (d : ℤ) → AreCuts cuts → m ≤ gaps cuts → ((e : ℤ) → 0 < m → get_or cuts m e ≤ℤ lo)
    → k < gaps cuts → lo <ℤ get_or cuts (k + 1) d → m ≤ k
after_cut cuts lo m k d are within below k_in above = by_lt k m (λ before. absurd (apart (get_or cuts m d) (get_or cuts (k + 1) d) (below d (omega (arith, before))) (cut_le cuts (k + 1) m d are (omega (arith, before)) inside) above)) (λ after. after)
  where
    inside : m < length cuts
    inside = let some : 2 ≤ length cuts = are.some in omega (arith, within, some)

    apart : (a b : ℤ) → a ≤ℤ lo → b ≤ℤ a → lo <ℤ b → ⊥
    apart a b h k l = absurd (omega (arith, ints))

-- a range that lies in one gap meets that one alone
pub held_by : (cuts : List ℤ) (lo hi : ℤ) (near : ℕ) → AreCuts cuts → FitsSigned w64 lo → FitsSigned w64 hi → near < gaps cuts
    → ((d : ℤ) → (get_or cuts near d ≤ℤ read lo) × (read hi ≤ℤ get_or cuts (near + 1) d)) → AreMet cuts lo hi near (near + 1)
held_by cuts lo hi near are lo_fits hi_fits within here = record {
  within = omega (arith, within);
  from_first = λ k d lt low high. after_cut cuts lo near k d are (omega (arith, within)) (λ e some. (held e).0) lt low;
  to_past = λ k d lt low high. by_lt k (near + 1) (λ yes. yes) (λ no. absurd (apart hi (get_or cuts (near + 1) d) (get_or cuts k d) (held d).1 (cut_le cuts (near + 1) k d are no (omega (arith, lt))) high));
}
  where
    held : (d : ℤ) → (get_or cuts near d ≤ℤ lo) × (hi ≤ℤ get_or cuts (near + 1) d)
    held d = rw (read_is lo lo_fits, read_is hi hi_fits) at (here d)

    apart : (hi a b : ℤ) → hi ≤ℤ a → a ≤ℤ b → b <ℤ hi → ⊥
    apart hi a b h k l = absurd (omega (arith, ints))

-- the gaps from the first that ends above a number to the first that begins at another or above
pub met_of : (cuts : List ℤ) (lo hi : ℤ) (first past : ℕ) → FitsSigned w64 lo → FitsSigned w64 hi → past ≤ gaps cuts
    → ((k : ℕ) (d : ℤ) → k < gaps cuts → read lo <ℤ get_or cuts (k + 1) d → first ≤ k) → ((k : ℕ) (d : ℤ) → k < gaps cuts → get_or cuts k d <ℤ read hi → k < past)
    → AreMet cuts lo hi first past
met_of cuts lo hi first past lo_fits hi_fits within from to = record {
  within = within;
  from_first = λ k d lt low high. from k d lt (subst (λ z. z <ℤ get_or cuts (k + 1) d) (sym (read_is lo lo_fits)) low);
  to_past = λ k d lt low high. to k d lt (subst (λ z. get_or cuts k d <ℤ z) (sym (read_is hi hi_fits)) high);
}
