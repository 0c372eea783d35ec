-- Where the sides of spans stand among the cuts.
use Rattle.std.proofs.Common.{◌≡◌, ℕ, ◌+◌, ◌-◌, ◌<◌, ◌≤◌, ℤ, pos, ◌+ℤ◌, ◌-ℤ◌, ◌<ℤ◌, ◌≤ℤ◌, true, false, List, [], ◌∷◌, ◌++◌, length, get_or, refl, arith, ap, subst, ◌∙◌, sym, below_more}
use Rattle.std.specs.Prelude.{int_le, unsigned_abs}
use Rattle.std.specs.List.Sorted.{IsPartitionedBy, IsPartitionPoint}
use Rattle.std.proofs.lemmas.Int.{ints, clamps}
use Rattle.std.proofs.lemmas.List.{get_or_append_left, get_or_default, length_push}
use Rattle.std.proofs.Math.Seq.{get_or-append_seam}
use Rattle.fill_base.proofs.Signed.{read}
use Rattle.fill_area.specs.Parts.{IsPart, part_begin, part_end}
use Rattle.fill_area.specs.declared.parts.Parts.{Parts}
use Rattle.fill_base.proofs.Signed.{coordinate_fits, le_trans, read_is}
use Rattle.fill_base.specs.Coordinates.{lowest, highest}
use Rattle.fill_area.proofs.Begun.{by_lt}
use Rattle.fill_cells.specs.Mesh.{AreCuts, gaps}
use Rattle.fill_measure.specs.declared.sides.Side.{Side}
use Rattle.fill_measure.specs.declared.sides.Sides.{Sides}
use Rattle.fill_measure.specs.steps.Ends.{AreAmong, IsAmong}
use Rattle.fill_measure.specs.steps.Sides.{IsAt, IsBetween, AreSides}

begins_at : (axis : Parts) (a : ℕ) (lo hi edge : ℤ) → IsPart axis a lo hi → edge ≡ read lo → edge ≡ part_begin axis a
begins_at axis a lo hi edge is edge_is = edge_is ∙ (read_is lo (coordinate_fits lo is.low (le_trans lo hi highest is.ordered is.high)) ∙ is.begins)

ends_at : (axis : Parts) (a : ℕ) (lo hi edge : ℤ) → IsPart axis a lo hi → edge ≡ read hi → edge ≡ part_end axis a
ends_at axis a lo hi edge is edge_is = edge_is ∙ (read_is hi (coordinate_fits hi (le_trans lowest lo hi is.low is.ordered) is.high) ∙ is.ends)

-- cuts that a coordinate has come to stand before the others
pub parted : (cuts : List ℤ) (z : ℤ) → AreCuts cuts → IsPartitionedBy (λ x. int_le x z) cuts
parted cuts z are i j d le lt at = by_lt i j
    (λ below. below_is _ _ z (are.rising i j d below lt) at)
    (λ same. let e : i ≡ j = omega (arith, le, same) in ap (λ k. int_le (get_or cuts k d) z) e ∙ at)
  where
    below_is : (x y z : ℤ) → x <ℤ y → int_le y z ≡ true → int_le x z ≡ true
    below_is x y z h k = grind (arith, ints)

over : (x z : ℤ) → int_le x z ≡ false → z <ℤ x
over x z h = grind (arith, ints)

-- a coordinate has come to some cut
pub some_reached : (cuts : List ℤ) (z : ℤ) (n : ℕ) → AreCuts cuts → IsAmong cuts z → IsPartitionPoint (λ x. int_le x z ≡ true) (λ x. int_le x z ≡ false) cuts n → 1 ≤ n
some_reached cuts z n are among point = by_lt 0 n (λ lt. lt) (λ none. absurd (apart _ z (among.low z) (over _ z (point.1 0 z none (omega (arith, are.some))))))
  where
    apart : (x z : ℤ) → x ≤ℤ z → z <ℤ x → ⊥
    apart x z h k = omega (arith, ints)

-- the last cut that a coordinate has come to, and how far it is past it
pub stands : (cuts : List ℤ) (z : ℤ) (n past : ℕ) (e : ℤ) → AreCuts cuts → IsAmong cuts z → IsPartitionPoint (λ x. int_le x z ≡ true) (λ x. int_le x z ≡ false) cuts n → n ≤ length cuts
    → past ≡ unsigned_abs (read z -ℤ read (get_or cuts (n - 1) e)) → IsAt cuts z (record { cut = n - 1; past = past })
stands cuts z n past e are among point few past_is = record {
  is = record {
    within = last_in;
    next = λ some. omega (arith, next some);
    amid = λ some d. rw (at d, back) (over _ z (point.1 n d (omega arith) (next some)));
  };
  at = at;
}
  where
    some_cuts : 0 < length cuts
    some_cuts = omega (arith, are.some)

    first : 0 < n
    first = some_reached cuts z n are among point

    under : (x z : ℤ) → int_le x z ≡ true → x ≤ℤ z
    under x z h = grind (arith, ints)

    last_in : n - 1 < length cuts
    last_in = omega (arith, first, few)

    back : n - 1 + 1 ≡ n
    back = omega (arith, first)

    reached : (d : ℤ) → get_or cuts (n - 1) d ≤ℤ z
    reached d = under _ z (point.0 (n - 1) d (omega arith) (omega (arith, first)))

    read_cut : read (get_or cuts (n - 1) e) ≡ get_or cuts (n - 1) e
    read_cut = let is = are.coordinates (n - 1) e last_in in read_is _ (coordinate_fits _ is.least is.most)

    read_z : read z ≡ z
    read_z = read_is z (coordinate_fits z (le_trans _ _ _ (are.coordinates 0 z some_cuts).least (among.low z)) (le_trans _ _ _ (among.high z) (are.coordinates (gaps cuts) z (omega (arith, some_cuts))).most))

    past_at : (d : ℤ) → past ≡ unsigned_abs (z -ℤ get_or cuts (n - 1) d)
    past_at d = past_is ∙ rw (read_z, read_cut) (ap (λ x. unsigned_abs (z -ℤ x)) (get_or_default cuts (n - 1) e d last_in))

    at : (d : ℤ) → get_or cuts (n - 1) d +ℤ pos past ≡ z
    at d = moved _ z past (reached d) (past_at d)
      where
        moved : (x z : ℤ) (m : ℕ) → x ≤ℤ z → m ≡ unsigned_abs (z -ℤ x) → x +ℤ pos m ≡ z
        moved x z m le is = omega (arith, ints, clamps)

    -- past the last cut there is no coordinate
    next : 0 < past → n < length cuts
    next some = by_lt n (length cuts) (λ lt. lt) (λ all. absurd (none _ z past (rw (gap_is all) at (among.high z)) (reached z) (past_at z) some))
      where
        gap_is : length cuts ≤ n → gaps cuts ≡ n - 1
        gap_is all = omega (arith, all, few)

        none : (x z : ℤ) (m : ℕ) → z ≤ℤ x → x ≤ℤ z → m ≡ unsigned_abs (z -ℤ x) → 0 < m → ⊥
        none x z m h k is some = omega (arith, ints, clamps)

pub begin_among : (axis : Parts) (cuts : List ℤ) (a : ℕ) (lo hi : ℤ) → AreAmong cuts axis → a < axis.axis.count → IsPart axis a lo hi → IsAmong cuts (read lo)
begin_among axis cuts a lo hi among lt is = rw (begins_at axis a lo hi (read lo) is refl) (among.begins a lt)

pub end_among : (axis : Parts) (cuts : List ℤ) (a : ℕ) (lo hi : ℤ) → AreAmong cuts axis → a < axis.axis.count → IsPart axis a lo hi → IsAmong cuts (read hi)
end_among axis cuts a lo hi among lt is = rw (ends_at axis a lo hi (read hi) is refl) (among.ends a lt)

-- the sides of one span more
pub sides_more : (axis : Parts) (cuts : List ℤ) (a : ℕ) (begin end : Side) (lo hi : ℤ) (old new : List Sides) → IsPart axis a lo hi → IsAt cuts (read lo) begin → IsAt cuts (read hi) end
    → AreSides axis cuts a old → new ≡ old ++ record { begin = begin; end = end } ∷ [] → AreSides axis cuts (a + 1) new
sides_more axis cuts a begin end lo hi old new is begin_is end_is before new_is = rw new_is (record {
  count = length_push old here ∙ ap (λ n. n + 1) before.count;
  each = λ k d lt. below_more (λ k. (d : Sides) → IsBetween axis cuts k (get_or (old ++ here ∷ []) k d)) a
      (λ k lt d. rw (get_or_append_left old (here ∷ []) d k (rw before.count lt)) (before.each k d lt))
      (λ d. subst (IsBetween axis cuts a) (sym (ap (λ n. get_or (old ++ here ∷ []) n d) (sym before.count) ∙ get_or-append_seam old here [] d)) between)
      k lt d;
})
  where
    here : Sides
    here = record { begin = begin; end = end }

    between : IsBetween axis cuts a here
    between = record {
      ordered = rw (← is.begins, ← is.ends) is.ordered;
      begins = subst (λ z. IsAt cuts z begin) (begins_at axis a lo hi (read lo) is refl) begin_is;
      ends = subst (λ z. IsAt cuts z end) (ends_at axis a lo hi (read hi) is refl) end_is;
    }
