-- The cuts at which the spans of an axis begin and end.
use Rattle.std.proofs.Common.{◌≡◌, ℕ, ◌+◌, ◌^◌, ℤ, pos, ◌+ℤ◌, ◌≤ℤ◌, ◌<ℤ◌, ◌↔◌, List, [], ◌∷◌, ◌++◌, true, refl, arith, ap, ◌∙◌, below_more, w64, FitsSigned}
use Rattle.std.specs.Prelude.{int_lt}
use Rattle.std.specs.Int.{int_min}
use Rattle.std.specs.List.{All, Contains}
use Rattle.std.proofs.lemmas.Int.{ints, clamps}
use Rattle.std.proofs.lemmas.List.Elements.{All-push, Contains-append_left, Contains-push}
use Rattle.fill_base.specs.Coordinates.{lowest, highest, IsCoordinate}
use Rattle.fill_base.proofs.Signed.{read, read_is, coordinate_fits, lt_le, le_trans, is_lt}
use Rattle.fill_area.specs.Parts.{AreParts, IsPart, part_begin, part_end}
use Rattle.fill_area.specs.declared.parts.Parts.{Parts}
use Rattle.fill_cells.specs.Mesh.{AreCuts}
use Rattle.fill_measure.specs.steps.Ends.{HoldEnds}

-- both ends of one span more
pub ends_more : (axis : Parts) (a : ℕ) (lo hi : ℤ) (old mid new : List ℤ) → All IsCoordinate old × HoldEnds old axis a → IsPart axis a lo hi
    → mid ≡ old ++ read lo ∷ [] → new ≡ mid ++ read hi ∷ [] → All IsCoordinate new × HoldEnds new axis (a + 1)
ends_more axis a lo hi old mid new before is mid_is new_is =
    let low : IsCoordinate lo = record { least = is.low; most = le_trans lo hi highest is.ordered is.high } in
    let high : IsCoordinate hi = record { least = le_trans lowest lo hi is.low is.ordered; most = is.high } in
    let mid_is' : mid ≡ old ++ lo ∷ [] = mid_is ∙ ap (λ z. old ++ z ∷ []) (read_is lo (coordinate_fits lo low.least low.most)) in
    let new_is' : new ≡ (old ++ lo ∷ []) ++ hi ∷ [] = new_is ∙ (ap (λ z. mid ++ z ∷ []) (read_is hi (coordinate_fits hi high.least high.most)) ∙ ap (λ xs. xs ++ hi ∷ []) mid_is') in
    rw new_is' (
      All-push IsCoordinate (old ++ lo ∷ []) hi (All-push IsCoordinate old lo before.0 low) high,
      record {
        begins = below_more _ a (λ k lt. kept (part_begin axis k) (before.1.begins k lt)) (rw (← is.begins) (Contains-append_left (old ++ lo ∷ []) (hi ∷ []) lo (Contains-push old lo)));
        ends = below_more _ a (λ k lt. kept (part_end axis k) (before.1.ends k lt)) (rw (← is.ends) (Contains-push (old ++ lo ∷ []) hi));
      },
    )
  where
    kept : (z : ℤ) → Contains old z → Contains ((old ++ lo ∷ []) ++ hi ∷ []) z
    kept z h = Contains-append_left (old ++ lo ∷ []) (hi ∷ []) z (Contains-append_left old (lo ∷ []) z h)

-- the cuts at numbers that hold both ends of each span
pub cuts_held : (axis : Parts) (x y : ℤ) (ends more cuts : List ℤ) → Contains ends x → Contains ends y → x <ℤ y → HoldEnds ends axis axis.axis.count → ((z : ℤ) → Contains ends z → Contains more z)
    → ((x y : ℤ) → Contains more x → Contains more y → x <ℤ y → AreCuts cuts) → ((z : ℤ) → Contains more z ↔ Contains cuts z) → AreCuts cuts × HoldEnds cuts axis axis.axis.count
cuts_held axis x y ends more cuts has_x has_y some hold kept cuts_of same = (
  cuts_of x y (kept x has_x) (kept y has_y) some,
  record { begins = λ a lt. (same _).0 (kept _ (hold.begins a lt)); ends = λ a lt. (same _).0 (kept _ (hold.ends a lt)) },
)

-- one part further
pub stepped_fits : (cut step last m : ℤ) → IsCoordinate cut → IsCoordinate last → pos 0 ≤ℤ step → step ≤ℤ pos (2 ^ 31) → m ≡ int_min (read last) (read (read cut +ℤ read step)) → IsCoordinate (read m)
stepped_fits cut step last m cut_is last_is least most is =
    let fits : FitsSigned w64 step = step_fits step least most in
    let sum : FitsSigned w64 (cut +ℤ step) = sum_fits cut step cut_is.least cut_is.most least most in
    let m_is : m ≡ int_min last (cut +ℤ step) = is ∙ rw (read_is last (coordinate_fits last last_is.least last_is.most), read_is cut (coordinate_fits cut cut_is.least cut_is.most), read_is step fits, read_is (cut +ℤ step) sum) refl in
    let here = between cut step last cut_is.least last_is.least last_is.most least in
    rw (m_is, read_is (int_min last (cut +ℤ step)) (coordinate_fits _ here.0 here.1)) (record { least = here.0; most = here.1 })
  where
    step_fits : (step : ℤ) → pos 0 ≤ℤ step → step ≤ℤ pos (2 ^ 31) → FitsSigned w64 step
    step_fits step h k = omega (arith, ints)

    sum_fits : (cut step : ℤ) → lowest ≤ℤ cut → cut ≤ℤ highest → pos 0 ≤ℤ step → step ≤ℤ pos (2 ^ 31) → FitsSigned w64 (cut +ℤ step)
    sum_fits cut step h i j k = omega (arith, ints)

    between : (cut step last : ℤ) → lowest ≤ℤ cut → lowest ≤ℤ last → last ≤ℤ highest → pos 0 ≤ℤ step → (lowest ≤ℤ int_min last (cut +ℤ step)) × (int_min last (cut +ℤ step) ≤ℤ highest)
    between cut step last h i j k = (omega (arith, ints, clamps), omega (arith, ints, clamps))

-- a coordinate, as the code reads it
pub coordinate_read : (z : ℤ) → IsCoordinate z → IsCoordinate (read z)
coordinate_read z is = rw (read_is z (coordinate_fits z is.least is.most)) is

-- one further cut put
pub between_more : (cut : ℤ) (begun old new : List ℤ) → IsCoordinate cut → All IsCoordinate old × ((z : ℤ) → Contains begun z → Contains old z) → new ≡ old ++ cut ∷ []
    → All IsCoordinate new × ((z : ℤ) → Contains begun z → Contains new z)
between_more cut begun old new is before new_is = rw new_is (All-push IsCoordinate old cut before.0 is, λ z has. Contains-append_left old (cut ∷ []) z (before.1 z has))

-- both ends of what counts, put to numbers
pub record IsClipHeld (parts : Parts) (old new : List ℤ) : Type 0 where
  pub coordinates : All IsCoordinate new
  pub kept : (z : ℤ) → Contains old z → Contains new z
  pub low : Contains new parts.low
  pub high : Contains new parts.high

pub clip_held : (parts : Parts) (old mid new : List ℤ) → AreParts parts → All IsCoordinate old → mid ≡ old ++ read parts.low ∷ [] → new ≡ mid ++ read parts.high ∷ [] → IsClipHeld parts old new
clip_held parts old mid new is all mid_is new_is =
    let low : IsCoordinate parts.low = record { least = is.least; most = le_trans _ _ _ (lt_le _ _ is.some) is.most } in
    let high : IsCoordinate parts.high = record { least = le_trans _ _ _ is.least (lt_le _ _ is.some); most = is.most } in
    let mid_at : mid ≡ old ++ parts.low ∷ [] = mid_is ∙ ap (λ z. old ++ z ∷ []) (read_is parts.low (coordinate_fits parts.low low.least low.most)) in
    let new_at : new ≡ (old ++ parts.low ∷ []) ++ parts.high ∷ [] = new_is ∙ (ap (λ z. mid ++ z ∷ []) (read_is parts.high (coordinate_fits parts.high high.least high.most)) ∙ ap (λ xs. xs ++ parts.high ∷ []) mid_at) in
    rw new_at (record {
      coordinates = All-push IsCoordinate (old ++ parts.low ∷ []) parts.high (All-push IsCoordinate old parts.low all low) high;
      kept = λ z has. Contains-append_left (old ++ parts.low ∷ []) (parts.high ∷ []) z (Contains-append_left old (parts.low ∷ []) z has);
      low = Contains-append_left (old ++ parts.low ∷ []) (parts.high ∷ []) parts.low (Contains-push old parts.low);
      high = Contains-push (old ++ parts.low ∷ []) parts.high;
    })

-- ends that are read apart
pub apart_read : (parts : Parts) (a : ℕ) (lo hi : ℤ) → IsPart parts a lo hi → int_lt (read lo) (read hi) ≡ true → part_begin parts a <ℤ part_end parts a
apart_read parts a lo hi is h =
    let low = read_is lo (coordinate_fits lo is.low (le_trans _ _ _ is.ordered is.high)) in
    let high = read_is hi (coordinate_fits hi (le_trans _ _ _ is.low is.ordered) is.high) in
    rw (is.begins, is.ends) at (is_lt lo hi (rw (low, high) at h))
