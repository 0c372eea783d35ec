-- Windows along one axis.
use Rattle.std.proofs.Common.{◌≡◌, ℕ, ◌*◌, ◌-◌, ◌≤◌, ◌<◌, ℤ, pos, negsuc, ◌+ℤ◌, ◌*ℤ◌, ◌≤ℤ◌, ◌<ℤ◌, refl, arith, ap, ◌∙◌, w64, FitsSigned}
use Rattle.std.proofs.lemmas.Int.{ints, clamps}
use Rattle.std.proofs.Math.Nat.{mul-le-mul}
use Rattle.fill_base.specs.Coordinates.{lowest, highest, IsCoordinate}
use Rattle.fill_base.proofs.Signed.{read, read_is, coordinate_fits, lt_le, le_trans}
use Rattle.fill_area.specs.Density.{IsArea}
use Rattle.fill_base.specs.Limits.{IsLength}
use Rattle.fill_area.specs.Axes.{IsCount, IsAxis, IsExtent, axis_begin, axis_end}
use Rattle.fill_area.specs.declared.axis.Axis.{Axis}

-- the axis with these numbers
abbrev pub axis_of : ℤ → ℤ → ℤ → ℕ → Axis
axis_of first length step count = record { first = first; length = length; step = step; count = count }

-- a step many times is a natural number of at most 2^40
pub record IsMove (a : ℕ) (step : ℤ) (m : ℕ) : Type 0 where
  pub is : pos a *ℤ step ≡ pos m
  pub most : m ≤ 1048576 * 1048576

moved : (a : ℕ) (step : ℤ) → a ≤ 1048576 → IsLength step → (m : ℕ) × IsMove a step m
moved a (pos s) few length =
    let short : s ≤ 1048576 = let most : pos s ≤ℤ pos 1048576 = length.most in omega (arith, ints, clamps) in
    (a * s, record { is = refl; most = mul-le-mul few short })
moved a (negsuc s) few length = absurd (let least : pos 1 ≤ℤ negsuc s = length.least in omega (arith, ints, clamps))

pub move_fits : (a : ℕ) (step : ℤ) → a ≤ 1048576 → IsLength step → FitsSigned w64 (pos a *ℤ step)
move_fits a step few length = let m = moved a step few length in rw m.1.is (fits m.0 m.1.most)
  where
    fits : (m : ℕ) → m ≤ 1048576 * 1048576 → FitsSigned w64 (pos m)
    fits m most = omega (arith, ints, clamps)

pub begin_fits : (first : ℤ) (a : ℕ) (step : ℤ) → IsCoordinate first → a ≤ 1048576 → IsLength step → FitsSigned w64 (first +ℤ (pos a *ℤ step))
begin_fits first a step coordinate few length = let m = moved a step few length in rw m.1.is (fits first m.0 coordinate m.1.most)
  where
    fits : (first : ℤ) (m : ℕ) → IsCoordinate first → m ≤ 1048576 * 1048576 → FitsSigned w64 (first +ℤ pos m)
    fits first m c most = let low : lowest ≤ℤ first = c.least in let high : first ≤ℤ highest = c.most in omega (arith, ints, clamps)

pub end_fits : (first length : ℤ) (a : ℕ) (step : ℤ) → IsCoordinate first → IsLength length → a ≤ 1048576 → IsLength step → FitsSigned w64 ((first +ℤ (pos a *ℤ step)) +ℤ length)
end_fits first length a step coordinate long few is = let m = moved a step few is in rw m.1.is (fits first length m.0 coordinate long m.1.most)
  where
    fits : (first length : ℤ) (m : ℕ) → IsCoordinate first → IsLength length → m ≤ 1048576 * 1048576 → FitsSigned w64 ((first +ℤ pos m) +ℤ length)
    fits first length m c l most =
        let low : lowest ≤ℤ first = c.least in let high : first ≤ℤ highest = c.most in
        let one : pos 1 ≤ℤ length = l.least in let long : length ≤ℤ pos 1048576 = l.most in omega (arith, ints, clamps)

-- an earlier window lies within the coordinates as the last one does
pub extent : (first length step : ℤ) (count a : ℕ) → IsAxis (axis_of first length step count) → a < count
    → IsExtent (axis_of first length step count) a (first +ℤ (pos a *ℤ step)) ((first +ℤ (pos a *ℤ step)) +ℤ length)
extent first length (pos s) count a axis lt =
    let one : pos 1 ≤ℤ length = axis.length_is.least in
    let le : a * s ≤ (count - 1) * s = mul-le-mul (before a count lt) (same s) in
    let low : lowest ≤ℤ first = axis.first_is.least in
    let last : ((first +ℤ (pos ((count - 1) * s))) +ℤ length) ≤ℤ highest = axis.last in
    record {
      begins = refl;
      ends = refl;
      some = longer (first +ℤ pos (a * s)) length one;
      low = later first (a * s) low;
      high = sooner first length (a * s) ((count - 1) * s) le last;
    }
  where
    before : (a count : ℕ) → a < count → a ≤ count - 1
    before a count lt = omega arith

    same : (s : ℕ) → s ≤ s
    same s = omega arith

    longer : (z length : ℤ) → pos 1 ≤ℤ length → z <ℤ (z +ℤ length)
    longer z length one = omega (arith, ints, clamps)

    later : (first : ℤ) (m : ℕ) → lowest ≤ℤ first → lowest ≤ℤ (first +ℤ pos m)
    later first m low = omega (arith, ints, clamps)

    sooner : (first length : ℤ) (m n : ℕ) → m ≤ n → ((first +ℤ pos n) +ℤ length) ≤ℤ highest → ((first +ℤ pos m) +ℤ length) ≤ℤ highest
    sooner first length m n le last = omega (arith, ints, clamps)
extent first length (negsuc s) count a axis lt = absurd (let least : pos 1 ≤ℤ negsuc s = axis.step_is.least in omega (arith, ints, clamps))

pub length_fits : (z : ℤ) → IsLength z → FitsSigned w64 z
length_fits z is = let low : pos 1 ≤ℤ z = is.least in let high : z ≤ℤ pos 1048576 = is.most in omega (arith, ints, clamps)

-- what the code adds up is what the definition adds up
pub begin_is : (first step p : ℤ) (a : ℕ) → IsCoordinate first → IsLength step → a ≤ 1048576 → p ≡ pos a
    → FitsSigned w64 (read first +ℤ read (read p *ℤ read step)) × (read first +ℤ read (read p *ℤ read step) ≡ first +ℤ (pos a *ℤ step))
begin_is first step p a coordinate is few p_is =
    let sum : read first +ℤ read (read p *ℤ read step) ≡ first +ℤ (pos a *ℤ step) =
    rw (p_is, read_is first (coordinate_fits first coordinate.least coordinate.most), read_is (pos a) (small a few), read_is step (length_fits step is), read_is (pos a *ℤ step) (move_fits a step few is)) refl in
    (rw sum (begin_fits first a step coordinate few is), sum)
  where
    small : (a : ℕ) → a ≤ 1048576 → FitsSigned w64 (pos a)
    small a few = omega (arith, ints, clamps)

pub end_is : (first length step p : ℤ) (a : ℕ) → IsCoordinate first → IsLength length → IsLength step → a ≤ 1048576 → p ≡ pos a
    → FitsSigned w64 (read (read first +ℤ read (read p *ℤ read step)) +ℤ read length)
    × (read (read first +ℤ read (read p *ℤ read step)) +ℤ read length ≡ (first +ℤ (pos a *ℤ step)) +ℤ length)
end_is first length step p a coordinate long is few p_is =
    let begin = begin_is first step p a coordinate is few p_is in
    let sum : read (read first +ℤ read (read p *ℤ read step)) +ℤ read length ≡ (first +ℤ (pos a *ℤ step)) +ℤ length =
    rw (begin.1, read_is (first +ℤ (pos a *ℤ step)) (begin_fits first a step coordinate few is), read_is length (length_fits length long)) refl in
    (rw sum (end_fits first length a step coordinate long few is), sum)

pub extent_is : (first length step p : ℤ) (count a : ℕ) → IsAxis (axis_of first length step count) → a < count → p ≡ pos a
    → IsExtent (axis_of first length step count) a (read (read first +ℤ read (read p *ℤ read step))) (read (read (read first +ℤ read (read p *ℤ read step)) +ℤ read length))
extent_is first length step p count a axis lt p_is =
    let few = under a count lt axis.count_is in
    let begin = begin_is first step p a axis.first_is axis.step_is few p_is in
    let «end» = end_is first length step p a axis.first_is axis.length_is axis.step_is few p_is in
    let b : read (read first +ℤ read (read p *ℤ read step)) ≡ first +ℤ (pos a *ℤ step) = ap read begin.1 ∙ read_is _ (begin_fits first a step axis.first_is few axis.step_is) in
    let e : read (read (read first +ℤ read (read p *ℤ read step)) +ℤ read length) ≡ (first +ℤ (pos a *ℤ step)) +ℤ length = ap read «end».1 ∙ read_is _ (end_fits first length a step axis.first_is axis.length_is few axis.step_is) in
    rw (e, b) (extent first length step count a axis lt)
  where
    under : (a count : ℕ) → a < count → IsCount count → a ≤ 1048576
    under a count lt is = let most : count ≤ 1048576 = is.most in omega arith

pub place_few : (a count : ℕ) → a < count → IsCount count → a ≤ 1048576
place_few a count lt is = let most : count ≤ 1048576 = is.most in omega arith

-- an axis as the code reads its numbers
abbrev pub axis_read : Axis → Axis
axis_read axis = record { first = read axis.first; length = read axis.length; step = read axis.step; count = axis.count }

pub axis_read_is : (axis : Axis) → FitsSigned w64 axis.first → FitsSigned w64 axis.length → FitsSigned w64 axis.step → axis_read axis ≡ axis
axis_read_is axis first length step = rw (read_is axis.first first, read_is axis.length length, read_is axis.step step) refl

-- an extent that the code has found, read back
extent_read : (axis : Axis) (a : ℕ) (lo hi : ℤ) → IsExtent axis a lo hi → (read lo ≡ lo) × (read hi ≡ hi)
extent_read axis a lo hi is =
    (read_is lo (coordinate_fits lo is.low (le_trans lo hi _ (lt_le lo hi is.some) is.high)), read_is hi (coordinate_fits hi (le_trans _ lo hi is.low (lt_le lo hi is.some)) is.high))

pub begins_at : (axis : Axis) (a : ℕ) (lo hi edge : ℤ) → IsExtent axis a lo hi → edge ≡ read lo → edge ≡ axis_begin axis a
begins_at axis a lo hi edge is edge_is = edge_is ∙ ((extent_read axis a lo hi is).0 ∙ is.begins)

pub ends_at : (axis : Axis) (a : ℕ) (lo hi edge : ℤ) → IsExtent axis a lo hi → edge ≡ read hi → edge ≡ axis_end axis a
ends_at axis a lo hi edge is edge_is = edge_is ∙ ((extent_read axis a lo hi is).1 ∙ is.ends)

-- a window's size is an area
pub size_area : (w h : ℤ) → IsLength w → IsLength h → IsArea (w *ℤ h)
size_area (pos w) (pos h) iw ih =
    let a : w ≤ 1048576 = let most : pos w ≤ℤ pos 1048576 = iw.most in omega (arith, ints, clamps) in
    let b : h ≤ 1048576 = let most : pos h ≤ℤ pos 1048576 = ih.most in omega (arith, ints, clamps) in
    area (w * h) (mul-le-mul a b)
  where
    area : (m : ℕ) → m ≤ 1048576 * 1048576 → IsArea (pos m)
    area m most = record { least = omega (arith, ints, clamps); most = omega (arith, ints, clamps) }
size_area (pos w) (negsuc h) iw ih = absurd (let least : pos 1 ≤ℤ negsuc h = ih.least in omega (arith, ints, clamps))
size_area (negsuc w) h iw ih = absurd (let least : pos 1 ≤ℤ negsuc w = iw.least in omega (arith, ints, clamps))
