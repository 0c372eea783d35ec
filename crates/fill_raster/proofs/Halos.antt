-- The bounding ranges of bands, and their halos.
use Rattle.std.proofs.Common.{◌≡◌, ℕ, ◌<◌, ℤ, pos, ◌+ℤ◌, ◌-ℤ◌, ◌*ℤ◌, ◌≤ℤ◌, ◌<ℤ◌, arith, w64, FitsSigned}
use Rattle.std.specs.Int.{int_max, int_min}
use Rattle.std.proofs.lemmas.Int.{ints, clamps}
use Rattle.fill_base.specs.Coordinates.{lowest, highest}
use Rattle.fill_base.specs.Counts.{is_between}
use Rattle.fill_base.specs.Limits.{IsSpacing}
use Rattle.fill_base.proofs.Signed.{read, read_is, coordinate_fits, lt_le, le_trans}
use Rattle.fill_raster.specs.Axes.{bands, band_first, band_past, band_begin, band_end, halo_begin, halo_end, IsAxis}
use Rattle.fill_raster.specs.declared.axis.Axis.{Axis}
use Rattle.fill_raster.proofs.Floors.{product_le}
use Rattle.fill_raster.proofs.Bands.{first_in, last_in, first_before_last}
use Rattle.fill_raster.proofs.Ranges.{in_on, within_on}
use Rattle.fill_raster.proofs.Reading.{box_range, spacing_read}

-- a band's boxes span a range within the coordinates
pub record BandRange (a : Axis) (g : ℕ) : Type 0 where
  pub least : lowest ≤ℤ band_begin a g
  pub some : band_begin a g <ℤ band_end a g
  pub most : band_end a g ≤ℤ highest

pub band_range : (a : Axis) (g : ℕ) → IsAxis a → g < bands a → BandRange a g
band_range a g is lt =
    let f = box_range a (band_first a g) is (within_on a _ (in_on a _ is.step_is.least (first_in a g is.band_is.least lt))) in
    let l = box_range a (band_past a g -ℤ pos 1) is (within_on a _ (in_on a _ is.step_is.least (last_in a g is.band_is.least lt))) in
    let order = before (band_first a g) (band_past a g) (first_before_last a g is.band_is.least lt) in
    record { least = f.least; some = longer a.origin a.length (band_first a g *ℤ a.step) ((band_past a g -ℤ pos 1) *ℤ a.step) f.some (product_le _ _ a.step is.step_is.least order); most = l.most }
  where
    before : (f p : ℤ) → f <ℤ p → f ≤ℤ (p -ℤ pos 1)
    before f p lt = omega (arith, ints)

    longer : (origin length m n : ℤ) → (origin +ℤ m) <ℤ ((origin +ℤ m) +ℤ length) → m ≤ℤ n → (origin +ℤ m) <ℤ ((origin +ℤ n) +ℤ length)
    longer origin length m n some le = omega (arith, ints)

-- and so does their halo
pub record HaloRange (a : Axis) (g : ℕ) (s : ℤ) : Type 0 where
  pub least : lowest ≤ℤ halo_begin a g s
  pub some : halo_begin a g s <ℤ halo_end a g s
  pub most : halo_end a g s ≤ℤ highest

pub halo_range : (a : Axis) (g : ℕ) (s : ℤ) → IsAxis a → g < bands a → IsSpacing s → HaloRange a g s
halo_range a g s is lt spacing =
    let r = band_range a g is lt in
    let b = band_begin a g in let e = band_end a g in
    record { least = from b s; some = order b e s r.least r.some r.most spacing.least; most = to e s }
  where
    from : (b s : ℤ) → lowest ≤ℤ int_max (b -ℤ s) lowest
    from b s = omega (arith, ints, clamps)

    order : (b e s : ℤ) → lowest ≤ℤ b → b <ℤ e → e ≤ℤ highest → pos 0 ≤ℤ s → int_max (b -ℤ s) lowest <ℤ int_min (e +ℤ s) highest
    order b e s low lt high some = omega (arith, ints, clamps)

    to : (e s : ℤ) → int_min (e +ℤ s) highest ≤ℤ highest
    to e s = omega (arith, ints, clamps)

pub halo_begin_read : {a : Axis} {g : ℕ} {s : ℤ} → HaloRange a g s → read (halo_begin a g s) ≡ halo_begin a g s
halo_begin_read h = read_is _ (coordinate_fits _ h.least (le_trans _ _ _ (lt_le _ _ h.some) h.most))

pub halo_end_read : {a : Axis} {g : ℕ} {s : ℤ} → HaloRange a g s → read (halo_end a g s) ≡ halo_end a g s
halo_end_read h = read_is _ (coordinate_fits _ (le_trans _ _ _ h.least (lt_le _ _ h.some)) h.most)

-- within the coordinates the halo is the range grown by the spacing
pub halo_between : (a : Axis) (g : ℕ) (s x : ℤ) → lowest ≤ℤ x → x <ℤ highest → is_between (halo_begin a g s) (halo_end a g s) x ≡ is_between (band_begin a g -ℤ s) (band_end a g +ℤ s) x
halo_between a g s x low high = within (band_begin a g -ℤ s) (band_end a g +ℤ s) x low high
  where
    within : (b e x : ℤ) → lowest ≤ℤ x → x <ℤ highest → is_between (int_max b lowest) (int_min e highest) x ≡ is_between b e x
    within b e x low high = grind (arith, ints, clamps)

-- ---- as the code reckons them

pub record BeginReckoned (a : Axis) (g : ℕ) (s z : ℤ) : Type 0 where
  pub fits : FitsSigned w64 (read z -ℤ read s)
  pub is : (m : ℤ) → m ≡ int_max (read (read z -ℤ read s)) lowest → read m ≡ halo_begin a g s

pub begin_reckoned : (a : Axis) (g : ℕ) (s z : ℤ) → IsAxis a → g < bands a → IsSpacing s → z ≡ band_begin a g → BeginReckoned a g s z
begin_reckoned a g s z is lt spacing z_is =
    let r = band_range a g is lt in
    let h = halo_range a g s is lt spacing in
    let b : read (band_begin a g) ≡ band_begin a g = read_is _ (coordinate_fits _ r.least (le_trans _ _ _ (lt_le _ _ r.some) r.most)) in
    let d = less_fits (band_begin a g) s r.least (le_trans _ _ _ (lt_le _ _ r.some) r.most) spacing in
    record {
      fits = rw (z_is, b, spacing_read s spacing) d;
      is = λ m m_is. rw (m_is, z_is, b, spacing_read s spacing, read_is _ d) (halo_begin_read h);
    }
  where
    less_fits : (b s : ℤ) → lowest ≤ℤ b → b ≤ℤ highest → IsSpacing s → FitsSigned w64 (b -ℤ s)
    less_fits b s low high is = let least : pos 0 ≤ℤ s = is.least in let most : s ≤ℤ pos 1048576 = is.most in omega (arith, ints)

pub record EndReckoned (a : Axis) (g : ℕ) (s z : ℤ) : Type 0 where
  pub fits : FitsSigned w64 (read z +ℤ read s)
  pub is : (m : ℤ) → m ≡ int_min (read (read z +ℤ read s)) highest → read m ≡ halo_end a g s

pub end_reckoned : (a : Axis) (g : ℕ) (s z : ℤ) → IsAxis a → g < bands a → IsSpacing s → z ≡ band_end a g → EndReckoned a g s z
end_reckoned a g s z is lt spacing z_is =
    let r = band_range a g is lt in
    let h = halo_range a g s is lt spacing in
    let b : read (band_end a g) ≡ band_end a g = read_is _ (coordinate_fits _ (le_trans _ _ _ r.least (lt_le _ _ r.some)) r.most) in
    let d = more_fits (band_end a g) s (le_trans _ _ _ r.least (lt_le _ _ r.some)) r.most spacing in
    record {
      fits = rw (z_is, b, spacing_read s spacing) d;
      is = λ m m_is. rw (m_is, z_is, b, spacing_read s spacing, read_is _ d) (halo_end_read h);
    }
  where
    more_fits : (b s : ℤ) → lowest ≤ℤ b → b ≤ℤ highest → IsSpacing s → FitsSigned w64 (b +ℤ s)
    more_fits b s low high is = let least : pos 0 ≤ℤ s = is.least in let most : s ≤ℤ pos 1048576 = is.most in omega (arith, ints)
