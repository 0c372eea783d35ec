-- Tests of densities, as the code makes them.
use Rattle.std.proofs.Common.{◌≡◌, ℤ, pos, ◌*ℤ◌, refl, Bool, true, false, ◌↔◌, w64, FitsSigned}
use Rattle.std.specs.Prelude.{IsTrue}
use Rattle.fill_area.specs.Density.{IsBelow, IsAbove}
use Rattle.fill_base.proofs.Signed.{read, read_is, lt_test}
use Rattle.fill_text.specs.declared.limits.Limits.{Limits}
use Rattle.fill_report.specs.declared.line.Density.TheVariants.{High, Within}
use Rattle.fill_report.specs.Report.{density_of}

pub is_high : (total : ℤ) (limits : Limits) (size : ℤ) (low high : Bool) → FitsSigned w64 total → FitsSigned w64 limits.least → FitsSigned w64 limits.most → FitsSigned w64 size
    → (IsTrue low ↔ IsBelow (read total) (read limits.least) (read size)) → low ≡ false → (IsTrue high ↔ IsAbove (read total) (read limits.most) (read size)) → high ≡ true → High ≡ density_of total limits size
is_high total limits size low high ft fl fm fs l not_low h is =
    let l' : IsTrue low ↔ IsBelow total limits.least size = rw (read_is total ft, read_is limits.least fl, read_is size fs) at l in
    let h' : IsTrue high ↔ IsAbove total limits.most size = rw (read_is total ft, read_is limits.most fm, read_is size fs) at h in
    rw (lt_test (total *ℤ pos 1000000) (limits.least *ℤ size) low l', not_low, lt_test (limits.most *ℤ size) (total *ℤ pos 1000000) high h', is) refl

pub is_within : (total : ℤ) (limits : Limits) (size : ℤ) (low high : Bool) → FitsSigned w64 total → FitsSigned w64 limits.least → FitsSigned w64 limits.most → FitsSigned w64 size
    → (IsTrue low ↔ IsBelow (read total) (read limits.least) (read size)) → low ≡ false → (IsTrue high ↔ IsAbove (read total) (read limits.most) (read size)) → high ≡ false → Within ≡ density_of total limits size
is_within total limits size low high ft fl fm fs l not_low h not_high =
    let l' : IsTrue low ↔ IsBelow total limits.least size = rw (read_is total ft, read_is limits.least fl, read_is size fs) at l in
    let h' : IsTrue high ↔ IsAbove total limits.most size = rw (read_is total ft, read_is limits.most fm, read_is size fs) at h in
    rw (lt_test (total *ℤ pos 1000000) (limits.least *ℤ size) low l', not_low, lt_test (limits.most *ℤ size) (total *ℤ pos 1000000) high h', not_high) refl
