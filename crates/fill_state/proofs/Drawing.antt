-- What counts of a design, square by square: whether it is metal, existing fill, and in the rectangle of an edit.
use Rattle.std.proofs.Common.{◌≡◌, refl, sym, ℤ, Bool, true, false, ◌&&◌, ◌||◌}
use Rattle.std.specs.Prelude.{not}
use Rattle.fill_base.specs.Squares.{squares}
use Rattle.fill_text.specs.declared.script.Edit.{Edit}
use Rattle.fill_text.specs.declared.script.Edit.TheVariants.{Add, Cut, Keep}
use Rattle.fill_core.specs.Machine.{metal_after}
use Rattle.fill_job.specs.Plans.{PointSet}
use Rattle.fill_state.specs.steps.Beside.{beside_after}

-- the existing fill beside the metal, after an edit
pub beside_stays : (edit : Edit) (metal existing beside : PointSet) (x y : ℤ) → beside x y ≡ existing x y && not (metal x y) → beside_after edit existing beside x y ≡ existing x y && not (metal_after edit metal x y)
beside_stays (Add r) metal existing beside x y is = rw is (covered (existing x y) (metal x y) (squares r x y))
  where
    covered : (e m r : Bool) → (e && not m) && not r ≡ e && not (m || r)
    covered true true r = refl
    covered true false r = refl
    covered false m r = refl
beside_stays (Cut r) metal existing beside x y is = rw is (bared (existing x y) (metal x y) (squares r x y))
  where
    bared : (e m r : Bool) → (e && not m) || (e && r) ≡ e && not (m && not r)
    bared true true true = refl
    bared true true false = refl
    bared true false r = refl
    bared false m r = refl
beside_stays (Keep r) metal existing beside x y is = is

-- metal and what of the existing fill lies beside it are all that counts, and no square is both
pub either_is : (m e : Bool) → m || (e && not m) ≡ m || e
either_is true e = refl
either_is false true = refl
either_is false false = refl

pub not_both : (m e b : Bool) → b ≡ e && not m → m ≡ true → b ≡ true → ⊥
not_both true true b is here there = let f : false ≡ true = (rw is at there) in cc
not_both true false b is here there = let f : false ≡ true = (rw is at there) in cc
not_both false e b is here there = let f : false ≡ true = here in cc

-- what of a rectangle is either, and what is metal alone
pub clipped_either : (m e r : Bool) → (m && r) || (e && r) ≡ (m || e) && r
clipped_either true true true = refl
clipped_either true true false = refl
clipped_either true false true = refl
clipped_either true false false = refl
clipped_either false e r = refl

pub clipped_alone : (m e r : Bool) → (m && r) && not (e && r) ≡ (m && not e) && r
clipped_alone true true true = refl
clipped_alone true true false = refl
clipped_alone true false true = refl
clipped_alone true false false = refl
clipped_alone false e r = refl

-- where no existing fill is in the rectangle, that is its metal
pub no_existing_either : (m e r : Bool) → e && r ≡ false → m && r ≡ (m || e) && r
no_existing_either true e r none = refl
no_existing_either false true r none = sym none
no_existing_either false false r none = refl

pub no_existing_alone : (m e r : Bool) → e && r ≡ false → m && r ≡ (m && not e) && r
no_existing_alone true true r none = none
no_existing_alone true false r none = refl
no_existing_alone false e r none = refl
