-- The stacks of the filled places lie on the raster, and what each of them becomes, all become.
use Rattle.std.proofs.Common.{◌≡◌, List}
use Rattle.std.specs.List.{flat_map, AllByRecursion}
use Rattle.fill_raster.specs.Lattice.{Lattice}
use Rattle.fill_stacks.specs.Laws.{IsOnRaster}
use Rattle.fill_stacks.specs.Places.{PlaceSet}
use Rattle.fill_stacks.specs.Stacks.{stacks}
use Rattle.fill_stacks.specs.declared.pieces.Stack.{Stack}
use Rattle.fill_stacks.proofs.Bounds.{on_the_raster}
use Rattle.fill_stacks.proofs.Lists.{all_flat, flat_same, one_all}
use Rattle.gds_out.specs.steps.Ranges.{IsStackOf}

pub all_on : (filled : PlaceSet) (r : Lattice) → AllByRecursion (IsOnRaster filled r) (stacks filled r)
all_on filled r = one_all (IsOnRaster filled r) (stacks filled r) (on_the_raster filled r)

pub part_of : (filled : PlaceSet) (r : Lattice) (s : Stack) → IsOnRaster filled r s → IsStackOf r s
part_of filled r s is = record { wide = is.wide; left = is.left; right = is.right; tall = is.some; low = is.from; high = is.to }

module _ (r : Lattice) (filled : PlaceSet) where
  pub stacks_same : {A B : Type 0} (g : A → List B) (f : Stack → List A) (h : Stack → List B) → ((s : Stack) → IsOnRaster filled r s → flat_map g (f s) ≡ h s)
      → flat_map g (flat_map f (stacks filled r)) ≡ flat_map h (stacks filled r)
  stacks_same g f h each = flat_same g f h (IsOnRaster filled r) (stacks filled r) (all_on filled r) each

  pub stacks_all : {A : Type 0} (P : A → Type 0) (f : Stack → List A) → ((s : Stack) → AllByRecursion P (f s)) → AllByRecursion P (flat_map f (stacks filled r))
  stacks_all P f each = all_flat P f (stacks filled r) each
