-- The suitable places of the columns so far are marked too.
use Rattle.std.proofs.Common.{◌≡◌, ◌&&◌, ◌||◌, ℤ, pos, ◌-ℤ◌, ◌≤ℤ◌}
use Rattle.std.specs.Int.{int_max}
use Rattle.std.specs.Ordering.{int_eq}
use Rattle.fill_base.specs.Counts.{is_between}
use Rattle.fill_raster.specs.Marks.{is_marked}
use Rattle.fill_job.specs.Plans.{is_suitable}
use Rattle.fill_job.specs.Basis.{layers_by, plan_by, windows_in}
use Rattle.fill_job.proofs.basis.Basis.mark_row.Given as goal

abbrev pub invariant-loop-i : goal.invariant-loop-i
invariant-loop-i l = record {
  from : l.left ≤ℤ l.i;
  to : l.i ≤ℤ int_max l.left l.right;
  index : pos l.index ≡ l.i -ℤ l.left;
  block : l.marks.block ≡ l.fn.marks.block;
  marked : (k m : ℤ) → is_marked l.marks k m ≡ (is_marked l.fn.marks k m || (int_eq m l.j && (is_between l.left l.i k && is_suitable (plan_by l.self) (layers_by l.self) (windows_in l.self.low) k m)));
}
