-- The suitable places of the rows so far are marked.
use Rattle.std.proofs.Common.{◌≡◌, ◌&&◌, ℤ, ◌≤ℤ◌}
use Rattle.std.specs.Int.{int_max}
use Rattle.fill_base.specs.Counts.{is_between}
use Rattle.fill_raster.specs.Marks.{is_marked}
use Rattle.fill_job.specs.Plans.{is_suitable}
use Rattle.fill_job.specs.Basis.{layers_by, plan_by, windows_in}
use Rattle.fill_job.proofs.basis.Basis.mark_rows.Given as goal

abbrev pub invariant-loop-j : goal.invariant-loop-j
invariant-loop-j l = record {
  from : l.bottom ≤ℤ l.j;
  to : l.j ≤ℤ int_max l.bottom l.top;
  block : l.marks.block ≡ l.fn.marks.block;
  marked : (k m : ℤ) → is_marked l.marks k m ≡ (is_between l.bottom l.j m && (is_between l.left l.right k && is_suitable (plan_by l.self) (layers_by l.self) (windows_in l.self.low) k m));
}
