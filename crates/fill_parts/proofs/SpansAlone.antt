-- Some windows of an axis alone.
use Rattle.std.proofs.Common.{◌≡◌, ◌+◌, ◌-◌, ℤ, pos, ◌+ℤ◌, ◌*ℤ◌, ◌≤ℤ◌, arith}
use Rattle.std.proofs.Math.IntN.{zero-*ℤ}
use Rattle.std.proofs.lemmas.Int.{ints}
use Rattle.fill_base.specs.Coordinates.{highest, lowest}
use Rattle.fill_area.specs.Axes as areas
use Rattle.fill_area.specs.Axes.{axis_begin}
use Rattle.fill_area.specs.declared.axis.Axis as spans
use Rattle.fill_parts.specs.Smaller.{AreSome, Rows, spans_alone}
use Rattle.fill_parts.proofs.RowsAlone.{further}
use Rattle.fill_parts.proofs.RulesAlone.{rises}

-- some windows of an axis
pub spans_are : (s : spans.Axis) (rows : Rows) → areas.IsAxis s → AreSome rows s.count → areas.IsAxis (spans_alone s rows)
spans_are s rows is are = record {
  length_is = is.length_is;
  step_is = is.step_is;
  count_is = record { least = (let some = are.some in omega (arith, some)); most = (let within = are.within in let most = is.count_is.most in omega (arith, within, most)) };
  first_is = record {
    least = from (axis_begin s rows.from) is.first_is.least (start s.first (axis_begin s 0) (axis_begin s rows.from) (none s.first s.step) (rises s 0 rows.from is.step_is.least (omega arith)));
    most = to (axis_begin s rows.from) (axis_begin s (s.count - 1)) s.length is.length_is.least (rises s rows.from (s.count - 1) is.step_is.least (let some = are.some in let within = are.within in omega (arith, some, within))) is.last;
  };
  last = last (axis_begin s rows.from +ℤ (pos ((rows.to - rows.from) - 1) *ℤ s.step)) (axis_begin s (rows.from + ((rows.to - rows.from) - 1))) (axis_begin s (s.count - 1)) s.length (further s.first rows.from ((rows.to - rows.from) - 1) s.step)
      (rises s (rows.from + ((rows.to - rows.from) - 1)) (s.count - 1) is.step_is.least (let some = are.some in let within = are.within in omega (arith, some, within))) is.last;
}
  where
    none : (z t : ℤ) → z +ℤ (pos 0 *ℤ t) ≡ z
    none z t = rw (zero-*ℤ t) (plain z)
      where
        plain : (z : ℤ) → z +ℤ pos 0 ≡ z
        plain z = omega (arith, ints)

    start : (f z b : ℤ) → z ≡ f → z ≤ℤ b → f ≤ℤ b
    start f z b is le = omega (arith, ints)

    from : (b : ℤ) → lowest ≤ℤ s.first → s.first ≤ℤ b → lowest ≤ℤ b
    from b h k = omega (arith, ints)

    to : (b e l : ℤ) → pos 1 ≤ℤ l → b ≤ℤ e → (e +ℤ l) ≤ℤ highest → b ≤ℤ highest
    to b e l h k m = omega (arith, ints)

    last : (a b e l : ℤ) → a ≡ b → b ≤ℤ e → (e +ℤ l) ≤ℤ highest → (a +ℤ l) ≤ℤ highest
    last a b e l is le most = omega (arith, ints)
