-- What counts of a span: it lies within the span, and is no longer.
use Rattle.std.proofs.Common.{ℕ, ◌*◌, ◌≤◌, ℤ, ◌≤ℤ◌, ◌<ℤ◌, arith}
use Rattle.std.specs.Int.{int_max, int_min}
use Rattle.std.proofs.lemmas.Int.{ints, clamps}
use Rattle.fill_base.specs.Counts.{span_len}

pub part_ordered : (low high b e : ℤ) → b ≤ℤ e → int_min (int_max b low) high ≤ℤ int_min (int_max e low) high
part_ordered low high b e h = omega (arith, ints, clamps)

pub part_in : (low high b e x : ℤ) → int_min (int_max b low) high ≤ℤ x → x <ℤ int_min (int_max e low) high → (b ≤ℤ x) × (x <ℤ e)
part_in low high b e x h k = (omega (arith, ints, clamps), omega (arith, ints, clamps))

pub part_shorter : (low high b e : ℤ) → b ≤ℤ e → span_len (int_min (int_max b low) high) (int_min (int_max e low) high) ≤ span_len b e
part_shorter low high b e h = omega (arith, ints, clamps)

pub product_most : (n s t u v : ℕ) → n ≤ s * t → s ≤ u → t ≤ v → n ≤ u * v
product_most n s t u v h k l = grind (arith, h, k, l)
