-- How far a chain of placements moves.
use Rattle.std.proofs.Common.{◌≡◌, ℕ, ◌+◌, ◌*◌, ◌≤◌, ℤ, ◌+ℤ◌, Bool, true, false, arith}
use Rattle.std.specs.Prelude.{unsigned_abs, cond}
use Rattle.std.proofs.lemmas.Int.{ints}
use Rattle.gds_cells.specs.declared.placement.Placement.{Placement}
use Rattle.gds_cells.specs.Placements.{signed, composed}
use Rattle.gds_cells.specs.steps.Ranges.{IsWithin}

pub signed_size : (b : Bool) (v : ℤ) → unsigned_abs (signed b v) ≡ unsigned_abs v
signed_size true v = omega (arith, ints)
signed_size false v = omega (arith, ints)

pub either_size : (b : Bool) (v w : ℤ) (m : ℕ) → unsigned_abs v ≤ m → unsigned_abs w ≤ m → unsigned_abs (cond b v w) ≤ m
either_size true v w m h k = h
either_size false v w m h k = k

pub sum_size : (v w : ℤ) (m n : ℕ) → unsigned_abs v ≤ m → unsigned_abs w ≤ n → unsigned_abs (v +ℤ w) ≤ n + m
sum_size v w m n h k = omega (arith, ints)

one_more : (b c : Bool) (v w z : ℤ) (n : ℕ) → unsigned_abs v ≤ 1 * 68719476736 → unsigned_abs w ≤ 1 * 68719476736
    → unsigned_abs z ≤ n * 68719476736 → unsigned_abs (signed b (cond c v w) +ℤ z) ≤ (n + 1) * 68719476736
one_more b c v w z n h k l =
    let size = either_size c v w _ h k in
    let same = signed_size b (cond c v w) in
    let sum = sum_size (signed b (cond c v w)) z (1 * 68719476736) (n * 68719476736) (omega arith) l in
    omega arith

-- one placement more
pub within_next : (n : ℕ) (p q : Placement) → IsWithin n p → IsWithin 1 q → IsWithin (n + 1) (composed p q)
within_next n p q h k = record {
  x = one_more p.flip_x p.swapped q.y q.x p.x n k.y k.x h.x;
  y = one_more p.flip_y p.swapped q.x q.y p.y n k.x k.y h.y;
}
