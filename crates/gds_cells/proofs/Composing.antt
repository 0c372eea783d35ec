-- Placements one after the other.
use Rattle.std.proofs.Common.{◌≡◌, ℤ, pos, ◌+ℤ◌, ◌-ℤ◌, Bool, true, false, arith, refl}
use Rattle.std.specs.Prelude.{cond}
use Rattle.std.proofs.lemmas.Int.{ints}
use Rattle.gds_cells.specs.declared.placement.Placement.{Placement}
use Rattle.gds_cells.specs.Placements.{signed, either, mirrored, back_x, back_y, point_x, point_y, carried, composed, still}

either_assoc : (a b c : Bool) → either a (either b c) ≡ either (either a b) c
either_assoc true true true = refl
either_assoc true true false = refl
either_assoc true false true = refl
either_assoc true false false = refl
either_assoc false true true = refl
either_assoc false true false = refl
either_assoc false false true = refl
either_assoc false false false = refl

mirrored_either : (a b : Bool) (v m n : ℤ) → mirrored (either a b) (v -ℤ (signed a m +ℤ n)) ≡ mirrored b (mirrored a (v -ℤ n) -ℤ m)
mirrored_either true true v m n = omega (arith, ints)
mirrored_either true false v m n = omega (arith, ints)
mirrored_either false true v m n = omega (arith, ints)
mirrored_either false false v m n = omega (arith, ints)

back_together_x : (p q : Placement) (x y : ℤ) → back_x (composed p q) x y ≡ back_x q (back_x p x y) (back_y p x y)
back_together_x p q x y = cases p.swapped q.swapped
  where
    cases : (a b : Bool)
        → cond (either a b)
        (mirrored (either p.flip_y (cond a q.flip_x q.flip_y)) (y -ℤ (signed p.flip_y (cond a q.x q.y) +ℤ p.y)))
        (mirrored (either p.flip_x (cond a q.flip_y q.flip_x)) (x -ℤ (signed p.flip_x (cond a q.y q.x) +ℤ p.x)))
        ≡ cond b
        (mirrored q.flip_y (cond a (mirrored p.flip_x (x -ℤ p.x)) (mirrored p.flip_y (y -ℤ p.y)) -ℤ q.y))
        (mirrored q.flip_x (cond a (mirrored p.flip_y (y -ℤ p.y)) (mirrored p.flip_x (x -ℤ p.x)) -ℤ q.x))
    cases true true = mirrored_either p.flip_x q.flip_y x q.y p.x
    cases true false = mirrored_either p.flip_y q.flip_x y q.x p.y
    cases false true = mirrored_either p.flip_y q.flip_y y q.y p.y
    cases false false = mirrored_either p.flip_x q.flip_x x q.x p.x

back_together_y : (p q : Placement) (x y : ℤ) → back_y (composed p q) x y ≡ back_y q (back_x p x y) (back_y p x y)
back_together_y p q x y = cases p.swapped q.swapped
  where
    cases : (a b : Bool)
        → cond (either a b)
        (mirrored (either p.flip_x (cond a q.flip_y q.flip_x)) (x -ℤ (signed p.flip_x (cond a q.y q.x) +ℤ p.x)))
        (mirrored (either p.flip_y (cond a q.flip_x q.flip_y)) (y -ℤ (signed p.flip_y (cond a q.x q.y) +ℤ p.y)))
        ≡ cond b
        (mirrored q.flip_x (cond a (mirrored p.flip_y (y -ℤ p.y)) (mirrored p.flip_x (x -ℤ p.x)) -ℤ q.x))
        (mirrored q.flip_y (cond a (mirrored p.flip_x (x -ℤ p.x)) (mirrored p.flip_y (y -ℤ p.y)) -ℤ q.y))
    cases true true = mirrored_either p.flip_y q.flip_x y q.x p.y
    cases true false = mirrored_either p.flip_x q.flip_y x q.y p.x
    cases false true = mirrored_either p.flip_x q.flip_x x q.x p.x
    cases false false = mirrored_either p.flip_y q.flip_y y q.y p.y

pub carried_together : (p q : Placement) (s : ℤ → ℤ → Bool) (x y : ℤ) → carried (composed p q) s x y ≡ carried p (carried q s) x y
carried_together p q s x y = rw (back_together_x p q x y, back_together_y p q x y) refl

-- ---- grouping: the flips and the moves along one axis

flips : (a b : Bool) (f g h k l : Bool)
    → either f (cond a (either g (cond b h k)) (either l (cond b k h))) ≡ either (either f (cond a g l)) (cond (either a b) k h)
flips true true f g h k l = either_assoc f g h
flips true false f g h k l = either_assoc f g k
flips false true f g h k l = either_assoc f l k
flips false false f g h k l = either_assoc f l h

signed_either : (a b : Bool) (v w z : ℤ) → signed a (signed b v +ℤ w) +ℤ z ≡ signed (either a b) v +ℤ (signed a w +ℤ z)
signed_either true true v w z = omega (arith, ints)
signed_either true false v w z = omega (arith, ints)
signed_either false true v w z = omega (arith, ints)
signed_either false false v w z = omega (arith, ints)

pub point_together_x : (p q : Placement) (x y : ℤ) → point_x p (point_x q x y) (point_y q x y) ≡ point_x (composed p q) x y
point_together_x p q x y = cases p.swapped q.swapped
  where
    cases : (a b : Bool)
        → signed p.flip_x (cond a (signed q.flip_y (cond b x y) +ℤ q.y) (signed q.flip_x (cond b y x) +ℤ q.x)) +ℤ p.x
        ≡ signed (either p.flip_x (cond a q.flip_y q.flip_x)) (cond (either a b) y x) +ℤ (signed p.flip_x (cond a q.y q.x) +ℤ p.x)
    cases true true = signed_either p.flip_x q.flip_y x q.y p.x
    cases true false = signed_either p.flip_x q.flip_y y q.y p.x
    cases false true = signed_either p.flip_x q.flip_x y q.x p.x
    cases false false = signed_either p.flip_x q.flip_x x q.x p.x

pub point_together_y : (p q : Placement) (x y : ℤ) → point_y p (point_x q x y) (point_y q x y) ≡ point_y (composed p q) x y
point_together_y p q x y = cases p.swapped q.swapped
  where
    cases : (a b : Bool)
        → signed p.flip_y (cond a (signed q.flip_x (cond b y x) +ℤ q.x) (signed q.flip_y (cond b x y) +ℤ q.y)) +ℤ p.y
        ≡ signed (either p.flip_y (cond a q.flip_x q.flip_y)) (cond (either a b) x y) +ℤ (signed p.flip_y (cond a q.x q.y) +ℤ p.y)
    cases true true = signed_either p.flip_y q.flip_x y q.x p.y
    cases true false = signed_either p.flip_y q.flip_x x q.x p.y
    cases false true = signed_either p.flip_y q.flip_y x q.y p.y
    cases false false = signed_either p.flip_y q.flip_y y q.y p.y

pub composed_groups : (p q r : Placement) → composed p (composed q r) ≡ composed (composed p q) r
composed_groups p q r = λ i. record {
  swapped = either_assoc p.swapped q.swapped r.swapped i;
  flip_x = flips p.swapped q.swapped p.flip_x q.flip_y r.flip_x r.flip_y q.flip_x i;
  flip_y = flips p.swapped q.swapped p.flip_y q.flip_x r.flip_y r.flip_x q.flip_y i;
  x = point_together_x p q r.x r.y i;
  y = point_together_y p q r.x r.y i;
}

-- ---- the placement that moves nothing

either_false : (a c : Bool) → either a (cond c false false) ≡ a
either_false true true = refl
either_false true false = refl
either_false false true = refl
either_false false false = refl

swapped_false : (a : Bool) → either a false ≡ a
swapped_false true = refl
swapped_false false = refl

no_move : (a b : Bool) (z : ℤ) → signed a (cond b (pos 0) (pos 0)) +ℤ z ≡ z
no_move true true z = omega (arith, ints)
no_move true false z = omega (arith, ints)
no_move false true z = omega (arith, ints)
no_move false false z = omega (arith, ints)

pub composed_still : (p : Placement) → composed p still ≡ p
composed_still p = λ i. record {
  swapped = swapped_false p.swapped i;
  flip_x = either_false p.flip_x p.swapped i;
  flip_y = either_false p.flip_y p.swapped i;
  x = no_move p.flip_x p.swapped p.x i;
  y = no_move p.flip_y p.swapped p.y i;
}

plus_none : (z : ℤ) → z +ℤ pos 0 ≡ z
plus_none z = omega (arith, ints)

pub still_composed : (p : Placement) → composed still p ≡ p
still_composed p = λ i. record {
  swapped = p.swapped;
  flip_x = p.flip_x;
  flip_y = p.flip_y;
  x = plus_none p.x i;
  y = plus_none p.y i;
}
