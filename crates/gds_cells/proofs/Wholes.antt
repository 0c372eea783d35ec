-- Whole steps: so many of them come to the way.
use Rattle.std.proofs.Common.{neg_ℤ, ◌≡◌, ℕ, suc, ◌+◌, ◌-◌, ◌*◌, ◌/◌, ◌%◌, ◌<◌, ℤ, pos, negsuc, ◌+ℤ◌, ◌-ℤ◌, ◌*ℤ◌, true, arith, ap, ◌∙◌, sym}
use Rattle.std.specs.Prelude.{unsigned_abs}
use Rattle.std.specs.Int.{int_div_euclid, int_rem_euclid}
use Rattle.std.specs.Ordering.{int_eq}
use Rattle.std.proofs.lemmas.Int.{ints}
use Rattle.std.proofs.Math.Nat.{mul-mod_right, mul-div_cancel_left}
use Rattle.std.proofs.lemmas.Nat.{mod-mul-add, div-mul-add}
use Rattle.std.proofs.lemmas.Bool.{and_parts, and_from}
use Rattle.fill_base.specs.declared.place.Point.{Point}
use Rattle.gds_cells.specs.References.{is_whole, has_steps, step_of}
use Rattle.gds_cells.specs.Laws.{IsStep, StepsAreWhole}

is_zero : (n : ℕ) → int_eq (pos n) (pos 0) ≡ true → n ≡ 0
is_zero n h = grind (arith, ints)

zero_is : (z : ℤ) → z ≡ pos 0 → int_eq z (pos 0) ≡ true
zero_is z h = grind (arith, ints)

pub whole_size : (way : ℤ) (n : ℕ) → 0 < n → is_whole way n ≡ true → n * unsigned_abs (int_div_euclid way (pos n)) ≡ unsigned_abs way
whole_size (pos a) n some h = let e : a % n ≡ 0 = is_zero (a % n) h in omega arith
whole_size (negsuc a) n some h = let e : n - 1 - a % n ≡ 0 = is_zero (n - 1 - a % n) h in omega arith

whole_way : (way : ℤ) (n : ℕ) → 0 < n → is_whole way n ≡ true → pos n *ℤ int_div_euclid way (pos n) ≡ way
whole_way (pos a) n some h =
    let e : a % n ≡ 0 = is_zero (a % n) h in
    let k : n * (a / n) ≡ a = omega arith in
    ap pos k
whole_way (negsuc a) n some h =
    let e : n - 1 - a % n ≡ 0 = is_zero (n - 1 - a % n) h in
    let k : n * suc (a / n) ≡ suc a = omega arith in
    ap (λ m. neg_ℤ (pos m)) k

whole_found : (way d : ℤ) (n : ℕ) → 0 < n → way ≡ pos n *ℤ d → (int_rem_euclid way (pos n) ≡ pos 0) × (int_div_euclid way (pos n) ≡ d)
whole_found way (pos d) n some h = rw h (ap pos (mul-mod_right n d), ap pos (mul-div_cancel_left d some))
whole_found way (negsuc d) n some h =
    let k : n * suc d ≡ suc (d * n + (n - 1)) = omega arith in
    let e : way ≡ negsuc (d * n + (n - 1)) = h ∙ ap (λ m. neg_ℤ (pos m)) k in
    let r : n - 1 - (d * n + (n - 1)) % n ≡ 0 = omega (arith, mod-mul-add d n (n - 1) (omega arith)) in
    rw e (ap pos r, ap negsuc (div-mul-add d n (n - 1) (omega arith)))

-- ---- the steps between two points

back : (a b w : ℤ) → w ≡ b -ℤ a → b ≡ a +ℤ w
back a b w h = omega (arith, ints)

way_is : (a b w : ℤ) → b ≡ a +ℤ w → b -ℤ a ≡ w
way_is a b w h = omega (arith, ints)

along : (a b d : ℤ) (n : ℕ) → 0 < n → is_whole (b -ℤ a) n ≡ true → int_div_euclid (b -ℤ a) (pos n) ≡ d → b ≡ a +ℤ (pos n *ℤ d)
along a b d n some h is = back a b _ (ap (λ e. pos n *ℤ e) (sym is) ∙ whole_way (b -ℤ a) n some h)

both : (a b c d : ℤ) → a ≡ c → b ≡ d → ◌≡◌ {A = Point} (record { x = a; y = b }) (record { x = c; y = d })
both a b c d h k = λ i. record { x = h i; y = k i }

pub steps_are_whole_lem : StepsAreWhole
steps_are_whole_lem p q d n some = (forth, came)
  where
    forth : (has_steps p q n ≡ true) × (step_of p q n ≡ d) → IsStep p q n d
    forth h =
        let w = and_parts _ _ h.0 in
        (along p.x q.x d.x n some w.0 (ap (λ e. e.x) h.1), along p.y q.y d.y n some w.1 (ap (λ e. e.y) h.1))

    came : IsStep p q n d → (has_steps p q n ≡ true) × (step_of p q n ≡ d)
    came h =
        let x = whole_found (q.x -ℤ p.x) d.x n some (way_is p.x q.x _ h.0) in
        let y = whole_found (q.y -ℤ p.y) d.y n some (way_is p.y q.y _ h.1) in
        (and_from _ _ (zero_is _ x.0) (zero_is _ y.0), both _ _ d.x d.y x.1 y.1)
