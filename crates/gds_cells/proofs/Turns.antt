-- Angles and magnifications: what the reals say, and the tests of them.
use Rattle.std.proofs.Common.{◌≡◌, ℕ, zero, suc, ◌*◌, ◌^◌, ◌≤◌, Bool, true, false, Option, Some, None, Result, Ok, Err, refl, arith, sym, ◌∙◌, inl, inr, eqb, cond, ap}
use Rattle.std.specs.Prelude.{◌⊎◌, IfOk, OnErr, not, ◌&&◌}
use Rattle.std.specs.Result.{result_ok}
use Rattle.std.proofs.lemmas.Bool.{cases_eq, ne_eqb, eq-eqb, eqb-true, not-false, not-true, and_parts}
use Rattle.gds_record.specs.declared.reals.BadReal.{BadReal}
use Rattle.gds_record.specs.Reals.{bits_of, fraction, exponent, is_negative, HasValue, turns_of}
use Rattle.gds_cells.specs.References.{has_magnitude, turns_of_bits}
use Rattle.gds_cells.specs.Laws.{IsTurnBy, TurnsAreDegrees, UnitIsOne}

-- the five angles, by what stands on the left of their equation
abbrev by_value : ℕ → Bool → Option ℕ
by_value v sign =
    cond (eqb v (0 * 16 ^ 78)) (Some 0)
    (cond (eqb v (90 * 16 ^ 78)) (Some (turns_of sign 1))
    (cond (eqb v (180 * 16 ^ 78)) (Some (turns_of sign 2))
    (cond (eqb v (270 * 16 ^ 78)) (Some (turns_of sign 3))
    (cond (eqb v (360 * 16 ^ 78)) (Some 0) None))))

no_turn : (negative : Bool) → 0 ≡ turns_of negative 0
no_turn true = refl
no_turn false = refl

whole_turn : (negative : Bool) → 0 ≡ turns_of negative 4
whole_turn true = refl
whole_turn false = refl

quarter : (v : ℕ) (sign negative : Bool) (k : ℕ) → k ≤ 4 → v ≡ 90 * k * 16 ^ 78 → (90 * k ≡ 0) ⊎ (sign ≡ negative)
    → by_value v sign ≡ Some (turns_of negative k)
quarter v sign negative zero le h s = rw h (ap Some (no_turn negative))
quarter v sign negative (suc zero) le h s = elim s [ inl z ↦ absurd (omega arith) | inr e ↦ rw (h, e) refl ]
quarter v sign negative (suc (suc zero)) le h s = elim s [ inl z ↦ absurd (omega arith) | inr e ↦ rw (h, e) refl ]
quarter v sign negative (suc (suc (suc zero))) le h s = elim s [ inl z ↦ absurd (omega arith) | inr e ↦ rw (h, e) refl ]
quarter v sign negative (suc (suc (suc (suc zero)))) le h s = rw h (ap Some (whole_turn negative))
quarter v sign negative (suc (suc (suc (suc (suc k))))) le h s = absurd (omega arith)

no_quarter : (v : ℕ) (sign : Bool) → ((k : ℕ) → k ≤ 4 → v ≡ 90 * k * 16 ^ 78 → ⊥) → by_value v sign ≡ None
no_quarter v sign none =
    let a = ne_eqb v (0 * 16 ^ 78) (none 0 (omega arith)) in
    let b = ne_eqb v (90 * 16 ^ 78) (none 1 (omega arith)) in
    let c = ne_eqb v (180 * 16 ^ 78) (none 2 (omega arith)) in
    let d = ne_eqb v (270 * 16 ^ 78) (none 3 (omega arith)) in
    let e = ne_eqb v (360 * 16 ^ 78) (none 4 (omega arith)) in
    rw (a, b, c, d, e) refl

quarter_of : (bits : ℕ) (negative : Bool) (k : ℕ) → k ≤ 4 → HasValue bits negative (90 * k) → turns_of_bits bits ≡ Some (turns_of negative k)
quarter_of bits negative k le h = quarter (fraction bits * 16 ^ exponent bits) (is_negative bits) negative k le h.magnitude h.sign

none_of : (bits : ℕ) → ((negative : Bool) (k : ℕ) → k ≤ 4 → HasValue bits negative (90 * k) → ⊥) → turns_of_bits bits ≡ None
none_of bits none =
    no_quarter (fraction bits * 16 ^ exponent bits) (is_negative bits)
    (λ k le e. none (is_negative bits) k le (record { magnitude = e; sign = inr refl }))

-- what is read of an angle
pub turns_read : (bits : ℕ) (r : Result ℕ BadReal) → IfOk r (IsTurnBy bits) → OnErr r ((negative : Bool) (k : ℕ) → k ≤ 4 → HasValue bits negative (90 * k) → ⊥)
    → result_ok r ≡ turns_of_bits bits
turns_read bits (Ok t) found none = ap Some found.4 ∙ sym (quarter_of bits found.0 found.1 found.2 found.3)
turns_read bits (Err e) found none = sym (none_of bits none)

-- ---- the laws

one_of : (v : ℕ) → ((k : ℕ) × (k ≤ 4) × (v ≡ 90 * k * 16 ^ 78)) ⊎ ((k : ℕ) → k ≤ 4 → v ≡ 90 * k * 16 ^ 78 → ⊥)
one_of v =
    elim (cases_eq v (90 * 0 * 16 ^ 78)) [
      | inl e ↦ inl (0, omega arith, e)
      | inr a ↦ elim (cases_eq v (90 * 1 * 16 ^ 78)) [
        | inl e ↦ inl (1, omega arith, e)
        | inr b ↦ elim (cases_eq v (90 * 2 * 16 ^ 78)) [
          | inl e ↦ inl (2, omega arith, e)
          | inr c ↦ elim (cases_eq v (90 * 3 * 16 ^ 78)) [
            | inl e ↦ inl (3, omega arith, e)
            | inr d ↦ elim (cases_eq v (90 * 4 * 16 ^ 78)) [
              | inl e ↦ inl (4, omega arith, e)
              | inr e ↦ inr (none a b c d e)
            ]
          ]
        ]
      ]
    ]
  where
    none : (v ≡ 90 * 0 * 16 ^ 78 → ⊥) → (v ≡ 90 * 1 * 16 ^ 78 → ⊥) → (v ≡ 90 * 2 * 16 ^ 78 → ⊥) → (v ≡ 90 * 3 * 16 ^ 78 → ⊥) → (v ≡ 90 * 4 * 16 ^ 78 → ⊥)
        → (k : ℕ) → k ≤ 4 → v ≡ 90 * k * 16 ^ 78 → ⊥
    none a b c d e zero le h = a h
    none a b c d e (suc zero) le h = b h
    none a b c d e (suc (suc zero)) le h = c h
    none a b c d e (suc (suc (suc zero))) le h = d h
    none a b c d e (suc (suc (suc (suc zero)))) le h = e h
    none a b c d e (suc (suc (suc (suc (suc k))))) le h = absurd (omega arith)

some_same : (t u : ℕ) (o : Option ℕ) → o ≡ Some t → o ≡ Some u → t ≡ u
some_same t u o h k = cc

some_none : (t : ℕ) (o : Option ℕ) → o ≡ Some t → o ≡ None → ⊥
some_none t o h k = cc

turn_found : (bits t : ℕ) → turns_of_bits bits ≡ Some t → IsTurnBy bits t
turn_found bits t h =
    elim (one_of (fraction bits * 16 ^ exponent bits)) [
      | inl w ↦
          let value : HasValue bits (is_negative bits) (90 * w.0) = record { magnitude = w.2; sign = inr refl } in
          (is_negative bits, w.0, w.1, value, some_same t _ _ h (quarter_of bits (is_negative bits) w.0 w.1 value))
      | inr none ↦ absurd (some_none t _ h (no_quarter (fraction bits * 16 ^ exponent bits) (is_negative bits) none))
    ]

pub turns_are_degrees_lem : TurnsAreDegrees
turns_are_degrees_lem bits t =
    (turn_found bits t, λ w. quarter_of bits w.0 w.1 w.2 w.3 ∙ ap Some (sym w.4))

one_is : (bits : ℕ) → not (has_magnitude 1 bits && not (is_negative bits)) ≡ false → HasValue bits false 1
one_is bits h =
    let p = and_parts _ _ (not-false _ h) in
    record { magnitude = eqb-true _ _ p.0; sign = inr (not-true _ p.1) }

is_one : (bits : ℕ) → HasValue bits false 1 → not (has_magnitude 1 bits && not (is_negative bits)) ≡ false
is_one bits h =
    elim h.sign [
      | inl z ↦ absurd (omega arith)
      | inr e ↦ rw (eq-eqb _ _ h.magnitude, e) refl
    ]

pub unit_is_one_lem : UnitIsOne
unit_is_one_lem bytes = (one_is (bits_of bytes), is_one (bits_of bytes))
