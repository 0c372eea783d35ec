-- What a text says of a part, once it is known what it holds.
use Rattle.std.proofs.Common.{◌≡◌, ◌∙◌, ◌≤◌, ◌&&◌, ℕ, Bool, Option, Some, None, true, false, refl, sym, arith, length, map, List}
use Rattle.std.specs.Prelude.{nat_le}
use Rattle.std.proofs.lemmas.List.{length-map}
use Rattle.clap.specs.Words.{Text}
use Rattle.densfill_args.specs.Grammar.{is_signed, join, joined, number_of, plain_number}

pub plain_is : (t : Text) (o : Option ℕ) → is_signed t ≡ false → number_of t ≡ o → o ≡ plain_number t
plain_is t o plain is = sym is ∙ same
  where
    same : number_of t ≡ plain_number t
    same = rw plain refl

-- as many parts as there may be, or not
pub few_joined : {X : Type 0} (a b : Text) (text : X → Text) (xs : List X) → 1 ≤ length xs → length xs ≤ 4096 → Some (join a b (map text xs)) ≡ joined a b (map text xs)
few_joined a b text xs some few =
    let count = length-map xs text in
    let least : nat_le 1 (length (map text xs)) ≡ true = grind (arith, count, some) in
    let most : nat_le (length (map text xs)) 4096 ≡ true = grind (arith, count, few) in
    rw (least, most) refl

pub not_joined : {X : Type 0} (a b : Text) (text : X → Text) (xs : List X) → (1 ≤ length xs → length xs ≤ 4096 → ⊥) → None ≡ joined a b (map text xs)
not_joined a b text xs neither = rw (failed (nat_le 1 (length (map text xs)) && nat_le (length (map text xs)) 4096) refl) refl
  where
    and_left : (p q : Bool) → (p && q) ≡ true → p ≡ true
    and_left true q h = refl
    and_left false q h = h

    and_right : (p q : Bool) → (p && q) ≡ true → q ≡ true
    and_right true q h = h
    and_right false q h = absurd (grind (arith, h))

    passed : nat_le 1 (length (map text xs)) ≡ true → nat_le (length (map text xs)) 4096 ≡ true → ⊥
    passed least most =
        let count = length-map xs text in
        neither (grind (arith, count, least)) (grind (arith, count, most))

    failed : (t : Bool) → (nat_le 1 (length (map text xs)) && nat_le (length (map text xs)) 4096) ≡ t → (nat_le 1 (length (map text xs)) && nat_le (length (map text xs)) 4096) ≡ false
    failed true h = absurd (passed (and_left _ _ h) (and_right _ _ h))
    failed false h = h
