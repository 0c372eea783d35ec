-- A search for a tile passes by one that is in.
use Rattle.std.proofs.Common.{◌≡◌, refl, sym, ◌∙◌, ℕ, suc, ◌+◌, ◌-◌, ◌<◌, arith, Bool, true, false}
use Rattle.std.specs.Prelude.{find, not, Option, Some, None, is_some, IsTrue, ◌↔◌}
use Rattle.std.specs.List.{range_with_len}
use Rattle.fill_core.specs.Tiles.{next_tile}
use Rattle.fill_core.proofs.Searched.{next_none}

passed_one : (p : ℕ → Bool) (i n : ℕ) → p i ≡ false → find p (range_with_len i (suc n)) ≡ find p (range_with_len (i + 1) n)
passed_one p i n h = rw h refl

pub passed : (p : ℕ → Bool) (i past : ℕ) → i < past → p i ≡ false → find p (range_with_len i (past - i)) ≡ find p (range_with_len (i + 1) (past - (i + 1)))
passed p i past lt h =
    let e : past - i ≡ suc (past - (i + 1)) = omega (arith, lt) in
    rw e (passed_one p i (past - (i + 1)) h)

-- and ends at one that isn't
pub found : (p : ℕ → Bool) (i past : ℕ) → i < past → p i ≡ true → Some i ≡ find p (range_with_len i (past - i))
found p i past lt h =
    let e : past - i ≡ suc (past - (i + 1)) = omega (arith, lt) in
    rw (e, h) refl

-- where no tile comes next, all are in
pub none_open : (count : ℕ) (tiles_in : ℕ → Bool) (o : Option ℕ) (result : Bool) → o ≡ next_tile count tiles_in 0 → is_some o ≡ not result
    → IsTrue result ↔ ((tile : ℕ) → tile < count → tiles_in tile ≡ true)
none_open count tiles_in (Some t) true e h = absurd (let f : true ≡ false = h in cc)
none_open count tiles_in (Some t) false e h = (
  (λ yes_it. absurd (let f : false ≡ true = yes_it in cc)),
  (λ all. absurd (let n : Some t ≡ None = e ∙ (next_none count tiles_in 0).1 all in cc)),
)
none_open count tiles_in None true e h = ((λ it. (next_none count tiles_in 0).0 (sym e)), (λ all. refl))
none_open count tiles_in None false e h = absurd (let f : false ≡ true = h in cc)
