-- Passes cut off one by one, and sums over passes.
use Rattle.std.proofs.Common.{◌≡◌, ◌∙◌, ap, refl, arith, ℕ, zero, suc, ◌+◌, ◌-◌, ◌≤◌, List, [], ◌∷◌, ◌++◌, replicate}
use Rattle.fill_core.specs.Shares.{Held}

-- one more of the same at the end
replicate_push : (n : ℕ) (x : Held) → replicate n x ++ x ∷ [] ≡ replicate (suc n) x
replicate_push zero x = refl
replicate_push (suc n) x = ap (λ (xs : List Held). x ∷ xs) (replicate_push n x)

pub one_more : (new xs : List Held) (n : ℕ) (x y : Held) → 1 ≤ n → new ≡ xs ++ y ∷ [] → xs ≡ replicate (n - 1) x → y ≡ x → new ≡ replicate (n + 1 - 1) x
one_more new xs n x y least made is same =
    let e : suc (n - 1) ≡ n + 1 - 1 = omega arith in
    rw (made, is, same) (replicate_push (n - 1) x ∙ ap (λ (k : ℕ). replicate k x) e)

-- one part less
pub one_cut : (whole before after : Held) (n : ℕ) → n ≤ 1024 → before ≡ record whole { parts = 1025 - n } → after.parts + 1 ≡ before.parts → after.calls ≡ before.calls → after.placed ≡ before.placed → after.withdrawn ≡ before.withdrawn
    → after ≡ record whole { parts = 1025 - (n + 1) }
one_cut whole before after n most is parts calls placed withdrawn =
    let left : after.parts ≡ 1025 - (n + 1) = omega (arith, ap (λ (h : Held). h.parts) is) in
    let c : after.calls ≡ whole.calls = calls ∙ ap (λ (h : Held). h.calls) is in
    let p : after.placed ≡ whole.placed = placed ∙ ap (λ (h : Held). h.placed) is in
    let w : after.withdrawn ≡ whole.withdrawn = withdrawn ∙ ap (λ (h : Held). h.withdrawn) is in
    λ k. record { parts = left k; calls = c k; placed = p k; withdrawn = w k }
