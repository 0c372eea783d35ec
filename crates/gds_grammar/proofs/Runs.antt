-- Runs of the machine, piece by piece.
use Rattle.std.proofs.Common.{◌≡◌, ℕ, Bool, true, false, cond, eqb, List, [], ◌∷◌, ◌++◌, Result, Ok, Err, refl, sym, ap, ◌∙◌, inl, inr}
use Rattle.std.specs.Prelude.{◌⊎◌}
use Rattle.std.specs.List.{AllByRecursion}
use Rattle.std.proofs.lemmas.Bool.{eqb-true, eq-eqb}
use Rattle.gds_record.specs.Records.{Rec}
use Rattle.gds_grammar.specs.declared.error.Refusal.{Refusal}
use Rattle.gds_grammar.specs.declared.error.Refusal.TheVariants.{Unexpected}
use Rattle.gds_grammar.specs.Forms.{is_well, IsWell}
use Rattle.gds_grammar.specs.Grammar.{Rules}
use Rattle.fill_base.specs.Sequence.{◌>>=◌}
use Rattle.gds_grammar.specs.Machine.{State, fine, refuse, expect, next_state, step, run}

-- ---- tests and results

pub fine_is : (s t : State) → fine s ≡ fine t → s ≡ t
fine_is s t e = cc

pub not_fine : {A : Type 0} (e : Refusal) (t : State) → refuse e ≡ fine t → A
not_fine e t h = absurd cc

pub chosen : {A : Type 0} (b : Bool) (x y z : A) → cond b x y ≡ z → ((b ≡ true) × (x ≡ z)) ⊎ ((b ≡ false) × (y ≡ z))
chosen true x y z e = inl (refl, e)
chosen false x y z e = inr (refl, e)

-- a test that has to hold
pub only_true : (b : Bool) (x : Result State Refusal) (e : Refusal) (t : State) → cond b x (refuse e) ≡ fine t → (b ≡ true) × (x ≡ fine t)
only_true true x e t h = (refl, h)
only_true false x e t h = not_fine e t h

-- a test that may not hold
pub only_false : (b : Bool) (x : Result State Refusal) (e : Refusal) (t : State) → cond b (refuse e) x ≡ fine t → (b ≡ false) × (x ≡ fine t)
only_false true x e t h = not_fine e t h
only_false false x e t h = (refl, h)

pub expect_ok : (kind : ℕ) (r : Rec) (s t : State) → expect kind r s ≡ fine t → (r.kind ≡ kind) × (s ≡ t)
expect_ok kind r s t h = let p = only_true (eqb r.kind kind) (fine s) Unexpected t h in (eqb-true r.kind kind p.0, fine_is s t p.1)

pub expected : (kind : ℕ) (r : Rec) (s : State) → r.kind ≡ kind → expect kind r s ≡ fine s
expected kind r s e = rw (eq-eqb r.kind kind e) refl

-- two kinds are two where a table tells them apart
pub apart : {A : Type 0} (f : ℕ → A) (k j : ℕ) → (f k ≡ f j → ⊥) → eqb k j ≡ false
apart f k j h = cases (eqb k j) refl where
  cases : (b : Bool) → eqb k j ≡ b → b ≡ false
  cases true e = absurd (h (ap f (eqb-true k j e)))
  cases false e = refl

pub bind_ok : (r : Result State Refusal) (f : State → Result State Refusal) (u : State) → (r >>= f) ≡ fine u → (t : State) × (r ≡ fine t) × (f t ≡ fine u)
bind_ok (Ok t) f u e = (t, refl, e)
bind_ok (Err d) f u e = not_fine d u e

bind_cong : (r : Result State Refusal) (f g : State → Result State Refusal) → ((t : State) → f t ≡ g t) → (r >>= f) ≡ (r >>= g)
bind_cong (Ok t) f g h = h t
bind_cong (Err d) f g h = refl

bind_assoc : (r : Result State Refusal) (f g : State → Result State Refusal) → ((r >>= f) >>= g) ≡ (r >>= λ t. f t >>= g)
bind_assoc (Ok t) f g = refl
bind_assoc (Err d) f g = refl

-- ---- runs

module _ (ρ : Rules) where
  pub run_append : (s : State) (xs ys : List Rec) → run ρ s (xs ++ ys) ≡ (run ρ s xs >>= λ t. run ρ t ys)
  unfolding run
  run_append s [] ys = refl
  run_append s (x ∷ xs) ys =
      bind_cong (step ρ s x) (λ t. run ρ t (xs ++ ys)) (λ t. run ρ t xs >>= λ u. run ρ u ys) (λ t. run_append t xs ys)
      ∙ sym (bind_assoc (step ρ s x) (λ t. run ρ t xs) (λ u. run ρ u ys))

  -- where records lead whose forms nobody asks for
  unfoldable pub moves : State → List Rec → Result State Refusal
  moves s [] = fine s
  moves s (r ∷ rs) = next_state ρ s r >>= λ t. moves t rs

  pub moves_append : (s : State) (xs ys : List Rec) → moves s (xs ++ ys) ≡ (moves s xs >>= λ t. moves t ys)
  unfolding moves
  moves_append s [] ys = refl
  moves_append s (x ∷ xs) ys =
      bind_cong (next_state ρ s x) (λ t. moves t (xs ++ ys)) (λ t. moves t xs >>= λ u. moves u ys) (λ t. moves_append t xs ys)
      ∙ sym (bind_assoc (next_state ρ s x) (λ t. moves t xs) (λ u. moves u ys))

  pub run_is_moves : (s : State) (rs : List Rec) → AllByRecursion IsWell rs → run ρ s rs ≡ moves s rs
  unfolding run moves
  run_is_moves s [] well = refl
  run_is_moves s (r ∷ rs) well = rw well.0 (bind_cong (next_state ρ s r) (λ t. run ρ t rs) (λ t. moves t rs) (λ t. run_is_moves t rs well.1))

  pub run_well : (s t : State) (rs : List Rec) → run ρ s rs ≡ fine t → AllByRecursion IsWell rs × (moves s rs ≡ fine t)
  unfolding run moves
  run_well s t [] e = (tt, e)
  run_well s t (r ∷ rs) e =
      let b = bind_ok (step ρ s r) (λ u. run ρ u rs) t e in
      let p = only_true (is_well r) (next_state ρ s r) Unexpected b.0 b.1 in
      let q = run_well b.0 t rs b.2 in
      ((p.0, q.0), rw p.1 q.1)

  -- ---- from piece to piece

  pub leads_nil : (s : State) → moves s [] ≡ fine s
  unfolding moves
  leads_nil s = refl

  pub leads_cons : (s t u : State) (r : Rec) (rs : List Rec) → next_state ρ s r ≡ fine t → moves t rs ≡ fine u → moves s (r ∷ rs) ≡ fine u
  unfolding moves
  leads_cons s t u r rs h k = rw h k

  pub leads_append : (s t u : State) (xs ys : List Rec) → moves s xs ≡ fine t → moves t ys ≡ fine u → moves s (xs ++ ys) ≡ fine u
  leads_append s t u xs ys h k = moves_append s xs ys ∙ rw h k

  pub run_cons : (s t : State) (r : Rec) (rs : List Rec) → step ρ s r ≡ fine t → run ρ s (r ∷ rs) ≡ run ρ t rs
  unfolding run
  run_cons s t r rs h = rw h refl

  pub run_one : (s t : State) (r : Rec) → step ρ s r ≡ fine t → run ρ s (r ∷ []) ≡ fine t
  unfolding run
  run_one s t r h = rw h refl

  pub run_refused : (s : State) (r : Rec) (rs : List Rec) (e : Refusal) → step ρ s r ≡ refuse e → run ρ s (r ∷ rs) ≡ refuse e
  unfolding run
  run_refused s r rs e h = rw h refl
