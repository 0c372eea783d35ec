-- What is read at the front is spelled there, what is spelled there is read, and where no record
-- stands.
use Rattle.std.proofs.Common.{◌≡◌, ℕ, zero, suc, ◌+◌, ◌-◌, ◌%◌, ◌^◌, ◌<◌, ◌≤◌, Bool, true, false, cond, ltb, eqb, List, [], ◌∷◌, ◌++◌, length, get_or, take, drop, Result, Ok, Err, refl, sym, ap, subst, ◌∙◌, arith, inl, inr}
use Rattle.std.specs.Prelude.{◌⊎◌, ◌↔◌, ◌||◌, IfOk}
use Rattle.std.specs.Borrow.{Bor}
use Rattle.std.specs.Int.{w16, to_be_bytes}
use Rattle.std.proofs.lemmas.Bool.{cases_lt, ltb-false, ltb-true, le-ltb, lt-ltb, eqb-true, eqb-false, eq-eqb}
use Rattle.std.proofs.lemmas.Bool.Decides.{nat_tests}
use Rattle.std.proofs.lemmas.List.{take_at, drop_at, take-append-drop, length-append, length-take}
use Rattle.std.proofs.lemmas.Nat.{be_bytes_2, from_be_bytes-to_be_bytes_2}
use Rattle.gds_record.specs.declared.records.Record.{Record}
use Rattle.gds_record.specs.declared.records.RecordError.{RecordError}
use Rattle.gds_record.specs.declared.records.RecordError.TheVariants.{Truncated, BadLength}
use Rattle.gds_record.specs.Records.{Rec, IsRecord, view, spelling, length_of, IsBadLength, IsTruncated}
use Rattle.fill_base.specs.Sequence.{◌>>=◌}
use Rattle.gds_record.specs.Reading.{Gives, at_front, size_of, body_at, record_at}

abbrev pub IsBytes : List ℕ → Type 0
IsBytes bytes = (i : ℕ) → get_or bytes i 0 < 256

-- ---- steps that didn't fail, and tests

pub bind_ok : {A B : Type 0} (r : Result A RecordError) (f : A → Result B RecordError) (y : B) → (r >>= f) ≡ Ok y → (x : A) × (r ≡ Ok x) × (f x ≡ Ok y)
bind_ok (Ok x) f y e = (x, refl, e)
bind_ok (Err d) f y e = absurd cc

guard_ok : {A : Type 0} (b : Bool) (d : RecordError) (x y : A) → cond b (Err d) (Ok x) ≡ Ok y → (b ≡ false) × (x ≡ y)
guard_ok true d x y e = absurd cc
guard_ok false d x y e = (refl, cc)

guard_err : {A : Type 0} (b : Bool) (d e : RecordError) (x : A) → cond b (Err d) (Ok x) ≡ Err e → (b ≡ true) × (d ≡ e)
guard_err true d e x h = (refl, cc)
guard_err false d e x h = absurd cc

or_false : (a b : Bool) → (a || b) ≡ false → (a ≡ false) × (b ≡ false)
or_false false b e = (refl, e)
or_false true b e = absurd cc

or_true : (a b : Bool) → (a || b) ≡ true → (a ≡ true) ⊎ (b ≡ true)
or_true true b e = inl refl
or_true false b e = inr e

or_left : (a b : Bool) → a ≡ true → (a || b) ≡ true
or_left a b e = rw e refl

or_right : (a b : Bool) → b ≡ true → (a || b) ≡ true
or_right true b e = refl
or_right false b e = e

-- ---- lengths

-- a length that is good
record IsSize (n size : ℕ) : Type 0 where
  long : 4 ≤ n
  even : n % 2 ≡ 0
  size_is : size + 4 ≡ n

size_ok : (n s : ℕ) → size_of n ≡ Ok s → IsSize n s
size_ok n s e =
    let g = guard_ok (ltb n 4 || eqb (n % 2) 1) BadLength (n - 4) s e in
    let o = or_false (ltb n 4) (eqb (n % 2) 1) g.0 in
    let long : 4 ≤ n = ltb-false n 4 o.0 in
    let odd : n % 2 ≡ 1 → ⊥ = eqb-false (n % 2) 1 o.1 in
    record {
      long = long;
      even = elim (cases_lt (n % 2) 1) [ inl lt ↦ omega arith | inr le ↦ absurd (odd (omega arith)) ];
      size_is = omega (arith, g.1);
    }

size_again : (n : ℕ) → n % 2 ≡ 0 → size_of (n + 4) ≡ Ok n
size_again n even =
    let short : ltb (n + 4) 4 ≡ false = le-ltb _ _ (omega arith) in
    let odd : eqb ((n + 4) % 2) 1 ≡ false = grind (arith, nat_tests) in
    let same : n + 4 - 4 ≡ n = omega arith in
    rw (short, odd, same) refl

size_err : (n : ℕ) (e : RecordError) → size_of n ≡ Err e → ((n < 4) ⊎ (n % 2 ≡ 1)) × (e ≡ BadLength)
size_err n e h =
    let g = guard_err (ltb n 4 || eqb (n % 2) 1) BadLength e (n - 4) h in
    (elim (or_true (ltb n 4) (eqb (n % 2) 1) g.0) [ inl a ↦ inl (ltb-true n 4 a) | inr b ↦ inr (eqb-true (n % 2) 1 b) ], sym g.1)

size_bad : (n : ℕ) → (n < 4) ⊎ (n % 2 ≡ 1) → size_of n ≡ Err BadLength
size_bad n h =
    let test : (ltb n 4 || eqb (n % 2) 1) ≡ true = elim h [ inl lt ↦ or_left _ _ (lt-ltb n 4 lt) | inr odd ↦ or_right _ _ (eq-eqb (n % 2) 1 odd) ] in
    rw test refl

-- ---- what is read is spelled

two_bytes : (a b : ℕ) → a < 256 → b < 256 → IsBytes (a ∷ b ∷ [])
two_bytes a b h k zero = h
two_bytes a b h k (suc zero) = k
two_bytes a b h k (suc (suc i)) = omega arith

pub record Takes (bytes : List ℕ) (r : Rec) (rest : List ℕ) : Type 0 where
  pub is_record : IsRecord r
  pub parts : bytes ≡ spelling r ++ rest

body_takes : (a b k f size : ℕ) (rest : List ℕ) (x : Rec × List ℕ) → a < 256 → b < 256 → k < 256 → f < 256
    → IsSize (length_of a b) size → body_at k f rest size ≡ Ok x → Takes (a ∷ b ∷ k ∷ f ∷ rest) x.0 x.1
body_takes a b k f size rest x ha hb hk hf good e =
    let g = guard_ok (ltb (length rest) size) Truncated (record { kind = k; form = f; body = take size rest }, drop size rest) x e in
    let room : size ≤ length rest = ltb-false _ _ g.0 in
    let len : length (take size rest) ≡ size = omega (arith, length-take size rest) in
    let total : length (take size rest) + 4 ≡ length_of a b = omega (arith, good.size_is) in
    let head : to_be_bytes w16 (length (take size rest) + 4) ≡ a ∷ b ∷ [] = be_bytes_2 (a ∷ b ∷ []) _ refl (two_bytes a b ha hb) total in
    let body : take size rest ++ drop size rest ≡ rest = take-append-drop size rest in
    let made : Rec × List ℕ = (record { kind = k; form = f; body = take size rest }, drop size rest) in
    subst (λ (y : Rec × List ℕ). Takes (a ∷ b ∷ k ∷ f ∷ rest) y.0 y.1) g.1 (record {
      is_record = record { kind_fits = hk; form_fits = hf; even = omega (arith, good.even, good.size_is); short = omega (arith, good.even, good.size_is) };
      parts = cc;
    })

pub at_takes : (bytes : List ℕ) (x : Rec × List ℕ) → IsBytes bytes → record_at bytes ≡ Ok x → Takes bytes x.0 x.1
unfolding record_at
at_takes [] x fits e = absurd cc
at_takes (a ∷ []) x fits e = absurd cc
at_takes (a ∷ b ∷ []) x fits e = let s = bind_ok (size_of (length_of a b)) (λ size. Err Truncated) x e in absurd cc
at_takes (a ∷ b ∷ k ∷ []) x fits e = let s = bind_ok (size_of (length_of a b)) (λ size. Err Truncated) x e in absurd cc
at_takes (a ∷ b ∷ k ∷ f ∷ rest) x fits e =
    let s = bind_ok (size_of (length_of a b)) (λ size. body_at k f rest size) x e in
    body_takes a b k f s.0 rest x (fits 0) (fits 1) (fits 2) (fits 3) (size_ok (length_of a b) s.0 s.1) s.2

-- ---- what is spelled is read

body_again : (r : Rec) (rest : List ℕ) → body_at r.kind r.form (r.body ++ rest) (length r.body) ≡ Ok (r, rest)
body_again r rest =
    let room : ltb (length (r.body ++ rest)) (length r.body) ≡ false = le-ltb _ _ (omega (arith, length-append r.body rest)) in
    rw (room, take_at r.body rest (length r.body) refl, drop_at r.body rest (length r.body) refl) refl

pub at_again : (r : Rec) (rest : List ℕ) → IsRecord r → record_at (spelling r ++ rest) ≡ Ok (r, rest)
unfolding record_at
at_again r rest fits =
    let bound : length r.body + 4 < 2 ^ 16 = omega (arith, fits.short) in
    ap (λ n. size_of n >>= λ size. body_at r.kind r.form (r.body ++ rest) size) (from_be_bytes-to_be_bytes_2 (length r.body + 4) bound)
    ∙ (rw (size_again (length r.body) fits.even) (body_again r rest))

abbrev read_as : Rec × List ℕ → Result (Rec × List ℕ) RecordError
read_as x = Ok x

read_same : (x y : Rec × List ℕ) → read_as x ≡ read_as y → x ≡ y
read_same x y e = cc

pub one_front : (r s : Rec) (x y : List ℕ) → IsRecord r → IsRecord s → spelling r ++ x ≡ spelling s ++ y → (r ≡ s) × (x ≡ y)
one_front r s x y hr hs e =
    let same = read_same (r, x) (s, y) (sym (at_again r x hr) ∙ ap record_at e ∙ at_again s y hs) in
    (ap (λ (p : Rec × List ℕ). p.0) same, ap (λ (p : Rec × List ℕ). p.1) same)

-- ---- where no record stands

pub refused : {Y : Type 0} (X : Type 0) (view : X → Y) (result : Result X RecordError) (read : Result Y RecordError) (e : RecordError) → Gives view result read → (result ≡ Err e) ↔ (read ≡ Err e)
refused X view (Ok x) read e h = (λ p. absurd cc, λ q. absurd cc)
refused X view (Err d) read e h = (λ p. cc, λ q. cc)

never_bad : (n k f : ℕ) (rest : List ℕ) → body_at k f rest n ≡ Err BadLength → ⊥
never_bad n k f rest e = let g = guard_err (ltb (length rest) n) Truncated BadLength _ e in cc

bad_of : {A : Type 0} (n : ℕ) (f : ℕ → Result A RecordError) → ((s : ℕ) → f s ≡ Err BadLength → ⊥) → ((size_of n >>= f) ≡ Err BadLength) ↔ ((n < 4) ⊎ (n % 2 ≡ 1))
bad_of n f never = (there (size_of n) refl, λ h. rw (size_bad n h) refl) where
  there : (r : Result ℕ RecordError) → size_of n ≡ r → (r >>= f) ≡ Err BadLength → (n < 4) ⊎ (n % 2 ≡ 1)
  there (Ok s) is e = absurd (never s e)
  there (Err d) is e = (size_err n d is).0

pub at_bad : (bytes : List ℕ) → (record_at bytes ≡ Err BadLength) ↔ IsBadLength bytes
unfolding record_at
at_bad [] = (λ e. cc, λ h. absurd h)
at_bad (a ∷ []) = (λ e. cc, λ h. absurd h)
at_bad (a ∷ b ∷ []) = bad_of (length_of a b) (λ size. Err Truncated) (λ s e. cc)
at_bad (a ∷ b ∷ k ∷ []) = bad_of (length_of a b) (λ size. Err Truncated) (λ s e. cc)
at_bad (a ∷ b ∷ k ∷ f ∷ rest) = bad_of (length_of a b) (λ size. body_at k f rest size) (λ s e. never_bad s k f rest e)

short_of : {A : Type 0} (n : ℕ) (f : ℕ → Result A RecordError) (P : Type 0) → ((s : ℕ) → IsSize n s → f s ≡ Err Truncated → P) → ((s : ℕ) → IsSize n s → P → f s ≡ Err Truncated)
    → ((size_of n >>= f) ≡ Err Truncated) ↔ ((4 ≤ n) × (n % 2 ≡ 0) × P)
short_of n f P to from = (there (size_of n) refl, back) where
  there : (r : Result ℕ RecordError) → size_of n ≡ r → (r >>= f) ≡ Err Truncated → (4 ≤ n) × (n % 2 ≡ 0) × P
  there (Ok s) is e = let good = size_ok n s is in (good.long, good.even, to s good e)
  there (Err d) is e = let p = size_err n d is in absurd cc

  back : (4 ≤ n) × (n % 2 ≡ 0) × P → (size_of n >>= f) ≡ Err Truncated
  back h =
      let split : n - 4 + 4 ≡ n = omega (arith, h.0) in
      let halves : (n - 4) % 2 ≡ 0 = omega (arith, h.0, h.1) in
      let again : size_of n ≡ Ok (n - 4) = subst (λ (k : ℕ). size_of k ≡ Ok (n - 4)) split (size_again (n - 4) halves) in
      rw again (from (n - 4) (record { long = h.0; even = h.1; size_is = split }) h.2)

short_body : (n s k f : ℕ) (rest : List ℕ) → IsSize n s → body_at k f rest s ≡ Err Truncated → suc (suc (length rest)) + 2 < n
short_body n s k f rest good e =
    let g = guard_err (ltb (length rest) s) Truncated Truncated _ e in
    let lt : length rest < s = ltb-true _ _ g.0 in
    omega (arith, good.size_is)

body_short : (n s k f : ℕ) (rest : List ℕ) → IsSize n s → suc (suc (length rest)) + 2 < n → body_at k f rest s ≡ Err Truncated
body_short n s k f rest good lt =
    let test : ltb (length rest) s ≡ true = lt-ltb _ _ (omega (arith, good.size_is)) in
    rw test refl

pub at_short : (bytes : List ℕ) → (record_at bytes ≡ Err Truncated) ↔ IsTruncated bytes
unfolding record_at
at_short [] = (λ e. tt, λ h. refl)
at_short (a ∷ []) = (λ e. tt, λ h. refl)
at_short (a ∷ b ∷ []) = short_of (length_of a b) (λ size. Err Truncated) _ (λ s good e. omega (arith, good.long)) (λ s good h. refl)
at_short (a ∷ b ∷ k ∷ []) = short_of (length_of a b) (λ size. Err Truncated) _ (λ s good e. omega (arith, good.long)) (λ s good h. refl)
at_short (a ∷ b ∷ k ∷ f ∷ rest) = short_of (length_of a b) (λ size. body_at k f rest size) _ (λ s good e. short_body (length_of a b) s k f rest good e) (λ s good h. body_short (length_of a b) s k f rest good h)

-- ---- as `next_record` promises

pub is_found : (bytes : List ℕ) (result : Result (Record × Bor (List ℕ)) RecordError) → IsBytes bytes → Gives at_front result (record_at bytes)
    → IfOk result (λ x. IsRecord (view x.0) × (bytes ≡ spelling (view x.0) ++ x.1.now))
is_found bytes (Ok x) fits e = let t = at_takes bytes (at_front x) fits e in (t.is_record, t.parts)
is_found bytes (Err d) fits e = tt
