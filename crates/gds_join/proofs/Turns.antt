-- Parts are taken one after another.
use Rattle.std.proofs.Common.{◌≡◌, refl, sym, ap, ◌∙◌, subst, ℕ, zero, suc, ◌+◌, ◌<◌, arith, Bool, true, false, ◌||◌, nat_lt, List, [], ◌∷◌, ◌++◌, length, Option, Some}
use Rattle.std.proofs.Math.Path.{fun_ext}
use Rattle.std.specs.List.{slice_get}
use Rattle.std.proofs.lemmas.List.{length_push}
use Rattle.std.proofs.lemmas.Option.{slice_get_within}
use Rattle.fill_job.specs.Searches.{some_below}
use Rattle.fill_job.proofs.Searching.{some_below_same}
use Rattle.fill_parts.specs.Laws.{part}
use Rattle.gds_out.specs.FillText.{fill_text}
use Rattle.gds_out.specs.Places.{PlaceSet}
use Rattle.gds_join.specs.Joins.{Design, IsOfDesign, IsPartText}
use Rattle.gds_join.specs.Laws.{NoneAreTaken, OneMoreIsTaken, TakenAreJoined}

pub none_taken : NoneAreTaken
unfolding some_below
none_taken values count now none = record {
  fills = λ k. now;
  each = λ k bytes is. absurd (cc is);
  union = λ i j. none i j;
}

pushed : (P : ℕ → List ℕ → Type 0) (xs : List (List ℕ)) (x : List ℕ) → ((t : ℕ) (m : List ℕ) → slice_get xs t ≡ Some m → P t m) → P (length xs) x
    → (t : ℕ) (m : List ℕ) → slice_get (xs ++ x ∷ []) t ≡ Some m → P t m
pushed P [] x before this zero m is = let e : x ≡ m = cc is in subst (P 0) e this
pushed P [] x before this (suc t) m is = absurd (cc is)
pushed P (y ∷ ys) x before this zero m is = before zero m is
pushed P (y ∷ ys) x before this (suc t) m is = pushed (λ k. P (suc k)) ys x (λ k q h. before (suc k) q h) this t m is

chosen : Bool → PlaceSet → PlaceSet → PlaceSet
chosen true p q = p
chosen false p q = q

-- a fill at a number, behind those before it
with_one : (ℕ → PlaceSet) → ℕ → PlaceSet → ℕ → PlaceSet
with_one f n x k = chosen (nat_lt k n) (f k) x

lt_true : (k n : ℕ) → k < n → nat_lt k n ≡ true
lt_true k n lt = grind arith

lt_self : (n : ℕ) → nat_lt n n ≡ false
lt_self n = grind arith

before_is : (f : ℕ → PlaceSet) (n : ℕ) (x : PlaceSet) (k : ℕ) → k < n → with_one f n x k ≡ f k
unfolding with_one chosen
before_is f n x k lt = ap (λ b. chosen b (f k) x) (lt_true k n lt)

this_is : (f : ℕ → PlaceSet) (n : ℕ) (x : PlaceSet) → with_one f n x n ≡ x
unfolding with_one chosen
this_is f n x = ap (λ b. chosen b (f n) x) (lt_self n)

next_below : (p : ℕ → Bool) (n m : ℕ) → m ≡ n + 1 → some_below p m ≡ p n || some_below p n
unfolding some_below
next_below p n m e = let s : m ≡ suc n = omega (arith, e) in ap (some_below p) s

turned_or : (a b : Bool) → a || b ≡ b || a
turned_or true true = refl
turned_or true false = refl
turned_or false true = refl
turned_or false false = refl

of_some : (design : Option Design) (e d : Design) → design ≡ Some e → IsOfDesign design d.0 d.1 → e ≡ d
of_some design e d is same = subst (λ (o : Option Design). IsOfDesign o d.0 d.1) is same

pub one_more : OneMoreIsTaken
one_more values count texts design old new bytes d are is =
    let n = length texts in
    let fills = with_one are.fills n is.filled in
    record {
      fills = fills;
      each = pushed (λ k b. (e : Design) × (Some d ≡ Some e) × IsPartText values (part k count) e.0 e.1 b (fills k)) texts bytes
          (λ k b at. let found = are.each k b at in (
            found.0,
            ap Some (sym (of_some design found.0 d found.1 is.same)),
            subst (λ (f : PlaceSet). IsPartText values (part k count) found.0.0 found.0.1 b f) (sym (before_is are.fills n is.filled k (slice_get_within texts k b at))) found.2,
          ))
          (d, refl, subst (λ (f : PlaceSet). IsPartText values (part n count) d.0 d.1 bytes f) (sym (this_is are.fills n is.filled)) is.is_part);
      union = λ i j. is.union i j ∙ (ap (λ b. b || is.filled i j) (are.union i j
          ∙ some_below_same (λ k. are.fills k i j) (λ k. fills k i j) n (λ k lt. ap (λ (f : PlaceSet). f i j) (sym (before_is are.fills n is.filled k lt))))
          ∙ (ap (λ b. some_below (λ k. fills k i j) n || b) (ap (λ (f : PlaceSet). f i j) (sym (this_is are.fills n is.filled)))
          ∙ (turned_or (some_below (λ k. fills k i j) n) (fills n i j) ∙ sym (next_below (λ k. fills k i j) n (length (texts ++ bytes ∷ [])) (length_push texts bytes)))));
    }

some_is : (e d : Design) → Some d ≡ Some e → e ≡ d
some_is e d h = cc h

pub all_taken : TakenAreJoined
all_taken values texts d now out are text = record {
  units = d.0;
  dates = d.1;
  fills = are.fills;
  each = λ k bytes at. let found = are.each k bytes at in
      subst (λ (e : Design). IsPartText values (part k (length texts)) e.0 e.1 bytes (are.fills k)) (some_is found.0 d found.1) found.2;
  text = text ∙ ap (fill_text d.0 d.1 values) (fun_ext (λ i. fun_ext (λ j. are.union i j)));
}
