-- What is known of files, opened one after another.
use Rattle.std.proofs.Common.{◌≡◌, refl, sym, ap, subst, ℕ, suc, List, [], ◌∷◌, ◌++◌, length, map, Option, Some, None, IfSome, option_map}
use Rattle.std.proofs.lemmas.List.{map-append}
use Rattle.densfill.specs.Outcomes.{all_known}

if_mapped : (P : List (List ℕ) → Type 0) (g : List (List ℕ) → List (List ℕ)) (o : Option (List (List ℕ))) → IfSome (option_map g o) P → IfSome o (λ xs. P (g xs))
if_mapped P g None p = p
if_mapped P g (Some xs) p = p

mapped_if : (P : List (List ℕ) → Type 0) (g : List (List ℕ) → List (List ℕ)) (o : Option (List (List ℕ))) → IfSome o (λ xs. P (g xs)) → IfSome (option_map g o) P
mapped_if P g None p = p
mapped_if P g (Some xs) p = p

-- what holds of the bytes of some files and of one more holds of them all
pub one_more_known : (P : List (List ℕ) → Type 0) (Q : List ℕ → Type 0) (R : List (List ℕ) → Type 0) (files : List (Option (List ℕ))) (file : Option (List ℕ)) → ((xs : List (List ℕ)) (x : List ℕ) → P xs → Q x → R (xs ++ x ∷ []))
    → IfSome (all_known files) P → IfSome file Q → IfSome (all_known (files ++ file ∷ [])) R
unfolding all_known
one_more_known P Q R [] None f p q = tt
one_more_known P Q R [] (Some x) f p q = f [] x p q
one_more_known P Q R (None ∷ files) file f p q = tt
one_more_known P Q R (Some y ∷ files) file f p q =
    mapped_if R (λ xs. y ∷ xs) (all_known (files ++ file ∷ []))
    (one_more_known (λ xs. P (y ∷ xs)) Q (λ xs. R (y ∷ xs)) files file (λ xs x h k. f (y ∷ xs) x h k) (if_mapped P (λ xs. y ∷ xs) (all_known files) p) q)

-- the bytes of so many files are as many
pub counted : (P : List (List ℕ) → Type 0) (files : List (Option (List ℕ))) → IfSome (all_known files) P → IfSome (all_known files) (λ xs. P xs × (length xs ≡ length files))
unfolding all_known
counted P [] p = (p, refl)
counted P (None ∷ files) p = tt
counted P (Some y ∷ files) p =
    mapped_if (λ xs. P xs × (length xs ≡ length (Some y ∷ files))) (λ xs. y ∷ xs) (all_known files) (further (all_known files) (counted (λ xs. P (y ∷ xs)) files (if_mapped P (λ xs. y ∷ xs) (all_known files) p)))
  where
    further : (o : Option (List (List ℕ))) → IfSome o (λ xs. P (y ∷ xs) × (length xs ≡ length files)) → IfSome o (λ xs. P (y ∷ xs) × (length (y ∷ xs) ≡ length (Some y ∷ files)))
    further None h = h
    further (Some xs) h = (h.0, ap suc h.1)

-- of no file nothing is asked
pub none_known : (P : List (List ℕ) → Type 0) → P [] → IfSome (all_known []) P
unfolding all_known
none_known P p = p

pub known_weaker : {X : Type 0} (P Q : X → Type 0) (o : Option X) → ((x : X) → P x → Q x) → IfSome o P → IfSome o Q
known_weaker P Q None f p = p
known_weaker P Q (Some x) f p = f x p

-- the same of files of some type
module _ {F : Type 0} (remaining : F → Option (List ℕ)) where
  pub file_pushed : (P : List (List ℕ) → Type 0) (Q : List ℕ → Type 0) (R : List (List ℕ) → Type 0) (ps : List F) (p : F) → ((xs : List (List ℕ)) (x : List ℕ) → P xs → Q x → R (xs ++ x ∷ []))
      → IfSome (all_known (map remaining ps)) P → IfSome (remaining p) Q → IfSome (all_known (map remaining (ps ++ p ∷ []))) R
  file_pushed P Q R ps p f h k =
      subst (λ (os : List (Option (List ℕ))). IfSome (all_known os) R) (sym (map-append remaining ps (p ∷ []))) (one_more_known P Q R (map remaining ps) (remaining p) f h k)
