-- Lists that are made of lists.
use Rattle.std.proofs.Common.{◌≡◌, refl, ap, subst, ◌∙◌, ℕ, zero, suc, ◌+◌, ◌<◌, arith, inl, inr, Bool, true, false, cond, List, [], ◌∷◌, ◌++◌, map}
use Rattle.std.specs.List.{flat_map, filter, range_with_len, AllByRecursion}
use Rattle.std.proofs.lemmas.Grind.{flat_map-append}
use Rattle.fill_stacks.specs.Stacks.{IsOne}

pub all_append : {X : Type 0} (P : X → Type 0) (xs ys : List X) → AllByRecursion P xs → AllByRecursion P ys → AllByRecursion P (xs ++ ys)
all_append P [] ys h k = k
all_append P (x ∷ xs) ys h k = (h.0, all_append P xs ys h.1 k)

pub all_flat : {X Y : Type 0} (P : Y → Type 0) (f : X → List Y) (xs : List X) → ((x : X) → AllByRecursion P (f x)) → AllByRecursion P (flat_map f xs)
all_flat P f [] h = tt
all_flat P f (x ∷ xs) h = all_append P (f x) (flat_map f xs) (h x) (all_flat P f xs h)

pub all_filter : {X : Type 0} (P : X → Type 0) (p : X → Bool) (xs : List X) → AllByRecursion P xs → AllByRecursion P (filter p xs)
all_filter P p [] h = tt
all_filter P p (x ∷ xs) h = by (p x) (all_filter P p xs h.1)
  where
    by : (b : Bool) → AllByRecursion P (filter p xs) → AllByRecursion P (cond b (x ∷ filter p xs) (filter p xs))
    by true rest = (h.0, rest)
    by false rest = rest

pub all_range : {X : Type 0} (P : X → Type 0) (f : ℕ → X) (a n : ℕ) → ((k : ℕ) → k < a + n → P (f k)) → AllByRecursion P (map f (range_with_len a n))
all_range P f a zero h = tt
all_range P f a (suc n) h = (h a (omega arith), all_range P f (a + 1) n (λ k lt. h k (omega arith)))

-- what each of some lists becomes, all of them become
pub flat_same : {X A B : Type 0} (g : A → List B) (f : X → List A) (h : X → List B) (P : X → Type 0) (xs : List X) → AllByRecursion P xs
    → ((x : X) → P x → flat_map g (f x) ≡ h x) → flat_map g (flat_map f xs) ≡ flat_map h xs
flat_same g f h P [] all each = refl
flat_same g f h P (x ∷ xs) all each =
    flat_map-append g (f x) (flat_map f xs) ∙ (ap (λ t. t ++ flat_map g (flat_map f xs)) (each x all.0) ∙ ap (λ t. h x ++ t) (flat_same g f h P xs all.1 each))

-- by what holds of each of some elements
pub all_flat_by : {X Y : Type 0} (P : X → Type 0) (Q : Y → Type 0) (f : X → List Y) (xs : List X) → AllByRecursion P xs → ((x : X) → P x → AllByRecursion Q (f x)) → AllByRecursion Q (flat_map f xs)
all_flat_by P Q f [] all each = tt
all_flat_by P Q f (x ∷ xs) all each = all_append Q (f x) (flat_map f xs) (each x all.0) (all_flat_by P Q f xs all.1 each)

-- of each element that stands in the list
pub all_one : {X : Type 0} (P : X → Type 0) (x : X) (xs : List X) → AllByRecursion P xs → IsOne x xs → P x
all_one P x [] all is = absurd is
all_one P x (y ∷ ys) all (inl same) = subst P same all.0
all_one P x (y ∷ ys) all (inr later) = all_one P x ys all.1 later

pub one_all : {X : Type 0} (P : X → Type 0) (xs : List X) → ((x : X) → IsOne x xs → P x) → AllByRecursion P xs
one_all P [] each = tt
one_all P (x ∷ xs) each = (each x (inl refl), one_all P xs (λ y is. each y (inr is)))

pub map_same : {X Y : Type 0} (f g : X → Y) (xs : List X) → ((x : X) → IsOne x xs → f x ≡ g x) → map f xs ≡ map g xs
map_same f g [] each = refl
map_same f g (x ∷ xs) each = ap (λ y. y ∷ map f xs) (each x (inl refl)) ∙ ap (λ ys. g x ∷ ys) (map_same f g xs (λ y is. each y (inr is)))
