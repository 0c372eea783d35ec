-- Marks that are set column by column and row by row.
use Rattle.std.proofs.Common.{◌≡◌, refl, sym, ◌∙◌, ℤ, pos, ◌+ℤ◌, ◌≤ℤ◌, ◌<ℤ◌, arith, Bool, true, false, ◌&&◌, ◌||◌, w64, FitsSigned}
use Rattle.std.specs.Prelude.{int_lt}
use Rattle.std.specs.Int.{int_max}
use Rattle.std.specs.Ordering.{int_eq}
use Rattle.std.proofs.lemmas.Bool.{and_parts}
use Rattle.std.proofs.lemmas.Bool.Decides.{Decides-int_eq}
use Rattle.std.proofs.lemmas.Int.{ints, clamps}
use Rattle.fill_base.specs.Counts.{is_between}
use Rattle.fill_base.proofs.Between.{between_none, between_more}
use Rattle.fill_job.specs.Plans.{PointSet}

no_more : (o f t : Bool) → o ≡ o || (f && (false && t))
no_more true f t = refl
no_more false true t = refl
no_more false false t = refl

-- where the numbers so far end, they are all of the range
pub between_all : (a b i x : ℤ) → a ≤ℤ i → i ≤ℤ int_max a b → b ≤ℤ i → is_between a i x ≡ is_between a b x
between_all a b i x low high past = grind (arith, ints, clamps)

pub row_begins : (o s : PointSet) (left j k m : ℤ) → o k m ≡ o k m || (int_eq m j && (is_between left left k && s k m))
row_begins o s left j k m = rw (between_none left k) (no_more (o k m) (int_eq m j) (s k m))

grown : (o e f w t b : Bool) → (e && f ≡ true → t ≡ b) → (o || (f && (w && t))) || (b && (e && f)) ≡ o || (f && ((w || e) && t))
grown true e f w t b same = refl
grown false e false w t b same = nothing e b
  where
    nothing : (e b : Bool) → (b && (e && false)) ≡ false
    nothing true true = refl
    nothing true false = refl
    nothing false true = refl
    nothing false false = refl
grown false false true true t b same = none t b
  where
    none : (t b : Bool) → t || (b && false) ≡ t
    none true b = refl
    none false true = refl
    none false false = refl
grown false false true false t true same = refl
grown false false true false t false same = refl
grown false true true true t b same = rw (same refl) (twice b)
  where
    twice : (b : Bool) → b || (b && true) ≡ b
    twice true = refl
    twice false = refl
grown false true true false t b same = rw (same refl) (one b)
  where
    one : (b : Bool) → (b && true) ≡ b
    one true = refl
    one false = refl

same_place : (s : PointSet) (i j k m : ℤ) → int_eq k i && int_eq m j ≡ true → s k m ≡ s i j
same_place s i j k m h =
    let parts = and_parts (int_eq k i) (int_eq m j) h in
    let x : k ≡ i = (Decides-int_eq k i).0 parts.0 in
    let y : m ≡ j = (Decides-int_eq m j).0 parts.1 in
    rw (x, y) refl

-- one column more, where its place is marked if it is suitable
pub column_more : (o b a s : PointSet) (left i j : ℤ) (t : Bool) → left ≤ℤ i → t ≡ s i j
    → ((k m : ℤ) → b k m ≡ o k m || (int_eq m j && (is_between left i k && s k m)))
    → ((k m : ℤ) → a k m ≡ b k m || (t && (int_eq k i && int_eq m j)))
    → (k m : ℤ) → a k m ≡ o k m || (int_eq m j && (is_between left (i +ℤ pos 1) k && s k m))
column_more o b a s left i j t le t_is before after k m =
    after k m ∙ rw (before k m, t_is, between_more left i k le) (grown (o k m) (int_eq k i) (int_eq m j) (is_between left i k) (s k m) (s i j) (same_place s i j k m))

set_false : (b e : Bool) → b ≡ b || (false && e)
set_false true e = refl
set_false false e = refl

pub column_marked : (o b a s : PointSet) (left i j : ℤ) → left ≤ℤ i → s i j ≡ true
    → ((k m : ℤ) → b k m ≡ o k m || (int_eq m j && (is_between left i k && s k m)))
    → ((k m : ℤ) → a k m ≡ b k m || (int_eq k i && int_eq m j))
    → (k m : ℤ) → a k m ≡ o k m || (int_eq m j && (is_between left (i +ℤ pos 1) k && s k m))
column_marked o b a s left i j le is before after = column_more o b a s left i j true le (sym is) before (λ k m. after k m)

pub column_passed : (o b s : PointSet) (left i j : ℤ) → left ≤ℤ i → s i j ≡ false
    → ((k m : ℤ) → b k m ≡ o k m || (int_eq m j && (is_between left i k && s k m)))
    → (k m : ℤ) → b k m ≡ o k m || (int_eq m j && (is_between left (i +ℤ pos 1) k && s k m))
column_passed o b s left i j le is before = column_more o b b s left i j false le (sym is) before (λ k m. set_false (b k m) (int_eq k i && int_eq m j))

pub row_ends : (o a s : PointSet) (left right i j : ℤ) → left ≤ℤ i → i ≤ℤ int_max left right → right ≤ℤ i
    → ((k m : ℤ) → a k m ≡ o k m || (int_eq m j && (is_between left i k && s k m)))
    → (k m : ℤ) → a k m ≡ o k m || (int_eq m j && (is_between left right k && s k m))
row_ends o a s left right i j low high past is k m = is k m ∙ rw (between_all left right i k low high past) refl

pub rows_begin : (o s : PointSet) (left right bottom k m : ℤ) → o k m ≡ false → o k m ≡ is_between bottom bottom m && (is_between left right k && s k m)
rows_begin o s left right bottom k m none = rw (between_none bottom m) none

both : (w f x : Bool) → (w && x) || (f && x) ≡ (w || f) && x
both true true true = refl
both true true false = refl
both true false true = refl
both true false false = refl
both false true true = refl
both false true false = refl
both false false x = refl

pub row_more : (b a s : PointSet) (left right bottom j : ℤ) → bottom ≤ℤ j
    → ((k m : ℤ) → b k m ≡ is_between bottom j m && (is_between left right k && s k m))
    → ((k m : ℤ) → a k m ≡ b k m || (int_eq m j && (is_between left right k && s k m)))
    → (k m : ℤ) → a k m ≡ is_between bottom (j +ℤ pos 1) m && (is_between left right k && s k m)
row_more b a s left right bottom j le before after k m =
    after k m ∙ rw (before k m, between_more bottom j m le) (both (is_between bottom j m) (int_eq m j) (is_between left right k && s k m))

pub rows_end : (a s : PointSet) (left right bottom top j : ℤ) → bottom ≤ℤ j → j ≤ℤ int_max bottom top → top ≤ℤ j
    → ((k m : ℤ) → a k m ≡ is_between bottom j m && (is_between left right k && s k m))
    → (k m : ℤ) → a k m ≡ is_between bottom top m && (is_between left right k && s k m)
rows_end a s left right bottom top j low high past is k m = is k m ∙ rw (between_all bottom top j m low high past) refl

-- marks of a range of columns and a range of rows are those of a tile with these places
pub tile_marked : (p x y s : Bool) → x && y ≡ p → y && (x && s) ≡ p && s
tile_marked p true true s is = rw (sym is) refl
tile_marked p true false s is = rw (sym is) refl
tile_marked p false true s is = rw (sym is) refl
tile_marked p false false s is = rw (sym is) refl

pub next_within : (a b i : ℤ) → a ≤ℤ i → i <ℤ b → (a ≤ℤ (i +ℤ pos 1)) × ((i +ℤ pos 1) ≤ℤ int_max a b)
next_within a b i low lt = (omega (arith, ints), omega (arith, ints, clamps))

pub first_within : (a b : ℤ) → (a ≤ℤ a) × (a ≤ℤ int_max a b)
first_within a b = (omega (arith, ints), omega (arith, ints, clamps))

pub not_lt : (a b : ℤ) → int_lt a b ≡ false → b ≤ℤ a
not_lt a b h = grind (arith, ints)

-- a number below one that fits, and at or above one that fits, has a next one that fits
pub next_fits : (a b i : ℤ) → FitsSigned w64 a → FitsSigned w64 b → a ≤ℤ i → i <ℤ b → FitsSigned w64 (i +ℤ pos 1)
next_fits a b i fa fb low lt = omega (arith, ints)
