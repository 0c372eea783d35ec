-- Places that are filled row by row.
use Rattle.std.proofs.Common.{◌≡◌, refl, ◌∙◌, ℤ, pos, ◌+ℤ◌, ◌≤ℤ◌, Bool, true, false, ◌&&◌, ◌||◌}
use Rattle.std.specs.Int.{int_max}
use Rattle.std.specs.Ordering.{int_eq}
use Rattle.fill_base.specs.Counts.{is_between}
use Rattle.fill_base.proofs.Between.{between_none, between_more}
use Rattle.fill_job.specs.Plans.{PointSet}
use Rattle.fill_job.proofs.Marking.{between_all}

no_more : (o x : Bool) → o ≡ o || (false && x)
no_more true x = refl
no_more false x = refl

grown : (o w e x : Bool) → (o || (w && x)) || (e && x) ≡ o || ((w || e) && x)
grown true w e x = refl
grown false true true true = refl
grown false true true false = refl
grown false true false true = refl
grown false true false false = refl
grown false false e x = refl

pub rows_begin : (o x : PointSet) (bottom k m : ℤ) → o k m ≡ o k m || (is_between bottom bottom m && x k m)
rows_begin o x bottom k m = rw (between_none bottom m) (no_more (o k m) (x k m))

pub rows_more : (o b a x : PointSet) (bottom j : ℤ) → bottom ≤ℤ j → ((k m : ℤ) → b k m ≡ o k m || (is_between bottom j m && x k m)) → ((k m : ℤ) → a k m ≡ b k m || (int_eq m j && x k m))
    → (k m : ℤ) → a k m ≡ o k m || (is_between bottom (j +ℤ pos 1) m && x k m)
rows_more o b a x bottom j le before after k m = after k m ∙ rw (before k m, between_more bottom j m le) (grown (o k m) (is_between bottom j m) (int_eq m j) (x k m))

pub rows_end : (o a x : PointSet) (bottom top j : ℤ) → bottom ≤ℤ j → j ≤ℤ int_max bottom top → top ≤ℤ j → ((k m : ℤ) → a k m ≡ o k m || (is_between bottom j m && x k m))
    → (k m : ℤ) → a k m ≡ o k m || (is_between bottom top m && x k m)
rows_end o a x bottom top j low high past is k m = is k m ∙ rw (between_all bottom top j m low high past) refl

-- marks that are of a tile lie within its columns and rows
pub all_marked : (p x y t : Bool) → x && y ≡ p → (t ≡ true → p ≡ true) → y && (x && t) ≡ t
all_marked p true true t h of = refl
all_marked p true false true h of = h ∙ of refl
all_marked p false true true h of = h ∙ of refl
all_marked p false false true h of = h ∙ of refl
all_marked p true false false h of = refl
all_marked p false true false h of = refl
all_marked p false false false h of = refl
