-- Places that are emptied column by column and row by row.
use Rattle.std.proofs.Common.{◌≡◌, refl, ◌∙◌, ℤ, pos, ◌+ℤ◌, ◌≤ℤ◌, Bool, true, false, ◌&&◌, ◌||◌, not}
use Rattle.std.specs.Int.{int_max}
use Rattle.std.specs.Ordering.{int_eq}
use Rattle.fill_base.specs.Counts.{is_between}
use Rattle.fill_base.proofs.Between.{between_none, between_more}
use Rattle.fill_job.specs.Plans.{PointSet}
use Rattle.fill_job.proofs.Marking.{between_all}

none_less : (o f : Bool) → o ≡ o && not (false && f)
none_less true f = refl
none_less false f = refl

column_less : (o w e f : Bool) → (o && not (w && f)) && not (e && f) ≡ o && not ((w || e) && f)
column_less false w e f = refl
column_less true true e true = refl
column_less true true true false = refl
column_less true true false false = refl
column_less true false e f = refl

none_less_up : (o x : Bool) → o ≡ o && not (x && false)
none_less_up true true = refl
none_less_up true false = refl
none_less_up false x = refl

row_less : (o x w f : Bool) → (o && not (x && w)) && not (x && f) ≡ o && not (x && (w || f))
row_less false x w f = refl
row_less true true true f = refl
row_less true true false f = refl
row_less true false w f = refl

pub row_begins : (o : PointSet) (left j k m : ℤ) → o k m ≡ o k m && not (is_between left left k && int_eq m j)
row_begins o left j k m = rw (between_none left k) (none_less (o k m) (int_eq m j))

pub column_cleared : (o b a : PointSet) (left i j : ℤ) → left ≤ℤ i → ((k m : ℤ) → b k m ≡ o k m && not (is_between left i k && int_eq m j)) → ((k m : ℤ) → a k m ≡ b k m && not (int_eq k i && int_eq m j))
    → (k m : ℤ) → a k m ≡ o k m && not (is_between left (i +ℤ pos 1) k && int_eq m j)
column_cleared o b a left i j le before after k m = after k m ∙ rw (before k m, between_more left i k le) (column_less (o k m) (is_between left i k) (int_eq k i) (int_eq m j))

pub row_ends : (o a : PointSet) (left right i j : ℤ) → left ≤ℤ i → i ≤ℤ int_max left right → right ≤ℤ i → ((k m : ℤ) → a k m ≡ o k m && not (is_between left i k && int_eq m j))
    → (k m : ℤ) → a k m ≡ o k m && not (is_between left right k && int_eq m j)
row_ends o a left right i j low high past is k m = is k m ∙ rw (between_all left right i k low high past) refl

pub rows_begin : (o : PointSet) (left right bottom k m : ℤ) → o k m ≡ o k m && not (is_between left right k && is_between bottom bottom m)
rows_begin o left right bottom k m = rw (between_none bottom m) (none_less_up (o k m) (is_between left right k))

pub row_cleared : (o b a : PointSet) (left right bottom j : ℤ) → bottom ≤ℤ j → ((k m : ℤ) → b k m ≡ o k m && not (is_between left right k && is_between bottom j m)) → ((k m : ℤ) → a k m ≡ b k m && not (is_between left right k && int_eq m j))
    → (k m : ℤ) → a k m ≡ o k m && not (is_between left right k && is_between bottom (j +ℤ pos 1) m)
row_cleared o b a left right bottom j le before after k m = after k m ∙ rw (before k m, between_more bottom j m le) (row_less (o k m) (is_between left right k) (is_between bottom j m) (int_eq m j))

pub rows_end : (o a : PointSet) (left right bottom top j : ℤ) → bottom ≤ℤ j → j ≤ℤ int_max bottom top → top ≤ℤ j → ((k m : ℤ) → a k m ≡ o k m && not (is_between left right k && is_between bottom j m))
    → (k m : ℤ) → a k m ≡ o k m && not (is_between left right k && is_between bottom top m)
rows_end o a left right bottom top j low high past is k m = is k m ∙ rw (between_all bottom top j m low high past) refl
