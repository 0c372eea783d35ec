-- What edits make of a layer, square by square, and its area.
use Rattle.std.proofs.Common.{◌≡◌, ℕ, ◌+◌, ◌≤◌, ◌^◌, ℤ, pos, ◌+ℤ◌, ◌-ℤ◌, Bool, true, false, ◌&&◌, ◌||◌, refl, ap, arith, ◌∙◌, w64, FitsSigned}
use Rattle.std.specs.Prelude.{not}
use Rattle.std.proofs.Math.Path.{fun_ext}
use Rattle.std.proofs.lemmas.Int.{ints}
use Rattle.fill_base.specs.declared.rect.Rect.{Rect}
use Rattle.fill_base.specs.Squares.{area_of}
use Rattle.fill_base.proofs.Covering.{area_either}
use Rattle.fill_base.proofs.Signed.{read, read_is, pos_fits}
use Rattle.fill_job.specs.Plans.{PointSet}

-- ---- one square: whether it was there at the opening, is cut, is added, and lies in the rectangle of an edit

-- p: whether it comes, where it lies in the rectangle
pub with_square : (o c a p r : Bool) → (p ≡ true → r ≡ true) → ((o && not (c && not p)) || (a || (p && not (o && r)))) ≡ (((o && not c) || a) || p)
with_square o c a true r within = rw (within refl) (comes o c a)
  where
    comes : (o c a : Bool) → ((o && not (c && false)) || (a || not (o && true))) ≡ (((o && not c) || a) || true)
    comes true true true = refl
    comes true true false = refl
    comes true false true = refl
    comes true false false = refl
    comes false c true = refl
    comes false c false = refl
with_square o c a false r within = stays o c a
  where
    stays : (o c a : Bool) → ((o && not (c && true)) || (a || false)) ≡ (((o && not c) || a) || false)
    stays true true true = refl
    stays true true false = refl
    stays true false true = refl
    stays true false false = refl
    stays false c true = refl
    stays false c false = refl

pub without_square : (o c a r : Bool) → ((o && not (c || (o && r))) || (a && not r)) ≡ (((o && not c) || a) && not r)
without_square true true true true = refl
without_square true true true false = refl
without_square true true false true = refl
without_square true true false false = refl
without_square true false true true = refl
without_square true false true false = refl
without_square true false false true = refl
without_square true false false false = refl
without_square false c true true = refl
without_square false c true false = refl
without_square false c false r = refl

pub clipped_square : (o c a r : Bool) → (((o && r) && not (c && r)) || (a && r)) ≡ (((o && not c) || a) && r)
clipped_square true true true true = refl
clipped_square true true true false = refl
clipped_square true true false true = refl
clipped_square true true false false = refl
clipped_square true false true true = refl
clipped_square true false true false = refl
clipped_square true false false true = refl
clipped_square true false false false = refl
clipped_square false true true true = refl
clipped_square false true true false = refl
clipped_square false true false true = refl
clipped_square false true false false = refl
clipped_square false false true true = refl
clipped_square false false true false = refl
clipped_square false false false true = refl
clipped_square false false false false = refl

-- what is cut was there, and what is added was not
pub cut_less : (o c r : Bool) → (c ≡ true → o ≡ true) → (c && not r) ≡ true → o ≡ true
cut_less o true r h is = h refl
cut_less o false r h is = absurd (let e : false ≡ true = is in cc)

pub cut_more : (o c r : Bool) → (c ≡ true → o ≡ true) → (c || (o && r)) ≡ true → o ≡ true
cut_more true c r h is = refl
cut_more false true r h is = h refl
cut_more false false r h is = is

pub added_more : (o a p r : Bool) → (p ≡ true → r ≡ true) → (a ≡ true → o ≡ false) → (a || (p && not (o && r))) ≡ true → o ≡ false
added_more false a p r within h is = refl
added_more true true p r within h is = h refl
added_more true false true r within h is = absurd (let e : not r ≡ true = is in let f : r ≡ true = within refl in let g : false ≡ true = rw f at e in cc)
added_more true false false r within h is = absurd (let e : false ≡ true = is in cc)

pub added_less : (o a r : Bool) → (a ≡ true → o ≡ false) → (a && not r) ≡ true → o ≡ false
added_less o true r h is = h refl
added_less o false r h is = absurd (let e : false ≡ true = is in cc)

-- ---- the area

whole_again : (o c : Bool) → (c ≡ true → o ≡ true) → o ≡ ((o && not c) || c)
whole_again true true h = refl
whole_again true false h = refl
whole_again false true h = h refl
whole_again false false h = refl

not_cut : (o c : Bool) → (o && not c) ≡ true → c ≡ true → ⊥
not_cut true true is cut = let e : false ≡ true = is in cc
not_cut true false is cut = let e : false ≡ true = cut in cc
not_cut false c is cut = let e : false ≡ true = is in cc

not_added : (o c a : Bool) → (a ≡ true → o ≡ false) → (o && not c) ≡ true → a ≡ true → ⊥
not_added true c true h is added = let e : true ≡ false = h refl in cc
not_added true c false h is added = let e : false ≡ true = added in cc
not_added false c a h is added = let e : false ≡ true = is in cc

-- the areas of what was there, of what is cut and of what is added, and that of the layer
pub record AreAreas (opening cut added layer : ℕ) : Type 0 where
  pub left : ℕ
  pub there : opening ≡ left + cut
  pub now : layer ≡ left + added

pub areas : (o c a : PointSet) (w : Rect) → ((x y : ℤ) → c x y ≡ true → o x y ≡ true) → ((x y : ℤ) → a x y ≡ true → o x y ≡ false) → AreAreas (area_of o w) (area_of c w) (area_of a w) (area_of (λ x y. (o x y && not (c x y)) || a x y) w)
areas o c a w cut added = record {
  left = area_of (λ x y. o x y && not (c x y)) w;
  there = ap (λ p. area_of p w) (fun_ext (λ x. fun_ext (λ y. whole_again (o x y) (c x y) (cut x y)))) ∙ area_either (λ x y. o x y && not (c x y)) c w.x1 w.y1 w.x2 w.y2 (λ x y. not_cut (o x y) (c x y));
  now = area_either (λ x y. o x y && not (c x y)) a w.x1 w.y1 w.x2 w.y2 (λ x y. not_added (o x y) (c x y) (a x y) (added x y));
}

-- the sum as the code makes it
pub record IsSum (opening cut added : ℤ) (layer : ℕ) : Type 0 where
  pub less_fits : FitsSigned w64 (read opening -ℤ read cut)
  pub fits : FitsSigned w64 (read (read opening -ℤ read cut) +ℤ read added)
  pub is : read (read (read opening -ℤ read cut) +ℤ read added) ≡ pos layer

pub sum : (o c a n : ℕ) (opening cut added : ℤ) → opening ≡ pos o → cut ≡ pos c → added ≡ pos a → o ≤ 2 ^ 62 → n ≤ 2 ^ 62 → AreAreas o c a n → IsSum opening cut added n
sum o c a n opening cut added o_is c_is a_is o_few n_few are = record { less_fits = less_fits; fits = fits; is = read_is _ fits ∙ total }
  where
    o_read : read opening ≡ pos o
    o_read = read_is opening (rw o_is (pos_fits o (omega (arith, o_few)))) ∙ o_is

    c_read : read cut ≡ pos c
    c_read = read_is cut (rw c_is (pos_fits c (omega (arith, o_few, are.there)))) ∙ c_is

    a_read : read added ≡ pos a
    a_read = read_is added (rw a_is (pos_fits a (omega (arith, n_few, are.now)))) ∙ a_is

    less : read opening -ℤ read cut ≡ pos are.left
    less = rw (o_read, c_read) (difference o c are.left are.there)
      where
        difference : (a b d : ℕ) → a ≡ d + b → pos a -ℤ pos b ≡ pos d
        difference a b d e = omega (arith, ints, e)

    less_fits : FitsSigned w64 (read opening -ℤ read cut)
    less_fits = rw less (pos_fits are.left (omega (arith, o_few, are.there)))

    added_up : read (read opening -ℤ read cut) +ℤ read added ≡ pos n
    added_up = rw (read_is (read opening -ℤ read cut) less_fits ∙ less, a_read) (both are.left a n are.now)
      where
        both : (d b m : ℕ) → m ≡ d + b → pos d +ℤ pos b ≡ pos m
        both d b m e = omega (arith, ints, e)

    fits : FitsSigned w64 (read (read opening -ℤ read cut) +ℤ read added)
    fits = rw added_up (pos_fits n (omega (arith, n_few)))

    total : read (read opening -ℤ read cut) +ℤ read added ≡ pos n
    total = added_up
