-- Whether sides are the same, as the code compares them.
use Rattle.std.proofs.Common.{◌≡◌, ℤ, refl, arith, ap, ◌∙◌, sym, true, ◌&&◌, ◌↔◌, w64, of_z, to_z, nat_eq, FitsSigned}
use Rattle.std.specs.Prelude.{IsTrue}
use Rattle.std.specs.Cmp.{first_so, second_so}
use Rattle.std.proofs.lemmas.Bool.{and_from, eqb-true}
use Rattle.std.proofs.lemmas.Bool.Decides.{Decides-eqb}
use Rattle.std.proofs.lemmas.Int.{ints}
use Rattle.fill_base.specs.declared.rect.Rect.{Rect}
use Rattle.std.specs.Int.{int_max, int_min}
use Rattle.fill_base.proofs.Signed.{read, read_is, coordinate_fits, fits_max, fits_min}
use Rattle.fill_region.specs.Steps.{StandsOn, edge_of}
use Rattle.fill_region.specs.declared.edges.Edge.{Edge}
use Rattle.fill_region.specs.declared.edges.Edge.TheVariants.{Left, Bottom, Right, Top}

same_word : (a b : ℤ) → FitsSigned w64 a → FitsSigned w64 b → nat_eq (of_z w64 a) (of_z w64 b) ≡ true → a ≡ b
same_word a b fa fb h = sym (read_is a fa) ∙ (ap (λ n. to_z w64 n) (eqb-true (of_z w64 a) (of_z w64 b) h) ∙ read_is b fb)

word_same : (a b : ℤ) → a ≡ b → nat_eq (of_z w64 a) (of_z w64 b) ≡ true
word_same a b e = (Decides-eqb (of_z w64 a) (of_z w64 b)).1 (ap (of_z w64) e)

pub fits_x1 : (r : Rect) → FitsSigned w64 r.x1
fits_x1 r = coordinate_fits r.x1 r.left (omega (arith, ints, r.wide, r.right))

pub fits_x2 : (r : Rect) → FitsSigned w64 r.x2
fits_x2 r = coordinate_fits r.x2 (omega (arith, ints, r.wide, r.left)) r.right

pub fits_y1 : (r : Rect) → FitsSigned w64 r.y1
fits_y1 r = coordinate_fits r.y1 r.bottom (omega (arith, ints, r.tall, r.top))

pub fits_y2 : (r : Rect) → FitsSigned w64 r.y2
fits_y2 r = coordinate_fits r.y2 (omega (arith, ints, r.tall, r.bottom)) r.top

pub compared : (lower upper : Rect) (a b c d e f : ℤ) → a ≡ lower.y2 → b ≡ upper.y1 → c ≡ lower.x1 → d ≡ upper.x1 → e ≡ lower.x2 → f ≡ upper.x2
    → (IsTrue ((nat_eq (of_z w64 a) (of_z w64 b) && nat_eq (of_z w64 c) (of_z w64 d)) && nat_eq (of_z w64 e) (of_z w64 f)) ↔ StandsOn upper lower)
compared lower upper a b c d e f a_is b_is c_is d_is e_is f_is = rw (a_is, b_is, c_is, d_is, e_is, f_is) (
  (λ is.
      let line = nat_eq (of_z w64 lower.y2) (of_z w64 upper.y1) in
      let left = nat_eq (of_z w64 lower.x1) (of_z w64 upper.x1) in
      let right = nat_eq (of_z w64 lower.x2) (of_z w64 upper.x2) in
      let two = first_so (line && left) right is in
      record {
        line = same_word lower.y2 upper.y1 (fits_y2 lower) (fits_y1 upper) (first_so line left two);
        left = same_word lower.x1 upper.x1 (fits_x1 lower) (fits_x1 upper) (second_so line left two);
        right = same_word lower.x2 upper.x2 (fits_x2 lower) (fits_x2 upper) (second_so (line && left) right is);
      }),
  (λ on. and_from _ _ (and_from _ _ (word_same lower.y2 upper.y1 on.line) (word_same lower.x1 upper.x1 on.left)) (word_same lower.x2 upper.x2 on.right)),
)

-- ---- an edge moved to a line

least_same : (m a s at : ℤ) → m ≡ int_min (read a) (read at) → a ≡ s → FitsSigned w64 s → FitsSigned w64 at → m ≡ int_min s at
least_same m a s at value a_is f g = value ∙ rw (a_is, read_is s f, read_is at g) refl

most_same : (m a s at : ℤ) → m ≡ int_max (read a) (read at) → a ≡ s → FitsSigned w64 s → FitsSigned w64 at → m ≡ int_max s at
most_same m a s at value a_is f g = value ∙ rw (a_is, read_is s f, read_is at g) refl

pub least_read : (edge m a s at : ℤ) → edge ≡ read m → m ≡ int_min (read a) (read at) → a ≡ s → FitsSigned w64 s → FitsSigned w64 at → edge ≡ int_min s at
least_read edge m a s at is value a_is f g = is ∙ (ap read (least_same m a s at value a_is f g) ∙ read_is (int_min s at) (fits_min s at f g))

pub most_read : (edge m a s at : ℤ) → edge ≡ read m → m ≡ int_max (read a) (read at) → a ≡ s → FitsSigned w64 s → FitsSigned w64 at → edge ≡ int_max s at
most_read edge m a s at is value a_is f g = is ∙ (ap read (most_same m a s at value a_is f g) ∙ read_is (int_max s at) (fits_max s at f g))

-- ---- an edge that is compared

pub same_of : (a b : ℤ) → FitsSigned w64 a → FitsSigned w64 b → of_z w64 a ≡ of_z w64 b → a ≡ b
same_of a b fa fb h = sym (read_is a fa) ∙ (ap (λ n. to_z w64 n) h ∙ read_is b fb)

pub fits_edge : (edge : Edge) (r : Rect) → FitsSigned w64 (edge_of edge r)
fits_edge Left r = fits_x1 r
fits_edge Bottom r = fits_y1 r
fits_edge Right r = fits_x2 r
fits_edge Top r = fits_y2 r
