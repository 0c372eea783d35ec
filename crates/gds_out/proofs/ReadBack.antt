-- Numbers and points, read back from their bytes.
use Rattle.std.proofs.Common.{◌≡◌, refl, ap, ◌∙◌, ℕ, ◌<◌, ℤ, arith, List, [], ◌∷◌, map, w32, FitsSigned}
use Rattle.std.specs.List.{AllByRecursion}
use Rattle.std.specs.Int.{cast_signed, cast_unsigned}
use Rattle.std.proofs.Math.Facts.{Fits-of_z, Fits-lt-pow}
use Rattle.std.proofs.lemmas.Int.{ints, to_z-of_z}
use Rattle.std.proofs.lemmas.Nat.{from_be_bytes-to_be_bytes_2, from_be_bytes-to_be_bytes_4}
use Rattle.fill_base.specs.declared.place.Point.{Point}
use Rattle.gds_record.specs.Numbers.{word_of, number_of, point_of, IsStored}
use Rattle.gds_grammar.specs.Points.{points_of}
use Rattle.gds_out.specs.FillText.{word_bytes, number_bytes, point_bytes, points_bytes, coordinates}

pub word_back : (n : ℕ) → n < 65536 → word_of (word_bytes n) ≡ n
word_back n few = from_be_bytes-to_be_bytes_2 n few

number_back : (z : ℤ) → FitsSigned w32 z → number_of (number_bytes z) ≡ z
number_back z fits = ap (cast_signed w32) (from_be_bytes-to_be_bytes_4 (cast_unsigned w32 z) (Fits-lt-pow (Fits-of_z fits))) ∙ to_z-of_z w32 z fits

pub point_back : (p : Point) → IsStored p → point_of (point_bytes (coordinates p)) ≡ p
point_back p is = both (number_back p.x (omega (arith, ints))) (number_back p.y (omega (arith, ints)))
  where
    both : {a b c d : ℤ} → a ≡ c → b ≡ d → let q : Point = record { x = a; y = b } in let r : Point = record { x = c; y = d } in q ≡ r
    both e f = cc

pub points_back : (ps : List Point) → AllByRecursion IsStored ps → points_of (points_bytes (map coordinates ps)) ≡ ps
points_back [] all = refl
points_back (p ∷ ps) all = ap (λ q. q ∷ points_of (points_bytes (map coordinates ps))) (point_back p all.0) ∙ ap (λ qs. p ∷ qs) (points_back ps all.1)
