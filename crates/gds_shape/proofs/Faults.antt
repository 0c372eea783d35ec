-- Why a path is refused: the first cause that stands there.
use Rattle.std.proofs.Common.{◌≡◌, ℤ, List, [], ◌∷◌, refl, arith, sym, Bool, true, false, cond, not, ◌||◌, ◌⊎◌, inl, inr, Some, None}
use Rattle.std.specs.Prelude.{IsTrue, ◌↔◌}
use Rattle.std.specs.List.{list_any, AllByRecursion}
use Rattle.std.specs.Ordering.{int_eq}
use Rattle.std.proofs.lemmas.Int.{ints}
use Rattle.fill_base.specs.declared.place.Point.{Point}
use Rattle.gds_grammar.specs.Values.{Wire}
use Rattle.gds_shape.specs.declared.error.ShapeError.{ShapeError}
use Rattle.gds_shape.specs.declared.error.ShapeError.TheVariants as errors
use Rattle.gds_shape.specs.Winding.{edges, IsAligned, IsManhattan}
use Rattle.gds_shape.specs.Paths.{is_slanted, has_round_end, has_odd_width, doubles_back, has_bad_extension, fault_among, path_fault, is_drawn, corners_of, first_of, IsPathRefusal}

aligned_is : (e : Point × Point) → IsAligned e → is_slanted e ≡ false
aligned_is e is = elim is [ inl h ↦ rw (eq e.0.x e.1.x h) refl | inr h ↦ rw (eq e.0.y e.1.y h) (table (int_eq e.0.x e.1.x)) ]
  where
    eq : (a b : ℤ) → a ≡ b → int_eq a b ≡ true
    eq a b h = grind (arith, ints)

    table : (b : Bool) → not (b || true) ≡ false
    table true = refl
    table false = refl

is_aligned : (e : Point × Point) → is_slanted e ≡ false → IsAligned e
is_aligned e is = cases (int_eq e.0.x e.1.x) (int_eq e.0.y e.1.y) refl refl is
  where
    eq : (a b : ℤ) → int_eq a b ≡ true → a ≡ b
    eq a b h = grind (arith, ints)

    cases : (p q : Bool) → int_eq e.0.x e.1.x ≡ p → int_eq e.0.y e.1.y ≡ q → not (p || q) ≡ false → IsAligned e
    cases true q h k n = inl (eq e.0.x e.1.x h)
    cases false true h k n = inr (eq e.0.y e.1.y k)
    cases false false h k n = let w : true ≡ false = n in cc

none_slanted : (es : List (Point × Point)) → AllByRecursion IsAligned es → list_any is_slanted es ≡ false
none_slanted [] all = refl
none_slanted (e ∷ es) all = rw (aligned_is e all.0) (none_slanted es all.1)

all_aligned : (es : List (Point × Point)) → list_any is_slanted es ≡ false → AllByRecursion IsAligned es
all_aligned [] none = tt
all_aligned (e ∷ es) none = (is_aligned e (first (is_slanted e) (list_any is_slanted es) none), all_aligned es (rest (is_slanted e) (list_any is_slanted es) none))
  where
    first : (a b : Bool) → (a || b) ≡ false → a ≡ false
    first true b h = h
    first false b h = refl

    rest : (a b : Bool) → (a || b) ≡ false → b ≡ false
    rest true b h = cc
    rest false b h = h

pub slanted_is : (points : List Point) (b : Bool) → (IsTrue b ↔ IsManhattan points) → not b ≡ list_any is_slanted (edges points)
slanted_is points true same = sym (none_slanted (edges points) (same.0 refl))
slanted_is points false same = other (list_any is_slanted (edges points)) refl
  where
    other : (b : Bool) → list_any is_slanted (edges points) ≡ b → true ≡ b
    other true h = refl
    other false h = let w : false ≡ true = same.1 (all_aligned (edges points) h) in cc

pub fault_1 : (path : Wire) (points : List Point) → list_any is_slanted (edges points) ≡ true → Some errors.NotManhattan ≡ fault_among path points
fault_1 path points a = rw a refl

pub fault_2 : (path : Wire) (points : List Point) → list_any is_slanted (edges points) ≡ false → has_round_end path ≡ true → Some errors.RoundEnd ≡ fault_among path points
fault_2 path points a b = rw (a, b) refl

pub fault_3 : (path : Wire) (points : List Point) → list_any is_slanted (edges points) ≡ false → has_round_end path ≡ false → has_odd_width path ≡ true → Some errors.OddWidth ≡ fault_among path points
fault_3 path points a b c = rw (a, b, c) refl

pub fault_4 : (path : Wire) (points : List Point) → list_any is_slanted (edges points) ≡ false → has_round_end path ≡ false → has_odd_width path ≡ false → doubles_back points ≡ true
    → Some errors.DoublesBack ≡ fault_among path points
fault_4 path points a b c d = rw (a, b, c, d) refl

pub fault_5 : (path : Wire) (points : List Point) → list_any is_slanted (edges points) ≡ false → has_round_end path ≡ false → has_odd_width path ≡ false → doubles_back points ≡ false
    → has_bad_extension path ≡ true → Some errors.BadExtension ≡ fault_among path points
fault_5 path points a b c d e = rw (a, b, c, d, e) refl

pub no_fault : (path : Wire) (points : List Point) → list_any is_slanted (edges points) ≡ false → has_round_end path ≡ false → has_odd_width path ≡ false → doubles_back points ≡ false
    → has_bad_extension path ≡ false → None ≡ fault_among path points
no_fault path points a b c d e = rw (a, b, c, d, e) refl

-- none of a path's own faults is OutOfRange
not_out : (path : Wire) → path_fault path ≡ Some errors.OutOfRange → ⊥
not_out path = never (is_drawn path) (list_any is_slanted (edges (corners_of path))) (has_round_end path) (has_odd_width path) (doubles_back (corners_of path)) (has_bad_extension path)
  where
    never : (d a b c e f : Bool) → cond d (first_of ((a, errors.NotManhattan) ∷ (b, errors.RoundEnd) ∷ (c, errors.OddWidth) ∷ (e, errors.DoublesBack) ∷ (f, errors.BadExtension) ∷ [])) None ≡ Some errors.OutOfRange → ⊥
    never false a b c e f h = cc
    never true true b c e f h = cc
    never true false true c e f h = cc
    never true false false true e f h = cc
    never true false false false true f h = cc
    never true false false false false true h = cc
    never true false false false false false h = cc

pub refusal_is : (path : Wire) (e : ShapeError) → (e ≡ errors.Memory) ⊎ (path_fault path ≡ Some e) → IsPathRefusal path e
refusal_is path errors.Memory why = tt
refusal_is path errors.OutOfRange why = elim why [ inl h ↦ cc | inr h ↦ absurd (not_out path h) ]
refusal_is path errors.NotManhattan why = elim why [ inl h ↦ cc | inr h ↦ h ]
refusal_is path errors.RoundEnd why = elim why [ inl h ↦ cc | inr h ↦ h ]
refusal_is path errors.OddWidth why = elim why [ inl h ↦ cc | inr h ↦ h ]
refusal_is path errors.DoublesBack why = elim why [ inl h ↦ cc | inr h ↦ h ]
refusal_is path errors.BadExtension why = elim why [ inl h ↦ cc | inr h ↦ h ]
