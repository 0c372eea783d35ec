-- Records one behind another, and the lengths of their data.
use Rattle.std.proofs.Common.{◌≡◌, refl, ap, sym, subst, ◌∙◌, ℕ, suc, min, ◌*◌, ◌%◌, ◌≤◌, ℤ, arith, List, [], ◌∷◌, ◌++◌, length, map, take}
use Rattle.std.specs.List.{flat_map}
use Rattle.std.proofs.lemmas.List.{append_assoc, length-take}
use Rattle.std.proofs.lemmas.Grind.{flat_map-append}
use Rattle.gds_record.specs.Records.{Rec, spelling, IsEven}
use Rattle.fill_base.specs.declared.place.Point.{Point}
use Rattle.gds_out.specs.FillText.{rec, coordinates, points_bytes}

-- these records, then those
pub then : (a b c : List ℕ) (rs ss : List Rec) → b ≡ a ++ flat_map spelling rs → c ≡ b ++ flat_map spelling ss → c ≡ a ++ flat_map spelling (rs ++ ss)
then a b c rs ss first second =
    second ∙ rw first (append_assoc a (flat_map spelling rs) (flat_map spelling ss) ∙ ap (λ t. a ++ t) (sym (flat_map-append spelling rs ss)))

pub length_points : (ps : List (ℤ × ℤ)) → length (points_bytes ps) ≡ length ps * 8
length_points [] = refl
length_points (p ∷ ps) = let e = length_points ps in eight (length (points_bytes ps)) (length ps) e
  where
    eight : (n m : ℕ) → n ≡ m * 8 → suc (suc (suc (suc (suc (suc (suc (suc n))))))) ≡ suc m * 8
    eight n m e = omega arith

length_body : (ps : List Point) (n : ℕ) (bytes : List ℕ) → bytes ≡ points_bytes (map coordinates (take n ps)) → length bytes ≡ length (take n ps) * 8
length_body ps n bytes is = ap length is ∙ (length_points (map coordinates (take n ps)) ∙ ap (λ k. k * 8) (lengths (take n ps)))
  where
    lengths : (qs : List Point) → length (map coordinates qs) ≡ length qs
    lengths [] = refl
    lengths (q ∷ qs) = ap suc (lengths qs)

pub body_short : (ps : List Point) (n : ℕ) (bytes : List ℕ) → bytes ≡ points_bytes (map coordinates (take n ps)) → length ps ≤ 8191 → length bytes ≤ 65530
body_short ps n bytes is few =
    let e = length_body ps n bytes is in
    let t = length-take n ps in
    short (length bytes) (length (take n ps)) n (length ps) e t few
  where
    short : (b t n m : ℕ) → b ≡ t * 8 → t ≡ min n m → m ≤ 8191 → b ≤ 65530
    short b t n m e f few = omega arith

pub body_even : (ps : List Point) (n : ℕ) (bytes : List ℕ) → bytes ≡ points_bytes (map coordinates (take n ps)) → IsEven (length bytes)
body_even ps n bytes is = let e = length_body ps n bytes is in even (length bytes) (length (take n ps)) e
  where
    even : (b t : ℕ) → b ≡ t * 8 → b % 2 ≡ 0
    even b t e = omega arith

-- four records, one after another
pub four : (t0 t1 t2 t3 t4 : List ℕ) (r1 r2 r3 r4 : Rec) → t1 ≡ t0 ++ flat_map spelling (r1 ∷ []) → t2 ≡ t1 ++ flat_map spelling (r2 ∷ [])
    → t3 ≡ t2 ++ flat_map spelling (r3 ∷ []) → t4 ≡ t3 ++ flat_map spelling (r4 ∷ []) → t4 ≡ t0 ++ flat_map spelling (r1 ∷ r2 ∷ r3 ∷ r4 ∷ [])
four t0 t1 t2 t3 t4 r1 r2 r3 r4 a b c d =
    then t0 t3 t4 (r1 ∷ r2 ∷ r3 ∷ []) (r4 ∷ []) (then t0 t2 t3 (r1 ∷ r2 ∷ []) (r3 ∷ []) (then t0 t1 t2 (r1 ∷ []) (r2 ∷ []) a b) c) d

pub five : (t0 t1 t2 t3 t4 t5 : List ℕ) (r1 r2 r3 r4 r5 : Rec) → t1 ≡ t0 ++ flat_map spelling (r1 ∷ []) → t2 ≡ t1 ++ flat_map spelling (r2 ∷ [])
    → t3 ≡ t2 ++ flat_map spelling (r3 ∷ []) → t4 ≡ t3 ++ flat_map spelling (r4 ∷ []) → t5 ≡ t4 ++ flat_map spelling (r5 ∷ [])
    → t5 ≡ t0 ++ flat_map spelling (r1 ∷ r2 ∷ r3 ∷ r4 ∷ r5 ∷ [])
five t0 t1 t2 t3 t4 t5 r1 r2 r3 r4 r5 a b c d e = then t0 t4 t5 (r1 ∷ r2 ∷ r3 ∷ r4 ∷ []) (r5 ∷ []) (four t0 t1 t2 t3 t4 r1 r2 r3 r4 a b c d) e

pub eight : (t0 t1 t2 t3 t4 t5 t6 t7 t8 : List ℕ) (r1 r2 r3 r4 r5 r6 r7 r8 : Rec) → t1 ≡ t0 ++ flat_map spelling (r1 ∷ []) → t2 ≡ t1 ++ flat_map spelling (r2 ∷ [])
    → t3 ≡ t2 ++ flat_map spelling (r3 ∷ []) → t4 ≡ t3 ++ flat_map spelling (r4 ∷ []) → t5 ≡ t4 ++ flat_map spelling (r5 ∷ [])
    → t6 ≡ t5 ++ flat_map spelling (r6 ∷ []) → t7 ≡ t6 ++ flat_map spelling (r7 ∷ []) → t8 ≡ t7 ++ flat_map spelling (r8 ∷ [])
    → t8 ≡ t0 ++ flat_map spelling (r1 ∷ r2 ∷ r3 ∷ r4 ∷ r5 ∷ r6 ∷ r7 ∷ r8 ∷ [])
eight t0 t1 t2 t3 t4 t5 t6 t7 t8 r1 r2 r3 r4 r5 r6 r7 r8 a b c d e f g h =
    then t0 t4 t8 (r1 ∷ r2 ∷ r3 ∷ r4 ∷ []) (r5 ∷ r6 ∷ r7 ∷ r8 ∷ []) (four t0 t1 t2 t3 t4 r1 r2 r3 r4 a b c d) (four t4 t5 t6 t7 t8 r5 r6 r7 r8 e f g h)

-- the same record by its data
pub with_data : (t u : List ℕ) (kind form : ℕ) (a b : List ℕ) → a ≡ b → u ≡ t ++ flat_map spelling (rec kind form a ∷ []) → u ≡ t ++ flat_map spelling (rec kind form b ∷ [])
with_data t u kind form a b same is = subst (λ d. u ≡ t ++ flat_map spelling (rec kind form d ∷ [])) same is

-- four parts from nothing on
pub whole : (t0 t1 t2 t3 t4 : List ℕ) (a b c d : List Rec) → t0 ≡ [] → t1 ≡ t0 ++ flat_map spelling a → t2 ≡ t1 ++ flat_map spelling b → t3 ≡ t2 ++ flat_map spelling c
    → t4 ≡ t3 ++ flat_map spelling d → t4 ≡ flat_map spelling (a ++ (b ++ (c ++ d)))
whole t0 t1 t2 t3 t4 a b c d none h i j k =
    then t0 t1 t4 a (b ++ (c ++ d)) h (then t1 t2 t4 b (c ++ d) i (then t2 t3 t4 c d j k)) ∙ ap (λ t. t ++ flat_map spelling (a ++ (b ++ (c ++ d)))) none
