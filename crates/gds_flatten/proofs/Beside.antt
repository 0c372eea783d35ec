-- Frames side by side.
use Rattle.std.proofs.Common.{◌≡◌, inl, inr, ℤ, ◌<ℤ◌, Bool, true, false, ◌&&◌, ◌||◌, refl, arith}
use Rattle.std.proofs.lemmas.Int.{ints}
use Rattle.fill_base.specs.Counts.{is_between}
use Rattle.gds_flatten.specs.Frames.{SideBySide}

-- a range, cut at a number in it
cut : (l r a b c d z : ℤ) → l ≡ a → r ≡ d → b ≡ c → a <ℤ b → c <ℤ d → is_between l r z ≡ (is_between a b z || is_between c d z)
cut l r a b c d z first last middle h k = grind (arith, ints)

same : (l r a b z : ℤ) → l ≡ a → r ≡ b → is_between a b z ≡ is_between l r z
same l r a b z h k = rw (h, k) refl

across : (s p q y : Bool) → (s && ((p || q) && y)) ≡ ((s && (p && y)) || (s && (q && y)))
across false p q y = refl
across true true true true = refl
across true true true false = refl
across true true false true = refl
across true true false false = refl
across true false q y = refl

along : (s x p q : Bool) → (s && (x && (p || q))) ≡ ((s && (x && p)) || (s && (x && q)))
along false x p q = refl
along true false p q = refl
along true true p q = refl

wide : (s w p q y u v : Bool) → w ≡ (p || q) → u ≡ y → v ≡ y → (s && (w && y)) ≡ ((s && (p && u)) || (s && (q && v)))
wide s w p q y u v h i j = rw (h, i, j) (across s p q y)

tall : (s w p q x u v : Bool) → w ≡ (p || q) → u ≡ x → v ≡ x → (s && (x && w)) ≡ ((s && (u && p)) || (s && (v && q)))
tall s w p q x u v h i j = rw (h, i, j) (along s x p q)

pub side_by_side : SideBySide
side_by_side f g both (inl b) s x y =
    wide (s x y) _ _ _ _ _ _ (cut both.x1 both.x2 f.x1 f.x2 g.x1 g.x2 x b.left b.right b.middle f.wide g.wide)
    (same both.y1 both.y2 f.y1 f.y2 y b.low.0 b.high.0) (same both.y1 both.y2 g.y1 g.y2 y b.low.1 b.high.1)
side_by_side f g both (inr b) s x y =
    tall (s x y) _ _ _ _ _ _ (cut both.y1 both.y2 f.y1 f.y2 g.y1 g.y2 y b.low b.high b.middle f.tall g.tall)
    (same both.x1 both.x2 f.x1 f.x2 x b.left.0 b.right.0) (same both.x1 both.x2 g.x1 g.x2 x b.left.1 b.right.1)
