use Rattle.std.proofs.Common.{◌≡◌, ◌∙◌, ◌&&◌, ap, ap₂, arith, ℤ, w64, FitsSigned}
use Rattle.std.specs.Prelude.{int_lt}
use Rattle.std.proofs.lemmas.Int.{ints, clamps}
use Rattle.fill_base.specs.declared.rect.Rect.{Rect}
use Rattle.fill_base.proofs.Signed.{read, read_is}
use Rattle.densfill_engine.proofs.view.is_near.Goals as goal

-- the edges of a rectangle fit 64 bits
record Fit (r : Rect) : Type 0 where
  x1 : FitsSigned w64 r.x1
  y1 : FitsSigned w64 r.y1
  x2 : FitsSigned w64 r.x2
  y2 : FitsSigned w64 r.y2

fit : (r : Rect) → Fit r
fit r =
    let wide = r.wide in
    let tall = r.tall in
    let left = r.left in
    let bottom = r.bottom in
    let right = r.right in
    let top = r.top in
    record { x1 = omega (arith, ints, clamps); y1 = omega (arith, ints, clamps); x2 = omega (arith, ints, clamps); y2 = omega (arith, ints, clamps) }

less : (x y p q : ℤ) → x ≡ p → y ≡ q → FitsSigned w64 p → FitsSigned w64 q → int_lt (read x) (read y) ≡ int_lt p q
less x y p q e f first second = ap₂ int_lt (ap read e ∙ read_is p first) (ap read f ∙ read_is q second)

pub returns : goal.returns
returns c =
    let f = c.args.frame.now in
    let r = c.rect_of-rect.result in
    let one = fit r in
    let other = fit f in
    ap₂ (λ a b. a && b)
    (ap₂ (λ a b. a && b) (less c.x1.result c.x2.result r.x1 f.x2 c.x1.ensures c.x2.ensures one.x1 other.x2) (less c.x1-2.result c.x2-2.result f.x1 r.x2 c.x1-2.ensures c.x2-2.ensures other.x1 one.x2))
    (ap₂ (λ a b. a && b) (less c.y1.result c.y2.result r.y1 f.y2 c.y1.ensures c.y2.ensures one.y1 other.y2) (less c.y1-2.result c.y2-2.result f.y1 r.y2 c.y1-2.ensures c.y2-2.ensures other.y1 one.y2))
    ∙ ap (λ (s : Rect). (int_lt s.x1 f.x2 && int_lt f.x1 s.x2) && (int_lt s.y1 f.y2 && int_lt f.y1 s.y2)) c.rect_of-rect.ensures
