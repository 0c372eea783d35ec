-- What `==` compares of two rules is every value.
use Rattle.std.proofs.Common.{◌≡◌, ◌&&◌, Bool, true, false, ℕ, ℤ, List, Option, Some, None, ap, refl}
use Rattle.std.specs.Bool.{Decides}
use Rattle.std.specs.Cmp.Rules.{signed_items}
use Rattle.std.specs.Prelude.{bytes_eq, nat_eq}
use Rattle.std.specs.Option.{option_eq}
use Rattle.std.specs.Ordering.{int_eq}
use Rattle.std.proofs.Math.Bool.{beq}
use Rattle.std.proofs.lemmas.Bool.Decides.{Decides-and, Decides-int_eq}
use Rattle.std.proofs.lemmas.Slice.Eq.{bytes_eq-Decides}
use Rattle.std.specs.Cmp.{unsigned_Decides}
use Rattle.std.specs.Cmp.Lexicographic.{pointwise, pointwise_decides}
use Rattle.fill_base.specs.declared.layer.Layer.{Layer}
use Rattle.fill_text.specs.Rules.{Values}

abbrev pub same_pair : Option (ℤ × ℤ) → Option (ℤ × ℤ) → Bool
same_pair = option_eq (λ p q. int_eq p.0 q.0 && int_eq p.1 q.1)

pairs_decided : (a b : Option (ℤ × ℤ)) → Decides (same_pair a b) (a ≡ b)
pairs_decided None None = (λ h. refl, λ e. refl)
pairs_decided None (Some q) = (λ h. cc h, λ e. cc e)
pairs_decided (Some p) None = (λ h. cc h, λ e. cc e)
pairs_decided (Some p) (Some q) =
    let each = Decides-and _ _ (Decides-int_eq p.0 q.0) (Decides-int_eq p.1 q.1) in
    (λ h. let e = each.0 h in ap Some (both e.0 e.1), λ e. let same : p ≡ q = cc e in each.1 (ap (λ (r : ℤ × ℤ). r.0) same, ap (λ (r : ℤ × ℤ). r.1) same))
  where
    both : p.0 ≡ q.0 → p.1 ≡ q.1 → p ≡ q
    both e f = λ k. (e k, f k)

bools_decided : (a b : Bool) → Decides (beq a b) (a ≡ b)
bools_decided true true = (λ h. refl, λ e. refl)
bools_decided true false = (λ h. cc h, λ e. cc e)
bools_decided false true = (λ h. cc h, λ e. cc e)
bools_decided false false = (λ h. refl, λ e. refl)

abbrev pub same_layer : Layer → Layer → Bool
same_layer a b = nat_eq a.layer b.layer && nat_eq a.data_type b.data_type

layers_decided : (a b : List Layer) → Decides (pointwise same_layer a b) (a ≡ b)
layers_decided = pointwise_decides one
  where
    one : (a b : Layer) → Decides (same_layer a b) (a ≡ b)
    one a b =
        let each = Decides-and _ _ (unsigned_Decides a.layer b.layer) (unsigned_Decides a.data_type b.data_type) in
        (λ h. let e = each.0 h in λ k. record { layer = e.0 k; data_type = e.1 k }, λ e. each.1 (ap (λ (l : Layer). l.layer) e, ap (λ (l : Layer). l.data_type) e))

made_of : List ℤ → List ℕ → List ℕ → List ℕ → List ℕ → List Layer → List Layer → List Layer → Option (ℤ × ℤ) → Bool → Values
made_of numbers top fill_lib fill_cell fill_top metal fill kept keep ignores = record { numbers = numbers; top = top; fill_lib = fill_lib; fill_cell = fill_cell; fill_top = fill_top; keep = keep; also_metal = metal; also_fill = fill; also_keep = kept; ignores = ignores }

made_same : (n m : List ℤ) (a a' b b' c c' d d' : List ℕ) (x x' y y' z z' : List Layer) (k k' : Option (ℤ × ℤ)) (v v' : Bool) → n ≡ m → a ≡ a' → b ≡ b' → c ≡ c' → d ≡ d' → x ≡ x' → y ≡ y' → z ≡ z' → k ≡ k' → v ≡ v'
    → made_of n a b c d x y z k v ≡ made_of m a' b' c' d' x' y' z' k' v'
made_same n m a a' b b' c c' d d' x x' y y' z z' k k' v v' e f g h i o p q j r = rw (e, f, g, h, i, o, p, q, j, r) refl

pub same_values : (a b : Values) → Decides (pointwise int_eq a.numbers b.numbers && ((bytes_eq a.top b.top && (bytes_eq a.fill_lib b.fill_lib && (bytes_eq a.fill_cell b.fill_cell && bytes_eq a.fill_top b.fill_top)))
    && ((pointwise same_layer a.also_metal b.also_metal && (pointwise same_layer a.also_fill b.also_fill && pointwise same_layer a.also_keep b.also_keep)) && (same_pair a.keep b.keep && beq a.ignores b.ignores)))) (a ≡ b)
unfolding made_of
same_values a b =
    let texts = Decides-and _ _ (bytes_eq-Decides a.top b.top)
    (Decides-and _ _ (bytes_eq-Decides a.fill_lib b.fill_lib) (Decides-and _ _ (bytes_eq-Decides a.fill_cell b.fill_cell) (bytes_eq-Decides a.fill_top b.fill_top))) in
    let lists = Decides-and _ _ (layers_decided a.also_metal b.also_metal) (Decides-and _ _ (layers_decided a.also_fill b.also_fill) (layers_decided a.also_keep b.also_keep)) in
    let each = Decides-and _ _ (signed_items a.numbers b.numbers) (Decides-and _ _ texts (Decides-and _ _ lists (Decides-and _ _ (pairs_decided a.keep b.keep) (bools_decided a.ignores b.ignores)))) in (
      λ test. let e = each.0 test in
          made_same _ _ _ _ _ _ _ _ _ _ _ _ _ _ _ _ _ _ _ _ e.0 e.1.0.0 e.1.0.1.0 e.1.0.1.1.0 e.1.0.1.1.1 e.1.1.0.0 e.1.1.0.1.0 e.1.1.0.1.1 e.1.1.1.0 e.1.1.1.1,
      λ e. each.1 (
        ap (λ (v : Values). v.numbers) e,
        (
          (ap (λ (v : Values). v.top) e, (ap (λ (v : Values). v.fill_lib) e, (ap (λ (v : Values). v.fill_cell) e, ap (λ (v : Values). v.fill_top) e))),
          ((ap (λ (v : Values). v.also_metal) e, (ap (λ (v : Values). v.also_fill) e, ap (λ (v : Values). v.also_keep) e)), (ap (λ (v : Values). v.keep) e, ap (λ (v : Values). v.ignores) e)),
        ),
      ),
    )
