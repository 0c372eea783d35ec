-- A list in two, by where one side of its rectangles lies.
use Rattle.std.proofs.Common.{◌≡◌, ℕ, ◌+◌, ◌<◌, ℤ, Bool, true, false, List, [], ◌∷◌, ◌++◌, append-nil, length, take, get_or, refl, sym, ◌∙◌, true≢false}
use Rattle.std.specs.Prelude.{not}
use Rattle.std.specs.List.{filter}
use Rattle.std.proofs.lemmas.Bool.Decides.{Decides-int_eq}
use Rattle.std.proofs.lemmas.List.Elements.{All-weaker, filter_more, filter_passes}
use Rattle.std.proofs.lemmas.List.Sorted.{IsPermutation-filter_both}
use Rattle.fill_base.specs.declared.rect.Rect.{Rect}
use Rattle.fill_region.specs.Steps.{edge_of, is_at, AreParted}
use Rattle.fill_region.specs.declared.edges.Edge.{Edge}

-- those at the line, and those that aren't
pub are_parted : (edge : Edge) (at : ℤ) (all there others : List Rect) → there ≡ filter (is_at edge at) all → others ≡ filter (λ r. not (is_at edge at r)) all → AreParted edge at all there others
are_parted edge at all there others there_is others_is = rw (there_is, others_is) (record {
  same = IsPermutation-filter_both (is_at edge at) (λ r. not (is_at edge at r)) (λ r. refl) all;
  are_there = All-weaker (λ r. is_at edge at r ≡ true) (λ r. edge_of edge r ≡ at) (λ r is. (Decides-int_eq (edge_of edge r) at).0 is) (filter (is_at edge at) all) (filter_passes (is_at edge at) all);
  are_not = All-weaker (λ r. not (is_at edge at r) ≡ true) (λ r. edge_of edge r ≡ at → ⊥) (λ r is e. refuted (is_at edge at r) is ((Decides-int_eq (edge_of edge r) at).1 e))
      (filter (λ r. not (is_at edge at r)) all) (filter_passes (λ r. not (is_at edge at r)) all);
})
  where
    refuted : (b : Bool) → not b ≡ true → b ≡ true → ⊥
    refuted true is there = true≢false (sym is)
    refuted false is there = true≢false (sym there)

-- one rectangle more
pub one_at : (edge : Edge) (at : ℤ) (all there : List Rect) (k : ℕ) (d : Rect) → k < length all → d ≡ get_or all k d → is_at edge at d ≡ true → there ≡ filter (is_at edge at) (take k all)
    → (there ++ d ∷ []) ≡ filter (is_at edge at) (take (k + 1) all)
one_at edge at all there k d lt is there_it so_far = rw so_far (sym (filter_more (is_at edge at) all k d lt ∙ rw (sym is, there_it) refl))

pub one_off : (edge : Edge) (at : ℤ) (all there : List Rect) (k : ℕ) (d : Rect) → k < length all → d ≡ get_or all k d → is_at edge at d ≡ false → there ≡ filter (is_at edge at) (take k all)
    → there ≡ filter (is_at edge at) (take (k + 1) all)
one_off edge at all there k d lt is other so_far = so_far ∙ sym (filter_more (is_at edge at) all k d lt ∙ (rw (sym is, other) refl ∙ append-nil (filter (is_at edge at) (take k all))))
