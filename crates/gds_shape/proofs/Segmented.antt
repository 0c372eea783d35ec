-- The segments of a path, one after the other.
use Rattle.std.proofs.Common.{◌≡◌, suc, ◌≤◌, ◌<◌, ℤ, ◌+ℤ◌, ◌-ℤ◌, List, [], ◌∷◌, ◌++◌, length, get_or, drop, refl, arith, ◌∙◌, sym, append_assoc, true, false}
use Rattle.std.specs.Prelude.{All}
use Rattle.std.proofs.lemmas.List.{append-nil}
use Rattle.fill_base.specs.declared.place.Point.{Point}
use Rattle.gds_record.specs.Numbers.{IsStored}
use Rattle.gds_shape.specs.declared.bounds.Bounds.{Bounds}
use Rattle.std.specs.Ordering.{int_eq}
use Rattle.gds_shape.specs.Paths.{low_end, high_end, segment, segments, ending}
use Rattle.gds_shape.specs.steps.Ranges.{IsStretch}

-- what is made so far, and the corners that are left
pub record Segmented (half before after : ℤ) (corners rest : List Point) (longer : ℤ) (made : List Bounds) : Type 0 where
  pub stored : All IsStored rest
  pub longer_is : IsStretch longer
  pub same : made ++ segments half longer after rest ≡ segments half before after corners

pub segmented_step : (half before after : ℤ) (corners : List Point) (d : Point) (rest behind : List Point) (longer end : ℤ) (made new : List Bounds) (next : Bounds)
    → Segmented half before after corners rest longer made → 1 < length rest → IsStretch half → end ≡ ending half after (drop 2 rest) → next ≡ segment (get_or rest 0 d) (get_or rest 1 d) half longer end
    → new ≡ made ++ next ∷ [] → behind ≡ drop 1 rest → Segmented half before after corners behind half new
segmented_step half before after corners d [] behind longer end made new next s lt stretch end_is next_is put left = absurd (omega arith)
segmented_step half before after corners d (p ∷ []) behind longer end made new next s lt stretch end_is next_is put left = absurd (omega arith)
segmented_step half before after corners d (p ∷ q ∷ rest) behind longer end made new next s lt stretch end_is next_is put left = rw left (record {
  stored = λ k e h. s.stored (suc k) e (omega arith);
  longer_is = stretch;
  same = rw (put, next_is, end_is, append_assoc) s.same;
})

pub segmented_end : (half before after : ℤ) (corners rest : List Point) (longer : ℤ) (made : List Bounds) → Segmented half before after corners rest longer made → length rest ≤ 1
    → made ≡ segments half before after corners
segmented_end half before after corners [] longer made s short = sym (append-nil made) ∙ s.same
segmented_end half before after corners (p ∷ []) longer made s short = sym (append-nil made) ∙ s.same
segmented_end half before after corners (p ∷ q ∷ rest) longer made s short = absurd (omega arith)

abbrev pub bounds : ℤ → ℤ → ℤ → ℤ → Bounds
bounds l b r t = record { left = l; bottom = b; right = r; top = t }

pub upright_is : (p q : Point) (half before after l b r t : ℤ) → int_eq p.x q.x ≡ true → l ≡ p.x -ℤ half → b ≡ low_end p.y q.y before after → r ≡ p.x +ℤ half → t ≡ high_end p.y q.y before after
    → bounds l b r t ≡ segment p q half before after
upright_is p q half before after l b r t up el eb er et = rw (up, el, eb, er, et) refl

pub level_is : (p q : Point) (half before after l b r t : ℤ) → int_eq p.x q.x ≡ false → l ≡ low_end p.x q.x before after → b ≡ p.y -ℤ half → r ≡ high_end p.x q.x before after → t ≡ p.y +ℤ half
    → bounds l b r t ≡ segment p q half before after
level_is p q half before after l b r t level el eb er et = rw (level, el, eb, er, et) refl
