-- What edits leave of layers, one after another and all at once.
use Rattle.std.proofs.Common.{◌≡◌, refl, ap, sym, ◌∙◌, ℕ, suc, ◌+◌, ◌<◌, ◌==◌, arith, ℤ, Bool, true, false, not, get_or, ◌&&◌, ◌||◌, List, [], ◌∷◌, ◌++◌, length, map, take, Option, Some, None, if◌then◌else◌}
use Rattle.std.proofs.Math.Path.{fun_ext}
use Rattle.std.proofs.lemmas.Bool.Decides.{nat_tests}
use Rattle.std.proofs.lemmas.List.{take_more}
use Rattle.std.proofs.lemmas.List.Folds.{list_any-append}
use Rattle.fill_base.specs.Squares.{squares}
use Rattle.fill_base.specs.declared.rect.Rect.{Rect}
use Rattle.fill_region.specs.Runs.{Sides, holds}
use Rattle.fill_region.specs.Squares.{covered}
use Rattle.fill_text.specs.Script.{change_of}
use Rattle.fill_text.specs.declared.script.Edit.{Edit}
use Rattle.fill_text.specs.declared.script.Edit.TheVariants as edit
use Rattle.fill_job.specs.Basis.{layers_in}
use Rattle.fill_job.specs.Plans.{Layers}
use Rattle.fill_core.specs.Machine.{keep_after, layers_after}
use Rattle.fill_parts.specs.PartFill.{layers_with}
use Rattle.densfill_engine.specs.Laws.{no_layers}
use Rattle.densfill_engine.specs.Metal.{is_added, is_cut, is_within, last_change, makes_metal}
use Rattle.densfill_engine.proofs.Replayed.{one_edit, settled, settled_later}

-- ---- keep-outs

one_more : (edits : List Edit) (e : Edit) (p : Layers) → layers_with (edits ++ e ∷ []) p ≡ layers_after e (layers_with edits p)
unfolding layers_with
one_more [] e p = refl
one_more (x ∷ edits) e p = one_more edits e (layers_after x p)

pub none_kept : (x y : ℤ) → covered [] x y ≡ (layers_with [] no_layers).keep x y
unfolding layers_with
none_kept x y = refl

module _ (edits : List Edit) (k : ℕ) (e : Edit) (lt : k < length edits) (item : e ≡ get_or edits k e) (rects : List Rect) (before : (x y : ℤ) → covered rects x y ≡ (layers_with (take k edits) no_layers).keep x y) where
  behind : (x y : ℤ) → (layers_with (take (k + 1) edits) no_layers).keep x y ≡ keep_after e (layers_with (take k edits) no_layers).keep x y
  behind x y =
      ap (λ (l : List Edit). (layers_with l no_layers).keep x y) (take_more edits k e lt ∙ ap (λ z. take k edits ++ z ∷ []) (sym item))
      ∙ ap (λ (p : Layers). p.keep x y) (one_more (take k edits) e no_layers)

  pub one_more_kept : (r : Rect) (new : List Rect) → e ≡ edit.Keep r → new ≡ rects ++ r ∷ [] → (x y : ℤ) → covered new x y ≡ (layers_with (take (k + 1) edits) no_layers).keep x y
  one_more_kept r new is joined x y =
      ap (λ l. covered l x y) joined ∙ (list_any-append (λ q. squares q x y) rects (r ∷ []) ∙ (last (covered rects x y) (squares r x y)
      ∙ (ap (λ b. b || squares r x y) (before x y) ∙ (ap (λ (d : Edit). keep_after d (layers_with (take k edits) no_layers).keep x y) (sym is) ∙ sym (behind x y)))))
    where
      last : (a s : Bool) → (a || (s || false)) ≡ (a || s)
      last true s = refl
      last false true = refl
      last false false = refl

  pub none_more_kept : ((keep : ℤ → ℤ → Bool) (x y : ℤ) → keep_after e keep x y ≡ keep x y) → (x y : ℤ) → covered rects x y ≡ (layers_with (take (k + 1) edits) no_layers).keep x y
  none_more_kept none x y = before x y ∙ (sym (none (layers_with (take k edits) no_layers).keep x y) ∙ sym (behind x y))

pub add_keeps : (e : Edit) (r : Rect) → e ≡ edit.Add r → (keep : ℤ → ℤ → Bool) (x y : ℤ) → keep_after e keep x y ≡ keep x y
add_keeps e r is keep x y = ap (λ (d : Edit). keep_after d keep x y) is

pub cut_keeps : (e : Edit) (r : Rect) → e ≡ edit.Cut r → (keep : ℤ → ℤ → Bool) (x y : ℤ) → keep_after e keep x y ≡ keep x y
cut_keeps e r is keep x y = ap (λ (d : Edit). keep_after d keep x y) is

-- what edits keep out comes to what was kept out before
keep_all : (edits : List Edit) (p : Layers) (x y : ℤ) → (layers_with edits p).keep x y ≡ (p.keep x y || (layers_with edits no_layers).keep x y)
unfolding layers_with
keep_all [] p x y = or_none (p.keep x y)
  where
    or_none : (b : Bool) → b ≡ (b || false)
    or_none true = refl
    or_none false = refl
keep_all (e ∷ edits) p x y =
    keep_all edits (layers_after e p) x y
    ∙ (first e (layers_with edits no_layers).keep ∙ ap (λ b. p.keep x y || b) (sym (keep_all edits (layers_after e no_layers) x y)))
  where
    grown : (a s k : Bool) → ((a || s) || k) ≡ (a || ((false || s) || k))
    grown true s k = refl
    grown false s k = refl

    first : (e : Edit) (rest : ℤ → ℤ → Bool) → (keep_after e p.keep x y || rest x y) ≡ (p.keep x y || (keep_after e (λ x y. false) x y || rest x y))
    first (edit.Add r) rest = refl
    first (edit.Cut r) rest = refl
    first (edit.Keep r) rest = grown (p.keep x y) (squares r x y) (rest x y)

-- ---- metal

metal_all : (edits : List Edit) (p : Layers) (x y : ℤ) → settled (last_change (map change_of edits) x y) (p.metal x y) ≡ (layers_with edits p).metal x y
unfolding last_change layers_with
metal_all [] p x y = refl
metal_all (e ∷ edits) p x y =
    settled_later (last_change (map change_of edits) x y) (if is_within (change_of e).rect x y then makes_metal (change_of e).kind else None) (p.metal x y)
    ∙ (ap (settled (last_change (map change_of edits) x y)) (one_edit e p.metal x y) ∙ metal_all edits (layers_after e p) x y)

patched : (o : Option Bool) (b : Bool) → ((b && not (is_cut o)) || is_added o) ≡ settled o b
patched None true = refl
patched None false = refl
patched (Some true) true = refl
patched (Some true) false = refl
patched (Some false) true = refl
patched (Some false) false = refl

-- ---- existing fill, which no edit changes

fill_all : (edits : List Edit) (p : Layers) → (layers_with edits p).fill ≡ p.fill
unfolding layers_with
fill_all [] p = refl
fill_all (e ∷ edits) p = fill_all edits (layers_after e p)

-- ---- all three

pub edited_layers : (edits : List Edit) (metal fill keep m k : List Sides)
    → ((x y : ℤ) → holds m x y ≡ ((holds metal x y && not (is_cut (last_change (map change_of edits) x y))) || is_added (last_change (map change_of edits) x y)))
    → ((x y : ℤ) → holds k x y ≡ (holds keep x y || (layers_with edits no_layers).keep x y)) → layers_in m fill k ≡ layers_with edits (layers_in metal fill keep)
edited_layers edits metal fill keep m k drawn kept = λ i. record {
  metal = fun_ext (λ x. fun_ext (λ y. drawn x y ∙ (patched (last_change (map change_of edits) x y) (holds metal x y) ∙ metal_all edits (layers_in metal fill keep) x y))) i;
  fill = sym (fill_all edits (layers_in metal fill keep)) i;
  keep = fun_ext (λ x. fun_ext (λ y. kept x y ∙ sym (keep_all edits (layers_in metal fill keep) x y))) i;
}

pub not_edited : (edits : List Edit) (p : Layers) (none : Bool) → none ≡ (length edits == 0) → none ≡ true → p ≡ layers_with edits p
unfolding layers_with
not_edited [] p none told is = refl
not_edited (e ∷ edits) p none told is = absurd (some (length edits) (sym told ∙ is))
  where
    some : (n : ℕ) → (suc n == 0) ≡ true → ⊥
    some n h = grind (arith, nat_tests)
