-- Cells found by their names.
use Rattle.std.proofs.Common.{◌≡◌, ℕ, suc, ◌+◌, ◌≤◌, ◌<◌, Bool, true, false, cond, List, [], ◌∷◌, ◌++◌, ◌⊎◌, inl, inr, length, map, take, get_or, refl, sym, ap, arith, ◌∙◌}
use Rattle.std.specs.Prelude.{Option, Some, None, slice_get, nat_lt, unwrap_or, position, not}
use Rattle.std.specs.List.{position_or_len}
use Rattle.std.specs.Str.{bytes_eq}
use Rattle.std.specs.Global.{Vec}
use Rattle.std.proofs.lemmas.Grind.{common_steps}
use Rattle.gds_cells.specs.Designs.{Entry}
use Rattle.gds_grammar.specs.declared.element.Element.{Element}
use Rattle.gds_grammar.specs.Values.{cell_of}
use Rattle.gds_cells.specs.Designs.{index_of, elements_in, elements_at, targets}
use Rattle.gds_cells.specs.steps.Rows.{rows}
use Rattle.std.proofs.lemmas.List.{take_more, map-append}
use Rattle.std.proofs.lemmas.Option.{slice_get_cases}

at_keys : (name : List ℕ) (es : List (Vec ℕ × Vec Element)) → position_or_len (λ (k : Vec ℕ). bytes_eq name k.items) (map (λ e. e.0) es) ≡ index_of (map cell_of es) name
at_keys name [] = refl
at_keys name (e ∷ es) = rw (at_keys name es) refl

pub no_more : {X : Type 0} (p : X → Bool) (xs : List X) → position_or_len p xs ≤ length xs
no_more p [] = grind (arith, common_steps)
no_more p (x ∷ xs) = cases (p x) (no_more p xs) where
  cases : (b : Bool) → position_or_len p xs ≤ length xs → cond (not b) (1 + position_or_len p xs) 0 ≤ suc (length xs)
  cases true below = omega arith
  cases false below = omega (arith, below)

or_else : (n len : ℕ) → n ≤ len → unwrap_or (cond (nat_lt n len) (Some n) None) len ≡ n
or_else n len below = grind (arith, common_steps, below)

pub found_index : (es : List (Vec ℕ × Vec Element)) (name : List ℕ) (found : Option ℕ) (len index : ℕ)
    → found ≡ position (λ (k : Vec ℕ). bytes_eq name k.items) (map (λ e. e.0) es) → len ≡ length es → index ≡ unwrap_or found len
    → index ≡ index_of (map cell_of es) name
found_index es name found len index is long e =
    let keys : length (map (λ (e : Vec ℕ × Vec Element). e.0) es) ≡ length es = grind (arith, common_steps) in
    e ∙ rw (is, long, sym keys) (or_else (position_or_len (λ (k : Vec ℕ). bytes_eq name k.items) (map (λ e. e.0) es)) (length (map (λ (e : Vec ℕ × Vec Element). e.0) es))
    (no_more (λ (k : Vec ℕ). bytes_eq name k.items) (map (λ e. e.0) es)))
    ∙ at_keys name es

-- ---- row after row

pub rows_more : (cells : List Entry) (k : ℕ) (graph : List (Vec ℕ)) (row : Vec ℕ) → k < length cells
    → rows graph ≡ map (λ e. targets cells e.shapes) (take k cells) → row.items ≡ targets cells (elements_at cells k)
    → rows (graph ++ row ∷ []) ≡ map (λ e. targets cells e.shapes) (take (k + 1) cells)
rows_more cells k graph row within before is =
    map-append (λ (v : Vec ℕ). v.items) graph (row ∷ []) ∙ rw (before, is) (last (slice_get_cases cells k)) where
      last : (slice_get cells k ≡ slice_get cells k) × (((x : Entry) × (k < length cells) × (slice_get cells k ≡ Some x) × (get_or cells k x ≡ x)) ⊎ ((length cells ≤ k) × (slice_get cells k ≡ None)))
          → map (λ e. targets cells e.shapes) (take k cells) ++ targets cells (elements_at cells k) ∷ [] ≡ map (λ e. targets cells e.shapes) (take (k + 1) cells)
      last (_, inr (past, none)) = absurd (omega (arith, past, within))
      last (_, inl (e, inside, there, same)) =
          ap (λ o. map (λ (x : Entry). targets cells x.shapes) (take k cells) ++ targets cells (elements_in o) ∷ []) there
          ∙ sym (ap (map (λ (x : Entry). targets cells x.shapes)) (take_more cells k e within ∙ ap (λ y. take k cells ++ y ∷ []) same)
          ∙ map-append (λ (x : Entry). targets cells x.shapes) (take k cells) (e ∷ []))
