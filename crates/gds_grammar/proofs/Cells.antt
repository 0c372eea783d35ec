-- Structures in the map, by their names.
use Rattle.std.proofs.Common.{◌≡◌, ℕ, Bool, true, false, cond, List, [], ◌∷◌, ◌++◌, map, refl, ap}
use Rattle.std.specs.Prelude.{◌||◌, Some, is_some}
use Rattle.std.specs.Global.{Vec}
use Rattle.std.specs.Map.{lookup}
use Rattle.std.specs.Str.{bytes_eq}
use Rattle.indexmap.specs.IndexMap.{insert_entry}
use Rattle.gds_grammar.specs.declared.element.Element.{Element}
use Rattle.gds_grammar.specs.Values.{cell_of}
use Rattle.gds_grammar.specs.Grammar.{has_name}

abbrev same_name : Vec ℕ → Vec ℕ → Bool
same_name a b = bytes_eq a.items b.items

neither : (a b : Bool) → (a || b) ≡ false → (a ≡ false) × (b ≡ false)
neither true b e = absurd cc
neither false b e = (refl, e)

-- a new name goes last
pub insert_new : (es : List (Vec ℕ × Vec Element)) (k : Vec ℕ) (v : Vec Element) → has_name (map cell_of es) k.items ≡ false
    → map cell_of (insert_entry same_name es k v) ≡ map cell_of es ++ cell_of (k, v) ∷ []
insert_new [] k v h = refl
insert_new (e ∷ es) k v h =
    let p = neither (bytes_eq k.items e.0.items) (has_name (map cell_of es) k.items) h in
    rw p.0 (ap (λ cells. cell_of e ∷ cells) (insert_new es k v p.1))

pub found_by_name : (es : List (Vec ℕ × Vec Element)) (n : List ℕ) → is_some (lookup (λ (k : Vec ℕ). bytes_eq n k.items) es) ≡ has_name (map cell_of es) n
found_by_name [] n = refl
found_by_name (e ∷ es) n = cases (bytes_eq n e.0.items) (found_by_name es n) where
  cases : (b : Bool) → is_some (lookup (λ (k : Vec ℕ). bytes_eq n k.items) es) ≡ has_name (map cell_of es) n → is_some (cond b (Some e.1) (lookup (λ (k : Vec ℕ). bytes_eq n k.items) es)) ≡ (b || has_name (map cell_of es) n)
  cases true later = refl
  cases false later = later
