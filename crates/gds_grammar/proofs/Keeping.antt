-- What is left of a library that some shapes are left out of.
use Rattle.std.proofs.Common.{◌≡◌, ℕ, Bool, true, cond, List, [], ◌∷◌, ◌++◌, map, refl, sym, ap, ◌∙◌}
use Rattle.std.specs.Prelude.{◌||◌}
use Rattle.std.specs.Str.{bytes_eq}
use Rattle.std.proofs.lemmas.List.{map-append}
use Rattle.fill_base.specs.declared.layer.Layer.{Layer}
use Rattle.gds_grammar.specs.Values.{Shape, boundary, path, reference, array, Cell, Contents}
use Rattle.gds_grammar.specs.Layers.{is_kept, kept_shapes, kept_cell, kept}
use Rattle.gds_grammar.specs.Grammar.{has_name}
use Rattle.gds_grammar.specs.Machine.{with_cell}

-- names stay
pub name_kept : (keep : Layer → Bool) (cells : List Cell) (n : List ℕ) → has_name (map (kept_cell keep) cells) n ≡ has_name cells n
name_kept keep [] n = refl
name_kept keep (c ∷ cells) n = ap (λ b. bytes_eq n c.name || b) (name_kept keep cells n)

-- one more cell
pub cell_kept : (keep : Layer → Bool) (l : Contents) (n m dates units : List ℕ) (all left : List Shape) (cells more : List Cell)
    → kept keep l ≡ record { dates = dates; units = units; cells = cells } → m ≡ n → left ≡ kept_shapes keep all
    → more ≡ cells ++ record { name = m; shapes = left } ∷ []
    → kept keep (with_cell l n all) ≡ record { dates = dates; units = units; cells = more }
cell_kept keep l n m dates units all left cells more same named are grown =
    let d : l.dates ≡ dates = ap (λ x. x.dates) same in
    let u : l.units ≡ units = ap (λ x. x.units) same in
    let cs : map (kept_cell keep) l.cells ≡ cells = ap (λ x. x.cells) same in
    rw (sym d, sym u, grown, named, are, sym cs, map-append (kept_cell keep) l.cells (record { name = n; shapes = all } ∷ [])) refl

-- where all are kept nothing is left out
every_shape : (shapes : List Shape) → kept_shapes (λ layer. true) shapes ≡ shapes
every_shape [] = refl
every_shape (boundary layer points ∷ shapes) = ap (λ xs. boundary layer points ∷ xs) (every_shape shapes)
every_shape (path layer wire ∷ shapes) = ap (λ xs. path layer wire ∷ xs) (every_shape shapes)
every_shape (reference cell transform origin ∷ shapes) = ap (λ xs. reference cell transform origin ∷ xs) (every_shape shapes)
every_shape (array cell transform columns rows points ∷ shapes) = ap (λ xs. array cell transform columns rows points ∷ xs) (every_shape shapes)

every_cell : (cells : List Cell) → map (kept_cell (λ layer. true)) cells ≡ cells
every_cell [] = refl
every_cell (c ∷ cells) =
    ap (λ shapes. record { name = c.name; shapes = shapes } ∷ map (kept_cell (λ layer. true)) cells) (every_shape c.shapes)
    ∙ ap (λ cs. c ∷ cs) (every_cell cells)

pub every_kept : (l : Contents) → kept (λ layer. true) l ≡ l
every_kept l = ap (λ cells. record { dates = l.dates; units = l.units; cells = cells }) (every_cell l.cells)
