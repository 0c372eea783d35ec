-- Lists of elements, and what they say.
use Rattle.std.proofs.Common.{◌≡◌, ℕ, ◌<◌, List, length, map, get_or, ap, sym, ◌∙◌}
use Rattle.std.proofs.lemmas.List.{length-map, get_or-map}
use Rattle.gds_grammar.specs.declared.element.Element.{Element}
use Rattle.gds_grammar.specs.Values.{shape_of}

pub many : (es : List Element) → length (map shape_of es) ≡ length es
many es = length-map es shape_of

pub said_at : (es : List Element) (k : ℕ) (e : Element) → k < length es → e ≡ get_or es k e → shape_of e ≡ get_or (map shape_of es) k (shape_of e)
said_at es k e within is = ap shape_of is ∙ sym (get_or-map shape_of es k e (shape_of e) within)
