use Rattle.std.proofs.Common.{◌≡◌, ◌∙◌, ℕ, zero, suc, List, [], ◌∷◌, Bor, Option, Some, None, get_or, refl, ap, option_map, unwrap_or}
use Rattle.csv.specs.Records.{field_at, fields_of}
use Rattle.fill_text.proofs.rows.field.Goals as goal

field_or_none : (fields : List (List ℕ)) (i : ℕ) → unwrap_or (field_at fields i) [] ≡ get_or fields i []
unfolding field_at
field_or_none [] i = refl
field_or_none (f ∷ fs) zero = refl
field_or_none (f ∷ fs) (suc i) = field_or_none fs i

bytes_behind : (o : Option (Bor (List ℕ))) (d : Bor (List ℕ)) → (unwrap_or o d).now ≡ unwrap_or (option_map (λ (s : Bor (List ℕ)). s.now) o) d.now
bytes_behind None d = refl
bytes_behind (Some s) d = refl

pub returns : goal.returns
returns c =
    ap (λ (s : Bor (List ℕ)). s.now) c.unwrap_or.ensures ∙ bytes_behind c.get.result _
    ∙ ap (λ o. unwrap_or o []) c.get.ensures.value ∙ field_or_none (fields_of c.args.row.now) c.args.i
