use Rattle.std.proofs.Common.{◌≡◌, refl, sym, ap, subst, ◌∙◌, ℕ, ◌+◌, ◌<◌, ◌≤◌, arith, List, Option, Some, None, IfSome}
use Rattle.std.specs.Prelude.{All}
use Rattle.std.specs.Global.{Vec}
use Rattle.std.specs.Option.{unwrap_or}
use Rattle.fill_state.specs.Filling.{Filling}
use Rattle.fill_text.specs.ValuesOfChips.{chip_values}
use Rattle.fill_text.specs.ValuesOfRules.{values_of}
use Rattle.fill_text.specs.Rules.{Values}
use Rattle.fill_parts.specs.Cuts.{Part}
use Rattle.fill_parts.specs.PartChip.{own_alone}
use Rattle.gds_join.specs.Joined.{IsFillBelow, design_of}
use Rattle.gds_join.specs.declared.joined.First.{First}
use Rattle.gds_join.proofs.Fills.{all_push, below_more}
use Rattle.gds_join.proofs.joined.Joined.with.Goals.{else-has_tiles, then-has_tiles+in_ok-push}
use Rattle.gds_join.proofs.joined.Joined.with.Goals as goal

-- the first part is the first of more, too
first_rules : (values : Values) (o : Option First) (f g : First) → g ≡ unwrap_or o f → IfSome o (λ h. (k : Part) × (values_of h.rules ≡ own_alone values k)) → ((k : Part) × (values_of f.rules ≡ own_alone values k)) → (k : Part) × (values_of g.rules ≡ own_alone values k)
first_rules values None f g is old new = subst (λ (h : First). (k : Part) × (values_of h.rules ≡ own_alone values k)) (sym is) new
first_rules values (Some h) f g is old new = subst (λ (h : First). (k : Part) × (values_of h.rules ≡ own_alone values k)) (sym is) old

first_design : (o : Option First) (f g : First) → g ≡ unwrap_or o f → design_of (Some g) ≡ Some (unwrap_or (design_of o) (f.units, f.dates))
first_design None f g is = ap (λ (h : First). Some (h.units, h.dates)) is
first_design (Some h) f g is = ap (λ (h : First). Some (h.units, h.dates)) is

abbrev items_of : Vec Filling → List Filling
items_of v = v.items

below : (n : ℕ) → n < n + 1
below n = omega arith

not_more : (n m : ℕ) → n < m → n + 1 ≤ m
not_more n m lt = omega (arith, lt)

pub returns-clause-joined : goal.returns-clause-joined
returns-clause-joined c =
    let j = c.args.self in let v = chip_values j.chip in let is = c.requires.joined in
    let own : First = record { units = c.args.own.fill.units; dates = c.args.own.fill.dates; rules = c.args.own.rules } in
    let older = below_more v j.count j.taken (j.taken + 1) j.fills.items (below j.taken) is.fills in
    record {
      some = is.some;
      few = is.few;
      within = not_more j.taken j.count c.requires.more;
      whole = is.whole;
      first = λ lt. refl;
      rules = first_rules v j.first own c.unwrap_or-first.result c.unwrap_or-first.ensures is.rules c.requires.rules;
      fills = elim c.if-has_tiles.branch [
        | then-has_tiles+in_ok-push w ↦ subst (λ (fs : List Filling). All (IsFillBelow v j.count (j.taken + 1)) fs) (sym (ap items_of w.fills-is ∙ w.in_ok-push.ensures.items)) (all_push (IsFillBelow v j.count (j.taken + 1)) j.fills.items c.args.own.fill.filled older (c.requires.fill w.if-has_tiles.true))
        | else-has_tiles w ↦ subst (λ (fs : List Filling). All (IsFillBelow v j.count (j.taken + 1)) fs) (sym (ap items_of w.fills-is)) older
      ];
    }

pub returns-clause-design : goal.returns-clause-design
returns-clause-design c =
    let own : First = record { units = c.args.own.fill.units; dates = c.args.own.fill.dates; rules = c.args.own.rules } in
    first_design c.args.self.first own c.unwrap_or-first.result c.unwrap_or-first.ensures
