-- Parts, taken one after another.
use Rattle.std.proofs.Common.{◌≡◌, ◌∙◌, refl, sym, ap, subst, Bool, false, Result, Ok, Err, ◌^◌, ℕ, ◌+◌, ◌<◌, ◌≤◌, arith, inr, List, [], ◌∷◌, ◌++◌, length, Option, Some, None, IfSome}
use Rattle.std.proofs.lemmas.List.{length_push}
use Rattle.std.specs.Prelude.{is_ok, is_some, nat_lt}
use Rattle.std.proofs.lemmas.Bool.Decides.{nat_tests}
use Rattle.fill_text.specs.Chips.{chip_of}
use Rattle.fill_text.specs.Rules.{Values, rules_of}
use Rattle.fill_text.specs.ValuesOfRules.{values_of}
use Rattle.fill_text.specs.declared.rules.Rules.{Rules}
use Rattle.fill_text.specs.declared.rule_error.RuleError.{RuleError}
use Rattle.densfill_io.specs.declared.input.InputError.{InputError}
use Rattle.densfill_io.specs.declared.input.InputError.TheVariants.{Device, Memory, TooLong}
use Rattle.gds_join.specs.declared.joined.Joined.{Joined as Parts}
use Rattle.densfill_engine.specs.declared.refusal.InputFault.TheVariants.{Refused, Unread}
use Rattle.densfill_engine.proofs.Reasons.{rules_of_chip}
use Rattle.fill_text.specs.ValuesOfChips.{chip_values}
use Rattle.fill_text.specs.declared.chip.ChipRules.{ChipRules}
use Rattle.fill_job.specs.Plans.{plan_of}
use Rattle.fill_parts.specs.Laws.{part}
use Rattle.fill_parts.specs.Smaller.{IsPlanOfAnySize}
use Rattle.gds_out.specs.FillText.{fill_text}
use Rattle.gds_join.specs.Fills.{filled_in}
use Rattle.gds_join.specs.Joined.{design_of}
use Rattle.gds_join.specs.Joins.{AreTaken, Design, IsTaken}
use Rattle.gds_join.specs.Laws.{OneMoreIsTaken, TakenAreJoined}
use Rattle.gds_join.specs.declared.error.PartError.{PartError}
use Rattle.densfill_engine.specs.Joiners.{AreJoined, IsJoinOf, IsUnjoined, OpensFor, is_one_run}
use Rattle.densfill_engine.specs.Inputs.{chip_answer, told_by}
use Rattle.densfill_engine.specs.Joining.{IsPartTaken, IsUntaken, IsUntakenAs}
use Rattle.densfill_engine.specs.declared.joining.Joiner.{Joiner}
use Rattle.densfill_engine.specs.declared.refusal.InputFault.{InputFault}

-- what follows of bytes where they are known
pub known_more : {P Q : List ℕ → Type 0} (o : Option (List ℕ)) → ((bytes : List ℕ) → P bytes → Q bytes) → IfSome o P → IfSome o Q
known_more None f p = p
known_more (Some bytes) f p = f bytes p

-- the rules are read both ways
pub both_taken : (remaining : Option (List ℕ)) (bytes : List ℕ) (values : Values) (n : ℕ) (some : Bool) → IfSome remaining (λ xs. bytes ≡ xs) → n ≡ length bytes → n ≤ 2147483648 → chip_of bytes ≡ Ok values → some ≡ is_ok (rules_of bytes)
    → IfSome remaining (λ text. (chip_answer text ≡ Ok values) × (some ≡ is_one_run text))
both_taken None bytes values n some same len short given one = tt
both_taken (Some xs) bytes values n some same len short given one = subst (λ text. (chip_answer text ≡ Ok values) × (some ≡ is_one_run text)) same
    (rw (short_enough (length bytes) (rw len at short), given) refl, one ∙ rw (short_enough (length bytes) (rw len at short)) (told (rules_of bytes)))
  where
    short_enough : (m : ℕ) → m ≤ 2147483648 → nat_lt (2 ^ 31) m ≡ false
    short_enough m short = grind (arith, nat_tests)

    told : (r : Result Values RuleError) → is_ok r ≡ is_ok (told_by Refused r)
    told (Ok v) = refl
    told (Err e) = refl

-- and say the same
pub same_values : (bytes : List ℕ) (values other : Values) → chip_of bytes ≡ Ok values → rules_of bytes ≡ Ok other → other ≡ values
same_values bytes values other chip rules = ap value (sym (rules_of_chip bytes other rules) ∙ chip)
  where
    value : Result Values RuleError → Values
    value (Ok v) = v
    value (Err e) = values

pub whole_values : (o : Option Rules) (bytes : List ℕ) (values : Values) → chip_of bytes ≡ Ok values → IfSome o (λ r. rules_of bytes ≡ Ok (values_of r)) → IfSome o (λ r. values_of r ≡ values)
whole_values None bytes values chip rules = tt
whole_values (Some r) bytes values chip rules = same_values bytes values (values_of r) chip rules

-- a library that could not be read
pub unread : (j : Parts) (remaining : Option (List ℕ)) (e : InputError) (f : InputFault PartError) → f ≡ Unread e → (e ≡ TooLong → IfSome remaining (λ bytes. 2 ^ 31 < length bytes)) → IfSome remaining (λ bytes. IsUntaken j bytes f)
unread j None e f is long = tt
unread j (Some bytes) TooLong f is long = subst (λ x. IsUntaken j bytes x) (sym is) (long refl)
unread j (Some bytes) Device f is long = subst (λ x. IsUntaken j bytes x) (sym is) tt
unread j (Some bytes) Memory f is long = subst (λ x. IsUntaken j bytes x) (sym is) tt

-- one more part is taken behind those that are
pub one_more_joined : OneMoreIsTaken → (old new : Joiner) (bytes : List ℕ) (texts : List (List ℕ)) → new.parts.chip ≡ old.parts.chip → new.parts.count ≡ old.parts.count → new.parts.taken ≡ old.parts.taken + 1
    → IsPartTaken old.parts new.parts bytes → AreJoined texts old → AreJoined (texts ++ bytes ∷ []) new
one_more_joined law old new bytes texts chip count taken this before =
    let at : old.parts.taken ≡ length texts = before.count in
    let o = old.parts in let p = new.parts in
    let next = law (chip_values o.chip) o.count texts (design_of o.first) (filled_in o.fills.items) (filled_in p.fills.items) bytes this.design before.taken
    (subst (λ n. IsTaken (chip_values o.chip) (part n o.count) (design_of o.first) (filled_in o.fills.items) (filled_in p.fills.items) bytes this.design) at this.taken) in
    record {
      count = taken ∙ (ap (λ n. n + 1) at ∙ sym (length_push texts bytes));
      taken = subst (λ (c : ChipRules). AreTaken (chip_values c) p.count (texts ++ bytes ∷ []) (design_of p.first) (filled_in p.fills.items)) (sym chip)
          (subst (λ n. AreTaken (chip_values o.chip) n (texts ++ bytes ∷ []) (design_of p.first) (filled_in p.fills.items)) (sym count)
          (subst (λ d. AreTaken (chip_values o.chip) o.count (texts ++ bytes ∷ []) d (filled_in p.fills.items)) (sym this.first) next));
    }

-- the next one is not
pub not_joined : (old : Joiner) (bytes : List ℕ) (texts : List (List ℕ)) (number : ℕ) (fault : InputFault PartError) → number ≡ old.parts.taken + 1 → IsUntaken old.parts bytes fault
    → AreJoined texts old → IsUnjoined (chip_values old.parts.chip) (is_some old.parts.whole) old.parts.count (texts ++ bytes ∷ []) number fault
not_joined old bytes texts number fault is this before =
    let at : old.parts.taken ≡ length texts = before.count in
    let o = old.parts in
    inr (
      texts,
      bytes,
      refl,
      is ∙ (ap (λ n. n + 1) at ∙ sym (length_push texts bytes)),
      record {
        design = design_of o.first;
        earlier = filled_in o.fills.items;
        taken = before.taken;
        untaken = subst (λ n. IsUntakenAs (chip_values o.chip) (is_some o.whole) (part n o.count) (design_of o.first) (filled_in o.fills.items) bytes fault) at this;
      },
    )

-- the library of all of them
pub all_joined : TakenAreJoined → (j : Joiner) (d : Design) (out : List ℕ) → IsPlanOfAnySize (plan_of (chip_values j.parts.chip)) → design_of j.parts.first ≡ Some d → j.parts.taken ≡ j.parts.count → 1 ≤ j.parts.count → j.parts.count ≤ 4096
    → out ≡ fill_text d.0 d.1 (chip_values j.parts.chip) (filled_in j.parts.fills.items) → (rules : List ℕ) (texts : List (List ℕ)) → OpensFor rules j → AreJoined texts j → IsJoinOf rules texts out
all_joined law j d out plan design whole some few text rules texts said all =
    let p = j.parts in let v = chip_values p.chip in
    let count : p.count ≡ length texts = sym whole ∙ all.count in
    record {
      values = v;
      said = said.0;
      plan = plan;
      some = more p.count (length texts) count some;
      few = less p.count (length texts) count few;
      joined = law v texts d (filled_in p.fills.items) out
          (subst (λ n. AreTaken v n texts (Some d) (filled_in p.fills.items)) count (subst (λ o. AreTaken v p.count texts o (filled_in p.fills.items)) design all.taken)) text;
    }
  where
    more : (n m : ℕ) → n ≡ m → 1 ≤ n → 0 < m
    more n m e h = omega (arith, e, h)

    less : (n m : ℕ) → n ≡ m → n ≤ 4096 → m ≤ 4096
    less n m e h = omega (arith, e, h)
