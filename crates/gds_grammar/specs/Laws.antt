-- The laws of the grammar, and which refusal a record gets.
use Rattle.std.specs.Prelude.{◌≡◌, ◌↔◌, ◌<◌, ◌^◌, List, [], ◌∷◌, ◌++◌, length}
use Rattle.std.specs.List.{AllByRecursion}
use Rattle.gds_record.specs.Records.{Rec, IsRecord}
use Rattle.gds_grammar.specs.declared.error.Refusal.{Refusal}
use Rattle.gds_grammar.specs.declared.error.Refusal.TheVariants.{Unexpected, BadXY, NotClosed, DuplicateCell}
use Rattle.gds_grammar.specs.Values.{Contents}
use Rattle.gds_grammar.specs.Grammar.{no_rules, points_alone, points_and_closing, all_rules, IsLibrary, IsViable}
use Rattle.gds_grammar.specs.Machine.{State, Start, Done, fine, refuse, run, step}

-- The machine takes exactly the libraries, with the contents that the grammar gives them.
abbrev pub MachineIsGrammar : Type 0
MachineIsGrammar = (records : List Rec) (value : Contents) → AllByRecursion IsRecord records
    → (run all_rules Start records ≡ fine (Done value)) ↔ IsLibrary all_rules records value

-- Why records are not viable, while all but the last of them are: the first of the rules that the
-- last one breaks.
abbrev pub IsWhy : Refusal → List Rec → Type 0
IsWhy Unexpected records = IsViable no_rules records → ⊥
IsWhy BadXY records = IsViable no_rules records × (IsViable points_alone records → ⊥)
IsWhy NotClosed records = IsViable points_alone records × (IsViable points_and_closing records → ⊥)
IsWhy DuplicateCell records = IsViable points_and_closing records × (IsViable all_rules records → ⊥)

-- What the machine has taken is viable, what it refuses is not, and the refusal is the first of the
-- rules that is broken.
pub record RefusedAtTheFirst : Type 0 where
  pub taken : (records : List Rec) (s : State) → AllByRecursion IsRecord records → length records < 2 ^ 64
      → run all_rules Start records ≡ fine s → IsViable all_rules records
  pub refused : (records : List Rec) (s : State) (r : Rec) (e : Refusal)
      → AllByRecursion IsRecord records → IsRecord r
      → run all_rules Start records ≡ fine s → step all_rules s r ≡ refuse e
      → (IsViable all_rules (records ++ r ∷ []) → ⊥) × IsWhy e (records ++ r ∷ [])
