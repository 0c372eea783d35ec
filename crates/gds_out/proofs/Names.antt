-- The names of the fill library.
use Rattle.std.proofs.Common.{◌≡◌, ◌≤◌, ℕ, arith, true, ◌&&◌, List, length}
use Rattle.std.specs.Prelude.{nat_lt, nat_le}
use Rattle.std.specs.List.{list_all}
use Rattle.std.proofs.lemmas.Bool.{and_parts}
use Rattle.std.proofs.lemmas.Bool.Decides.{nat_tests}
use Rattle.fill_text.specs.Rules.{is_fill_name, is_name_byte}

pub name_short : (name : List ℕ) → is_fill_name name ≡ true → length name ≤ 32
name_short name is = short (length name) (and_parts (nat_lt 0 (length name)) (nat_le (length name) 32) (and_parts (nat_lt 0 (length name) && nat_le (length name) 32) (list_all is_name_byte name) is).0).1
  where
    short : (n : ℕ) → nat_le n 32 ≡ true → n ≤ 32
    short n h = grind (arith, nat_tests)
