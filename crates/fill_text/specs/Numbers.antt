-- How a number is written: an optional `-`, and one to eighteen ASCII digits. How a layer is: two numbers without a sign, and `/`
-- between them.
use Rattle.std.specs.Prelude.{ℕ, ℤ, pos, ◌+◌, ◌-◌, ◌*◌, ◌==◌, ◌&&◌, List, [], ◌∷◌, length, take, drop, Option, Some, None, option_map, option_and_then, nat_lt, nat_le, neg_ℤ, if◌then◌else◌}
use Rattle.std.specs.List.{position}
use Rattle.std.specs.Char.{is_ascii_digit}

-- the number that digits write after those of n
abbrev pub digits_after : ℕ → List ℕ → Option ℕ
digits_after n [] = Some n
digits_after n (c ∷ cs) = if is_ascii_digit c then digits_after (10 * n + (c - 48)) cs else None

abbrev pub natural_of : List ℕ → Option ℕ
natural_of digits = if nat_lt 0 (length digits) && nat_le (length digits) 18 then digits_after 0 digits else None

abbrev pub number_of : List ℕ → Option ℤ
number_of [] = None
number_of (c ∷ cs) = if c == 45 then option_map (λ n. neg_ℤ (pos n)) (natural_of cs) else option_map pos (natural_of (c ∷ cs))

abbrev pub both : Option ℕ → Option ℕ → Option (ℕ × ℕ)
both (Some m) (Some n) = Some (m, n)
both (Some m) None = None
both None n = None

-- the numbers of the layer and of the data type that a word writes
abbrev pub layer_numbers_of : List ℕ → Option (ℕ × ℕ)
layer_numbers_of word = option_and_then (λ slash. both (natural_of (take slash word)) (natural_of (drop (slash + 1) word))) (position (λ c. c == 47) word)
