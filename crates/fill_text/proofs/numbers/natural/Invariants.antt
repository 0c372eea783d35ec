-- What is still to be read, behind what was read, is the whole.
use Rattle.std.proofs.Common.{◌≡◌, ◌^◌, ◌<◌, drop}
use Rattle.fill_text.specs.Numbers.{digits_after}
use Rattle.fill_text.proofs.numbers.natural.Given as goal

abbrev pub invariant-loop-c : goal.invariant-loop-c
invariant-loop-c l = record {
  fits : l.n < 10 ^ l.c-index;
  rest : digits_after l.n (drop l.c-index l.text) ≡ digits_after 0 l.text;
}
