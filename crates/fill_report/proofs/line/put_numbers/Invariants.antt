use Rattle.std.proofs.Common.{◌≡◌, ◌++◌, [], map, take}
use Rattle.std.specs.Fmt.{signed_decimal}
use Rattle.csv.specs.Records.{fields_of, partial_of}
use Rattle.fill_report.specs.Writing.{AllPlain}
use Rattle.fill_report.proofs.line.put_numbers.Given as goal

abbrev pub invariant-loop-n : goal.invariant-loop-n
invariant-loop-n l = record {
  fields : fields_of l.row ≡ fields_of l.fn.row ++ map signed_decimal (take l.n-index l.numbers);
  partial : partial_of l.row ≡ [];
  plain : AllPlain (map signed_decimal (take l.n-index l.numbers));
}
