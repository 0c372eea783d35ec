use Rattle.std.proofs.Common.{ℕ, List, [], length, map}
use Rattle.std.specs.List.{AllByRecursion}
use Rattle.gds_record.specs.Records.{view}
use Rattle.gds_grammar.specs.Forms.{IsWell}
use Rattle.gds_grammar.specs.Values.{Shape, Contents}
use Rattle.gds_grammar.specs.Machine.{Body}
use Rattle.gds_grammar.specs.steps.Reading.{Reaches}
use Rattle.gds_grammar.proofs.element.body.read_body.Given as goal

abbrev pub invariant-body : goal.invariant-body
invariant-body l = record {
  well : AllByRecursion IsWell (map view l.before.items);
  reaches : (x : Contents) (n : List ℕ) (sh : List Shape) → Reaches l.bytes (Body x n sh l.element []) l.rest (Body x n sh l.element (map view l.before.items));
}

abbrev pub decreases-body : goal.decreases-body
decreases-body l = length l.rest
