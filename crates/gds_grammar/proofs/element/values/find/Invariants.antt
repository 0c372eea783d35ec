use Rattle.std.proofs.Common.{◌≡◌, drop, map}
use Rattle.gds_record.specs.Records.{view}
use Rattle.gds_grammar.specs.Elements.{body_of}
use Rattle.gds_grammar.proofs.element.values.find.Given as goal

abbrev pub invariant-loop-found : goal.invariant-loop-found
invariant-loop-found l = body_of l.kind (map view (drop l.found-index l.before)) ≡ body_of l.kind (map view l.before)
