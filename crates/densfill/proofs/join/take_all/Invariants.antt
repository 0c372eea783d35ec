-- The files so far are those of the first parts.
use Rattle.std.proofs.Common.{◌≡◌, List, length, map, IfSome}
use Rattle.densfill_engine.specs.Joiners.{AreJoined, IsJoiner}
use Rattle.densfill.specs.Outcomes.{all_known}
use Rattle.densfill.proofs.join.take_all.Given as goal

abbrev pub invariant-loop-path : goal.invariant-loop-path
invariant-loop-path g l = record {
  joiner : IsJoiner l.joined;
  chip : l.joined.parts.chip ≡ l.fn.joiner.parts.chip;
  whole : l.joined.parts.whole ≡ l.fn.joiner.parts.whole;
  count : l.joined.parts.count ≡ l.fn.joiner.parts.count;
  taken : l.joined.parts.taken ≡ l.path-index;
  files : (ps : List g.row.R-File.Denot) × (length ps ≡ l.path-index) × IfSome (all_known (map g.R.File.Read.remaining ps)) (λ texts. AreJoined texts l.joined);
}
