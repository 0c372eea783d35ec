use Rattle.std.proofs.Common.{◌≡◌, ap, sym, subst, ◌∙◌, ◌∷◌, [], ◌++◌, map, append_assoc, arith, rules}
use Rattle.std.specs.Prelude.{◌≢◌}
use Rattle.std.specs.List.{All}
use Rattle.std.specs.Vec.Iter.{into_iter_items}
use Rattle.std.proofs.lemmas.Grind.{common_steps}
use Rattle.std.proofs.lemmas.List.Elements.{All-cons}
use Rattle.fill_shared.specs.declared.worker.WorkEnd.TheVariants.{Memory}
use Rattle.fill_shared.proofs.round.passes_of.Goals as goal

pub loop-pass-preserved : goal.loop-pass-preserved
loop-pass-preserved g c =
    let x = c.in-Some.field-0 in let rest = into_iter_items c.next.new.self in
    let step : into_iter_items c.loop-pass.pass-iterator ≡ x ∷ rest = search rules in
    let fine : x.end ≢ Memory = search rules in
    record {
      kept = rw c.push_reserved.ensures.items (append_assoc c.loop-pass.passes.items (x.pass ∷ []) (map (λ w. w.pass) rest) ∙ (ap (λ ws. c.loop-pass.passes.items ++ map (λ w. w.pass) ws) (sym step) ∙ c.loop-pass.invariant.kept));
      ended = λ all. c.loop-pass.invariant.ended (subst (All (λ w. w.end ≢ Memory)) (sym step) (All-cons (λ w. w.end ≢ Memory) x rest fine all));
      room = grind (arith, common_steps);
    }
