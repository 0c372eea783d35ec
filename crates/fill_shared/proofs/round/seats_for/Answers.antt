use Rattle.std.proofs.Common.{◌≡◌, ◌∙◌, ap, sym, ℕ, ◌*◌, ◌/◌, ◌∷◌, [], ◌++◌, append_assoc, arith, length, map, rules}
use Rattle.std.specs.Vec.Iter.{into_iter_items}
use Rattle.std.proofs.lemmas.List.{map-append}
use Rattle.std.proofs.lemmas.Grind.{common_steps}
use Rattle.fill_shared.proofs.Rounds.{seats_more}
use Rattle.fill_shared.proofs.round.seats_for.Goals as goal

pub loop-pass-preserved : goal.loop-pass-preserved
loop-pass-preserved g c =
    let count : length c.loop-pass.seats.items ≡ c.loop-pass.worker = grind arith in
    let workers : c.len-workers.result ≡ length c.args.passes.items = grind arith in
    let rest = into_iter_items c.next.new.self in let before = map (λ s. s.pass) c.loop-pass.seats.items in
    let step : into_iter_items c.loop-pass.pass-iterator ≡ c.in-Some.pass ∷ rest = search rules in
    record {
      kept = ap (λ zs. map (λ s. s.pass) zs ++ rest) c.push_reserved.ensures.items
          ∙ (ap (λ ps. ps ++ rest) (map-append (λ s. s.pass) c.loop-pass.seats.items _) ∙ (append_assoc before (c.in-Some.pass ∷ []) rest ∙ (ap (λ ps. before ++ ps) (sym step) ∙ c.loop-pass.invariant.kept)));
      parts = grind (arith, common_steps);
      calls = grind (arith, common_steps);
      left = grind (arith, common_steps);
      count = grind (arith, common_steps);
      room = grind (arith, common_steps);
      starts = λ k d lt. seats_more (λ s. s.from) (λ (n : ℕ). n * c.args.tiles / length c.args.passes.items) c.loop-pass.seats.items c.push_reserved.new.self.items _ c.loop-pass.worker c.push_reserved.ensures.items count
          c.loop-pass.invariant.starts (c.start_of-from.ensures ∙ ap (λ (n : ℕ). c.loop-pass.worker * c.args.tiles / n) workers) k d (grind arith);
    }
