use Rattle.std.proofs.Common.{◌≡◌, refl, sym, ap, ◌∙◌, ℕ, ◌+◌, ◌<◌, ◌≤◌, arith, inl, inr, List, [], ◌∷◌, ◌++◌, length, map}
use Rattle.std.proofs.lemmas.List.{length_push}
use Rattle.std.proofs.lemmas.Result.{err_from_is_err_and}
use Rattle.densfill_engine.specs.Joiners.{AreJoined, IsPartReason}
use Rattle.densfill.specs.Outcomes.{all_known}
use Rattle.densfill.proofs.Joined.{same_reason, unopened_reason}
use Rattle.densfill.proofs.Knowing.{file_pushed, known_weaker, none_known}
use Rattle.densfill.proofs.join.take_all.Goals as goal

pub loop-path-init : goal.loop-path-init
loop-path-init g c = record {
  joiner = c.requires.joiner;
  chip = refl;
  whole = refl;
  count = refl;
  taken = c.requires.none.count;
  files = ([], refl, none_known (λ texts. AreJoined texts c.args.joiner) c.requires.none);
}

pub take_next-requires-clause-more : goal.take_next-requires-clause-more
take_next-requires-clause-more g c =
    let i = c.loop-path.invariant in
    more c.loop-path.joined.parts.taken c.loop-path.path-index c.loop-path.joined.parts.count c.args.joiner.parts.count (length c.args.paths.now) i.taken i.count c.requires.count c.loop-path-test.true
  where
    more : (t n c d m : ℕ) → t ≡ n → c ≡ d → d ≡ m → n < m → t < c
    more t n c d m e f h lt = omega (arith, e, f, h, lt)

pub returns-in_err-joined-clause-refused : goal.returns-in_err-joined-clause-refused
returns-in_err-joined-clause-refused g c =
    let p = err_from_is_err_and c.from_residual.result c.from_residual.ensures.1 in
    let i = c.loop-path.invariant in
    let j = c.loop-path.joined in
    let e = c.in_err-joined.field-0.0 in
    rw (p.1, p.2) (elim c.in_err-joined.ensures.refused [
      | inl unopened ↦ (
        i.files.0,
        known_weaker (λ texts. AreJoined texts j) (λ texts. IsPartReason c.args.joiner texts e) (all_known (map g.R.File.Read.remaining i.files.0))
            (λ texts joined. same_reason j c.args.joiner texts e i.chip i.whole i.count (unopened_reason j texts e unopened joined)) i.files.2,
      )
      | inr q ↦ (
        i.files.0 ++ q.0 ∷ [],
        file_pushed g.R.File.Read.remaining (λ texts. AreJoined texts j) (λ bytes. (texts : List (List ℕ)) → AreJoined texts j → IsPartReason j (texts ++ bytes ∷ []) e) (λ texts. IsPartReason c.args.joiner texts e) i.files.0 q.0
            (λ xs x h k. same_reason j c.args.joiner (xs ++ x ∷ []) e i.chip i.whole i.count (k xs h)) i.files.2 q.1,
      )
    ])

pub loop-path-preserved : goal.loop-path-preserved
loop-path-preserved g c =
    let i = c.loop-path.invariant in
    let e = c.in_ok-joined.ensures in
    record {
      joiner = e.joiner;
      chip = e.taken.0 ∙ i.chip;
      whole = e.taken.1 ∙ i.whole;
      count = e.taken.2 ∙ i.count;
      taken = e.taken.3 ∙ ap (λ n. n + 1) i.taken;
      files = (
        i.files.0 ++ e.joined.0 ∷ [],
        length_push i.files.0 e.joined.0 ∙ ap (λ n. n + 1) i.files.1,
        file_pushed g.R.File.Read.remaining (λ texts. AreJoined texts c.loop-path.joined) (λ bytes. (texts : List (List ℕ)) → AreJoined texts c.loop-path.joined → AreJoined (texts ++ bytes ∷ []) c.in_ok-joined.joined) (λ texts. AreJoined texts c.in_ok-joined.joined) i.files.0 e.joined.0 (λ xs x h k. k xs h) i.files.2 e.joined.1,
      );
    }

pub take_next-requires-clause-joiner : goal.take_next-requires-clause-joiner
take_next-requires-clause-joiner g c = c.loop-path.invariant.joiner

pub returns-clause-joiner : goal.returns-clause-joiner
returns-clause-joiner g c = c.loop-path.invariant.joiner

pub returns-clause-whole : goal.returns-clause-whole
returns-clause-whole g c =
    let i = c.loop-path.invariant in
    let all : c.loop-path.path-index ≡ length c.args.paths.now = end c.loop-path.path-index (length c.args.paths.now) c.loop-path-test.false c.loop-path.auto.path-index-end in
    (i.chip, i.whole, i.taken ∙ (all ∙ (sym c.requires.count ∙ sym i.count)))
  where
    end : (k n : ℕ) → n ≤ k → k ≤ n → k ≡ n
    end k n h f = omega (arith, h, f)

pub returns-clause-joined : goal.returns-clause-joined
returns-clause-joined g c =
    let i = c.loop-path.invariant in
    let all : c.loop-path.path-index ≡ length c.args.paths.now = end c.loop-path.path-index (length c.args.paths.now) c.loop-path-test.false c.loop-path.auto.path-index-end in
    (i.files.0, i.files.1 ∙ all, i.files.2)
  where
    end : (k n : ℕ) → n ≤ k → k ≤ n → k ≡ n
    end k n h f = omega (arith, h, f)
