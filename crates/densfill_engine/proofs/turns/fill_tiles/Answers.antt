use Rattle.std.proofs.Common.{◌≡◌, ◌∙◌, ◌<◌, ◌*◌, ap, subst, sym, true, false, Err}
use Rattle.std.proofs.lemmas.Result.{err_from_is_err_and}
use Rattle.fill_text.specs.Rules.{Values}
use Rattle.fill_core.specs.Accounts.{state_of}
use Rattle.fill_core.proofs.Searched.{next_first, next_none}
use Rattle.densfill_engine.specs.Runs.{tile_count}
use Rattle.densfill_engine.specs.declared.refusal.RunFault.TheVariants.{Mixed, Unfinished}
use Rattle.densfill_engine.proofs.Checking.{as_error}
use Rattle.densfill_engine.proofs.TileTurns.{full_short, limit_short, next_at, no_run, none_brought, one_brought, one_more}
use Rattle.densfill_engine.proofs.turns.fill_tiles.Goals as goal

pub loop-init : goal.loop-init
loop-init g c =
    let a = g.B.FillBook.account c.args.book.now in
    record { run = no_run a; left = none_brought (state_of a).tiles_in c.requires.fresh (tile_count a.rules) }

pub returns-in_default-clause-complete : goal.returns-in_default-clause-complete
returns-in_default-clause-complete g c =
    let b = g.B.FillBook.account c.loop.book in
    (next_none (tile_count b.rules) (state_of b).tiles_in c.loop.from).0 (sym c.next.ensures.first ∙ c.in_default.is)

pub bring-requires-clause-out : goal.bring-requires-clause-out
bring-requires-clause-out g c =
    let b = g.B.FillBook.account c.loop.book in
    λ _ _. (next_first (tile_count b.rules) (state_of b).tiles_in c.loop.from c.in-Some.tile (sym c.next.ensures.first ∙ c.in-Some.is)).is_open

pub returns-in_err-bring-clause-unfinished : goal.returns-in_err-bring-clause-unfinished
returns-in_err-bring-clause-unfinished g c =
    let p = err_from_is_err_and c.from_residual.result c.from_residual.ensures.1 in
    let n = next_at (g.B.FillBook.account c.args.book.now) (g.B.FillBook.account c.loop.book) c.loop.counter c.loop.from c.in-Some.tile c.next.result
    c.loop.invariant.run c.next.ensures.first c.in-Some.is in
    λ is. full_short (g.B.FillBook.account c.args.book.now) (g.B.FillBook.account c.loop.book) c.loop.counter c.in-Some.tile c.args.limit
    c.loop.invariant.run c.loop.invariant.left n.exists n.is_open
    (c.in_err-bring.ensures.full (ap Err (as_error c.from_residual.result p.0 c.in_err-bring.field-0.0 Unfinished p.1 p.2 is)))

pub loop-preserved : goal.loop-preserved
loop-preserved g c =
    let a = g.B.FillBook.account c.args.book.now in
    let b = g.B.FillBook.account c.loop.book in
    let d = g.B.FillBook.account c.bring.new.book in
    let n = next_at (g.B.FillBook.account c.args.book.now) (g.B.FillBook.account c.loop.book) c.loop.counter c.loop.from c.in-Some.tile c.next.result
    c.loop.invariant.run c.next.ensures.first c.in-Some.is in
    record {
      run = one_more a b d c.loop.counter c.loop.invariant.run c.in_ok-bring.ensures.run;
      left = one_brought _ (state_of b) (state_of d) c.in-Some.tile (tile_count a.rules) c.loop.counter c.in_ok-bring.ensures.brought n.exists n.is_open c.loop.invariant.left;
    }

pub returns-then-is_complete-clause-complete : goal.returns-then-is_complete-clause-complete
returns-then-is_complete-clause-complete g c = c.is_complete.ensures.complete.0 c.if-is_complete.true

pub returns-else-is_complete-clause-unfinished : goal.returns-else-is_complete-clause-unfinished
returns-else-is_complete-clause-unfinished g c =
    let a = g.B.FillBook.account c.args.book.now in
    let b = g.B.FillBook.account c.loop.book in
    λ _. limit_short a.rules c.args.limit (2 * c.most_turns-turns.result) c.loop.counter (state_of b).tiles_in _ _ (ap (λ n. 2 * n) c.most_turns-turns.ensures.turns) c.loop-test.false
    c.loop.invariant.left (λ all. absurd (let e : true ≡ false =
    sym (c.is_complete.ensures.complete.1 (λ t lt. all t (subst (λ (v : Values). t < tile_count v) c.loop.invariant.run.rules lt))) ∙ c.if-is_complete.false in cc))

pub returns-in_err-bring-clause-own : goal.returns-in_err-bring-clause-own
returns-in_err-bring-clause-own g c =
    let p = err_from_is_err_and c.from_residual.result c.from_residual.ensures.1 in
    λ is. c.in_err-bring.ensures.own (ap Err (as_error c.from_residual.result p.0 c.in_err-bring.field-0.0 Mixed p.1 p.2 is))
