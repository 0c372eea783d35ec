use Rattle.std.proofs.Common.{◌≡◌, subst, sym, ap, ◌∙◌}
use Rattle.std.specs.Prelude.{All, true}
use Rattle.std.specs.List.{AllZip}
use Rattle.gds_grammar.specs.Values.{Shape as Element}
use Rattle.gds_cells.specs.steps.Counting.{AreCounted}
use Rattle.gds_cells.specs.steps.Walks.{top_copies}
use Rattle.gds_flatten.specs.steps.Framing.{AreHeld}
use Rattle.gds_flatten.specs.steps.Idle.{IsBusy, AreFull, has_parts}
use Rattle.gds_flatten.proofs.Arranged.{AreCountsOf, top_counted}
use Rattle.gds_flatten.proofs.Busy.{busy_own, busy_same, busy_counted, busy_held, changed_back}
use Rattle.gds_flatten.proofs.reached.Reached.counted.Goals as goal

pub returns-clause-counted : goal.returns-clause-counted
returns-clause-counted c =
    let d = c.args.self in
    let counts = c.in_ok-counts.counts.items in
    let busy = subst (λ ns. AllZip (IsBusy ns) c.deref_mut.result.now c.drop_idle.new.cells) c.deref-3.ensures.value c.drop_idle.ensures in
    let back = changed_back (IsBusy counts) d.cells.len c.drop_idle.new.cells d.cells.items c.deref_mut.result.now c.drop_idle.auto.cells c.deref_mut.ensures.len c.deref_mut.ensures.value busy in
    let right = subst (AreCountsOf counts d.cells.items) c.deref-2.ensures.value (subst (λ xs. AreCountsOf counts xs c.deref-2.result.now) c.deref.ensures.value c.in_ok-counts.ensures.right) in
    subst (λ xs. AreCounted xs counts 256 d.top) (sym back.0) (busy_counted counts d.cells.items c.drop_idle.new.cells back.1 256 d.top (top_counted d.cells.items d.order.items d.top c.requires counts right))

pub returns-clause-same : goal.returns-clause-same
returns-clause-same c =
    let d = c.args.self in
    let counts = c.in_ok-counts.counts.items in
    let busy = subst (λ ns. AllZip (IsBusy ns) c.deref_mut.result.now c.drop_idle.new.cells) c.deref-3.ensures.value c.drop_idle.ensures in
    let back = changed_back (IsBusy counts) d.cells.len c.drop_idle.new.cells d.cells.items c.deref_mut.result.now c.drop_idle.auto.cells c.deref_mut.ensures.len c.deref_mut.ensures.value busy in
    let right = subst (AreCountsOf counts d.cells.items) c.deref-2.ensures.value (subst (λ xs. AreCountsOf counts xs c.deref-2.result.now) c.deref.ensures.value c.in_ok-counts.ensures.right) in
    ap (λ xs. top_copies xs d.top) back.0 ∙ busy_same counts d.cells.items c.drop_idle.new.cells back.1 256 d.top (top_counted d.cells.items d.order.items d.top c.requires counts right)

pub returns-clause-held : goal.returns-clause-held
returns-clause-held c = λ extents held.
    let d = c.args.self in
    let counts = c.in_ok-counts.counts.items in
    let busy = subst (λ ns. AllZip (IsBusy ns) c.deref_mut.result.now c.drop_idle.new.cells) c.deref-3.ensures.value c.drop_idle.ensures in
    let back = changed_back (IsBusy counts) d.cells.len c.drop_idle.new.cells d.cells.items c.deref_mut.result.now c.drop_idle.auto.cells c.deref_mut.ensures.len c.deref_mut.ensures.value busy in
    let right = subst (AreCountsOf counts d.cells.items) c.deref-2.ensures.value (subst (λ xs. AreCountsOf counts xs c.deref-2.result.now) c.deref.ensures.value c.in_ok-counts.ensures.right) in
    subst (λ xs. AreHeld xs extents 256 d.top) (sym back.0) (busy_held counts d.cells.items c.drop_idle.new.cells back.1 extents 256 d.top (top_counted d.cells.items d.order.items d.top c.requires counts right) held)

pub returns-clause-full : goal.returns-clause-full
returns-clause-full c = λ full.
    let d = c.args.self in
    let back = changed_back (IsBusy c.deref-3.result.now) d.cells.len c.drop_idle.new.cells d.cells.items c.deref_mut.result.now c.drop_idle.auto.cells c.deref_mut.ensures.len c.deref_mut.ensures.value c.drop_idle.ensures in
    subst AreFull (sym back.0) (λ k. subst (All (λ (e : Element). has_parts e ≡ true)) (sym (busy_own c.deref-3.result.now d.cells.items c.drop_idle.new.cells back.1 k)) (full k))
