use Rattle.std.proofs.Common.{arith, subst, sym, refl, rules}
use Rattle.gds_cells.specs.steps.Rows.{rows, state_of}
use Rattle.gds_cells.specs.steps.Searches.{IsOrdered}
use Rattle.gds_cells.proofs.Searched.{acyclic}
use Rattle.gds_cells.proofs.Surveying.{complete, surveyed, not_marked}
use Rattle.gds_cells.proofs.reached.survey.Goals as goal

pub returns-then-found-clause-refused : goal.returns-then-found-clause-refused
returns-then-found-clause-refused c =
    let h = c.in_ok-found.ensures.searched in
    let none = not_marked c.in_ok-found.found.steps.items c.deref.result.now c.args.graph.now _ c.number_at.result c.deref.ensures.value refl c.number_at.ensures
    (λ some. absurd (omega (arith, c.if-number_at-gt0.false, some))) in
    (complete (rows c.args.graph.now) c.args.top (state_of c.in_ok-found.found) h c.in_ok-found.ensures.ended none, h.cycle c.if-found.true)

pub is_too_deep-requires-clause-ordered : goal.is_too_deep-requires-clause-ordered
is_too_deep-requires-clause-ordered c =
    let h = c.in_ok-found.ensures.searched in
    subst (λ xs. IsOrdered (rows c.args.graph.now) xs) (sym c.deref-2.ensures.value) (h.ordered c.if-found.false)

pub returns-then-branch-clause-refused : goal.returns-then-branch-clause-refused
returns-then-branch-clause-refused c =
    let h = c.in_ok-found.ensures.searched in
    let none = not_marked c.in_ok-found.found.steps.items c.deref.result.now c.args.graph.now _ c.number_at.result c.deref.ensures.value refl c.number_at.ensures
    (λ some. absurd (omega (arith, c.if-number_at-gt0.false, some))) in (
      complete (rows c.args.graph.now) c.args.top (state_of c.in_ok-found.found) h c.in_ok-found.ensures.ended none,
      acyclic (rows c.args.graph.now) c.args.top (state_of c.in_ok-found.found) h c.in_ok-found.ensures.ended c.if-found.false,
      search rules,
    )

pub returns-clause-surveyed : goal.returns-clause-surveyed
returns-clause-surveyed c =
    let h = c.in_ok-found.ensures.searched in
    let none = not_marked c.in_ok-found.found.steps.items c.deref.result.now c.args.graph.now _ c.number_at.result c.deref.ensures.value refl c.number_at.ensures
    (λ some. absurd (omega (arith, c.if-number_at-gt0.false, some))) in
    surveyed (rows c.args.graph.now) c.args.top (state_of c.in_ok-found.found) h c.in_ok-found.ensures.ended none c.if-found.false (search rules)
