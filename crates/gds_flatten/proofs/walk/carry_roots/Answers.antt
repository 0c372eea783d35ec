use Rattle.std.proofs.Common.{subst, sym, ap, arith, refl, ◌+◌, ◌-◌, ◌≤◌, ◌≡◌, ◌∙◌, length}
use Rattle.std.proofs.lemmas.Result.{err_from_is_err_and}
use Rattle.gds_cells.specs.Copies.{copies}
use Rattle.gds_cells.specs.steps.Counting.{IsCapped, AreCounted}
use Rattle.gds_cells.specs.steps.Walks.{hierarchy, part, IsDrawn, IsRefusal}
use Rattle.gds_cells.proofs.Capping.{count_of}
use Rattle.gds_flatten.specs.steps.Roots.{turn_copies, turns_copies}
use Rattle.gds_flatten.proofs.Drawing.{next_leaves, refused_more}
use Rattle.gds_flatten.proofs.Sharing.{none_shared, next_shared, rest_shared, all_shared, single_long, shifted, turns_passed}
use Rattle.gds_flatten.proofs.walk.carry_roots.Goals as goal

pub roots-init : goal.roots-init
roots-init c = none_shared (turns_copies c.args.cells.now) c.args.roots.now c.args.stretch.from c.args.stretch.to c.args.stretch.from c.args.stretch.to c.args.out.now.items refl refl

pub returns-then-rest-eq0-clause-drawn : goal.returns-then-rest-eq0-clause-drawn
returns-then-rest-eq0-clause-drawn c =
    rest_shared (turns_copies c.args.cells.now) c.args.roots.now c.args.roots.now c.roots.root-index c.args.stretch.from c.args.stretch.to c.roots.rest.from c.roots.rest.to c.args.out.now.items c.roots.out.items
    refl c.if-rest-eq0.true c.roots.invariant

pub carry_turns-requires : goal.carry_turns-requires
carry_turns-requires c = record {
  counted = subst (λ t. AreCounted c.args.cells.now c.args.counts.now t.depth t.link.cell) (sym c.root-item.is) (c.requires c.roots.root-index c.root-item.result c.roots-test.true);
}

pub returns-in_err-carry_turns-clause-refused : goal.returns-in_err-carry_turns-clause-refused
returns-in_err-carry_turns-clause-refused c =
    let p = err_from_is_err_and c.from_residual.result c.from_residual.ensures.1 in
    rw (p.1, p.2) (refused_more c.in_err-carry_turns.field-0.0
    (next_leaves (turns_copies c.args.cells.now) c.args.roots.now c.roots.root-index c.root-item.result c.roots-test.true)
    (subst (λ t. IsRefusal (turns_copies c.args.cells.now t) c.in_err-carry_turns.field-0.0) c.root-item.is c.in_err-carry_turns.ensures.refused))

pub count-requires : goal.count-requires
count-requires c =
    let counted = subst (λ t. AreCounted c.args.cells.now c.args.counts.now t.depth t.link.cell) (sym c.root-item.is) (c.requires c.roots.root-index c.root-item.result c.roots-test.true) in
    rw c.number_at.ensures (count_of c.args.cells.now c.args.counts.now c.root-item.result.depth c.root-item.result.link.cell counted).most

pub roots-preserved : goal.roots-preserved
roots-preserved c =
    let root = c.root-item.result in
    let cells = c.args.cells.now in
    let below = copies (hierarchy c.args.cells.now) c.root-item.result.depth in
    let counted = subst (λ t. AreCounted c.args.cells.now c.args.counts.now t.depth t.link.cell) (sym c.root-item.is) (c.requires c.roots.root-index c.root-item.result c.roots-test.true) in
    let right = subst (λ n. IsCapped (length (below root.link.cell)) n) (sym c.number_at.ensures) (count_of cells c.args.counts.now root.depth root.link.cell counted) in
    let rest = c.roots.rest in
    let first_few : rest.from ≤ 4000000 = omega (arith, rest.ordered, rest.few) in
    let left = turns_passed (λ k. turn_copies cells root (root.first + k)) (length (below root.link.cell)) (λ k. single_long root.placement below root.link (root.first + k)) c.number_at.result right
    rest.from rest.to first_few rest.few root.number c.count.result c.behind-rest.result.from c.behind-rest.result.to c.count.ensures.value c.behind-rest.ensures.from c.behind-rest.ensures.to in
    let same = sym (shifted (turn_copies cells root) root.first root.number) in
    next_shared (turns_copies cells) c.args.roots.now c.roots.root-index root c.args.stretch.from c.args.stretch.to rest.from rest.to c.behind-rest.result.from c.behind-rest.result.to
    c.args.out.now.items c.roots.out.items c.carry_turns.new.out.items c.roots-test.true c.roots.invariant
    (subst (λ t. IsDrawn (part rest.from rest.to (turns_copies cells t)) c.roots.out.items c.carry_turns.new.out.items) c.root-item.is c.in_ok-carry_turns.ensures.drawn)
    (subst (λ t. c.behind-rest.result.from ≡ rest.from - length (turns_copies cells t)) c.root-item.is (left.0 ∙ ap (λ cs. rest.from - length cs) same))
    (subst (λ t. c.behind-rest.result.to ≡ rest.to - length (turns_copies cells t)) c.root-item.is (left.1 ∙ ap (λ cs. rest.to - length cs) same))

pub returns-clause-drawn : goal.returns-clause-drawn
returns-clause-drawn c =
    all_shared (turns_copies c.args.cells.now) c.args.roots.now c.args.roots.now c.roots.root-index c.args.stretch.from c.args.stretch.to c.roots.rest.from c.roots.rest.to c.args.out.now.items c.roots.out.items
    refl (omega (arith, c.roots-test.false)) c.roots.invariant
