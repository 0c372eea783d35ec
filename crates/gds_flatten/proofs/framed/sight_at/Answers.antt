use Rattle.std.proofs.Common.{◌∙◌, ◌-◌, sym, subst, arith}
use Rattle.gds_cells.specs.Copies.{copies}
use Rattle.gds_cells.specs.Links.{single}
use Rattle.gds_cells.specs.Placements.{carried_bounds, composed}
use Rattle.gds_cells.specs.steps.Walks.{hierarchy}
use Rattle.gds_flatten.specs.steps.Framing.{IsRight}
use Rattle.gds_flatten.specs.steps.Roots.{turn_copies}
use Rattle.gds_flatten.proofs.Inside.{range_fit}
use Rattle.gds_flatten.proofs.Missed.{bare_missed, range_missed, single_fit, single_missed}
use Rattle.gds_flatten.proofs.Seen.{fine_at, held_here, wider}
use Rattle.gds_flatten.proofs.framed.sight_at.Goals as goal

pub returns-in_default-clause-apart : goal.returns-in_default-clause-apart
returns-in_default-clause-apart c = λ is.
    let w = c.args.framed.now in
    let t = c.args.turns.now in
    let below = copies (hierarchy w.cells.now) t.depth t.link.cell in
    let right = subst (IsRight below) (sym c.extent_at.ensures ∙ c.in_default.is) (held_here w.cells.now w.extents.now t.depth t.link.cell c.requires.held) in
    range_missed w.frame.now (turn_copies w.cells.now t) t.first t.number (λ k ge lt. bare_missed w.frame.now (composed t.placement (single t.link k)) below right)

pub turns_extent-all-requires-clause-fine : goal.turns_extent-all-requires-clause-fine
turns_extent-all-requires-clause-fine c =
    fine_at c.args.framed.now.extents.now c.args.turns.now.link.cell c.in-Some.extent c.requires.ready.fine (sym c.extent_at.ensures ∙ c.in-Some.is)

pub sight_of-requires-clause-within : goal.sight_of-requires-clause-within
sight_of-requires-clause-within c = wider (256 - c.args.turns.now.depth) 258 c.args.turns.now.placement (omega arith) c.args.turns.now.near

pub returns-clause-apart : goal.returns-clause-apart
returns-clause-apart c = λ is.
    let w = c.args.framed.now in
    let t = c.args.turns.now in
    let below = copies (hierarchy w.cells.now) t.depth t.link.cell in
    let there = sym c.extent_at.ensures ∙ c.in-Some.is in
    let right = subst (IsRight below) there (held_here w.cells.now w.extents.now t.depth t.link.cell c.requires.held) in
    let fine = fine_at w.extents.now t.link.cell c.in-Some.extent c.requires.ready.fine there in
    range_missed w.frame.now (turn_copies w.cells.now t) t.first t.number (λ k ge lt.
    single_missed w.frame.now t.placement t.link k c.in-Some.extent c.turns_extent-all.result below fine right (c.turns_extent-all.ensures.around k ge lt) c.turns_extent-all.ensures.ordered (c.sight_of.ensures.apart is))

pub returns-clause-inside : goal.returns-clause-inside
returns-clause-inside c = λ is.
    let w = c.args.framed.now in
    let t = c.args.turns.now in
    let below = copies (hierarchy w.cells.now) t.depth t.link.cell in
    let there = sym c.extent_at.ensures ∙ c.in-Some.is in
    let right = subst (IsRight below) there (held_here w.cells.now w.extents.now t.depth t.link.cell c.requires.held) in
    let fine = fine_at w.extents.now t.link.cell c.in-Some.extent c.requires.ready.fine there in record {
      window = carried_bounds t.placement c.turns_extent-all.result;
      strictly = c.sight_of.ensures.inside is;
      fit = range_fit (carried_bounds t.placement c.turns_extent-all.result) (turn_copies w.cells.now t) t.first t.number (λ k ge lt.
          single_fit t.placement t.link k c.in-Some.extent c.turns_extent-all.result below fine right (c.turns_extent-all.ensures.around k ge lt) c.turns_extent-all.ensures.ordered);
    }
