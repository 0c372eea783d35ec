use Rattle.std.proofs.Common.{◌≡◌, sym, ◌∙◌, refl, true}
use Rattle.gds_cells.specs.References.{is_count}
use Rattle.gds_cells.proofs.Arrays.{grid_is, array_is, read_at, stored_at, fine}
use Rattle.gds_cells.proofs.reference.array_link.Goals as goal

pub invariant_of-result : goal.invariant_of-result
invariant_of-result c =
    let a = c.args.array.now in
    let columns : is_count c.from.result ≡ true = rw c.from.ensures (sym c.is_count.ensures ∙ c.if-not-is_count.false) in
    let rows : is_count c.from-2.result ≡ true = rw c.from-2.ensures (sym c.is_count-else-not-is_count.ensures ∙ c.if-not-is_count-2.false) in
    record {
      grid = grid_is a.transform _ _ _ _ _ _ _ _ (stored_at a.points 0 a.stored) (stored_at a.points 1 a.stored) (stored_at a.points 2 a.stored)
          c.in_ok-placement.ensures.ok.1 columns rows (rw c.from.ensures c.in-Some.ensures.some) (rw c.from-2.ensures c.in-Some-step_between.ensures.some);
    }

pub returns-clause-ok : goal.returns-clause-ok
returns-clause-ok c =
    let a = c.args.array.now in
    let columns : is_count a.columns ≡ true = sym c.is_count.ensures ∙ c.if-not-is_count.false in
    let rows : is_count a.rows ≡ true = sym c.is_count-else-not-is_count.ensures ∙ c.if-not-is_count-2.false in
    let at = c.in_ok-placement.ensures.ok in
    let right = c.in-Some.ensures.some in
    let up = c.in-Some-step_between.ensures.some in
    let p0 = read_at a.points 0 in
    let p1 = read_at a.points 1 in
    let p2 = read_at a.points 2 in (
      fine a.transform a.columns a.rows a.points at.0 columns rows (rw (p0, p1) at right.0) (rw (p0, p2) at up.0),
      refl,
      array_is a.transform a.columns a.rows a.points c.in_ok-placement.placement c.from.result c.from-2.result c.in-Some.column_step c.in-Some-step_between.row_step (rw p0 at at.1) c.from.ensures c.from-2.ensures (rw (p0, p1) at right.1) (rw (p0, p2) at up.1),
    )
