use Rattle.std.proofs.Common.{◌≡◌, ℕ, ◌+◌, ◌*◌, ◌<◌, refl, sym, subst, arith, ◌∙◌}
use Rattle.gds_shape.specs.declared.bounds.Bounds.{Bounds}
use Rattle.gds_shape.specs.Extents.{joined}
use Rattle.gds_cells.specs.Links.{single}
use Rattle.gds_cells.specs.Placements.{carried_bounds}
use Rattle.gds_cells.specs.steps.Prepared.{IsPart}
use Rattle.gds_flatten.proofs.Cornered.{corners_part, inside}
use Rattle.gds_flatten.proofs.Tight.{joined_fits}
use Rattle.gds_flatten.proofs.corners.corners_extent.Goals as goal

pub returns-clause-around : goal.returns-clause-around
returns-clause-around c = λ k ic cm jr rn.
    let l = c.args.link.now in
    let b = c.args.extent.now in
    let i = c.args.left in
    let m = c.args.right in
    let j = c.args.first in
    let n = c.args.last in
    let all : c.joined.result ≡ joined (joined (carried_bounds (single l (j * l.columns + i)) b) (carried_bounds (single l (j * l.columns + m)) b))
    (joined (carried_bounds (single l (n * l.columns + i)) b) (carried_bounds (single l (n * l.columns + m)) b)) =
    c.joined.ensures ∙ rw (
      c.joined-below.ensures,
      c.joined-above.ensures,
      c.carried_extent.ensures,
      c.carried_extent-2.ensures,
      c.carried_extent-3.ensures,
      c.carried_extent-4.ensures,
      c.single.ensures.is,
      c.single-2.ensures.is,
      c.single-3.ensures.is,
      c.single-4.ensures.is,
    ) refl in
    subst (λ (a : Bounds). IsPart a (carried_bounds (single l k) b)) (sym all) (corners_part l b i m j n c.requires.right c.requires.columns k ic cm jr rn)

pub returns-clause-least : goal.returns-clause-least
returns-clause-least c = λ w each.
    let l = c.args.link.now in
    let b = c.args.extent.now in
    let i = c.args.left in
    let m = c.args.right in
    let j = c.args.first in
    let n = c.args.last in
    let all : c.joined.result ≡ joined (joined (carried_bounds (single l (j * l.columns + i)) b) (carried_bounds (single l (j * l.columns + m)) b))
    (joined (carried_bounds (single l (n * l.columns + i)) b) (carried_bounds (single l (n * l.columns + m)) b)) =
    c.joined.ensures ∙ rw (
      c.joined-below.ensures,
      c.joined-above.ensures,
      c.carried_extent.ensures,
      c.carried_extent-2.ensures,
      c.carried_extent-3.ensures,
      c.carried_extent-4.ensures,
      c.single.ensures.is,
      c.single-2.ensures.is,
      c.single-3.ensures.is,
      c.single-4.ensures.is,
    ) refl in
    let columns = c.requires.columns in
    let right = c.requires.right in
    let rows = c.requires.rows in
    let last = c.requires.last in
    let left : i < l.columns = omega (arith, columns, right) in
    let first : j < l.rows = omega (arith, rows, last) in
    let spot : ℕ → ℕ → Bounds = (λ r k. carried_bounds (single l (r * l.columns + k)) b) in
    subst (IsPart w) (sym all)
    ((joined_fits w (joined (spot j i) (spot j m)) (joined (spot n i) (spot n m))).1 (
      (joined_fits w (spot j i) (spot j m)).1 (each (j * l.columns + i) (inside l.columns l.rows j i left first), each (j * l.columns + m) (inside l.columns l.rows j m right first)),
      (joined_fits w (spot n i) (spot n m)).1 (each (n * l.columns + i) (inside l.columns l.rows n i left last), each (n * l.columns + m) (inside l.columns l.rows n m right last)),
    ))
