use Rattle.std.proofs.Common.{◌≡◌, ◌∙◌, sym, ap, ap₂, subst, ℕ, ◌-◌, ◌<◌, arith, ℤ, ◌+ℤ◌, ◌-ℤ◌}
use Rattle.std.specs.Int.{int_max, int_min}
use Rattle.fill_base.specs.Coordinates.{highest, lowest}
use Rattle.fill_base.specs.Limits.{IsSpacing}
use Rattle.fill_base.specs.Sides.{Sides, sides_of}
use Rattle.fill_raster.specs.Lattice.{Lattice, tile_bottom, tile_left, tile_right, tile_top, tiles}
use Rattle.fill_text.specs.ValuesOfRules.{values_of}
use Rattle.fill_job.specs.Plans.{plan_of}
use Rattle.fill_parts.specs.Needs.{halo_sides, in_coordinates, reach, round_windows}
use Rattle.fill_parts.proofs.Sides.{first_x, first_y, from_lowest, high_side, higher_is, last_x, last_y, low_side, lower_is, needed_both, needed_windows, rect_kept, sides_apart, spacing_read, to_highest}
use Rattle.fill_parts.proofs.needs.needed_rect.Goals as goal

pub returns-then-tiles-eq0 : goal.returns-then-tiles-eq0
returns-then-tiles-eq0 c =
    let plan = plan_of (values_of c.args.rules.now) in
    let none : tiles plan.raster ≡ 0 = ap tiles (sym c.raster-raster.ensures.raster) ∙ (sym c.tiles-tiles.ensures ∙ c.if-tiles-eq0.true) in
    let windows : sides_of c.around_windows-all.result ≡ round_windows plan.windows 0 plan.windows.up.count = rw (c.rows.ensures, c.windows-windows.ensures) at c.around_windows-all.ensures in
    sym (rect_kept c.around_windows-all.result) ∙ ap in_coordinates (windows ∙ sym (needed_windows plan none))

pub from_edges-requires-clause-wide : goal.from_edges-requires-clause-wide
from_edges-requires-clause-wide c =
    sides_apart c.min-left.result c.max-right.result _ _ _ _ (lower_is c.min-left.result c.x1.result c.x1-2.result c.around_windows-all.result.x1 c.halo-first.result.x1 c.min-left.ensures.value c.x1.ensures c.x1-2.ensures (first_x c.around_windows-all.result) (first_x c.halo-first.result))
    (higher_is c.max-right.result c.x2.result c.x2-2.result c.around_windows-all.result.x2 c.halo-last.result.x2 c.max-right.ensures.value c.x2.ensures c.x2-2.ensures (last_x c.around_windows-all.result) (last_x c.halo-last.result)) c.around_windows-all.result.wide

pub from_edges-requires-clause-tall : goal.from_edges-requires-clause-tall
from_edges-requires-clause-tall c =
    sides_apart c.min-bottom.result c.max-top.result _ _ _ _ (lower_is c.min-bottom.result c.y1.result c.y1-2.result c.around_windows-all.result.y1 c.halo-first.result.y1 c.min-bottom.ensures.value c.y1.ensures c.y1-2.ensures (first_y c.around_windows-all.result) (first_y c.halo-first.result))
    (higher_is c.max-top.result c.y2.result c.y2-2.result c.around_windows-all.result.y2 c.halo-last.result.y2 c.max-top.ensures.value c.y2.ensures c.y2-2.ensures (last_y c.around_windows-all.result) (last_y c.halo-last.result)) c.around_windows-all.result.tall

pub from_edges-requires-clause-left : goal.from_edges-requires-clause-left
from_edges-requires-clause-left c = from_lowest c.min-left.result _ _ (lower_is c.min-left.result c.x1.result c.x1-2.result c.around_windows-all.result.x1 c.halo-first.result.x1 c.min-left.ensures.value c.x1.ensures c.x1-2.ensures (first_x c.around_windows-all.result) (first_x c.halo-first.result)) (first_x c.around_windows-all.result) (first_x c.halo-first.result)

pub from_edges-requires-clause-bottom : goal.from_edges-requires-clause-bottom
from_edges-requires-clause-bottom c = from_lowest c.min-bottom.result _ _ (lower_is c.min-bottom.result c.y1.result c.y1-2.result c.around_windows-all.result.y1 c.halo-first.result.y1 c.min-bottom.ensures.value c.y1.ensures c.y1-2.ensures (first_y c.around_windows-all.result) (first_y c.halo-first.result)) (first_y c.around_windows-all.result) (first_y c.halo-first.result)

pub from_edges-requires-clause-right : goal.from_edges-requires-clause-right
from_edges-requires-clause-right c = to_highest c.max-right.result _ _ (higher_is c.max-right.result c.x2.result c.x2-2.result c.around_windows-all.result.x2 c.halo-last.result.x2 c.max-right.ensures.value c.x2.ensures c.x2-2.ensures (last_x c.around_windows-all.result) (last_x c.halo-last.result)) (last_x c.around_windows-all.result) (last_x c.halo-last.result)

pub returns : goal.returns
returns c =
    let plan = plan_of (values_of c.args.rules.now) in
    let e = c.from_edges.ensures in
    let windows : sides_of c.around_windows-all.result ≡ round_windows plan.windows 0 plan.windows.up.count = rw (c.rows.ensures, c.windows-windows.ensures) at c.around_windows-all.ensures in
    let count : c.tiles-tiles.result ≡ tiles plan.raster = c.tiles-tiles.ensures ∙ ap tiles c.raster-raster.ensures.raster in
    let some : 0 < tiles plan.raster = positive c.tiles-tiles.result (tiles plan.raster) count c.if-tiles-eq0.false in
    (λ i. record {
      left = low_side _ _ _ _ (halo_sides plan 0).left (e.0 ∙ lower_is c.min-left.result c.x1.result c.x1-2.result c.around_windows-all.result.x1 c.halo-first.result.x1 c.min-left.ensures.value c.x1.ensures c.x1-2.ensures (first_x c.around_windows-all.result) (first_x c.halo-first.result)) (first_x c.around_windows-all.result) (ap (λ (s : Sides). s.left) windows)
          (c.halo-first.ensures.left ∙ ap₂ (λ (r : Lattice) (d : ℤ). int_max (tile_left r 0 -ℤ d) lowest) c.raster-raster.ensures.raster (spacing_read c.reach-reach.result (reach plan) c.reach-reach.ensures.value (subst IsSpacing c.reach-reach.ensures.value c.reach-reach.ensures.range))) i;
      bottom = low_side _ _ _ _ (halo_sides plan 0).bottom (e.1 ∙ lower_is c.min-bottom.result c.y1.result c.y1-2.result c.around_windows-all.result.y1 c.halo-first.result.y1 c.min-bottom.ensures.value c.y1.ensures c.y1-2.ensures (first_y c.around_windows-all.result) (first_y c.halo-first.result)) (first_y c.around_windows-all.result) (ap (λ (s : Sides). s.bottom) windows)
          (c.halo-first.ensures.bottom ∙ ap₂ (λ (r : Lattice) (d : ℤ). int_max (tile_bottom r 0 -ℤ d) lowest) c.raster-raster.ensures.raster (spacing_read c.reach-reach.result (reach plan) c.reach-reach.ensures.value (subst IsSpacing c.reach-reach.ensures.value c.reach-reach.ensures.range))) i;
      right = high_side _ _ _ _ (halo_sides plan (tiles plan.raster - 1)).right (e.2 ∙ higher_is c.max-right.result c.x2.result c.x2-2.result c.around_windows-all.result.x2 c.halo-last.result.x2 c.max-right.ensures.value c.x2.ensures c.x2-2.ensures (last_x c.around_windows-all.result) (last_x c.halo-last.result)) (last_x c.around_windows-all.result) (ap (λ (s : Sides). s.right) windows)
          (c.halo-last.ensures.right ∙ (λ k. int_min (tile_right (c.raster-raster.ensures.raster k) (count k - 1) +ℤ spacing_read c.reach-reach.result (reach plan) c.reach-reach.ensures.value (subst IsSpacing c.reach-reach.ensures.value c.reach-reach.ensures.range) k) highest)) i;
      top = high_side _ _ _ _ (halo_sides plan (tiles plan.raster - 1)).top (e.3 ∙ higher_is c.max-top.result c.y2.result c.y2-2.result c.around_windows-all.result.y2 c.halo-last.result.y2 c.max-top.ensures.value c.y2.ensures c.y2-2.ensures (last_y c.around_windows-all.result) (last_y c.halo-last.result)) (last_y c.around_windows-all.result) (ap (λ (s : Sides). s.top) windows)
          (c.halo-last.ensures.top ∙ (λ k. int_min (tile_top (c.raster-raster.ensures.raster k) (count k - 1) +ℤ spacing_read c.reach-reach.result (reach plan) c.reach-reach.ensures.value (subst IsSpacing c.reach-reach.ensures.value c.reach-reach.ensures.range) k) highest)) i;
    })
    ∙ ap in_coordinates (sym (needed_both plan some))
  where
    positive : (m n : ℕ) → m ≡ n → (m ≡ 0 → ⊥) → 0 < n
    positive m n e none = grind (arith, e, none)
