use Rattle.std.proofs.Common.{◌≡◌, refl, sym, ap, ◌∙◌, ◌&&◌, ◌||◌, ℕ, ◌+◌, ◌*◌, ◌≤◌, arith, map}
use Rattle.std.specs.List.{range_with_len}
use Rattle.fill_base.proofs.Signed.{read}
use Rattle.fill_state.specs.Filling.{is_filled}
use Rattle.fill_raster.specs.Lattice.{in_raster}
use Rattle.fill_base.specs.declared.place.Point.{Point}
use Rattle.gds_cells.specs.declared.placement.Placement.{Placement}
use Rattle.gds_cells.specs.Links.{single}
use Rattle.gds_out.specs.FillContents.{corner_of}
use Rattle.gds_join.specs.Reading.{is_point}
use Rattle.gds_out.specs.Laws.{raster_in}
use Rattle.gds_join.specs.steps.Far.{origin_of, point, stands_at}
use Rattle.gds_join.proofs.Marking.{far_abs, one_origin_more, stands_more, stands_none}
use Rattle.gds_join.proofs.Places.{far_read}
use Rattle.gds_join.proofs.reading.fill_link.Goals as goal

pub loop-index-init : goal.loop-index-init
loop-index-init c = record { raster = c.requires.raster; filled = λ i j. stands_none (raster_in c.args.rules.now) i j (is_filled c.args.filled.now i j) }

pub fill_at-requires-clause-x : goal.fill_at-requires-clause-x
fill_at-requires-clause-x c = let far = far_abs c.single-at.result.x c.single-at.ensures.near.x in rw (far_read c.single-at.result.x far) far

pub fill_at-requires-clause-y : goal.fill_at-requires-clause-y
fill_at-requires-clause-y c = let far = far_abs c.single-at.result.y c.single-at.ensures.near.y in rw (far_read c.single-at.result.y far) far

same_points : (p q : Point) → p.x ≡ q.x → p.y ≡ q.y → p ≡ q
same_points p q x y = λ k. record { x = x k; y = y k }

pub loop-index-preserved : goal.loop-index-preserved
loop-index-preserved c =
    let r = raster_in c.args.rules.now in
    let l = c.args.link.now in
    let n = c.loop-index.index in
    let at : point (read c.single-at.result.x) (read c.single-at.result.y) ≡ origin_of (single l n) =
    same_points _ _ (far_read c.single-at.result.x (far_abs c.single-at.result.x c.single-at.ensures.near.x) ∙ ap (λ (p : Placement). p.x) c.single-at.ensures.is)
    (far_read c.single-at.result.y (far_abs c.single-at.result.y c.single-at.ensures.near.y) ∙ ap (λ (p : Placement). p.y) c.single-at.ensures.is) in
    record {
      raster = c.fill_at.ensures.raster ∙ c.loop-index.invariant.raster;
      filled = λ i j.
          stands_more r (map origin_of (map (single l) (range_with_len 0 n))) (origin_of (single l n)) i j (is_filled c.args.filled.now i j) (is_filled c.loop-index.filled i j) (is_filled c.fill_at.new.filled i j)
          (c.loop-index.invariant.filled i j) (c.fill_at.ensures.filled i j ∙ ap (λ p. is_filled c.loop-index.filled i j || (in_raster r i j && is_point (corner_of r i j) p)) at)
          ∙ ap (λ ps. is_filled c.args.filled.now i j || stands_at r ps i j) (sym (one_origin_more l n (n + 1) refl));
    }

same : (t n : ℕ) → n ≤ t → t ≤ n → t ≡ n
same t n h g = omega (arith, h, g)

pub returns-clause-filled : goal.returns-clause-filled
returns-clause-filled c = λ i j.
    let l = c.args.link.now in
    c.loop-index.invariant.filled i j
    ∙ ap (λ n. is_filled c.args.filled.now i j || stands_at (raster_in c.args.rules.now) (map origin_of (map (single l) (range_with_len 0 n))) i j) (same c.loop-index.index (l.columns * l.rows) c.loop-index-test.false c.loop-index.auto.index-end)
