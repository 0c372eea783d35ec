use Rattle.std.proofs.Common.{◌∙◌, ap, sym}
use Rattle.std.proofs.lemmas.Result.{IfOk-weaker}
use Rattle.fill_size.proofs.Ranges.{spacing_read}
use Rattle.fill_region.specs.Runs.{holds}
use Rattle.fill_state.proofs.Halving.{halo_part}
use Rattle.fill_state.proofs.pieces.Halos.piece.Goals as goal

pub returns-then-is_empty : goal.returns-then-is_empty
returns-then-is_empty c =
    let r = c.args.self.now.raster in let d = c.args.self.now.distance in
    let bounds = rw (spacing_read d c.requires.distance) at c.halo.ensures.squares in
    let part = halo_part r d c.args.runs.now c.in_ok-region.region c.halo.result c.args.tile bounds c.in_ok-region.ensures.squares in
    let none = c.is_empty.ensures.0 c.if-is_empty.true in
    IfOk-weaker c.share.result _ _ (λ p e x y. ap (λ b. holds b x y) e ∙ (c.requires.none x y ∙ (sym (none x y) ∙ part x y))) c.share.ensures

pub returns-else-is_empty : goal.returns-else-is_empty
returns-else-is_empty c =
    let r = c.args.self.now.raster in let d = c.args.self.now.distance in
    let bounds = rw (spacing_read d c.requires.distance) at c.halo.ensures.squares in
    let part = halo_part r d c.args.runs.now c.in_ok-region.region c.halo.result c.args.tile bounds c.in_ok-region.ensures.squares in
    IfOk-weaker c.new.result _ _ (λ p e x y. ap (λ b. holds b x y) e ∙ part x y) c.new.ensures
