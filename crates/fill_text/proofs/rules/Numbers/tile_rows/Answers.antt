use Rattle.std.proofs.Common.{rules, FitsSigned, w64}
use Rattle.fill_base.proofs.Signed.{read_is}
use Rattle.fill_text.specs.declared.keys.NumberKey.TheVariants.{TileNy}
use Rattle.fill_text.proofs.RasterTests.{side_fits}
use Rattle.fill_text.proofs.rules.Numbers.tile_rows.Goals as goal

pub overflow_cast-result : goal.overflow_cast-result
overflow_cast-result c =
    let fits : FitsSigned w64 c.value.result = search rules in
    rw (read_is c.value.result fits) (side_fits c.value.result (rw c.value.ensures (c.args.self.now.low TileNy)) (rw c.value.ensures (c.args.self.now.high TileNy)))
