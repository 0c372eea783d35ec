use Rattle.std.proofs.Common.{length, arith}
use Rattle.std.proofs.lemmas.List.{take_all}
use Rattle.std.proofs.lemmas.Slice.Eq.{slice_eq-Decides}
use Rattle.std.proofs.lemmas.Bool.Decides.{Decides-int_eq}
use Rattle.fill_bands.proofs.bands.is_top.Goals as goal

pub returns : goal.returns
returns c =
    let bands = c.args.bands.now in
    let whole = take_all (length bands) bands (omega arith) in
    let test = rw (c.row_before.ensures, whole) at c.eq.ensures in
    slice_eq-Decides Decides-int_eq _ _ c.eq.result test
