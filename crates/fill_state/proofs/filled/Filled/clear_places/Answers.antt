use Rattle.std.proofs.Common.{rules, FitsSigned, w64}
use Rattle.fill_base.proofs.Signed.{read_is}
use Rattle.fill_state.proofs.filled.Filled.clear_places.Goals as goal

pub clear_rows-requires : goal.clear_rows-requires
clear_rows-requires c =
    let left : FitsSigned w64 c.args.places.now.columns.start = search rules in
    let right : FitsSigned w64 c.args.places.now.columns.end = search rules in
    let bottom : FitsSigned w64 c.args.places.now.rows.start = search rules in
    let top : FitsSigned w64 c.args.places.now.rows.end = search rules in
    rw (read_is _ left, read_is _ right, read_is _ bottom, read_is _ top) c.requires

pub returns-clause-filled : goal.returns-clause-filled
returns-clause-filled c =
    let left : FitsSigned w64 c.args.places.now.columns.start = search rules in
    let right : FitsSigned w64 c.args.places.now.columns.end = search rules in
    let bottom : FitsSigned w64 c.args.places.now.rows.start = search rules in
    let top : FitsSigned w64 c.args.places.now.rows.end = search rules in
    rw (read_is _ left, read_is _ right, read_is _ bottom, read_is _ top) at c.clear_rows.ensures.filled
