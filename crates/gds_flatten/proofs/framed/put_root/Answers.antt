use Rattle.std.proofs.Common.{refl}
use Rattle.std.proofs.lemmas.Result.{err_from_is_err_and}
use Rattle.gds_cells.proofs.Capping.{count_of}
use Rattle.gds_flatten.proofs.Inside.{root_many, root_found}
use Rattle.gds_flatten.proofs.framed.put_root.Goals as goal

pub count-more-requires : goal.count-more-requires
count-more-requires c =
    let w = c.args.framed.now in
    let t = c.args.turns.now in
    rw c.number_at.ensures (count_of w.cells.now w.counts.now t.depth t.link.cell c.requires.counted).most

pub returns-in_err-copies-clause-refused : goal.returns-in_err-copies-clause-refused
returns-in_err-copies-clause-refused c =
    let p = err_from_is_err_and c.from_residual.result c.from_residual.ensures.1 in
    rw (p.1, p.2) (root_many c.args.framed.now c.args.turns.now c.requires.ready c.requires.counted c.requires.inside c.number_at.result c.count-more.result c.number_at.ensures c.count-more.ensures.value
    c.args.found.now c.in_err-copies.field-0.0 c.in_err-copies.ensures.refused)

pub returns-clause-found : goal.returns-clause-found
returns-clause-found c =
    root_found c.args.framed.now c.args.turns.now c.requires.ready c.requires.counted c.requires.inside c.number_at.result c.count-more.result c.number_at.ensures c.count-more.ensures.value
    c.args.found.now _ c.in_ok-copies.ensures.counted c.in_ok-copies.ensures.few refl c.in_ok-push.ensures.items refl
