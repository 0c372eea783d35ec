use Rattle.std.proofs.Common.{◌∙◌, ap, Err}
use Rattle.std.proofs.lemmas.Result.{err_from_is_err_and}
use Rattle.fill_job.specs.Basis.{read_by}
use Rattle.densfill_engine.specs.Faults.{book_fault}
use Rattle.densfill_engine.specs.declared.refusal.RunFault.TheVariants.{Mixed, Unfinished}
use Rattle.densfill_engine.proofs.Checking.{as_error}
use Rattle.densfill_engine.proofs.TileTurns.{brings, full_of, one_commit, own_fault}
use Rattle.densfill_engine.proofs.turns.bring.Goals as goal

pub returns-in_err-commit-clause-full : goal.returns-in_err-commit-clause-full
returns-in_err-commit-clause-full g c =
    let p = err_from_is_err_and c.from_residual-in_err-commit.result c.from_residual-in_err-commit.ensures.1 in
    λ is. c.in_err-commit.ensures.full.0 (ap Err (full_of c.in_err-commit.field-0.0
    (as_error c.from_residual-in_err-commit.result p.0 (book_fault c.in_err-commit.field-0.0) Unfinished p.1 p.2 is)))

pub returns-clause-brought : goal.returns-clause-brought
returns-clause-brought g c =
    brings (g.B.FillBook.account c.args.book.now) (g.B.FillBook.account c.commit.new.self) _ _ c.in-Ok.proposal.version c.in-Ok.proposal.tile c.args.tile
    (read_by c.in-Ok.proposal.basis) _ c.in_ok-commit.ensures.written (c.in-Ok.ensures.version ∙ c.in_ok-job.ensures.version)
    (c.in-Ok.ensures.tile ∙ c.in_ok-job.ensures.tile) c.requires.out (ap read_by c.in-Ok.ensures.read ∙ c.in_ok-job.ensures.read)

pub returns-in_err-commit-clause-own : goal.returns-in_err-commit-clause-own
returns-in_err-commit-clause-own g c =
    let p = err_from_is_err_and c.from_residual-in_err-commit.result c.from_residual-in_err-commit.ensures.1 in
    λ is. own_fault c.in_err-commit.field-0.0 (as_error c.from_residual-in_err-commit.result p.0 (book_fault c.in_err-commit.field-0.0) Mixed p.1 p.2 is)

pub returns-clause-run : goal.returns-clause-run
returns-clause-run g c =
    one_commit (g.B.FillBook.account c.args.book.now) (g.B.FillBook.account c.commit.new.self) _ _ c.in-Ok.proposal.version c.in-Ok.proposal.tile
    (read_by c.in-Ok.proposal.basis) _ c.in_ok-commit.ensures.written
