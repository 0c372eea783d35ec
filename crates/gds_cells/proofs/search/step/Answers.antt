use Rattle.std.proofs.Common.{rules}
use Rattle.gds_cells.specs.steps.Rows.{rows, state_of}
use Rattle.gds_cells.proofs.SearchTurns.{closes, opens, opens_one, passes}
use Rattle.gds_cells.proofs.search.step.Goals as goal

pub returns-then-passed-row-clause-searched : goal.returns-then-passed-row-clause-searched
returns-then-passed-row-clause-searched c =
    closes (rows c.args.graph.now) c.args.top (state_of c.args.search.now) c.requires.searched c.requires.on
    c.last_of-cell.result c.number_at-passed.result c.links-row.result.now (search rules) (search rules) (search rules)
    (state_of c.close.new.search) (search rules) (search rules)

pub returns-then-number_at-eq0-clause-searched : goal.returns-then-number_at-eq0-clause-searched
returns-then-number_at-eq0-clause-searched c =
    opens (rows c.args.graph.now) c.args.top (state_of c.args.search.now) c.requires.searched c.requires.on
    c.last_of-cell.result c.number_at-passed.result c.links-row.result.now (search rules) (search rules) (search rules)
    c.requires.whole c.number_at-found.result (state_of c.open.new.search) (search rules) (search rules) (search rules) (search rules)

pub returns-then-number_at-eq0-clause-further : goal.returns-then-number_at-eq0-clause-further
returns-then-number_at-eq0-clause-further c =
    opens_one (rows c.args.graph.now) c.args.top (state_of c.args.search.now) c.requires.searched c.requires.on
    c.last_of-cell.result c.number_at-passed.result c.links-row.result.now (search rules) (search rules) (search rules)
    c.requires.whole c.number_at-found.result (state_of c.open.new.search) (search rules) (search rules) (search rules) (search rules)

pub returns-clause-searched : goal.returns-clause-searched
returns-clause-searched c =
    passes (rows c.args.graph.now) c.args.top (state_of c.args.search.now) c.requires.searched c.requires.on
    c.last_of-cell.result c.number_at-passed.result c.links-row.result.now (search rules) (search rules) (search rules)
    c.number_at-found.result c.is_unclosed-again.result (state_of c.pass.new.search) (search rules) (search rules)
    (search rules) (search rules) (search rules)
