use Rattle.gds_cells.proofs.Carrying.{rect_wide, rect_tall, rect_back}
use Rattle.gds_cells.proofs.shapes.carried_rect.Goals as goal

pub from_edges-requires-clause-wide : goal.from_edges-requires-clause-wide
from_edges-requires-clause-wide c =
    rect_wide c.args.at.now c.args.rect.now c.carried_bounds-edges.result (rw c.edges_of.ensures at c.carried_bounds-edges.ensures) c.requires.inside

pub from_edges-requires-clause-tall : goal.from_edges-requires-clause-tall
from_edges-requires-clause-tall c =
    rect_tall c.args.at.now c.args.rect.now c.carried_bounds-edges.result (rw c.edges_of.ensures at c.carried_bounds-edges.ensures) c.requires.inside

pub returns : goal.returns
returns c =
    rect_back c.args.at.now c.args.rect.now c.from_edges.result c.carried_bounds-edges.result (rw c.edges_of.ensures at c.carried_bounds-edges.ensures) c.requires.inside c.from_edges.ensures
