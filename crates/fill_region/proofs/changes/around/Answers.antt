use Rattle.std.proofs.Common.{◌∙◌, inl, inr}
use Rattle.fill_region.proofs.Words.{fits_x1, fits_x2, fits_y1, fits_y2}
use Rattle.fill_region.proofs.Changing.{least_of, most_of, least_in, most_in, in_around}
use Rattle.fill_region.proofs.changes.around.Goals as goal

pub from_edges-requires-clause-left : goal.from_edges-requires-clause-left
from_edges-requires-clause-left c = let s = c.args.first.now in let t = c.args.second.now in
    least_in _ s.x1 t.x1 _ (least_of c.min.result c.x1.result c.x1-2.result s.x1 t.x1 c.min.ensures.value c.x1.ensures c.x1-2.ensures (fits_x1 s) (fits_x1 t)) s.left t.left

pub from_edges-requires-clause-bottom : goal.from_edges-requires-clause-bottom
from_edges-requires-clause-bottom c = let s = c.args.first.now in let t = c.args.second.now in
    least_in _ s.y1 t.y1 _ (least_of c.min-2.result c.y1.result c.y1-2.result s.y1 t.y1 c.min-2.ensures.value c.y1.ensures c.y1-2.ensures (fits_y1 s) (fits_y1 t)) s.bottom t.bottom

pub from_edges-requires-clause-right : goal.from_edges-requires-clause-right
from_edges-requires-clause-right c = let s = c.args.first.now in let t = c.args.second.now in
    most_in _ s.x2 t.x2 _ (most_of c.max.result c.x2.result c.x2-2.result s.x2 t.x2 c.max.ensures.value c.x2.ensures c.x2-2.ensures (fits_x2 s) (fits_x2 t)) s.right t.right

pub returns-clause-first : goal.returns-clause-first
returns-clause-first c = λ x y is. let s = c.args.first.now in let t = c.args.second.now in let e = c.from_edges.ensures in
    in_around c.from_edges.result s t x y (e.0 ∙ least_of c.min.result c.x1.result c.x1-2.result s.x1 t.x1 c.min.ensures.value c.x1.ensures c.x1-2.ensures (fits_x1 s) (fits_x1 t))
    (e.1 ∙ least_of c.min-2.result c.y1.result c.y1-2.result s.y1 t.y1 c.min-2.ensures.value c.y1.ensures c.y1-2.ensures (fits_y1 s) (fits_y1 t))
    (e.2 ∙ most_of c.max.result c.x2.result c.x2-2.result s.x2 t.x2 c.max.ensures.value c.x2.ensures c.x2-2.ensures (fits_x2 s) (fits_x2 t))
    (e.3 ∙ most_of c.max-2.result c.y2.result c.y2-2.result s.y2 t.y2 c.max-2.ensures.value c.y2.ensures c.y2-2.ensures (fits_y2 s) (fits_y2 t)) (inl is)

pub returns-clause-second : goal.returns-clause-second
returns-clause-second c = λ x y is. let s = c.args.first.now in let t = c.args.second.now in let e = c.from_edges.ensures in
    in_around c.from_edges.result s t x y (e.0 ∙ least_of c.min.result c.x1.result c.x1-2.result s.x1 t.x1 c.min.ensures.value c.x1.ensures c.x1-2.ensures (fits_x1 s) (fits_x1 t))
    (e.1 ∙ least_of c.min-2.result c.y1.result c.y1-2.result s.y1 t.y1 c.min-2.ensures.value c.y1.ensures c.y1-2.ensures (fits_y1 s) (fits_y1 t))
    (e.2 ∙ most_of c.max.result c.x2.result c.x2-2.result s.x2 t.x2 c.max.ensures.value c.x2.ensures c.x2-2.ensures (fits_x2 s) (fits_x2 t))
    (e.3 ∙ most_of c.max-2.result c.y2.result c.y2-2.result s.y2 t.y2 c.max-2.ensures.value c.y2.ensures c.y2-2.ensures (fits_y2 s) (fits_y2 t)) (inr is)
