use Rattle.std.proofs.Common.{◌≡◌, sym, ap, pos, ◌∙◌, subst, rules, FitsSigned, w64}
use Rattle.fill_base.proofs.Signed.{read_is}
use Rattle.fill_state.specs.Filling.{Filling, IsFilling, left_by}
use Rattle.fill_state.proofs.Nearby.{left_apart, left_on, near_are_all, near_on}
use Rattle.fill_state.proofs.filled.Filled.boxes_in.Goals as goal

pub taken_by_rows-requires-clause-apart : goal.taken_by_rows-requires-clause-apart
taken_by_rows-requires-clause-apart c = left_apart c.args.self.now (left_by c.args.self.now c.args.out.now) (subst (λ (f : Filling). IsFilling f) c.self.view_is c.self.invariant.filling)

pub taken_by_rows-requires-clause-places : goal.taken_by_rows-requires-clause-places
taken_by_rows-requires-clause-places c =
    let left : FitsSigned w64 c.near.result.0.start = search rules in
    let right : FitsSigned w64 c.near.result.0.end = search rules in
    let bottom : FitsSigned w64 c.near.result.1.start = search rules in
    let top : FitsSigned w64 c.near.result.1.end = search rules in
    let r_is : c.self.inside.raster ≡ c.args.self.now.raster = ap (λ f. f.raster) c.self.view_is in
    let near = rw r_is at c.near.ensures.places in
    rw (read_is _ left, read_is _ right, read_is _ bottom, read_is _ top) (λ i j h. near_on c.args.self.now.raster c.args.window.now (pos 0) i j (sym (near i j) ∙ h))

pub returns : goal.returns
returns c =
    let left : FitsSigned w64 c.near.result.0.start = search rules in
    let right : FitsSigned w64 c.near.result.0.end = search rules in
    let bottom : FitsSigned w64 c.near.result.1.start = search rules in
    let top : FitsSigned w64 c.near.result.1.end = search rules in
    let area : FitsSigned w64 c.taken_by_rows.result = search rules in
    let r_is : c.self.inside.raster ≡ c.args.self.now.raster = ap (λ f. f.raster) c.self.view_is in
    let near = rw r_is at c.near.ensures.places in
    let least = rw r_is at c.near.ensures.least in
    let most = rw r_is at c.near.ensures.most in
    let sum = rw (read_is _ left, read_is _ right, read_is _ bottom, read_is _ top) at c.taken_by_rows.ensures in
    let f = c.args.self.now in
    read_is _ area ∙ (sum ∙ ap pos (near_are_all f.raster (left_by f c.args.out.now) c.args.window.now c.near.result.0.start c.near.result.0.end c.near.result.1.start c.near.result.1.end
    (left_apart f (left_by f c.args.out.now) (subst (λ (f : Filling). IsFilling f) c.self.view_is c.self.invariant.filling)) (left_on f c.args.out.now) least.0 c.near.ensures.ordered.0 most.0 least.1 c.near.ensures.ordered.1 most.1 near))
