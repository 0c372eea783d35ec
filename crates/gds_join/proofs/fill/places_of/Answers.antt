use Rattle.std.proofs.Common.{◌≡◌, sym, ap, ◌∙◌, Bool, ◌||◌, true, false}
use Rattle.std.proofs.Math.Path.{fun_ext}
use Rattle.fill_state.specs.Filling.{Filling, is_filled}
use Rattle.gds_grammar.specs.Values.{contents_of}
use Rattle.gds_out.specs.Laws.{raster_in}
use Rattle.gds_join.specs.Reading.{corners_in}
use Rattle.gds_join.specs.steps.Far.{stands_at}
use Rattle.gds_join.proofs.fill.places_of.Goals.{else-some, then-some}
use Rattle.gds_join.proofs.fill.places_of.Goals as goal

-- nothing was filled before
from_none : (old new stands : Bool) → new ≡ old || stands → old ≡ false → new ≡ stands
from_none old new stands h k = h ∙ ap (λ b. b || stands) k

never : (b : Bool) → b ≡ true → b ≡ false → ⊥
never b h g = let e : true ≡ false = sym h ∙ g in cc e

pub returns-clause-some : goal.returns-clause-some
returns-clause-some c = λ is. elim c.if-some.branch [
  | then-some w ↦ ap is_filled w.filled-is ∙ fun_ext (λ i. fun_ext (λ j. from_none (is_filled c.in_ok-filled.filled i j) _ (stands_at (raster_in c.args.rules.now) (corners_in (contents_of c.args.library.now)) i j) (w.fill_library_places.ensures.filled i j) (c.in_ok-filled.ensures.none i j)))
  | else-some w ↦ absurd (never c.args.some is w.if-some.false)
]

pub returns-clause-none : goal.returns-clause-none
returns-clause-none c = λ is i j. elim c.if-some.branch [
  | then-some w ↦ absurd (never c.args.some w.if-some.true is)
  | else-some w ↦ ap (λ (f : Filling). is_filled f i j) w.filled-is ∙ c.in_ok-filled.ensures.none i j
]
