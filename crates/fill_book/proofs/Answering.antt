-- What the state has to read for a tile, when a proposal reads that, and why a commit is refused.
use Rattle.std.proofs.Common.{◌≡◌, ◌≢◌, ◌↔◌, ◌==◌, ◌∙◌, ℕ, pos, List, Bool, true, false, refl, sym, arith}
use Rattle.fill_region.specs.Runs.{Sides}
use Rattle.fill_text.specs.Rules.{Values}
use Rattle.fill_job.specs.Basis.{layers_in}
use Rattle.fill_job.specs.Plans.{Layers, Plan}
use Rattle.fill_job.specs.ReadSets.{ReadSet, layers_near, read_set}
use Rattle.fill_state.specs.Pieces.{IsPiece}
use Rattle.fill_core.specs.Accounts.{IsSame}
use Rattle.fill_core.specs.Machine.{State, commit_reply}
use Rattle.fill_core.specs.declared.event.Reply.TheVariants.{Already, Foreign, Stale}

-- the pieces of a tile are what of the design is near to it
pub near_pieces : (plan : Plan) (layers : Layers) (tile : ℕ) (metal fill keep : List Sides) → IsPiece plan.raster plan.spacing layers.metal tile metal → IsPiece plan.raster plan.fill_spacing layers.fill tile fill
    → IsPiece plan.raster (pos 0) layers.keep tile keep → layers_in metal fill keep ≡ layers_near plan layers tile
near_pieces plan layers tile metal fill keep m f k = λ i. record { metal = λ x y. m x y i; fill = λ x y. f x y i; keep = λ x y. k x y i }

pub same_reads : (rules : Values) (s : State) (version mine tile : ℕ) (read here : ReadSet) (same : Bool) → mine ≡ version → mine ≡ s.version → s.tiles_in tile ≡ false
    → here ≡ read_set rules s.layers s.low tile → (same ≡ true) ↔ (read ≡ here) → IsSame rules s version tile read same
same_reads rules s version mine tile read here same is now out read_now matches = (
  (λ h. (rw is at now, out, matches.0 h ∙ read_now)),
  (λ h. matches.1 (h.2 ∙ sym read_now)),
)

pub other_version : (rules : Values) (s : State) (version mine tile : ℕ) (read : ReadSet) → mine ≡ version → mine ≢ s.version → IsSame rules s version tile read false
other_version rules s version mine tile read is other = ((λ h. absurd (no h)), (λ h. absurd (other (rw is h.0))))
  where
    no : false ≡ true → ⊥
    no h = grind (arith, h)

differ : (a b : ℕ) → a ≢ b → (a == b) ≡ false
differ a b other = grind (arith, other)

agree : (a b : ℕ) → a ≡ b → (a == b) ≡ true
agree a b is = grind (arith, is)

pub stale : (plan : Plan) (s : State) (version tile : ℕ) → version ≢ s.version → Stale s.version ≡ commit_reply plan s version tile false
stale plan s version tile other = rw (differ version s.version other) refl

pub already : (plan : Plan) (s : State) (version tile : ℕ) → version ≡ s.version → s.tiles_in tile ≡ true → Already ≡ commit_reply plan s version tile false
already plan s version tile same brought = rw (agree version s.version same, brought) refl

pub foreign : (plan : Plan) (s : State) (version tile : ℕ) → version ≡ s.version → s.tiles_in tile ≡ false → Foreign ≡ commit_reply plan s version tile false
foreign plan s version tile same out = rw (agree version s.version same, out) refl
