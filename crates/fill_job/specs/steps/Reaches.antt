-- The places of a part of a row of the raster, and the squares near to them.
use Rattle.std.specs.Prelude.{◌≡◌, ◌||◌, ℕ, ◌<◌, ℤ, pos, ◌+ℤ◌, ◌-ℤ◌, Bool, List, length, get_or}
use Rattle.fill_base.specs.Counts.{span_len}
use Rattle.fill_raster.specs.Axes.{box_begin, box_end}
use Rattle.fill_raster.specs.Lattice.{Lattice}
use Rattle.fill_job.specs.Plans.{Plan, Layers, PointSet, is_taken, meets_box}
use Rattle.fill_job.specs.declared.wanted.Reaches.{Reaches}

-- the columns that the box of a place reaches, with a distance on both sides
abbrev pub reach : Lattice → ℤ → ℤ → ℤ × ℤ
reach r d i = (box_begin r.across i -ℤ d, box_end r.across i +ℤ d)

-- those of each place of a part of a row
pub record AreReaches (r : Lattice) (d left right : ℤ) (reaches : List (ℤ × ℤ)) : Type 0 where
  pub count : length reaches ≡ span_len left right
  pub each : (a : ℕ) (e : ℤ × ℤ) → a < length reaches → get_or reaches a e ≡ reach r d (left +ℤ pos a)

-- those at the distances that boxes keep to metal, to existing fill and to keep-outs
pub record AreOfAll (plan : Plan) (left right : ℤ) (reaches : Reaches) : Type 0 where
  pub metal : AreReaches plan.raster plan.spacing left right reaches.metal.items
  pub fill : AreReaches plan.raster plan.fill_spacing left right reaches.fill.items
  pub keep : AreReaches plan.raster (pos 0) left right reaches.keep.items

-- each place is marked that was so before, and each that the set meets at the distance
abbrev pub AreMet : Lattice → ℤ → PointSet → ℤ → ℤ → List Bool → List Bool → Type 0
AreMet r d p left j old new = (a : ℕ) (m : Bool) → a < length new → get_or new a m ≡ get_or old a m || meets_box r d p (left +ℤ pos a) j

-- whether each place is taken
abbrev pub AreTaken : Plan → Layers → ℤ → ℤ → List Bool → Type 0
AreTaken plan layers left j taken = (a : ℕ) (m : Bool) → a < length taken → get_or taken a m ≡ is_taken plan layers (left +ℤ pos a) j
