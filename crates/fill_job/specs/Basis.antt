-- What a job has read, as its read set.
use Rattle.std.specs.Prelude.{pos, List}
use Rattle.fill_region.specs.Runs.{Sides, holds}
use Rattle.fill_job.specs.Plans.{Layers, Plan, WindowSet, plan_of}
use Rattle.fill_job.specs.ReadSets.{ReadSet}
use Rattle.fill_job.specs.declared.basis.Basis.{Basis}
use Rattle.fill_job.specs.declared.shared.Pieces.{Pieces}

-- a set of windows kept as unit squares: the window in column `a` and row `b` as the square (a, b)
abbrev pub windows_in : List Sides → WindowSet
windows_in low a b = holds low (pos a) (pos b)

-- three regions as the sets of squares that they hold
abbrev pub layers_in : List Sides → List Sides → List Sides → Layers
layers_in metal fill keep = record { metal = holds metal; fill = holds fill; keep = holds keep }

-- what was read of a design
abbrev pub layers_of : Pieces → Layers
layers_of pieces = layers_in pieces.metal pieces.fill pieces.keep

abbrev pub layers_by : Basis → Layers
layers_by basis = layers_of basis.pieces

abbrev pub read_by : Basis → ReadSet
read_by basis = record { rules = basis.rules; layers = layers_by basis; low = windows_in basis.low }

abbrev pub plan_by : Basis → Plan
plan_by basis = plan_of basis.rules
