-- Two lists of rectangles with an operation.
use Rattle.std.specs.Prelude.{ℤ, Bool}
use Rattle.fill_spans.specs.Operations.{applied}
use Rattle.fill_bands.specs.Squares.{covered}
use Rattle.fill_region.specs.declared.operands.Operands.{Operands}

-- the square is one that the operation keeps
abbrev pub wanted : Operands → ℤ → ℤ → Bool
wanted o x y = applied o.operation (covered o.first.items x y) (covered o.second.items x y)
