-- The three operations on sets, as what they do to one member.
use Rattle.std.specs.Prelude.{Bool, ◌&&◌, ◌||◌, not}
use Rattle.fill_spans.specs.declared.operation.Operation.{Operation}
use Rattle.fill_spans.specs.declared.operation.Operation.TheVariants.{Union, Minus, Meet}

-- is it in the result, where `a` and `b` say whether it is in the first and in the second set?
abbrev pub applied : Operation → Bool → Bool → Bool
applied Union a b = a || b
applied Minus a b = a && not b
applied Meet a b = a && b
