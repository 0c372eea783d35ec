-- So many parts are still missing.
use Rattle.std.proofs.Common.{◌≡◌, ◌-◌, take}
use Rattle.fill_shared.specs.Passes.{parts_of}
use Rattle.fill_shared.proofs.shared.missing_parts.Given as goal

abbrev pub invariant-loop-pass : goal.invariant-loop-pass
invariant-loop-pass g l = l.missing ≡ 1024 - parts_of (take l.pass-index l.passes)
