use Rattle.std.proofs.Common.{refl}
use Rattle.fill_parts.proofs.Chipping.{looks_at_none, looks_at_some}
use Rattle.fill_parts.proofs.part.Part.chip_rows.Goals as goal

pub returns-then-looked_at-clause-none : goal.returns-then-looked_at-clause-none
returns-then-looked_at-clause-none c =
    ((λ _. looks_at_none _ c.args.windows.count _ _ c.looked_at_windows-looked_at.ensures.from c.looked_at_windows-looked_at.ensures.to c.if-looked_at.true), (λ _. refl))

pub returns-clause-none : goal.returns-clause-none
returns-clause-none c = ((λ is. absurd (cc)), (λ none. absurd (let some = looks_at_some _ c.args.windows.count _ _ c.looked_at_windows-looked_at.ensures.to c.if-looked_at.false in cc)))
