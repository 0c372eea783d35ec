use Rattle.std.proofs.Common.{◌≡◌, [], ◌∙◌, sym, inl, refl, take}
use Rattle.std.proofs.lemmas.Bool.{false≢true}
use Rattle.fill_base.proofs.Signed.{read32_is}
use Rattle.fill_bands.specs.Bands.{last_row}
use Rattle.fill_bands.proofs.Stack.{last_before}
use Rattle.fill_bands.proofs.SweepTurns.{row_put}
use Rattle.fill_bands.proofs.bands.put_shared.Goals as goal

pub returns-in_ok-push : goal.returns-in_ok-push
returns-in_ok-push c =
    let same = c.spans.ensures ∙ sym (last_before [] c.args.bands.now c.args.k c.index-bands-k.result c.requires.some c.requires.within) in
    row_put c.args.at (last_row [] (take c.args.k c.args.bands.now)) c.in_ok-share.field-0 c.args.out.now.items c.push.new.self.items
    (λ e. absurd (false≢true (sym c.if-not-is_top.true ∙ c.is_top.ensures.1 (rw c.deref.ensures.value (e ∙ sym same)))))
    (c.in_ok-share.ensures ∙ sym (last_before [] c.args.bands.now c.args.k c.index-bands-k.result c.requires.some c.requires.within))
    (rw (read32_is c.args.at c.ranges.at) at c.in_ok-push.ensures.items)

pub returns-else-not-is_top : goal.returns-else-not-is_top
returns-else-not-is_top c =
    let same : c.spans.result.now ≡ last_row [] (take c.args.k c.args.bands.now) = c.spans.ensures ∙ sym (last_before [] c.args.bands.now c.args.k c.index-bands-k.result c.requires.some c.requires.within) in
    inl (rw c.deref.ensures.value at (c.is_top.ensures.0 c.if-not-is_top.false) ∙ same, refl)
