use Rattle.std.proofs.Common.{◌≡◌, ◌↔◌, ◌&&◌, ℕ, subst}
use Rattle.std.specs.Prelude.{IsTrue}
use Rattle.fill_text.specs.Rules.{Values}
use Rattle.fill_text.specs.ValuesOfRules.{values_of}
use Rattle.fill_job.specs.Basis.{windows_in}
use Rattle.fill_job.specs.Plans.{plan_of}
use Rattle.fill_job.specs.ReadSets.{touches}
use Rattle.fill_job.proofs.LowWindows.{read_matches}
use Rattle.fill_job.proofs.proposal.Proposal.matches.Goals as goal

pub returns : goal.returns
returns c = λ layers near.
    let p = c.args.self.now in
    let low = subst (λ (v : Values). IsTrue c.same_touching-same_low.result ↔ ((a b : ℕ) → windows_in p.basis.low a b ≡ (windows_in c.args.low.now a b && touches (plan_of v) p.tile a b))) c.rules-2.ensures c.same_touching-same_low.ensures in
    let rules = subst (λ (v : Values). IsTrue c.same_as-same_rules.result ↔ (v ≡ values_of c.args.rules.now)) c.rules.ensures c.same_as-same_rules.ensures in
    read_matches p.basis (values_of c.args.rules.now) layers c.args.metal.now c.args.fill.now c.args.keep.now c.args.low.now p.tile c.same_as-same_rules.result c.eq-same_metal.result c.eq-same_fill.result c.eq-same_keep.result c.same_touching-same_low.result
    rules (rw c.region.ensures at c.eq-same_metal.ensures.same) (rw c.region-2.ensures at c.eq-same_fill.ensures.same) (rw c.region-3.ensures at c.eq-same_keep.ensures.same) low near
