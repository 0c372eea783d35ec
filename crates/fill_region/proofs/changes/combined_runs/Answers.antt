use Rattle.std.proofs.Common.{ap, sym}
use Rattle.fill_bands.specs.Squares.{covered}
use Rattle.fill_spans.specs.Operations.{applied}
use Rattle.fill_region.proofs.Members.{runs_alike}
use Rattle.fill_region.proofs.Changing.{changed_runs, kept_alone}
use Rattle.fill_region.proofs.changes.combined_runs.Goals as goal

pub returns-in_default : goal.returns-in_default
returns-in_default c = rw (c.kept_far.ensures, c.in_ok-from_slice.ensures.items) (kept_alone c.args.operation c.args.first.now c.args.second.now c.requires c.in_default.ensures.none)

pub returns : goal.returns
returns c =
    let near = c.in_ok-near.near.items in let far = c.in_ok-near.far.items in let changed = c.in_ok-changed.changed.items in
    let swept = runs_alike (λ x y. applied c.args.operation (covered near x y) (covered c.args.second.now x y)) (λ x y. applied c.args.operation (covered near x y) (covered c.in_ok-from_slice-2.field-0.items x y)) changed
    (λ x y. ap (λ rs. applied c.args.operation (covered near x y) (covered rs x y)) (sym c.in_ok-from_slice-2.ensures.items)) c.in_ok-changed.ensures in
    let all = changed_runs c.args.operation c.in-Some.hull c.args.first.now c.args.second.now near far changed c.requires c.in-Some.ensures.some c.in_ok-near.ensures swept in
    rw (c.in_ok-append.ensures.items, c.kept_far-runs.ensures) all
