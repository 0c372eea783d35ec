use Rattle.std.proofs.Common.{◌≡◌, ap, sym, ◌∙◌, ◌&&◌, ℤ, pos, ◌≤ℤ◌, arith, Bool, true, false, refl}
use Rattle.std.specs.Prelude.{not}
use Rattle.std.proofs.lemmas.Int.{ints}
use Rattle.fill_base.proofs.Signed.{read_is}
use Rattle.fill_base.specs.Counts.{is_between}
use Rattle.fill_raster.specs.Lattice.{is_near}
use Rattle.fill_job.specs.Plans.{plan_of}
use Rattle.fill_state.specs.Filling.{in_places}
use Rattle.fill_state.proofs.Nearby.{near_on}
use Rattle.fill_book.proofs.TooNear.{left_if_far}
use Rattle.fill_book.proofs.stored.too_near.Goals as goal

near_is : (c : goal.After-rows-1) → (i j : ℤ) → (is_between c.near.result.0.start c.near.result.0.end i && is_between c.near.result.1.start c.near.result.1.end j) ≡ is_near (plan_of c.args.rules.now).raster c.in-Add.rect (plan_of c.args.rules.now).spacing i j
near_is c = rw (c.raster.ensures.raster, read_is c.spacing.result (record { sfits = c.spacing.type_inv }), c.spacing.ensures.value) at c.near.ensures.places

pub returns-in-Add-clause-on : goal.returns-in-Add-clause-on
returns-in-Add-clause-on c = λ i j h. let plan = plan_of c.args.rules.now in near_on plan.raster c.in-Add.rect plan.spacing i j (sym (near_is c i j) ∙ h)

pub returns-in-Add-clause-near : goal.returns-in-Add-clause-near
returns-in-Add-clause-near c =
    let plan = plan_of c.args.rules.now in let is = c.make_a_plan.ensures in
    rw c.in-Add.is (λ fill on i j. left_if_far plan.raster plan.spacing c.in-Add.rect fill (in_places (record { columns = c.near.result.0; rows = c.near.result.1 })) i j is.raster is.spacing.least (on i j) (near_is c i j))

pub returns-in-Cut-clause-on : goal.returns-in-Cut-clause-on
returns-in-Cut-clause-on c = λ i j h. absurd (let e = sym h ∙ c.none.ensures.none i j in cc)

pub returns-in-Cut-clause-near : goal.returns-in-Cut-clause-near
returns-in-Cut-clause-near c = rw c.in-Cut.is (λ fill on i j. and_yes (fill i j) ∙ ap (λ b. fill i j && not b) (sym (c.none.ensures.none i j)))
  where
    and_yes : (b : Bool) → b ≡ b && true
    and_yes true = refl
    and_yes false = refl

near_keep : (c : goal.After-rows-in-Keep-1) → (i j : ℤ) → (is_between c.near-in-Keep.result.0.start c.near-in-Keep.result.0.end i && is_between c.near-in-Keep.result.1.start c.near-in-Keep.result.1.end j) ≡ is_near (plan_of c.args.rules.now).raster c.in-Keep.rect (pos 0) i j
near_keep c = rw c.raster-in-Keep.ensures.raster at c.near-in-Keep.ensures.places

pub returns-in-Keep-clause-on : goal.returns-in-Keep-clause-on
returns-in-Keep-clause-on c = λ i j h. let plan = plan_of c.args.rules.now in near_on plan.raster c.in-Keep.rect (pos 0) i j (sym (near_keep c i j) ∙ h)

pub returns-in-Keep-clause-near : goal.returns-in-Keep-clause-near
returns-in-Keep-clause-near c =
    let plan = plan_of c.args.rules.now in let is = c.make_a_plan.ensures in
    rw c.in-Keep.is (λ fill on i j. left_if_far plan.raster (pos 0) c.in-Keep.rect fill (in_places (record { columns = c.near-in-Keep.result.0; rows = c.near-in-Keep.result.1 })) i j is.raster none (on i j) (near_keep c i j))
  where
    none : pos 0 ≤ℤ pos 0
    none = omega (arith, ints)
