use Rattle.std.proofs.Common.{◌∙◌, sym}
use Rattle.fill_base.proofs.Signed.{read}
use Rattle.fill_raster.proofs.Nearness.{IsNearRange, near_reckoned}
use Rattle.fill_raster.proofs.axis.Axis.near.Goals as goal

near : (c : goal.After-max-2) → IsNearRange c.args.self c.args.low c.args.high (read c.min-start.result) (read c.max-2.result)
near c = near_reckoned c.args.self c.args.low c.args.high c.first.result c.past.result c.begun-before.result c.begun-behind.result c.max.result c.min-start.result c.min.result c.max-2.result
    c.requires.axis c.requires.least c.requires.ordered c.requires.most (record { sfits = c.begun-before.type_inv }) (record { sfits = c.begun-behind.type_inv })
    c.first.ensures c.past.ensures c.begun-before.ensures c.begun-behind.ensures c.max.ensures.value c.min-start.ensures.value (rw (c.past-2.ensures ∙ sym c.past.ensures) at c.min.ensures.value) c.max-2.ensures.value
    (record { sfits = c.max.type_inv }) (record { sfits = c.min-start.type_inv }) (record { sfits = c.min.type_inv }) (record { sfits = c.max-2.type_inv })

pub returns-clause-least : goal.returns-clause-least
returns-clause-least c = (near c).part.least

pub returns-clause-most : goal.returns-clause-most
returns-clause-most c = (near c).part.most

pub returns-clause-places : goal.returns-clause-places
returns-clause-places c = (near c).places
