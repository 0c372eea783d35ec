use Rattle.std.proofs.Common.{◌≡◌, pos, length, vec_len, arith}
use mir.ValLaws.{SFits-prop}
use Rattle.std.proofs.Math.Logic.{∥∥₁_elim}
use Rattle.std.proofs.Props.{props}
use Rattle.std.proofs.lemmas.Grind.{common_steps}
use Rattle.fill_measure.proofs.Stacking.{placed, placed_number}
use Rattle.fill_measure.proofs.sums.WindowSums.number.Goals as goal

pub index-requires-2 : goal.index-requires-2
index-requires-2 c =
    let sums = c.args.self.now in
    let width : c.len-width.result ≡ length sums.across.items = grind (arith, common_steps) in
    let count : vec_len sums.prefix_sums.below ≡ length sums.prefix_sums.below.items = grind (arith, common_steps) in
    rw (width, count) (∥∥₁_elim sums.measured (search props) (λ x. (placed x.0 sums.across.items sums.up.items sums.prefix_sums c.args.i c.args.j c.min-k.result c.len.result c.index.result.now c.as_slice-band.result.now x.1.numbers sums.up_cuts c.requires.column c.requires.cut c.len.ensures c.min-k.ensures c.index.ensures c.as_slice-band.ensures.value).below))

pub bounds-band-j : goal.bounds-band-j
bounds-band-j c =
    let sums = c.args.self.now in
    let width : c.len-width.result ≡ length sums.across.items = grind (arith, common_steps) in
    rw width (∥∥₁_elim sums.measured (search props) (λ x. (placed x.0 sums.across.items sums.up.items sums.prefix_sums c.args.i c.args.j c.min-k.result c.len.result c.index.result.now c.as_slice-band.result.now x.1.numbers sums.up_cuts c.requires.column c.requires.cut c.len.ensures c.min-k.ensures c.index.ensures c.as_slice-band.ensures.value).above))

pub overflow_mul-result-2 : goal.overflow_mul-result-2
overflow_mul-result-2 c = let above = bounds-band-j c in omega (arith, above, c.as_slice-band.type_inv.0)

pub overflow_add-result : goal.overflow_add-result
overflow_add-result c = let above = bounds-band-j c in omega (arith, above, c.as_slice-band.type_inv.0)

pub offset_bounds-band-j : goal.offset_bounds-band-j
offset_bounds-band-j c = let above = bounds-band-j c in omega (arith, above, c.as_slice-band.type_inv.1)

pub overflow_add-result-2 : goal.overflow_add-result-2
overflow_add-result-2 c =
    let sums = c.args.self.now in
    let width : c.len-width.result ≡ length sums.across.items = grind (arith, common_steps) in
    rw width (∥∥₁_elim sums.measured (SFits-prop _ _) (λ x. (placed_number x.0 sums.across.items sums.up.items sums.prefix_sums c.args.i c.args.j c.min-k.result c.len.result c.index.result.now c.as_slice-band.result.now c.index-2.result.now (pos 0)
    x.1.numbers sums.across_cuts sums.up_cuts c.requires.column c.requires.cut c.len.ensures c.min-k.ensures c.index.ensures c.as_slice-band.ensures.value (rw width at c.index-2.ensures)).0))

pub returns : goal.returns
returns c p are d =
    let sums = c.args.self.now in
    let width : c.len-width.result ≡ length sums.across.items = grind (arith, common_steps) in
    rw width ((placed_number p sums.across.items sums.up.items sums.prefix_sums c.args.i c.args.j c.min-k.result c.len.result c.index.result.now c.as_slice-band.result.now c.index-2.result.now (pos 0)
    are.numbers sums.across_cuts sums.up_cuts c.requires.column c.requires.cut c.len.ensures c.min-k.ensures c.index.ensures c.as_slice-band.ensures.value (rw width at c.index-2.ensures)).1 d)
