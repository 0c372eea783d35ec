use Rattle.std.proofs.Common.{◌≡◌, ◌∙◌, ◌<◌, length, sym, rules, arith, FitsSigned, w64}
use Rattle.std.proofs.lemmas.Int.{to_z-of_z}
use Rattle.std.proofs.Math.ListN.{length-set}
use Rattle.fill_text.specs.Keys.{all_number_keys}
use Rattle.fill_text.proofs.Found.{all_found, number_missing, one_number_more}
use Rattle.fill_text.proofs.entries.Entries.all_numbers.Goals as goal

pub returns-in_default : goal.returns-in_default
returns-in_default c =
    let below : c.loop-i.i < length c.args.self.now.numbers = search rules in
    sym (number_missing _ all_number_keys c.args.self.now.numbers c.loop-i.numbers c.loop-i.i c.loop-i.invariant.read (omega arith) below c.in_default.not-Some)

pub loop-i-preserved : goal.loop-i-preserved
loop-i-preserved c =
    let below : c.loop-i.i < length c.args.self.now.numbers = search rules in
    let fits : FitsSigned w64 c.in-Some.n = search rules in
    rw (to_z-of_z w64 c.in-Some.n fits) (record {
      size = length-set c.loop-i.numbers c.loop-i.i c.in-Some.n ∙ c.loop-i.invariant.size;
      read = one_number_more _ all_number_keys c.args.self.now.numbers c.loop-i.numbers c.loop-i.i c.in-Some.n c.loop-i.invariant.read (omega arith) below (omega (arith, c.loop-i.invariant.size)) c.in-Some.is;
    })

pub returns : goal.returns
returns c =
    let last : c.loop-i.i ≡ 28 = omega arith in
    sym (all_found _ all_number_keys c.args.self.now.numbers c.loop-i.numbers c.loop-i.i c.loop-i.invariant.read (omega arith) (omega (arith, c.loop-i.invariant.size)))
