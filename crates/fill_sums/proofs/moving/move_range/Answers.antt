use Rattle.std.proofs.Common.{◌≡◌, refl, ap, ◌∙◌, ℕ, ◌+◌, ◌≤◌, ◌<◌, ℤ, pos, length, get_or, arith}
use Rattle.std.proofs.lemmas.List.{length-set}
use Rattle.fill_base.proofs.Signed.{read_is}
use Rattle.fill_sums.specs.Numbers.{moved}
use Rattle.fill_sums.proofs.Ranges.{ahead_next, range_next, range_unmoved}
use Rattle.fill_sums.proofs.Windowed.{area_fits, range_is, read_area}
use Rattle.fill_sums.proofs.moving.move_range.Goals as goal

pub loop-k-init : goal.loop-k-init
loop-k-init c = (le_same c.args.from, c.requires.ordered, refl, (λ j h. refl), (λ n e. range_unmoved c.args.from c.args.way n _))
  where
    le_same : (n : ℕ) → n ≤ n
    le_same n = omega arith

pub moved_by-requires-clause-number : goal.moved_by-requires-clause-number
moved_by-requires-clause-number c =
    let inv = c.loop-k.invariant in let k = c.loop-k.k in
    rw (inv.3 k (same k)) (read_area _ (c.requires.numbers k (range_is c.args.from c.args.to k inv.0 c.loop-k-test.true)))
  where
    same : (n : ℕ) → n ≤ n
    same n = omega arith

pub moved_by-requires-clause-area : goal.moved_by-requires-clause-area
moved_by-requires-clause-area c = read_area c.args.area c.requires.area

pub loop-k-preserved : goal.loop-k-preserved
loop-k-preserved c =
    let inv = c.loop-k.invariant in let k = c.loop-k.k in let from = c.args.from in let old = c.args.numbers.now in
    let is = c.requires.numbers k (range_is from c.args.to k inv.0 c.loop-k-test.true) in (
      up from k inv.0,
      next k c.args.to c.loop-k-test.true,
      length-set _ k _ ∙ inv.2,
      (λ j h. ahead_next k j old _ _ h inv.3),
      (λ n e.
          let step = c.moved_by.ensures n e in
          range_next from k c.args.way n old _ _ inv.0 (below k c.args.to (length old) c.loop-k-test.true c.requires.there) (inv.4 n e)
          (read_is c.moved_by.result (record { sfits = c.moved_by.type_inv }) ∙ (step ∙ ap (λ (z : ℤ). moved c.args.way z n) (rw (inv.3 k (same k)) (read_is (get_or old k (pos 0)) (area_fits _ is)))))),
    )
  where
    same : (n : ℕ) → n ≤ n
    same n = omega arith

    next : (a r : ℕ) → a < r → a + 1 ≤ r
    next a r h = omega arith

    up : (l a : ℕ) → l ≤ a → l ≤ a + 1
    up l a h = omega arith

    below : (a r n : ℕ) → a < r → r ≤ n → a < n
    below a r n h k = omega arith

pub returns : goal.returns
returns c = λ n e.
    let inv = c.loop-k.invariant in
    rw (end c.loop-k.k c.args.to inv.1 c.loop-k-test.false) (inv.4 n (read_is c.args.area (area_fits c.args.area c.requires.area) ∙ e))
  where
    end : (k to : ℕ) → k ≤ to → to ≤ k → to ≡ k
    end k to h l = omega arith
