-- A walk along the edges: what it has counted, wherever it stands.
use Rattle.std.proofs.Common.{◌≡◌, ℕ, suc, ◌+◌, ◌*◌, ◌^◌, ◌%◌, ◌≤◌, ◌<◌, ℤ, pos, ◌-ℤ◌, ◌≤ℤ◌, ◌<ℤ◌, List, length, refl, arith, ap, ◌∙◌, sym, Bool, true, false, not, cond, w64, FitsSigned}
use Rattle.std.proofs.lemmas.Int.{ints, clamps}
use Rattle.std.proofs.lemmas.Bool.Decides.{nat_tests}
use Rattle.fill_base.specs.Coordinates.{lowest, highest}
use Rattle.fill_base.specs.Counts.{span_len, count_between}
use Rattle.fill_base.proofs.Signed.{read, read_is, pos_fits, lt_le, le_trans}
use Rattle.fill_base.proofs.Counting.{count_between_const, sum_between_split}
use Rattle.fill_spans.specs.declared.walk.Walk.{Walk}
use Rattle.fill_spans.specs.Spans.{inside, odd, floor, ceiling, next_edge, IsCanonical}
use Rattle.fill_spans.specs.EdgeLookup.{IsFirstAbove, IsEdgeBelow}
use Rattle.fill_spans.specs.CountingWalk.{length_at, IsNotBeyond, HasReached, IsWalk}
use Rattle.fill_spans.proofs.Chains.{chain_at, chain_within, chain_next, not_odd}
use Rattle.fill_spans.proofs.Searching.{chain_rises, next_first, inside_gap, count_small}

-- a walk, put together from its parts
abbrev pub walk_of : ℤ → ℕ → ℤ → Walk
walk_of start next sum = record { start = start; next = next; sum = sum }

lt_le_trans : (a b c : ℤ) → a <ℤ b → b ≤ℤ c → a <ℤ c
lt_le_trans a b c h k = omega (arith, ints, clamps)

-- a stretch without an edge counts whole or not at all
stretch_counts : (es : List ℤ) (k : ℕ) (from to : ℤ) → IsCanonical es → IsFirstAbove es from k → from ≤ℤ to → (k < length es → to ≤ℤ next_edge es k)
    → count_between (inside es) from to ≡ cond (odd k) (span_len from to) 0
stretch_counts es k from to canonical place ordered before =
    count_between_const (inside es) from to (odd k) ordered (λ x le lt. inside_gap es k from x canonical place le (λ inner. lt_le_trans x to _ lt (before inner)))
    ∙ chosen (odd k) (span_len from to)
  where
    chosen : (b : Bool) (n : ℕ) → n * cond b 1 0 ≡ cond b n 0
    chosen true n = omega arith
    chosen false n = omega arith

-- a walk that begins has counted nothing
pub begins_right : (es : List ℤ) (start : ℤ) (next : ℕ) (sum : ℤ) → IsCanonical es → IsFirstAbove es start next → sum ≡ cond (odd next) start (pos 0) → IsWalk es (walk_of start next sum)
begins_right es start next sum canonical place sum_is = record {
  ahead = λ lt. lt_le start _ (place.after lt);
  counts = λ x reached.
      rw sum_is (begun (odd next) start x reached.not_beyond.begun ∙ ap pos (sym (stretch_counts es next start x canonical place reached.not_beyond.begun reached.ahead)));
}
  where
    begun : (b : Bool) (start x : ℤ) → start ≤ℤ x → cond b (x -ℤ cond b start (pos 0)) (cond b start (pos 0)) ≡ pos (cond b (span_len start x) 0)
    begun true start x le = omega (arith, ints, clamps)
    begun false start x le = refl

-- a walk goes past its next edge
pub record Passes (es : List ℤ) (start : ℤ) (next : ℕ) (sum edge : ℤ) : Type 0 where
  pub fits : FitsSigned w64 (edge -ℤ sum)
  pub counts : IsWalk es (walk_of start (next + 1) (edge -ℤ sum))

-- where it stands at the edge
at_edge : (es : List ℤ) (walk : Walk) → IsCanonical es → IsWalk es walk → walk.next < length es → HasReached es walk (next_edge es walk.next)
at_edge es walk canonical w lt = record {
  not_beyond = record { begun = w.ahead lt; passed = λ k below. chain_rises floor ceiling es k walk.next canonical.rising (omega arith) lt };
  ahead = λ inner. omega (arith, ints, clamps);
}

pub passes : (es : List ℤ) (start : ℤ) (next : ℕ) (sum : ℤ) → IsCanonical es → lowest ≤ℤ start → IsWalk es (walk_of start next sum) → next < length es → Passes es start next sum (next_edge es next)
passes es start next sum canonical low w lt =
    let edge = next_edge es next in
    let begun : start ≤ℤ edge = w.ahead lt in
    let at = w.counts edge (at_edge es (walk_of start next sum) canonical w lt) in
    let high : edge ≤ℤ highest = below_ceiling edge (chain_within floor ceiling es next lt canonical.rising).1 in
    record {
      fits = difference_fits (odd next) edge sum _ (le_trans _ start edge low begun) high (count_small (inside es) start edge low begun high) at;
      counts = record {
        ahead = λ more. le_trans start edge _ begun (lt_le edge _ (chain_next floor ceiling es next lt canonical.rising));
        counts = λ x reached.
            let past : edge ≤ℤ x = reached.not_beyond.passed next (omega arith) in
            let split : count_between (inside es) start x ≡ count_between (inside es) start edge + count_between (inside es) edge x = sum_between_split (λ z. cond (inside es z) 1 0) start edge x begun past in
            let turn : odd (next + 1) ≡ not (odd next) = ap odd (add_one next) ∙ sym (not_odd next) in
            let stretch = rw turn at (stretch_counts es (next + 1) edge x canonical (next_first es next canonical lt) past reached.ahead) in
            rw (split, turn) (turned (odd next) edge sum x _ _ past at stretch);
      };
    }
  where
    add_one : (n : ℕ) → n + 1 ≡ suc n
    add_one n = omega arith

    below_ceiling : (e : ℤ) → e <ℤ ceiling → e ≤ℤ highest
    below_ceiling e h = omega (arith, ints, clamps)

    difference_fits : (b : Bool) (edge sum : ℤ) (n : ℕ) → lowest ≤ℤ edge → edge ≤ℤ highest → n ≤ 2 ^ 31 → cond b (edge -ℤ sum) sum ≡ pos n → FitsSigned w64 (edge -ℤ sum)
    difference_fits true edge sum n low high small is = omega (arith, ints, clamps)
    difference_fits false edge sum n low high small is = omega (arith, ints, clamps)

    turned : (b : Bool) (edge sum x : ℤ) (n m : ℕ) → edge ≤ℤ x → cond b (edge -ℤ sum) sum ≡ pos n → m ≡ cond (not b) (span_len edge x) 0
        → cond (not b) (x -ℤ (edge -ℤ sum)) (edge -ℤ sum) ≡ pos (n + m)
    turned true edge sum x n m past at stretch = omega (arith, ints, clamps)
    turned false edge sum x n m past at stretch = omega (arith, ints, clamps)

-- passing an edge below `to` is not going beyond `to`
pub passed_below : (es : List ℤ) (start : ℤ) (next : ℕ) (sum sum' to : ℤ) → IsCanonical es → next < length es → next_edge es next <ℤ to → IsNotBeyond es (walk_of start next sum) to → IsNotBeyond es (walk_of start (next + 1) sum') to
passed_below es start next sum sum' to canonical lt below n = record {
  begun = n.begun;
  passed = λ k before. le_trans _ (next_edge es next) to (chain_rises floor ceiling es k next canonical.rising (omega arith) lt) (lt_le _ to below);
}

-- what a walk has counted is a short length
pub record Length (es : List ℤ) (walk : Walk) (x : ℤ) : Type 0 where
  pub least : pos 0 ≤ℤ length_at walk x
  pub most : length_at walk x ≤ℤ pos (2 ^ 31)

pub length_short : (es : List ℤ) (walk : Walk) (x : ℤ) → lowest ≤ℤ walk.start → x ≤ℤ highest → IsWalk es walk → HasReached es walk x → Length es walk x
length_short es walk x low high w reached =
    let small = count_small (inside es) walk.start x low reached.not_beyond.begun high in
    record {
      least = rw (w.counts x reached) (at_least _);
      most = rw (w.counts x reached) (at_most _ small);
    }
  where
    at_least : (n : ℕ) → pos 0 ≤ℤ pos n
    at_least n = omega (arith, ints, clamps)

    at_most : (n : ℕ) → n ≤ 2 ^ 31 → pos n ≤ℤ pos (2 ^ 31)
    at_most n h = omega (arith, ints, clamps)

-- an edge that the code has found is what it reads
edge_is_read : (es : List ℤ) (k : ℕ) (to edge : ℤ) → IsCanonical es → IsEdgeBelow es k to edge → read edge ≡ next_edge es k
edge_is_read es k to edge canonical e = let range = chain_at floor ceiling es k canonical.rising in ap read e.is ∙ read_is _ (fits (next_edge es k) range.0 range.1)
  where
    fits : (z : ℤ) → floor <ℤ z → z ≤ℤ ceiling → FitsSigned w64 z
    fits z low high = omega (arith, ints, clamps)

-- one turn of the code's walk
pub record Turn (es : List ℤ) (start : ℤ) (next : ℕ) (sum to edge : ℤ) : Type 0 where
  pub fits : FitsSigned w64 (read edge -ℤ sum)
  pub counts : IsWalk es (walk_of start (next + 1) (read (read edge -ℤ sum)))
  pub not_beyond : IsNotBeyond es (walk_of start (next + 1) (read (read edge -ℤ sum))) to

pub turn : (es : List ℤ) (start : ℤ) (next : ℕ) (sum to edge : ℤ) → IsCanonical es → lowest ≤ℤ start → IsWalk es (walk_of start next sum) → IsNotBeyond es (walk_of start next sum) to
    → IsEdgeBelow es next to edge → Turn es start next sum to edge
turn es start next sum to edge canonical low w n e =
    let is = edge_is_read es next to edge canonical e in
    let past = passes es start next sum canonical low w e.within in
    record {
      fits = rw is past.fits;
      counts = rw (is, read_is _ past.fits) past.counts;
      not_beyond = passed_below es start next sum _ to canonical e.within (rw e.is at e.below) n;
    }

-- what a walk from `lo` has counted, as the code reads it
pub record Counted (es : List ℤ) (walk : Walk) (lo hi : ℤ) : Type 0 where
  pub length : Length es walk hi
  pub is : read (length_at walk hi) ≡ pos (count_between (inside es) lo hi)

pub walk_counts : (es : List ℤ) (walk : Walk) (lo hi : ℤ) → walk.start ≡ lo → lowest ≤ℤ lo → hi ≤ℤ highest → IsWalk es walk → HasReached es walk hi → Counted es walk lo hi
walk_counts es walk lo hi starts low high w reached =
    let begun : lo ≤ℤ hi = rw starts at reached.not_beyond.begun in
    let small = count_small (inside es) lo hi low begun high in
    record {
      length = length_short es walk hi (rw starts low) high w reached;
      is = ap read (w.counts hi reached) ∙ (rw starts (read_is _ (pos_fits _ (omega (arith, small)))));
    }

-- what is not beyond one number is not beyond a greater one
pub not_beyond_more : (es : List ℤ) (walk : Walk) (x y : ℤ) → x ≤ℤ y → IsNotBeyond es walk x → IsNotBeyond es walk y
not_beyond_more es walk x y le n = record {
  begun = le_trans _ x y n.begun le;
  passed = λ k before. le_trans _ x y (n.passed k before) le;
}

pub reaches : (es : List ℤ) (walk : Walk) (x : ℤ) → IsNotBeyond es walk x → (walk.next < length es → x ≤ℤ next_edge es walk.next) → HasReached es walk x
reaches es walk x n ahead = record { not_beyond = n; ahead = ahead }

pub even_is : (n : ℕ) → (n % 2 ≡ 1 → ⊥) → odd n ≡ false
even_is n not_one = grind (arith, nat_tests)
