-- Rows joined one after the other, upwards.
use Rattle.std.proofs.Common.{◌≡◌, ℤ, ◌≤ℤ◌, ◌<ℤ◌, Bool, true, false, ◌&&◌, List, [], ◌++◌, refl, sym, subst, ◌∙◌, arith}
use Rattle.std.specs.List.{All}
use Rattle.std.proofs.lemmas.Bool.{false_from_ne_true}
use Rattle.std.proofs.lemmas.Int.{ints, by_lt_z}
use Rattle.std.proofs.lemmas.List.Elements.{All-nil, All-weaker}
use Rattle.fill_base.specs.declared.rect.Rect.{Rect}
use Rattle.fill_base.specs.Coordinates.{lowest, highest, IsInRange}
use Rattle.fill_base.specs.Sides.{sides_of}
use Rattle.fill_base.proofs.Between.{is_between_true, is_between_below, is_between_above}
use Rattle.fill_base.proofs.Signed.{read, read_is, coordinate_fits}
use Rattle.fill_spans.specs.Spans.{inside}
use Rattle.fill_spans.specs.Columns.{IsRisingBy}
use Rattle.fill_bands.specs.Bands.{Band, holds}
use Rattle.fill_bands.specs.Rows.{Upwards, IsNextRow, AreOver}
use Rattle.fill_bands.specs.declared.rows.Row.{Row}
use Rattle.fill_region.specs.Runs.{IsRun}
use Rattle.fill_region.specs.Steps.{AreRunsOf, IsRow, MeetAt, AreStacked, before, behind, squares_between}
use Rattle.fill_region.specs.declared.lines.Line.TheVariants.{Level}
use Rattle.fill_region.proofs.Intervals.{true_false}
use Rattle.fill_region.proofs.Levels.{below_same, below_none, above_same, above_none, and_false}
use Rattle.fill_region.proofs.Members.{runs_alike}
use Rattle.fill_region.proofs.Lengthening.{row_more}

-- the runs of what lies below the rows that are still to come
pub record Risen (bs : List Band) (rows : Upwards) (recent ended : List Rect) : Type 0 where
  pub region_is : rows.region ≡ bs
  pub top_is : rows.top ≡ highest
  pub low : lowest ≤ℤ rows.from
  pub in_range : (x y : ℤ) → holds bs x y ≡ true → IsInRange x y
  pub are_runs : AreRunsOf (before (Level rows.from) (holds bs)) (recent ++ ended)
  pub rising : IsRisingBy (λ r. r.x1) recent
  pub tops : All (λ r. r.y2 ≡ rows.from) recent
  pub below : All (λ r. r.y2 <ℤ rows.from) ended

pub none_risen : (bs : List Band) (rows : Upwards) (low high : ℤ) → low ≡ lowest → high ≡ highest → rows.region ≡ bs → rows.top ≡ high → low ≤ℤ rows.from
    → ((x y : ℤ) → low ≤ℤ y → y <ℤ rows.from → holds bs x y ≡ false) → ((x y : ℤ) → holds bs x y ≡ true → IsInRange x y) → Risen bs rows [] []
none_risen bs rows low high low_is high_is region_is top_is from passed in_range = record {
  region_is = region_is;
  top_is = top_is ∙ high_is;
  low = rw low_is at from;
  in_range = in_range;
  are_runs = record {
    each = All-nil (λ r. IsRun (before (Level rows.from) (holds bs)) (sides_of r));
    all = λ x y is. absurd (true_false (before (Level rows.from) (holds bs) x y) is (nothing x y));
  };
  rising = λ i j d le lt. absurd (omega (arith, lt));
  tops = All-nil (λ r. r.y2 ≡ rows.from);
  below = All-nil (λ r. r.y2 <ℤ rows.from);
}
  where
    empty : (x y : ℤ) → y <ℤ rows.from → holds bs x y ≡ false
    empty x y lt = by_lt_z y lowest
        (λ under. false_from_ne_true (holds bs x y) (λ is. let range = in_range x y is in not_both y (range.bottom) under))
        (λ le. passed x y (rw low_is le) lt)
      where
        not_both : (y : ℤ) → lowest ≤ℤ y → y <ℤ lowest → ⊥
        not_both y a b = omega (arith, ints)

    nothing : (x y : ℤ) → before (Level rows.from) (holds bs) x y ≡ false
    nothing x y = by_lt_z y rows.from (λ lt. below_same (holds bs) rows.from x y lt ∙ empty x y lt) (λ le. below_none (holds bs) rows.from x y le)

-- a row more
pub one_risen : (bs : List Band) (rows : Upwards) (row : Row) (rest : Upwards) (recent ended begun new new_ended : List Rect) (bottom top : ℤ) → bottom ≡ row.bottom → top ≡ row.top → IsNextRow rows row rest → Risen bs rows recent ended
    → AreRunsOf (squares_between row.spans.now bottom top) begun → IsRow bottom top begun
    → ((p : ℤ → ℤ → Bool) (at : ℤ) → MeetAt p at recent begun → AreStacked p recent begun ended new new_ended) → IsRisingBy (λ r. r.x1) new → ((line : ℤ) → All (λ r. r.y2 ≡ line) begun → All (λ r. r.y2 ≡ line) new)
    → ((line : ℤ) → All (λ r. r.y2 <ℤ line) recent → All (λ r. r.y2 <ℤ line) ended → All (λ r. r.y2 <ℤ line) new_ended) → Risen bs rest new new_ended
one_risen bs rows row rest recent ended begun new new_ended bottom top bottom_is top_is next so_far row_runs own stacked rising ends low_ends = rw next.goes_on (record {
  region_is = so_far.region_is;
  top_is = so_far.top_is;
  low = omega (arith, ints, so_far.low, next.begins, next.tall);
  in_range = so_far.in_range;
  are_runs = rw top_is at made;
  rising = rising;
  tops = rw top_is at (ends top own.tops);
  below = rw top_is at (low_ends top (All-weaker (λ r. r.y2 ≡ rows.from) (λ r. r.y2 <ℤ top) (λ r is. reach r.y2 rows.from bottom top is from_is tall) recent so_far.tops)
      (All-weaker (λ r. r.y2 <ℤ rows.from) (λ r. r.y2 <ℤ top) (λ r lt. higher r.y2 bottom top (rw from_is lt) tall) ended so_far.below));
})
  where
    reach : (a f b c : ℤ) → a ≡ f → b ≡ f → b <ℤ c → a <ℤ c
    reach a f b c is at lt = omega (arith, ints)

    higher : (a b c : ℤ) → a <ℤ b → b <ℤ c → a <ℤ c
    higher a b c h k = omega (arith, ints)

    from_is : bottom ≡ rows.from
    from_is = bottom_is ∙ next.begins

    tall : bottom <ℤ top
    tall = rw (bottom_is, top_is) next.tall

    lower : (x y : ℤ) → before (Level bottom) (before (Level top) (holds bs)) x y ≡ before (Level rows.from) (holds bs) x y
    lower x y = by_lt_z y bottom
        (λ lt. below_same (before (Level top) (holds bs)) bottom x y lt ∙ (below_same (holds bs) top x y (both y bottom top lt tall) ∙ sym (below_same (holds bs) rows.from x y (rw from_is at lt))))
        (λ le. below_none (before (Level top) (holds bs)) bottom x y le ∙ sym (below_none (holds bs) rows.from x y (rw from_is at le)))
      where
        both : (a b c : ℤ) → a <ℤ b → b <ℤ c → a <ℤ c
        both a b c h k = omega (arith, ints)

    and_true : (b : Bool) → (b && true) ≡ b
    and_true true = refl
    and_true false = refl

    upper : (x y : ℤ) → behind (Level bottom) (before (Level top) (holds bs)) x y ≡ squares_between row.spans.now bottom top x y
    upper x y = by_lt_z y bottom
        (λ lt. above_none (before (Level top) (holds bs)) bottom x y lt ∙ sym (rw (is_between_below bottom top y lt) (and_false (inside row.spans.now x))))
        (λ le. by_lt_z y top
        (λ lt. above_same (before (Level top) (holds bs)) bottom x y le ∙ (below_same (holds bs) top x y lt ∙
        (rw so_far.region_is at (next.squares x y (rw bottom_is at le) (rw top_is at lt)) ∙ sym (rw (is_between_true bottom top y le lt) (and_true (inside row.spans.now x))))))
        (λ past. above_same (before (Level top) (holds bs)) bottom x y le ∙ (below_none (holds bs) top x y past ∙ sym (rw (is_between_above bottom top y past) (and_false (inside row.spans.now x))))))

    made : AreRunsOf (before (Level top) (holds bs)) (new ++ new_ended)
    made = row_more (before (Level top) (holds bs)) bottom top recent ended begun new new_ended
        (runs_alike (before (Level bottom) (before (Level top) (holds bs))) (before (Level rows.from) (holds bs)) (recent ++ ended) lower so_far.are_runs)
        (subst (λ (z : ℤ). All (λ r. r.y2 ≡ z) recent) (sym from_is) so_far.tops)
        (subst (λ (z : ℤ). All (λ r. r.y2 <ℤ z) ended) (sym from_is) so_far.below)
        (runs_alike (behind (Level bottom) (before (Level top) (holds bs))) (squares_between row.spans.now bottom top) begun upper row_runs)
        own (stacked (before (Level top) (holds bs)) bottom)

-- the last one
pub all_risen : (bs : List Band) (rows rest : Upwards) (recent ended : List Rect) → AreOver rows rest → Risen bs rows recent ended → AreRunsOf (holds bs) (recent ++ ended)
all_risen bs rows rest recent ended over so_far = runs_alike (holds bs) (before (Level rows.from) (holds bs)) (recent ++ ended) same so_far.are_runs
  where
    not_both : (y : ℤ) → y <ℤ highest → highest ≤ℤ y → ⊥
    not_both y a b = omega (arith, ints)

    same : (x y : ℤ) → holds bs x y ≡ before (Level rows.from) (holds bs) x y
    same x y = by_lt_z y rows.from
        (λ lt. sym (below_same (holds bs) rows.from x y lt))
        (λ le. by_lt_z y highest
        (λ lt. rw so_far.region_is at (over.empty x y le (rw so_far.top_is lt)) ∙ sym (below_none (holds bs) rows.from x y le))
        (λ past. false_from_ne_true (holds bs x y) (λ is. not_both y (so_far.in_range x y is).top past) ∙ sym (below_none (holds bs) rows.from x y le)))

-- a row's lines, as the code reads them
pub record RowLines (row : Row) : Type 0 where
  pub low : lowest ≤ℤ read row.bottom
  pub tall : read row.bottom <ℤ read row.top
  pub high : read row.top ≤ℤ highest
  pub bottom_is : read row.bottom ≡ row.bottom
  pub top_is : read row.top ≡ row.top

pub row_lines : (bs : List Band) (rows : Upwards) (row : Row) (rest : Upwards) (recent ended : List Rect) → IsNextRow rows row rest → Risen bs rows recent ended → RowLines row
row_lines bs rows row rest recent ended next so_far = record {
  low = rw bottom_is low;
  tall = rw (bottom_is, top_is) next.tall;
  high = rw top_is high;
  bottom_is = bottom_is;
  top_is = top_is;
}
  where
    low : lowest ≤ℤ row.bottom
    low = rw (next.begins) so_far.low

    high : row.top ≤ℤ highest
    high = rw so_far.top_is at next.within

    bottom_is : read row.bottom ≡ row.bottom
    bottom_is = read_is row.bottom (coordinate_fits row.bottom low (omega (arith, ints, high, next.tall)))

    top_is : read row.top ≡ row.top
    top_is = read_is row.top (coordinate_fits row.top (omega (arith, ints, low, next.tall)) high)
