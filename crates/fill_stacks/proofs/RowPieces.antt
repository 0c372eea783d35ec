-- The pieces of a row are parts of the raster's rows, and stand from left to right.
use Rattle.std.proofs.Common.{◌≡◌, refl, sym, subst, ◌∙◌, ℕ, zero, suc, min, ◌-◌, ◌*◌, ◌<◌, ◌≤◌, ℤ, pos, ◌+ℤ◌, ◌≤ℤ◌, ◌<ℤ◌, arith, Bool, true, false, List, [], ◌∷◌, ◌++◌, length, get_or}
use Rattle.std.specs.Prelude.{if◌then◌else◌, int_lt, int_le, filter}
use Rattle.std.specs.Int.{div_ceil}
use Rattle.std.specs.List.{flat_map, AllByRecursion}
use Rattle.std.specs.Ordering.{int_eq}
use Rattle.std.proofs.lemmas.Bool.Decides.{Decides-int_eq}
use Rattle.std.proofs.lemmas.Int.{ints, clamps}
use Rattle.fill_base.specs.Counts.{span_len}
use Rattle.fill_raster.specs.Axes.{first, past, extent}
use Rattle.fill_raster.specs.Lattice.{Lattice}
use Rattle.fill_raster.specs.declared.axis.Axis.{Axis}
use Rattle.fill_raster.proofs.Bands.{starts_below}
use Rattle.fill_raster.proofs.Ranges.{first_past}
use Rattle.fill_stacks.specs.Counting.{AreRising, counted_row, heights_at, levels_at, rows_above, rows_below}
use Rattle.fill_stacks.specs.Laws.{numbers_in}
use Rattle.fill_stacks.specs.Places.{PlaceSet, places_along, filled_columns, row_pieces}
use Rattle.fill_stacks.specs.Runs.{Run, run, runs, joined, piece, pieces, numbers_from}
use Rattle.fill_stacks.specs.declared.pieces.Counted.{Counted}
use Rattle.fill_stacks.proofs.Lists.{all_filter, all_flat_by, all_range}
use Rattle.fill_stacks.proofs.PieceLaws.{each_once}
use Rattle.fill_stacks.proofs.Stacking.{flat_flat}

-- ---- parts of a row

-- from one number on and below another
record IsBetween (lo hi z : ℤ) : Type 0 where
  from : lo ≤ℤ z
  to : z <ℤ hi

-- a run of such numbers
record IsRunBetween (lo hi : ℤ) (r : Run) : Type 0 where
  from : lo ≤ℤ r.start
  to : (r.start +ℤ pos r.count) ≤ℤ hi
  some : 0 < r.count

numbers_between : (lo hi z : ℤ) (n : ℕ) → lo ≤ℤ z → (z +ℤ pos n) ≤ℤ hi → AllByRecursion (IsBetween lo hi) (numbers_from z n)
numbers_between lo hi z zero low high = tt
numbers_between lo hi z (suc n) low high = (record { from = low; to = omega (arith, ints, clamps) }, numbers_between lo hi (z +ℤ pos 1) n (omega (arith, ints, clamps)) (omega (arith, ints, clamps)))

along_between : (a : Axis) → AllByRecursion (IsBetween (first a) (past a)) (places_along a)
along_between a = numbers_between (first a) (past a) (first a) (extent a) (self (first a)) (whole (first a) (past a) (first_past a))
  where
    self : (z : ℤ) → z ≤ℤ z
    self z = omega (arith, ints, clamps)

    whole : (f p : ℤ) → f ≤ℤ p → (f +ℤ pos (span_len f p)) ≤ℤ p
    whole f p h = omega (arith, ints, clamps)

joined_between : (lo hi z : ℤ) (rs : List Run) → IsBetween lo hi z → AllByRecursion (IsRunBetween lo hi) rs → AllByRecursion (IsRunBetween lo hi) (joined z rs)
joined_between lo hi z rs is all = by rs all
  where
    one : IsRunBetween lo hi (run z 1)
    one = record { from = is.from; to = next z hi is.to; some = omega arith }
      where
        next : (z hi : ℤ) → z <ℤ hi → (z +ℤ pos 1) ≤ℤ hi
        next z hi lt = omega (arith, ints, clamps)

    longer : (z s hi : ℤ) (n : ℕ) → s ≡ z +ℤ pos 1 → (s +ℤ pos n) ≤ℤ hi → (z +ℤ pos (suc n)) ≤ℤ hi
    longer z s hi n e h = omega (arith, ints, clamps)

    by : (rs : List Run) → AllByRecursion (IsRunBetween lo hi) rs → AllByRecursion (IsRunBetween lo hi) (joined z rs)
    by [] all = (one, tt)
    by (r ∷ rs) all = on (int_eq r.start (z +ℤ pos 1)) refl
      where
        on : (b : Bool) → int_eq r.start (z +ℤ pos 1) ≡ b → AllByRecursion (IsRunBetween lo hi) (if b then run z (suc r.count) ∷ rs else run z 1 ∷ r ∷ rs)
        on true e = (record { from = is.from; to = longer z r.start hi r.count ((Decides-int_eq r.start (z +ℤ pos 1)).0 e) all.0.to; some = omega arith }, all.1)
        on false e = (one, all)

runs_between : (lo hi : ℤ) (zs : List ℤ) → AllByRecursion (IsBetween lo hi) zs → AllByRecursion (IsRunBetween lo hi) (runs zs)
runs_between lo hi [] all = tt
runs_between lo hi (z ∷ zs) all = joined_between lo hi z (runs zs) all.0 (runs_between lo hi zs all.1)

-- a piece of such a run
pub record IsPieceOf (lo hi : ℤ) (p : Run) : Type 0 where
  pub from : lo ≤ℤ p.start
  pub to : (p.start +ℤ pos p.count) ≤ℤ hi
  pub some : 0 < p.count
  pub few : p.count ≤ 32767

run_pieces : (lo hi : ℤ) (n : Run) → IsRunBetween lo hi n → AllByRecursion (IsPieceOf lo hi) (pieces n)
run_pieces lo hi n is = all_range (IsPieceOf lo hi) (piece n) 0 (div_ceil n.count 32767) (λ k lt. each k (starts_below n.count 32767 k (omega arith) (omega (arith, lt))))
  where
    later : (f i : ℤ) (d : ℕ) → f ≤ℤ i → f ≤ℤ (i +ℤ pos d)
    later f i d h = omega (arith, ints, clamps)

    within : (i p : ℤ) (n d : ℕ) → (i +ℤ pos n) ≤ℤ p → d < n → ((i +ℤ pos d) +ℤ pos (min (n - d) 32767)) ≤ℤ p
    within i p n d h lt = omega (arith, ints, clamps)

    left : (n d : ℕ) → d < n → 0 < min (n - d) 32767
    left n d lt = omega arith

    most : (n : ℕ) → min n 32767 ≤ 32767
    most n = omega arith

    each : (k : ℕ) → k * 32767 < n.count → IsPieceOf lo hi (piece n k)
    each k below = record {
      from = later lo n.start (k * 32767) is.from;
      to = within n.start hi n.count (k * 32767) is.to below;
      some = left n.count (k * 32767) below;
      few = most (n.count - k * 32767);
    }

pub pieces_between : (filled : PlaceSet) (r : Lattice) (j : ℤ) → AllByRecursion (IsPieceOf (first r.across) (past r.across)) (row_pieces filled r j)
pieces_between filled r j =
    all_flat_by (IsRunBetween (first r.across) (past r.across)) (IsPieceOf (first r.across) (past r.across)) pieces (runs (filled_columns filled r j))
    (runs_between _ _ (filled_columns filled r j) (all_filter _ (λ i. filled i j) (places_along r.across) (along_between r.across))) (run_pieces (first r.across) (past r.across))

-- ---- from left to right

abbrev Rising : ℤ → List ℤ → Type 0
Rising lo [] = Unit {0}
Rising lo (z ∷ zs) = (lo ≤ℤ z) × Rising (z +ℤ pos 1) zs

chain : (a b c : ℤ) → a ≤ℤ b → b ≤ℤ c → a ≤ℤ c
chain a b c h k = omega (arith, ints, clamps)

next : (a b : ℤ) → a ≤ℤ b → a ≤ℤ (b +ℤ pos 1)
next a b h = omega (arith, ints, clamps)

self : (a : ℤ) → a ≤ℤ a
self a = omega (arith, ints, clamps)

lower : (a b : ℤ) (zs : List ℤ) → a ≤ℤ b → Rising b zs → Rising a zs
lower a b [] le h = tt
lower a b (z ∷ zs) le h = (chain a b z le h.0, h.1)

behind : (lo : ℤ) (xs ys : List ℤ) → Rising lo (xs ++ ys) → Rising lo ys
behind lo [] ys h = h
behind lo (x ∷ xs) ys h = lower lo (x +ℤ pos 1) ys (next lo x h.0) (behind (x +ℤ pos 1) xs ys h.1)

filter_rising : (p : ℤ → Bool) (z : ℤ) (n : ℕ) → Rising z (filter p (numbers_from z n))
filter_rising p z zero = tt
filter_rising p z (suc n) = by (p z) (filter_rising p (z +ℤ pos 1) n)
  where
    by : (b : Bool) → Rising (z +ℤ pos 1) (filter p (numbers_from (z +ℤ pos 1) n)) → Rising z (if b then z ∷ filter p (numbers_from (z +ℤ pos 1) n) else filter p (numbers_from (z +ℤ pos 1) n))
    by true later = (self z, later)
    by false later = lower z (z +ℤ pos 1) (filter p (numbers_from (z +ℤ pos 1) n)) (next z z (self z)) later

abbrev StartsRise : ℤ → List Run → Type 0
StartsRise lo [] = Unit {0}
StartsRise lo (p ∷ ps) = (lo ≤ℤ p.start) × StartsRise (p.start +ℤ pos 1) ps

starts_rise : (lo hi b : ℤ) (ps : List Run) → AllByRecursion (IsPieceOf lo hi) ps → Rising b (flat_map numbers_in ps) → StartsRise b ps
starts_rise lo hi b [] all h = tt
starts_rise lo hi b (p ∷ ps) all h = by p.count all.0.some h (starts_rise lo hi (p.start +ℤ pos 1) ps all.1)
  where
    by : (n : ℕ) → 0 < n → Rising b (numbers_from p.start n ++ flat_map numbers_in ps) → (Rising (p.start +ℤ pos 1) (flat_map numbers_in ps) → StartsRise (p.start +ℤ pos 1) ps)
        → (b ≤ℤ p.start) × StartsRise (p.start +ℤ pos 1) ps
    by zero lt h later = absurd (omega (arith, lt))
    by (suc n) lt h later = (h.0, later (behind (p.start +ℤ pos 1) (numbers_from (p.start +ℤ pos 1) n) (flat_map numbers_in ps) h.1))

least : (b : ℤ) (f : Run → ℕ) (ps : List Run) (k : ℕ) (d : Counted) → StartsRise b ps → k < length (counted_row f ps) → b ≤ℤ (get_or (counted_row f ps) k d).piece.start
least b f [] k d h lt = absurd (omega (arith, lt))
least b f (p ∷ ps) zero d h lt = h.0
least b f (p ∷ ps) (suc k) d h lt = chain b (p.start +ℤ pos 1) _ (next b p.start h.0) (least (p.start +ℤ pos 1) f ps k d h.1 (omega (arith, lt)))

rises : (b : ℤ) (f : Run → ℕ) (ps : List Run) → StartsRise b ps → AreRising (counted_row f ps)
rises b f [] h k l d lt below = absurd (omega (arith, below))
rises b f (p ∷ ps) h k zero d lt below = absurd (omega (arith, lt))
rises b f (p ∷ ps) h zero (suc l) d lt below = after p.start _ (least (p.start +ℤ pos 1) f ps l d h.1 (omega (arith, below)))
  where
    after : (x y : ℤ) → (x +ℤ pos 1) ≤ℤ y → x <ℤ y
    after x y h = omega (arith, ints, clamps)
rises b f (p ∷ ps) h (suc k) (suc l) d lt below = rises (p.start +ℤ pos 1) f ps h.1 k l d (omega (arith, lt)) (omega (arith, below))

rows_rise : (filled : PlaceSet) (r : Lattice) (j : ℤ) (f : Run → ℕ) → AreRising (counted_row f (row_pieces filled r j))
rows_rise filled r j f =
    rises (first r.across) f (row_pieces filled r j)
    (starts_rise (first r.across) (past r.across) (first r.across) (row_pieces filled r j) (pieces_between filled r j)
    (subst (Rising (first r.across)) (sym (flat_flat numbers_in pieces (runs (filled_columns filled r j)) ∙ each_once (filled_columns filled r j))) (filter_rising (λ i. filled i j) (first r.across) (extent r.across))))

no_rows : AreRising []
no_rows k l d lt below = absurd (omega (arith, below))

pub heights_rise : (filled : PlaceSet) (r : Lattice) (j : ℤ) → AreRising (heights_at filled r j)
heights_rise filled r j = by (int_lt j (past r.up))
  where
    by : (b : Bool) → AreRising (if b then counted_row (rows_above filled r j) (row_pieces filled r j) else [])
    by true = rows_rise filled r j (rows_above filled r j)
    by false = no_rows

pub levels_rise : (filled : PlaceSet) (r : Lattice) (j : ℤ) → AreRising (levels_at filled r j)
levels_rise filled r j = by (int_le (first r.up) j)
  where
    by : (b : Bool) → AreRising (if b then counted_row (rows_below filled r j) (row_pieces filled r j) else [])
    by true = rows_rise filled r j (rows_below filled r j)
    by false = no_rows
