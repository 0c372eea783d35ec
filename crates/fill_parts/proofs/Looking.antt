-- The rows that a part has as a smaller chip.
use Rattle.std.proofs.Common.{◌≡◌, refl, sym, subst, ◌∙◌, ℕ, zero, suc, ◌+◌, ◌-◌, ◌≤◌, ◌<◌, ◌==◌, inl, inr, ◌⊎◌, ℤ, pos, ◌+ℤ◌, ◌≤ℤ◌, ◌<ℤ◌, arith, Bool, true, false, ◌&&◌, ◌||◌, min}
use Rattle.std.specs.Prelude.{int_le, int_lt, nat_le, nat_lt, if◌then◌else◌}
use Rattle.std.specs.Int.{int_max, int_min}
use Rattle.std.proofs.lemmas.Bool.{and_from, and_parts, cases_Bool, cases_lt, eq-eqb, false_from_ne_true}
use Rattle.std.proofs.lemmas.Bool.Decides.{nat_tests}
use Rattle.std.proofs.lemmas.Int.{ints, clamps}
use Rattle.fill_area.specs.Axes as areas
use Rattle.fill_area.specs.Axes.{axis_begin, axis_end}
use Rattle.fill_area.specs.Grid.{window_bottom, window_top}
use Rattle.fill_area.specs.declared.axis.Axis as spans
use Rattle.fill_raster.specs.Axes.{IsAxis, bands, band_begin, band_end}
use Rattle.fill_raster.specs.Lattice.{in_raster, tile_of, tiles}
use Rattle.fill_raster.specs.declared.axis.Axis.{Axis}
use Rattle.fill_raster.proofs.Blocks.{tile_parts}
use Rattle.fill_text.specs.Rules.{Values, whole_windows, windows_with}
use Rattle.fill_job.specs.Plans.{Plan, WindowSet, drawn_squares, holds_box, in_window_of, low_windows, plan_of}
use Rattle.fill_job.specs.Searches.{some_below, some_pair}
use Rattle.fill_job.proofs.Searching.{some_below_finds, some_below_has}
use Rattle.fill_core.specs.Boxes.{low_fill}
use Rattle.fill_parts.specs.Cuts.{Part}
use Rattle.fill_parts.specs.Laws.{PartIsASmallerChip, PartOfNoWindowHasNothing}
use Rattle.fill_parts.specs.Needs.{has_tile, has_windows, is_level, row_of}
use Rattle.fill_parts.specs.PartChip.{looks_at, part_tiles, part_windows}
use Rattle.fill_parts.specs.PartFill.{part_fill}
use Rattle.fill_parts.specs.PartRows.{begins_by, chip_tiles, ends_from, first_of, first_tiles, is_tile_row_level, is_window_row_level, needed_tiles, needs_row, own_rows, past_of, past_tiles}
use Rattle.fill_parts.specs.Smaller.{AreAxes, AreRowsOf, AreSome, IsHeldBy, Rows, bands_alone}
use Rattle.fill_parts.proofs.Cutting.{row_of_is}
use Rattle.fill_parts.proofs.Leveling.{level_holding, place_tile}
use Rattle.fill_parts.proofs.RulesAlone.{rises}
use Rattle.fill_parts.proofs.TileRows.{band_begin_le, band_end_le}

-- ---- the least and the greatest number that passes

pub true_or : (a b : Bool) → a ≡ true → a || b ≡ true
true_or true b h = refl
true_or false b h = absurd (let e : false ≡ true = h in cc)

pub or_second : (a b : Bool) → b ≡ true → a || b ≡ true
or_second true b h = refl
or_second false b h = h

pub first_before : (p : ℕ → Bool) (n k : ℕ) → k < n → p k ≡ true → first_of p n ≤ k
unfolding first_of
first_before p zero k lt holds = absurd (omega (arith, lt))
first_before p (suc n) k lt holds = elim (cases_Bool (some_below p n)) [
  | inl some ↦ elim (cases_lt k n) [
    | inl less ↦ rw some (first_before p n k less holds)
    | inr at ↦ rw some (let found = some_below_finds p n some in
        let here = first_before p n found.0 found.1 found.2 in
        let below = found.1 in omega (arith, here, below, at))
  ]
  | inr none ↦ elim (cases_lt k n) [
    | inl less ↦ absurd (let e : false ≡ true = sym none ∙ some_below_has p n k less holds in cc)
    | inr at ↦ (let same : k ≡ n = omega (arith, at, lt) in let passes : p n ≡ true = subst (λ m. p m ≡ true) same holds in rw (none, passes) at)
  ]
]

-- the first is past all, or it passes
pub first_passes : (p : ℕ → Bool) (n : ℕ) → (first_of p n ≡ n) ⊎ ((first_of p n < n) × (p (first_of p n) ≡ true))
unfolding first_of
first_passes p zero = inl refl
first_passes p (suc n) = elim (cases_Bool (some_below p n)) [
  | inl some ↦ rw some (inr (elim (first_passes p n) [
    | inl all ↦ absurd (let found = some_below_finds p n some in let here = first_before p n found.0 found.1 found.2 in let below = found.1 in omega (arith, all, here, below))
    | inr passes ↦ ((let lt = passes.0 in omega (arith, lt)), passes.1)
  ]))
  | inr none ↦ elim (cases_Bool (p n)) [
    | inl passes ↦ rw (none, passes) (inr ((omega arith), passes))
    | inr fails ↦ rw (none, fails) (inl refl)
  ]
]

pub past_behind : (p : ℕ → Bool) (n k : ℕ) → k < n → p k ≡ true → k < past_of p n
unfolding past_of
past_behind p zero k lt holds = absurd (omega (arith, lt))
past_behind p (suc n) k lt holds = elim (cases_Bool (p n)) [
  | inl passes ↦ rw passes lt
  | inr fails ↦ rw fails (elim (cases_lt k n) [
    | inl less ↦ past_behind p n k less holds
    | inr at ↦ absurd (let same : k ≡ n = omega (arith, at, lt) in let e : false ≡ true = sym fails ∙ subst (λ m. p m ≡ true) same holds in cc)
  ])
]

pub past_within : (p : ℕ → Bool) (n : ℕ) → past_of p n ≤ n
unfolding past_of
past_within p zero = omega arith
past_within p (suc n) = elim (cases_Bool (p n)) [
  | inl passes ↦ rw passes (omega arith)
  | inr fails ↦ rw fails (let h = past_within p n in omega (arith, h))
]

-- the one before the last is 0 where none passes, or it passes
pub past_passes : (p : ℕ → Bool) (n : ℕ) → (past_of p n ≡ 0) ⊎ ((0 < past_of p n) × (p (past_of p n - 1) ≡ true))
unfolding past_of
past_passes p zero = inl refl
past_passes p (suc n) = elim (cases_Bool (p n)) [
  | inl passes ↦ (let back : suc n - 1 ≡ n = omega arith in let last : p (suc n - 1) ≡ true = subst (λ m. p m ≡ true) (sym back) passes in rw passes (inr ((omega arith), last)))
  | inr fails ↦ rw fails (past_passes p n)
]

-- ---- tests

pub le_is : (a b : ℕ) → nat_le a b ≡ true → a ≤ b
le_is a b h = grind (arith, nat_tests)

pub lt_holds : (a b : ℕ) → a < b → nat_lt a b ≡ true
lt_holds a b h = grind (arith, nat_tests)

pub true_le : (a b : ℤ) → int_le a b ≡ true → a ≤ℤ b
true_le a b h = grind (arith, ints)

pub true_lt : (a b : ℤ) → int_lt a b ≡ true → a <ℤ b
true_lt a b h = grind (arith, ints)

pub lt_true : (a b : ℤ) → a <ℤ b → int_lt a b ≡ true
lt_true a b h = grind (arith, ints)

le_lt : (a b c : ℤ) → a ≤ℤ b → b <ℤ c → a <ℤ c
le_lt a b c h k = omega (arith, ints)

lt_le : (a b c : ℤ) → a <ℤ b → b ≤ℤ c → a <ℤ c
lt_le a b c h k = omega (arith, ints)

-- ---- level with one of some rows, and so with these

axis_end_le : (s : spans.Axis) (m n : ℕ) → pos 1 ≤ℤ s.step → m ≤ n → axis_end s m ≤ℤ axis_end s n
axis_end_le s m n one le = on (axis_begin s m) (axis_begin s n) s.length (rises s m n one le)
  where
    on : (x y l : ℤ) → x ≤ℤ y → (x +ℤ l) ≤ℤ (y +ℤ l)
    on x y l h = omega (arith, ints)

before_last : (b to : ℕ) → b < to → b ≤ to - 1
before_last b to lt = omega (arith, lt)

pub tile_row_level : (a : Axis) (s : spans.Axis) (rows : Rows) (t b : ℕ) → areas.IsAxis s → rows.from ≤ b → b < rows.to → axis_begin s b <ℤ band_end a t → band_begin a t <ℤ axis_end s b → is_tile_row_level a s rows t ≡ true
tile_row_level a s rows t b is from to above below =
    and_from _ _ (lt_holds _ _ (some rows.from rows.to b from to))
    (and_from _ _ (lt_true _ _ (le_lt _ _ _ (rises s rows.from b is.step_is.least from) above)) (lt_true _ _ (lt_le _ _ _ below (axis_end_le s b (rows.to - 1) is.step_is.least (before_last b rows.to to)))))
  where
    some : (f t b : ℕ) → f ≤ b → b < t → f < t
    some f t b h k = omega (arith, h, k)

pub window_row_level : (a : Axis) (s : spans.Axis) (rows : Rows) (t b : ℕ) → IsAxis a → rows.from ≤ t → t < rows.to → axis_begin s b <ℤ band_end a t → band_begin a t <ℤ axis_end s b → is_window_row_level a s rows b ≡ true
window_row_level a s rows t b is from to above below =
    and_from _ _ (lt_holds _ _ (some rows.from rows.to t from to))
    (and_from _ _ (lt_true _ _ (lt_le _ _ _ above (band_end_le a t (rows.to - 1) is (before_last t rows.to to)))) (lt_true _ _ (le_lt _ _ _ (band_begin_le a rows.from t is from) below)))
  where
    some : (f t b : ℕ) → f ≤ b → b < t → f < t
    some f t b h k = omega (arith, h, k)

-- ---- the rows of tiles of the chip

-- the first one is no higher than the first that is needed, and is the lowest or begins no higher than the frame has to
record IsFirst (i : Bool) (k : Part) (a : Axis) (s : spans.Axis) (t : ℕ) : Type 0 where
  below : t ≤ (needed_tiles k a s).from
  begins : (t ≡ 0) ⊎ (band_begin a t ≤ℤ begins_by i k a s)

is_first : (i : Bool) (k : Part) (a : Axis) (s : spans.Axis) → IsFirst i k a s (first_tiles i k a s)
is_first i k a s = elim (past_passes (λ t. nat_le t (needed_tiles k a s).from && int_le (band_begin a t) (begins_by i k a s)) (bands a)) [
  | inl none ↦ (let e : first_tiles i k a s ≡ 0 = before _ none in record { below = none_below (first_tiles i k a s) _ e; begins = inl e })
  | inr some ↦ (let parts = and_parts _ _ some.1 in record { below = le_is _ _ parts.0; begins = inr (true_le _ _ parts.1) })
]
  where
    before : (n : ℕ) → n ≡ 0 → n - 1 ≡ 0
    before n e = omega (arith, e)

    none_below : (t n : ℕ) → t ≡ 0 → t ≤ n
    none_below t n e = omega (arith, e)

first_few : (i : Bool) (k : Part) (a : Axis) (s : spans.Axis) → 0 < bands a → first_tiles i k a s < bands a
first_few i k a s some = less (past_of (λ t. nat_le t (needed_tiles k a s).from && int_le (band_begin a t) (begins_by i k a s)) (bands a)) (bands a) (past_within _ (bands a)) some
  where
    less : (p n : ℕ) → p ≤ n → 0 < n → p - 1 < n
    less p n h k = omega (arith, h, k)

-- the one past the last lies behind all that are needed and behind the first one, and is past all or the last ends no lower than the frame has to
pub record IsPast (i : Bool) (k : Part) (a : Axis) (s : spans.Axis) (t : ℕ) : Type 0 where
  pub needed : (needed_tiles k a s).to ≤ t
  pub some : first_tiles i k a s < t
  pub most : t ≤ bands a
  pub ends : (t ≡ bands a) ⊎ (ends_from i k a s ≤ℤ band_end a (t - 1))

pub is_past : (i : Bool) (k : Part) (a : Axis) (s : spans.Axis) → 0 < bands a → IsPast i k a s (past_tiles i k a s)
is_past i k a s some = elim (first_passes q (bands a)) [
  | inl all ↦ (let e : past_tiles i k a s ≡ bands a = whole (first_of q (bands a)) (bands a) all in rw e (record {
    needed = past_within (needs_row k a s) (bands a);
    some = first_few i k a s some;
    most = same (bands a);
    ends = inl refl;
  }))
  | inr found ↦ (let e : past_tiles i k a s ≡ first_of q (bands a) + 1 = next (first_of q (bands a)) (bands a) found.0 in
      let parts = and_parts _ _ found.1 in let rows = and_parts _ _ parts.0 in
      let back : first_of q (bands a) + 1 - 1 ≡ first_of q (bands a) = again (first_of q (bands a)) in
      rw e (record {
        needed = le_is _ _ rows.0;
        some = later _ _ (le_is _ _ rows.1);
        most = up _ _ found.0;
        ends = inr (rw back (true_le _ _ parts.1));
      }))
]
  where
    q : ℕ → Bool
    q t = (nat_le (needed_tiles k a s).to (t + 1) && nat_le (first_tiles i k a s) t) && int_le (ends_from i k a s) (band_end a t)

    same : (n : ℕ) → n ≤ n
    same n = omega arith

    whole : (f n : ℕ) → f ≡ n → min n (f + 1) ≡ n
    whole f n e = omega (arith, e)

    next : (f n : ℕ) → f < n → min n (f + 1) ≡ f + 1
    next f n lt = omega (arith, lt)

    again : (f : ℕ) → f + 1 - 1 ≡ f
    again f = omega arith

    later : (t f : ℕ) → t ≤ f → t < f + 1
    later t f h = omega (arith, h)

    up : (f n : ℕ) → f < n → f + 1 ≤ n
    up f n h = omega (arith, h)

-- the rows of tiles are some, or there are none at all
pub chip_rows_are : (i : Bool) (k : Part) (a : Axis) (s : spans.Axis) → AreRowsOf (chip_tiles i k a s) (bands a)
chip_rows_are i k a s = elim (cases_lt 0 (bands a)) [
  | inl some ↦ (let past = is_past i k a s some in inl (record { some = past.some; within = past.most }))
  | inr none ↦ (let all = zero (bands a) none in inr (first_none _ (bands a) (past_within _ (bands a)) all, past_none (bands a) _ all, all))
]
  where
    zero : (n : ℕ) → n ≤ 0 → n ≡ 0
    zero n h = omega (arith, h)

    first_none : (p n : ℕ) → p ≤ n → n ≡ 0 → p - 1 ≡ 0
    first_none p n h e = omega (arith, h, e)

    past_none : (n m : ℕ) → n ≡ 0 → min n m ≡ 0
    past_none n m e = omega (arith, e)

-- where there is a row, they are some
pub some_rows : (rows : Rows) (n : ℕ) → AreRowsOf rows n → 0 < n → AreSome rows n
some_rows rows n are some = elim are [
  | inl is ↦ is
  | inr none ↦ absurd (let e = none.2 in omega (arith, e, some))
]

-- ---- a part's rows

-- the edges of the frame of some bands
begins_below : (a : Axis) (s : ℕ) (z : ℤ) → a.low ≤ℤ z → (s ≡ 0) ⊎ (band_begin a s ≤ℤ z) → (if s == 0 then a.low else band_begin a s) ≤ℤ z
begins_below a s z low begins = elim (cases_Bool (s == 0)) [
  | inl none ↦ rw none low
  | inr some ↦ rw some (elim begins [
    | inl none ↦ absurd (let e : false ≡ true = sym some ∙ eq-eqb s 0 none in cc)
    | inr le ↦ le
  ])
]

ends_above : (a : Axis) (m n : ℕ) (z : ℤ) → z ≤ℤ a.high → (m ≡ n) ⊎ (z ≤ℤ band_end a (m - 1)) → z ≤ℤ (if m == n then a.high else band_end a (m - 1))
ends_above a m n z high ends = elim (cases_Bool (m == n)) [
  | inl all ↦ rw all high
  | inr some ↦ rw some (elim ends [
    | inl all ↦ absurd (let e : false ≡ true = sym some ∙ eq-eqb m n all in cc)
    | inr le ↦ le
  ])
]

-- a low window that holds the box of a place
record HoldsBox (plan : Plan) (low : WindowSet) (i j : ℤ) : Type 0 where
  column : ℕ
  row : ℕ
  left : column < plan.windows.across.count
  below : row < plan.windows.up.count
  holds : holds_box plan column row i j ≡ true

window_found : (plan : Plan) (low : WindowSet) (i j : ℤ) → in_window_of plan low i j ≡ true → HoldsBox plan low i j
unfolding in_window_of some_pair
window_found plan low i j is =
    let column = some_below_finds (λ a. some_below (λ b. low a b && holds_box plan a b i j) plan.windows.up.count) plan.windows.across.count is in
    let row = some_below_finds (λ b. low column.0 b && holds_box plan column.0 b i j) plan.windows.up.count column.2 in
    record { column = column.0; row = row.0; left = column.1; below = row.1; holds = (and_parts (low column.0 row.0) _ row.2).1 }

pub chip_windows : (plan : Plan) (k : Part) (b : ℕ) → b < plan.windows.up.count → looks_at plan k b ≡ true → ((part_windows plan k).from ≤ b) × (b < (part_windows plan k).to)
chip_windows plan k b lt looks = (first_before (looks_at plan k) plan.windows.up.count b lt looks, past_behind (looks_at plan k) plan.windows.up.count b lt looks)

-- a row of tiles that is needed is one of those that are, and of the chip's
needed_row : (plan : Plan) (k : Part) (t : ℕ) → t < bands plan.raster.up → needs_row k plan.raster.up plan.windows.up t ≡ true
    → ((needed_tiles k plan.raster.up plan.windows.up).from ≤ t) × (t < (needed_tiles k plan.raster.up plan.windows.up).to)
needed_row plan k t lt needs = (first_before (needs_row k plan.raster.up plan.windows.up) (bands plan.raster.up) t lt needs, past_behind (needs_row k plan.raster.up plan.windows.up) (bands plan.raster.up) t lt needs)

chip_row : (values : Values) (k : Part) (t : ℕ) → let plan = plan_of values in t < bands plan.raster.up → needs_row k plan.raster.up plan.windows.up t ≡ true → ((part_tiles values k).from ≤ t) × (t < (part_tiles values k).to)
chip_row values k t lt needs =
    let plan = plan_of values in
    let row = needed_row plan k t lt needs in
    let first = is_first values.ignores k plan.raster.up plan.windows.up in
    let past = is_past values.ignores k plan.raster.up plan.windows.up (positive t (bands plan.raster.up) lt) in
    (down _ _ t first.below row.0, behind t _ _ row.1 past.needed)
  where
    positive : (t n : ℕ) → t < n → 0 < n
    positive t n lt = omega (arith, lt)

    down : (f n t : ℕ) → f ≤ n → n ≤ t → f ≤ t
    down f n t h k = omega (arith, h, k)

    behind : (t n p : ℕ) → t < n → n ≤ p → t < p
    behind t n p h k = omega (arith, h, k)

row_below : (plan : Plan) (tile : ℕ) → tile < tiles plan.raster → row_of plan.raster tile < bands plan.raster.up
row_below plan tile lt = (tile_parts plan.raster tile lt).row_below

-- a tile that is level with the part's own windows is of a row that it needs
pub level_needed : (plan : Plan) (k : Part) (tile b : ℕ) → AreAxes plan → has_windows plan k b ≡ true → is_level plan tile b ≡ true → needs_row k plan.raster.up plan.windows.up (row_of plan.raster tile) ≡ true
level_needed plan k tile b are own level =
    let parts = and_parts _ _ level in
    let rows = row_of_is k plan.windows.up.count b own in
    or_second (has_tile plan k tile) _ (tile_row_level plan.raster.up plan.windows.up (own_rows k plan.windows.up.count) (row_of plan.raster tile) b are.windows_up rows.low rows.high (true_lt _ _ parts.0) (true_lt _ _ parts.1))

pub level_looked_at : (plan : Plan) (k : Part) (tile b : ℕ) → AreAxes plan → tile < tiles plan.raster → needs_row k plan.raster.up plan.windows.up (row_of plan.raster tile) ≡ true → is_level plan tile b ≡ true → looks_at plan k b ≡ true
level_looked_at plan k tile b are lt needs level =
    let row = needed_row plan k (row_of plan.raster tile) (row_below plan tile lt) needs in
    let parts = and_parts _ _ level in
    or_second (has_windows plan k b) _ (window_row_level plan.raster.up plan.windows.up (needed_tiles k plan.raster.up plan.windows.up) (row_of plan.raster tile) b are.places_up row.0 row.1 (true_lt _ _ parts.0) (true_lt _ _ parts.1))

pub held_by : (values : Values) (k : Part) (tile : ℕ) → let plan = plan_of values in AreAxes plan → tile < tiles plan.raster → needs_row k plan.raster.up plan.windows.up (row_of plan.raster tile) ≡ true
    → IsHeldBy plan (part_tiles values k) (part_windows plan k) tile
held_by values k tile are lt needed =
    let plan = plan_of values in
    let rows = chip_row values k (row_of plan.raster tile) (row_below plan tile lt) needed in
    record {
      from = rows.0;
      to = rows.1;
      level = λ b below level. chip_windows plan k b below (level_looked_at plan k tile b are lt needed level);
    }

-- ---- the chip of a part

pub part_chip : PartIsASmallerChip
part_chip values k is looks = record {
  rows = chip_rows_are values.ignores k a (plan_of values).windows.up;
  windows = record {
    some = (let w = chip_windows plan k found.0 found.1 found.2 in let from = w.0 in let to = w.1 in omega (arith, from, to));
    within = past_within (looks_at plan k) plan.windows.up.count;
  };
  cover = λ ignored. record {
    below = subst (λ (z : ℤ). (bands_alone a (part_tiles values k)).low ≤ℤ int_max a.low z) (same_bottom values.ignores (part_windows (plan_of values) k).from)
        (begins_below a (part_tiles values k).from _ (low_max a.low _) (subst (λ (z : ℤ). ((part_tiles values k).from ≡ 0) ⊎ (band_begin a (part_tiles values k).from ≤ℤ z)) (begins_at ignored) (is_first values.ignores k a (plan_of values).windows.up).begins));
    above = subst (λ (z : ℤ). int_min a.high z ≤ℤ (bands_alone a (part_tiles values k)).high) (same_top values.ignores ((part_windows (plan_of values) k).to - 1))
        (ends_above a (part_tiles values k).to (bands a) _ (high_min a.high _) (subst (λ (z : ℤ). ((part_tiles values k).to ≡ bands a) ⊎ (z ≤ℤ band_end a ((part_tiles values k).to - 1))) (ends_at ignored) ends));
  };
  held = λ tile lt needs. held_by values k tile is lt needs;
}
  where
    plan : Plan
    plan = plan_of values

    a : Axis
    a = (plan_of values).raster.up

    found : (b : ℕ) × (b < (plan_of values).windows.up.count) × (looks_at (plan_of values) k b ≡ true)
    found = some_below_finds (looks_at (plan_of values) k) (plan_of values).windows.up.count looks

    begins_at : values.ignores ≡ true → begins_by values.ignores k a (plan_of values).windows.up ≡ int_max a.low (axis_begin (plan_of values).windows.up (part_windows (plan_of values) k).from)
    begins_at ignored = at values.ignores ignored
      where
        at : (i : Bool) → i ≡ true → begins_by i k a (plan_of values).windows.up ≡ int_max a.low (axis_begin (plan_of values).windows.up (part_windows (plan_of values) k).from)
        at true e = refl
        at false e = absurd (let f : false ≡ true = e in cc)

    ends_at : values.ignores ≡ true → ends_from values.ignores k a (plan_of values).windows.up ≡ int_min a.high (axis_end (plan_of values).windows.up ((part_windows (plan_of values) k).to - 1))
    ends_at ignored = at values.ignores ignored
      where
        at : (i : Bool) → i ≡ true → ends_from i k a (plan_of values).windows.up ≡ int_min a.high (axis_end (plan_of values).windows.up ((part_windows (plan_of values) k).to - 1))
        at true e = refl
        at false e = absurd (let f : false ≡ true = e in cc)

    ends : ((part_tiles values k).to ≡ bands a) ⊎ (ends_from values.ignores k a (plan_of values).windows.up ≤ℤ band_end a ((part_tiles values k).to - 1))
    ends = elim (chip_rows_are values.ignores k a (plan_of values).windows.up) [
      | inl some ↦ (is_past values.ignores k a (plan_of values).windows.up (some_bands some)).ends
      | inr none ↦ inl (none.1 ∙ sym none.2)
    ]
      where
        some_bands : AreSome (part_tiles values k) (bands a) → 0 < bands a
        some_bands are = let some = are.some in let within = are.within in omega (arith, some, within)

    same_bottom : (i : Bool) (b : ℕ) → window_bottom (windows_with values.numbers i) b ≡ window_bottom (whole_windows values.numbers) b
    same_bottom true b = refl
    same_bottom false b = refl

    same_top : (i : Bool) (b : ℕ) → window_top (windows_with values.numbers i) b ≡ window_top (whole_windows values.numbers) b
    same_top true b = refl
    same_top false b = refl

    low_max : (l z : ℤ) → l ≤ℤ int_max l z
    low_max l z = omega (arith, ints, clamps)

    high_min : (h z : ℤ) → int_min h z ≤ℤ h
    high_min h z = omega (arith, ints, clamps)

-- ---- a part of no window

or_neither : (a b : Bool) → a || b ≡ false → (a ≡ false) × (b ≡ false)
or_neither true b h = absurd (let e : true ≡ false = h in cc)
or_neither false b h = (refl, h)

pub nothing : PartOfNoWindowHasNothing
nothing values k is none = record {
  fill = λ layers i j. false_from_ne_true (part_fill plan layers k i j) (λ filled.
      let parts = and_parts (low_fill plan layers i j) (has_tile plan k (tile_of plan.raster i j)) filled in
      let allowed_low = and_parts _ (in_window_of plan (low_windows plan (drawn_squares layers)) i j) parts.0 in
      let on = (and_parts (in_raster plan.raster i j) _ allowed_low.0).0 in
      let window = window_found plan (low_windows plan (drawn_squares layers)) i j allowed_low.1 in
      let tile = tile_of plan.raster i j in
      let lt = place_tile plan.raster i j is.places_across is.places_up on in
      let level = level_holding plan window.column window.row i j is on window.holds in
      looked window.row window.below (level_looked_at plan k tile window.row is lt (true_or (has_tile plan k tile) _ parts.1) level));
  windows = λ b lt. false_from_ne_true (has_windows plan k b) (λ has. looked b lt (true_or (has_windows plan k b) _ has));
}
  where
    plan : Plan
    plan = plan_of values

    looked : (b : ℕ) → b < plan.windows.up.count → looks_at plan k b ≡ true → ⊥
    looked b lt looks = let e : false ≡ true = sym none ∙ some_below_has (looks_at plan k) plan.windows.up.count b lt looks in cc
