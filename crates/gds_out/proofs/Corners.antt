-- The corners of boxes, as they are reckoned and written.
use Rattle.std.proofs.Common.{◌≡◌, refl, ap, sym, subst, ◌∙◌, ℕ, zero, suc, ◌*◌, ◌≤◌, ◌<◌, le_of_lt, ℤ, pos, negsuc, ◌+ℤ◌, ◌*ℤ◌, ◌≤ℤ◌, ◌<ℤ◌, arith, true, false, ◌&&◌, ◌==◌, w64, FitsSigned, List, [], ◌∷◌, map}
use Rattle.std.specs.List.{All}
use Rattle.std.proofs.lemmas.Int.{ints}
use Rattle.std.proofs.Math.Nat.{mul-le-mul}
use Rattle.fill_base.specs.Coordinates.{lowest, highest}
use Rattle.fill_base.specs.Limits.{IsLength}
use Rattle.fill_base.specs.declared.place.Point.{Point}
use Rattle.fill_base.proofs.Between.{is_between_true}
use Rattle.fill_base.proofs.Signed.{read, read_is, pos_fits}
use Rattle.gds_record.specs.Numbers.{IsStored}
use Rattle.fill_raster.specs.Axes.{IsAxis, box_begin, box_end, first, past, is_on}
use Rattle.fill_raster.specs.Lattice.{Lattice, IsLattice, in_raster}
use Rattle.fill_raster.specs.declared.axis.Axis.{Axis}
use Rattle.fill_raster.proofs.Floors.{one_more}
use Rattle.fill_stacks.specs.declared.pieces.Stack.{Stack}
use Rattle.fill_raster.proofs.Ranges.{on_range}
use Rattle.std.proofs.Math.IntN.{zero-*ℤ}
use Rattle.std.proofs.lemmas.Bool.{and_from}
use Rattle.fill_raster.proofs.Reading.{length_read, box_range, BoxRange}
use Rattle.gds_out.specs.FillText.{coordinates, points_bytes, box_corners, reference_records, array_records, stack_records}
use Rattle.gds_out.specs.steps.Ranges.{at, three_points, IsArray, IsStackOf}

pub all_three : (a b c : Point) → IsStored a → IsStored b → IsStored c → All IsStored (a ∷ b ∷ c ∷ [])
all_three a b c ha hb hc zero d lt = ha
all_three a b c ha hb hc (suc zero) d lt = hb
all_three a b c ha hb hc (suc (suc zero)) d lt = hc
all_three a b c ha hb hc (suc (suc (suc k))) d lt = absurd (omega (arith, lt))

pub all_five : (a b c d e : Point) → IsStored a → IsStored b → IsStored c → IsStored d → IsStored e → All IsStored (a ∷ b ∷ c ∷ d ∷ e ∷ [])
all_five a b c d e ha hb hc hd he zero p lt = ha
all_five a b c d e ha hb hc hd he (suc zero) p lt = hb
all_five a b c d e ha hb hc hd he (suc (suc zero)) p lt = hc
all_five a b c d e ha hb hc hd he (suc (suc (suc zero))) p lt = hd
all_five a b c d e ha hb hc hd he (suc (suc (suc (suc zero)))) p lt = he
all_five a b c d e ha hb hc hd he (suc (suc (suc (suc (suc k))))) p lt = absurd (omega (arith, lt))

stored_fits : (z : ℤ) → negsuc 2147483647 ≤ℤ z → z ≤ℤ pos 2147483647 → FitsSigned w64 z
stored_fits z low high = omega (arith, ints)

pub stored_read : (z : ℤ) → negsuc 2147483647 ≤ℤ z → z ≤ℤ pos 2147483647 → read z ≡ z
stored_read z low high = read_is z (stored_fits z low high)

-- so many steps are fewer than 2^37
steps_near : (n k : ℕ) → n < 65536 → k ≤ 1048576 → n * k ≤ 68719476736
steps_near n k few short = let m = mul-le-mul (le_of_lt few) short in omega (arith, m)

way_fits : (n : ℕ) (s : ℤ) → IsLength s → n < 65536 → FitsSigned w64 (pos n *ℤ s)
way_fits n (pos k) length few =
    let most = length.most in
    let near = steps_near n k few (omega (arith, ints, most)) in
    omega (arith, ints, near)
way_fits n (negsuc k) length few = let least = length.least in absurd (omega (arith, ints, least))

far_fits : (x : ℤ) (n : ℕ) (s : ℤ) → IsLength s → negsuc 2147483647 ≤ℤ x → x ≤ℤ pos 2147483647 → n < 65536 → FitsSigned w64 (x +ℤ (pos n *ℤ s))
far_fits x n (pos k) length low high few =
    let most = length.most in
    let near = steps_near n k few (omega (arith, ints, most)) in
    omega (arith, ints, near, low, high)
far_fits x n (negsuc k) length low high few = let least = length.least in absurd (omega (arith, ints, least))

-- so many steps further, and that it fits
pub far_is : (x s : ℤ) (n : ℕ) (m : ℤ) → IsLength s → negsuc 2147483647 ≤ℤ x → x ≤ℤ pos 2147483647 → n < 65536 → m ≡ pos n
    → (read (read x +ℤ read (read m *ℤ read s)) ≡ x +ℤ (pos n *ℤ s)) × FitsSigned w64 (read x +ℤ read (read m *ℤ read s))
far_is x s n m length low high few m_is =
    let rx = stored_read x low high in
    let count : read m ≡ pos n = ap read m_is ∙ read_is (pos n) (pos_fits n (omega (arith, few))) in
    let rs = length_read s length in
    let far : read (pos n *ℤ s) ≡ pos n *ℤ s = read_is _ (way_fits n s length few) in
    let fits = far_fits x n s length low high few in
    let sum : read (x +ℤ (pos n *ℤ s)) ≡ x +ℤ (pos n *ℤ s) = read_is _ fits in
    (rw (rx, count, rs, far, sum) refl, rw (rx, count, rs, far) fits)

-- the three points of an array, as they are reckoned
pub array_is : (p step : Point) (n k : ℕ) (u v : ℤ) → IsArray p step n k → u ≡ read p.x +ℤ (pos n *ℤ read step.x) → v ≡ read p.y +ℤ (pos k *ℤ read step.y)
    → (p ∷ at (read u) (read p.y) ∷ at (read p.x) (read v) ∷ []) ≡ three_points p step n k
array_is p step n k u v is u_is v_is = rw (right, up, x, y) refl where
  x : read p.x ≡ p.x
  x = stored_read p.x is.corner.left is.corner.right

  y : read p.y ≡ p.y
  y = stored_read p.y is.corner.low is.corner.high

  sum_right : u ≡ p.x +ℤ (pos n *ℤ step.x)
  sum_right = u_is ∙ rw (x, length_read step.x is.wide) refl

  sum_up : v ≡ p.y +ℤ (pos k *ℤ step.y)
  sum_up = v_is ∙ rw (y, length_read step.y is.tall) refl

  right : read u ≡ p.x +ℤ (pos n *ℤ step.x)
  right = ap read sum_right ∙ stored_read (p.x +ℤ (pos n *ℤ step.x)) is.behind.left is.behind.right

  up : read v ≡ p.y +ℤ (pos k *ℤ step.y)
  up = ap read sum_up ∙ stored_read (p.y +ℤ (pos k *ℤ step.y)) is.above.low is.above.high

-- they fit
pub array_fits : (p step : Point) (n k : ℕ) → IsArray p step n k → All IsStored (three_points p step n k)
array_fits p step n k is = all_three _ _ _ is.corner is.behind is.above

-- a place between the least and the greatest is on the axis
pub on_axis : (a : Axis) (i : ℤ) → IsAxis a → first a ≤ℤ i → i <ℤ past a → is_on a i ≡ true
on_axis a i is low high = on_range a i is.step_is.least ∙ is_between_true (first a) (past a) i low high

-- the corner of a box is a coordinate
begin_most : (a : Axis) (i : ℤ) → BoxRange a i → box_begin a i ≤ℤ highest
begin_most a i b = chain (box_begin a i) (box_end a i) highest b.some b.most
  where
    chain : (x y z : ℤ) → x <ℤ y → y ≤ℤ z → x ≤ℤ z
    chain x y z h k = omega (arith, ints)

-- so many steps more
pub steps_more : (z s : ℤ) (k : ℕ) → (z +ℤ pos k) *ℤ s ≡ (z *ℤ s) +ℤ (pos k *ℤ s)
steps_more z s zero =
    let e : z +ℤ pos zero ≡ z = omega (arith, ints) in
    rw (e, zero-*ℤ s) (none (z *ℤ s))
  where
    none : (a : ℤ) → a ≡ a +ℤ pos zero
    none a = omega (arith, ints)
steps_more z s (suc k) =
    let e : z +ℤ pos (suc k) ≡ (z +ℤ pos k) +ℤ pos 1 = omega (arith, ints) in
    let f : pos (suc k) ≡ pos k +ℤ pos 1 = omega (arith, ints) in
    ap (λ m. m *ℤ s) e ∙ (one_more (z +ℤ pos k) s ∙ (rw (steps_more z s k) (regroup (z *ℤ s) (pos k *ℤ s)) ∙ ap (λ m. (z *ℤ s) +ℤ m) (sym (ap (λ m. m *ℤ s) f ∙ one_more (pos k) s))))
  where
    regroup : (a b : ℤ) → (a +ℤ b) +ℤ s ≡ a +ℤ (b +ℤ s)
    regroup a b = omega (arith, ints)

-- behind the last box of a row part is a step from its begin
behind_last : (o i s : ℤ) (k : ℕ) → (o +ℤ (i *ℤ s)) +ℤ (pos (suc k) *ℤ s) ≡ (o +ℤ ((i +ℤ pos k) *ℤ s)) +ℤ s
behind_last o i s k =
    let f : pos (suc k) ≡ pos k +ℤ pos 1 = omega (arith, ints) in
    rw (steps_more i s k) (ap (λ m. (o +ℤ (i *ℤ s)) +ℤ m) (ap (λ m. m *ℤ s) f ∙ one_more (pos k) s) ∙ regroup (i *ℤ s) (pos k *ℤ s))
  where
    regroup : (a b : ℤ) → (o +ℤ a) +ℤ (b +ℤ s) ≡ (o +ℤ (a +ℤ b)) +ℤ s
    regroup a b = omega (arith, ints)

low_stored : (z : ℤ) → lowest ≤ℤ z → negsuc 2147483647 ≤ℤ z
low_stored z h = omega (arith, ints)

high_stored : (z : ℤ) → z ≤ℤ highest → z ≤ℤ pos 2147483647
high_stored z h = omega (arith, ints)

low_more : (z s : ℤ) → lowest ≤ℤ z → IsLength s → negsuc 2147483647 ≤ℤ (z +ℤ s)
low_more z s h is = let a = is.least in omega (arith, ints)

high_more : (z s : ℤ) → z ≤ℤ highest → IsLength s → (z +ℤ s) ≤ℤ pos 2147483647
high_more z s h is = let a = is.most in omega (arith, ints)

-- the boxes of so many places along an axis: where the first begins, and where one behind the last would
record IsSpan (a : Axis) (i : ℤ) (n : ℕ) : Type 0 where
  low : negsuc 2147483647 ≤ℤ box_begin a i
  high : box_begin a i ≤ℤ pos 2147483647
  far_low : negsuc 2147483647 ≤ℤ (box_begin a i +ℤ (pos n *ℤ a.step))
  far_high : (box_begin a i +ℤ (pos n *ℤ a.step)) ≤ℤ pos 2147483647

before : (i : ℤ) (n : ℕ) (p : ℤ) → 0 < n → (i +ℤ pos n) ≤ℤ p → i <ℤ p
before i n p some to = omega (arith, ints)

span_of : (a : Axis) (i : ℤ) (n : ℕ) → IsAxis a → 0 < n → first a ≤ℤ i → (i +ℤ pos n) ≤ℤ past a → IsSpan a i n
span_of a i zero is some low high = absurd (omega (arith, some))
span_of a i (suc k) is some low high =
    let first_on = on_axis a i is low (before i (suc k) (past a) some high) in
    let last_on = on_axis a (i +ℤ pos k) is (last_from (first a) i k low) (last_to i k (past a) high) in
    let x = box_range a i is first_on in
    let l = box_range a (i +ℤ pos k) is last_on in
    let behind = behind_last a.origin i a.step k in
    record {
      low = low_stored _ x.least;
      high = high_stored _ (begin_most a i x);
      far_low = subst (λ z. negsuc 2147483647 ≤ℤ z) (sym behind) (low_more (box_begin a (i +ℤ pos k)) a.step l.least is.step_is);
      far_high = subst (λ z. z ≤ℤ pos 2147483647) (sym behind) (high_more (box_begin a (i +ℤ pos k)) a.step (begin_most a (i +ℤ pos k) l) is.step_is);
    }
  where
    last_from : (f i : ℤ) (k : ℕ) → f ≤ℤ i → f ≤ℤ (i +ℤ pos k)
    last_from f i k from = omega (arith, ints)

    last_to : (i : ℤ) (k : ℕ) (p : ℤ) → (i +ℤ pos (suc k)) ≤ℤ p → (i +ℤ pos k) <ℤ p
    last_to i k p to = omega (arith, ints)

pub stack_array : (r : Lattice) (s : Stack) → IsAxis r.across → IsAxis r.up → IsStackOf r s
    → IsArray (at (box_begin r.across s.column) (box_begin r.up s.row)) (at r.across.step r.up.step) s.columns s.rows
stack_array r s across up is =
    let x = span_of r.across s.column s.columns across is.wide is.left is.right in
    let y = span_of r.up s.row s.rows up is.tall is.low is.high in
    record {
      wide = across.step_is;
      tall = up.step_is;
      corner = record { left = x.low; right = x.high; low = y.low; high = y.high };
      behind = record { left = x.far_low; right = x.far_high; low = y.low; high = y.high };
      above = record { left = x.low; right = x.high; low = y.far_low; high = y.far_high };
    }

-- the first place of a stack is the raster's
pub first_on : (r : Lattice) (s : Stack) → IsLattice r → IsStackOf r s → in_raster r s.column s.row ≡ true
first_on r s is part =
    and_from (is_on r.across s.column) (is_on r.up s.row) (on_axis r.across s.column is.across part.left (before s.column s.columns (past r.across) part.wide part.right))
    (on_axis r.up s.row is.up part.low (before s.row s.rows (past r.up) part.tall part.high))

-- the corner as it's read
pub corner_is : (r : Lattice) (s : Stack) (x y x' y' : ℤ) → IsLattice r → IsStackOf r s → x ≡ x' → x' ≡ box_begin r.across s.column → y ≡ y' → y' ≡ box_begin r.up s.row
    → at (read x) (read y) ≡ at (box_begin r.across s.column) (box_begin r.up s.row)
corner_is r s x y x' y' is part x_is x_at y_is y_at =
    let c = (stack_array r s is.across is.up part).corner in
    let rx : read x ≡ box_begin r.across s.column = ap read (x_is ∙ x_at) ∙ stored_read _ c.left c.right in
    let ry : read y ≡ box_begin r.up s.row = ap read (y_is ∙ y_at) ∙ stored_read _ c.low c.high in
    rw (rx, ry) refl

-- a stack of one box, and of more
pub stack_one : (cell cell' : List ℕ) (r : Lattice) (s : Stack) (p : Point) → ((s.columns == 1) && (s.rows == 1)) ≡ true → cell ≡ cell' → p ≡ at (box_begin r.across s.column) (box_begin r.up s.row)
    → reference_records cell p.x p.y ≡ stack_records cell' r s
stack_one cell cell' r s p one cells is = rw (cells, is, one) refl

pub stack_many : (cell cell' : List ℕ) (r : Lattice) (s : Stack) (p q : Point) → ((s.columns == 1) && (s.rows == 1)) ≡ false → cell ≡ cell' → p ≡ at (box_begin r.across s.column) (box_begin r.up s.row) → q ≡ at r.across.step r.up.step
    → array_records cell s.columns s.rows q.x q.y p.x p.y ≡ stack_records cell' r s
stack_many cell cell' r s p q many cells is step = rw (cells, is, step, many) refl

-- the corners of the one box
pub size_read : (v n : ℤ) → v ≡ n → pos 1 ≤ℤ v → v ≤ℤ pos 1048576 → read v ≡ n
size_read v n is low high = length_read v (record { least = low; most = high }) ∙ is

size_stored : (x y : ℤ) → pos 0 ≤ℤ x → x ≤ℤ pos 1048576 → pos 0 ≤ℤ y → y ≤ℤ pos 1048576 → IsStored (at x y)
size_stored x y a b c d = record { left = omega (arith, ints); right = omega (arith, ints); low = omega (arith, ints); high = omega (arith, ints) }

pub box_stored : (v w : ℤ) → pos 1 ≤ℤ v → v ≤ℤ pos 1048576 → pos 1 ≤ℤ w → w ≤ℤ pos 1048576
    → All IsStored (at (pos 0) (pos 0) ∷ at (pos 0) (read w) ∷ at (read v) (read w) ∷ at (read v) (pos 0) ∷ at (pos 0) (pos 0) ∷ [])
box_stored v w a b c d =
    let x : read v ≡ v = size_read v v refl a b in
    let y : read w ≡ w = size_read w w refl c d in
    let zero_low : pos 0 ≤ℤ pos 0 = omega (arith, ints) in
    let zero_high : pos 0 ≤ℤ pos 1048576 = omega (arith, ints) in
    let v_low : pos 0 ≤ℤ v = omega (arith, ints) in
    let w_low : pos 0 ≤ℤ w = omega (arith, ints) in
    rw (x, y) (all_five _ _ _ _ _ (size_stored _ _ zero_low zero_high zero_low zero_high) (size_stored _ _ zero_low zero_high w_low d) (size_stored _ _ v_low b w_low d)
    (size_stored _ _ v_low b zero_low zero_high) (size_stored _ _ zero_low zero_high zero_low zero_high))

pub box_bytes : (r : Lattice) (v w : ℤ) → read v ≡ r.across.length → read w ≡ r.up.length
    → points_bytes (map coordinates (at (pos 0) (pos 0) ∷ at (pos 0) (read w) ∷ at (read v) (read w) ∷ at (read v) (pos 0) ∷ at (pos 0) (pos 0) ∷ [])) ≡ points_bytes (box_corners r)
box_bytes r v w x y = rw (x, y) refl

pub step_is : (r : Lattice) (v w : ℤ) → v ≡ r.across.step → pos 1 ≤ℤ v → v ≤ℤ pos 1048576 → w ≡ r.up.step → pos 1 ≤ℤ w → w ≤ℤ pos 1048576
    → at (read v) (read w) ≡ at r.across.step r.up.step
step_is r v w v_is a b w_is c d = let x = size_read v r.across.step v_is a b in let y = size_read w r.up.step w_is c d in rw (x, y) refl
