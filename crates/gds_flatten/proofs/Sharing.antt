-- Parts of lists of copies, as stretches of a walk have them.
use Rattle.std.proofs.Common.{◌≡◌, ℕ, zero, suc, ◌+◌, ◌-◌, ◌*◌, ◌<◌, ◌≤◌, ◌⊎◌, inl, inr, List, [], ◌∷◌, ◌++◌, get_or, length, take, drop, map, min, refl, sym, ap, subst, arith, ◌∙◌}
use Rattle.std.specs.Prelude.{slice_get, Some, ◌||◌}
use Rattle.std.specs.Int.{div_ceil}
use Rattle.std.specs.List.{flat_map, range_with_len}
use Rattle.std.specs.Global.{Vec}
use Rattle.std.specs.Vec.{vec_items}
use Rattle.std.proofs.Math.Nat.{mul-le-mul}
use Rattle.std.proofs.lemmas.Bool.{cases_lt}
use Rattle.std.proofs.lemmas.List.{take_all, drop_all, take-append-le, take-append-drop, length-take, drop-take, length-map, length-append, take-map, drop-map}
use Rattle.std.proofs.lemmas.List.Concat.{flat_map_single}
use Rattle.std.proofs.lemmas.List.Elements.{All-take, All-drop}
use Rattle.std.proofs.lemmas.List.Folds.{list_any-append}
use Rattle.std.proofs.lemmas.Grind.{common_steps, flat_map-append, div_ceil_times}
use Rattle.fill_base.specs.declared.rect.Rect.{Rect}
use Rattle.fill_base.specs.Squares.{squares}
use Rattle.fill_region.specs.Squares.{covered}
use Rattle.gds_grammar.specs.Values.{shape_of}
use Rattle.gds_cells.specs.declared.cell.Cell.{Cell}
use Rattle.gds_cells.specs.declared.link.Link.{Link}
use Rattle.gds_cells.specs.declared.placement.Placement.{Placement}
use Rattle.gds_cells.specs.declared.shape.Shape.{Shape}
use Rattle.gds_cells.specs.Shapes.{StaysInRange}
use Rattle.gds_cells.specs.Copies.{Copy, own_copy, carry_copy, copies, AllStayInRange}
use Rattle.gds_cells.specs.steps.Walks.{shapes_in, hierarchy, shape_copies, single_copies, link_copies, part, IsDrawn}
use Rattle.gds_cells.specs.steps.Counting.{IsCapped}
use Rattle.gds_flatten.proofs.Drawing.{all_copies, drawn_more, nothing_drawn, range_more, list_more, first_leaves, next_leaves, whole_flat}

-- ---- parts of lists

pub part_before : {X : Type 0} (f t : ℕ) (xs : List X) → length xs ≤ f → part f t xs ≡ []
part_before f t xs h = drop_all f (take t xs) (let e = length-take t xs in omega (arith, e, h))

part_none : {X : Type 0} (f : ℕ) (xs : List X) → part f 0 xs ≡ []
part_none f xs = drop_all f (take 0 xs) (omega arith)

same_part : {X : Type 0} (a b c d : ℕ) (xs : List X) → a ≡ c → b ≡ d → part a b xs ≡ part c d xs
same_part a b c d xs e g = ap (λ n. part n b xs) e ∙ ap (λ n. part c n xs) g

-- a part of two lists is the part of the first, and that of the second behind it
pub part_joins : {X : Type 0} (f t : ℕ) (xs ys : List X) → part f t (xs ++ ys) ≡ part f t xs ++ part (f - length xs) (t - length xs) ys
part_joins f zero xs ys =
    part_none f (xs ++ ys)
    ∙ sym (ap (λ zs. part f 0 xs ++ zs) (same_part (f - length xs) (0 - length xs) (f - length xs) 0 ys refl (omega arith))
    ∙ (ap (λ zs. zs ++ part (f - length xs) 0 ys) (part_none f xs) ∙ part_none (f - length xs) ys))
part_joins f (suc t) [] ys =
    sym (ap (λ zs. zs ++ part (f - 0) (suc t - 0) ys) (part_none f []) ∙ same_part (f - 0) (suc t - 0) f (suc t) ys (omega arith) (omega arith))
part_joins zero (suc t) (x ∷ xs) ys =
    ap (λ zs. x ∷ zs) (part_joins zero t xs ys
    ∙ ap (λ zs. part 0 t xs ++ zs) (same_part (0 - length xs) (t - length xs) (0 - suc (length xs)) (suc t - suc (length xs)) ys (omega arith) (omega arith)))
part_joins (suc f) (suc t) (x ∷ xs) ys =
    part_joins f t xs ys
    ∙ ap (λ zs. part f t xs ++ zs) (same_part (f - length xs) (t - length xs) (suc f - suc (length xs)) (suc t - suc (length xs)) ys (omega arith) (omega arith))

pub part_front : {X : Type 0} (f t : ℕ) (xs ys : List X) → t ≤ length xs → part f t (xs ++ ys) ≡ part f t xs
part_front f t xs ys h = ap (drop f) (take-append-le t xs ys h)

-- a part, as a slice of what there is of it
pub part_taken : {X : Type 0} (f t s e : ℕ) (xs : List X) → e ≡ min t (length xs) → s ≡ min f e → take (e - s) (drop s xs) ≡ part f t xs
part_taken f t s e xs e_is s_is =
    sym (drop-take s (e - s) xs) ∙ (ap (λ n. drop s (take n xs)) joined ∙ (ap (drop s) (ends (cases_lt t (length xs))) ∙ begins (cases_lt f e)))
  where
    joined : s + (e - s) ≡ e
    joined = omega (arith, e_is, s_is)

    long : length (take t xs) ≡ e
    long = length-take t xs ∙ sym e_is

    ends : ((t < length xs) ⊎ (length xs ≤ t)) → take e xs ≡ take t xs
    ends (inl h) = ap (λ n. take n xs) (let same : e ≡ t = omega (arith, e_is, h) in same)
    ends (inr h) = take_all e xs (omega (arith, e_is, h)) ∙ sym (take_all t xs h)

    begins : ((f < e) ⊎ (e ≤ f)) → drop s (take t xs) ≡ drop f (take t xs)
    begins (inl h) = ap (λ n. drop n (take t xs)) (let same : s ≡ f = omega (arith, s_is, h) in same)
    begins (inr h) = drop_all s (take t xs) (omega (arith, long, s_is, h)) ∙ sym (drop_all f (take t xs) (omega (arith, long, h)))

-- a part that ends where the list does
pub part_ends : {X : Type 0} (f t u : ℕ) (xs : List X) → u ≡ min t (length xs) → part f u xs ≡ part f t xs
part_ends f t u xs is = ap (drop f) (ends (cases_lt t (length xs))) where
  ends : ((t < length xs) ⊎ (length xs ≤ t)) → take u xs ≡ take t xs
  ends (inl h) = ap (λ n. take n xs) (let same : u ≡ t = omega (arith, is, h) in same)
  ends (inr h) = take_all u xs (omega (arith, is, h)) ∙ sym (take_all t xs h)

pub part_stays : (f t : ℕ) (cs : List Copy) → AllStayInRange cs → AllStayInRange (part f t cs)
part_stays f t cs all = All-drop (λ (c : Copy). StaysInRange c.placement c.element) f (take t cs) (All-take (λ (c : Copy). StaysInRange c.placement c.element) t cs all)

-- ---- a cell's own shapes

module _ (at : Placement) where
  abbrev carried_shape : Shape → Copy
  carried_shape s = carry_copy at (own_copy (shape_of s.element.now))

  -- each shape is one copy
  pub own_long : (shapes : List Shape) → length (flat_map (shape_copies at) shapes) ≡ length shapes
  own_long shapes = ap length (flat_map_single carried_shape shapes) ∙ length-map shapes carried_shape

  pub own_part : (f t : ℕ) (shapes : List Shape) → flat_map (shape_copies at) (part f t shapes) ≡ part f t (flat_map (shape_copies at) shapes)
  own_part f t shapes =
      flat_map_single carried_shape (part f t shapes)
      ∙ sym (ap (part f t) (flat_map_single carried_shape shapes) ∙ (ap (drop f) (take-map carried_shape t shapes) ∙ drop-map carried_shape f (take t shapes)))

-- ---- counts that stop at 4,000,001 count as much of a stretch as all do

pub many : (m n each : ℕ) → IsCapped n each → (m * each ≡ m * n) ⊎ ((4000001 ≤ m * each) × (4000001 ≤ m * n))
many zero n each h = inl (grind (arith, common_steps))
many (suc m) n each h = cases h.exact where
  at_least : (x : ℕ) → 4000001 ≤ x → 4000001 ≤ suc m * x
  at_least x large = grind (arith, common_steps, large)

  cases : ((each ≡ n) ⊎ ((each ≡ 4000001) × (4000001 ≤ n))) → (suc m * each ≡ suc m * n) ⊎ ((4000001 ≤ suc m * each) × (4000001 ≤ suc m * n))
  cases (inl e) = inl (ap (λ x. suc m * x) e)
  cases (inr (full, large)) = inr (at_least each (omega (arith, full)), at_least n large)

times_more : (a b n : ℕ) → a ≤ b → a * n ≤ b * n
times_more a b n more = let same : n ≤ n = omega arith in mul-le-mul more same

less_many : (f a b : ℕ) → f ≤ 4000000 → ((a ≡ b) ⊎ ((4000001 ≤ a) × (4000001 ≤ b))) → f - a ≡ f - b
less_many f a b few (inl e) = ap (λ x. f - x) e
less_many f a b few (inr (large, more)) = omega (arith, few, large, more)

before_many : (f a b : ℕ) → f ≤ 4000000 → a ≤ f → ((a ≡ b) ⊎ ((4000001 ≤ a) × (4000001 ≤ b))) → b ≤ f
before_many f a b few h (inl e) = omega (arith, h, e)
before_many f a b few h (inr (large, more)) = absurd (omega (arith, few, h, large))

behind_many : (t a b : ℕ) → t ≤ 4000000 → t ≤ a → ((a ≡ b) ⊎ ((4000001 ≤ a) × (4000001 ≤ b))) → t ≤ b
behind_many t a b few h (inl e) = omega (arith, h, e)
behind_many t a b few h (inr (large, more)) = omega (arith, few, more)

-- ---- single references

pub single_long : (at : Placement) (below : ℕ → List Copy) (l : Link) (k : ℕ) → length (single_copies at below l k) ≡ length (below l.cell)
single_long at below l k = grind (arith, common_steps)

-- those from a number on, counted from there
pub shifted : (draw : ℕ → List Copy) (a n : ℕ) → flat_map draw (range_with_len a n) ≡ flat_map (λ k. draw (a + k)) (range_with_len 0 n)
shifted draw a n = let none : a ≡ a + 0 = omega arith in ap (λ b. flat_map draw (range_with_len b n)) none ∙ from 0 n where
  from : (b m : ℕ) → flat_map draw (range_with_len (a + b) m) ≡ flat_map (λ k. draw (a + k)) (range_with_len b m)
  from b zero = refl
  from b (suc m) =
      let next : (a + b) + 1 ≡ a + (b + 1) = omega arith in
      ap (λ cs. draw (a + b) ++ cs) (ap (λ x. flat_map draw (range_with_len x m)) next ∙ from (b + 1) m)

-- all draw as many copies
module _ (draw : ℕ → List Copy) (one : ℕ) (long : (k : ℕ) → length (draw k) ≡ one) where
  pub turns_long : (k : ℕ) → length (flat_map draw (range_with_len 0 k)) ≡ k * one
  turns_long zero = none one where
    none : (n : ℕ) → length (flat_map draw (range_with_len 0 0)) ≡ 0 * n
    none n = grind (arith, common_steps)
  turns_long (suc k) =
      let more : suc k ≡ k + 1 = omega arith in
      ap (λ n. length (flat_map draw (range_with_len 0 n))) more ∙ ap length (range_more draw k)
      ∙ (length-append (flat_map draw (range_with_len 0 k)) (draw k) ∙ joined k one _ _ (turns_long k) (long k))
    where
      joined : (m n a b : ℕ) → a ≡ m * n → b ≡ n → a + b ≡ suc m * n
      joined m n a b e g = grind (arith, common_steps, e, g)

  module _ (each : ℕ) (capped : IsCapped one each) (f t : ℕ) (first_few : f ≤ 4000000) (last_few : t ≤ 4000000) where
    -- no copies of the stretch come before its first turn
    pub turns_begin : (k : ℕ) → k * each ≤ f → part f t (flat_map draw (range_with_len 0 k)) ≡ []
    turns_begin k h =
        let long = turns_long k in
        part_before f t (flat_map draw (range_with_len 0 k))
        (subst (λ n. n ≤ f) (sym long) (before_many f (k * each) (k * one) first_few h (many k one each capped)))

    pub turns_begun : (k : ℕ) → k * each ≤ f → (old : List Rect) → IsDrawn (part f t (flat_map draw (range_with_len 0 k))) old old
    turns_begun k h old = rw (turns_begin k h) (nothing_drawn old)

    pub turn_shared : (k g u : ℕ) (old mid new : List Rect) → g ≡ f - k * each → u ≡ t - k * each
        → IsDrawn (part f t (flat_map draw (range_with_len 0 k))) old mid
        → IsDrawn (part g u (draw k)) mid new
        → IsDrawn (part f t (flat_map draw (range_with_len 0 (k + 1)))) old new
    turn_shared k g u old mid new first last before next =
        let done = flat_map draw (range_with_len 0 k) in
        let passed = many k one each capped in
        let gs : g ≡ f - length done = first ∙ less_many f (k * each) (k * one) first_few passed ∙ ap (λ n. f - n) (sym (turns_long k)) in
        let us : u ≡ t - length done = last ∙ less_many t (k * each) (k * one) last_few passed ∙ ap (λ n. t - n) (sym (turns_long k)) in
        rw (ap (part f t) (range_more draw k) ∙ part_joins f t done (draw k))
        (drawn_more (part f t done) (part (f - length done) (t - length done) (draw k)) old mid new before
        (subst (λ cs. IsDrawn cs mid new) (same_part g u (f - length done) (t - length done) (draw k) gs us) next))

    later : (k d : ℕ) → t ≤ k * one
        → part f t (flat_map draw (range_with_len 0 (k + d))) ≡ part f t (flat_map draw (range_with_len 0 k))
    later k zero h = ap (λ n. part f t (flat_map draw (range_with_len 0 n))) (let same : k + 0 ≡ k = omega arith in same)
    later k (suc d) h =
        let one_more : k + suc d ≡ (k + d) + 1 = omega arith in
        let most = times_more k (k + d) one (omega arith) in
        let done = flat_map draw (range_with_len 0 (k + d)) in
        ap (λ n. part f t (flat_map draw (range_with_len 0 n))) one_more
        ∙ (ap (part f t) (range_more draw (k + d))
        ∙ (part_front f t done (draw (k + d)) (subst (λ n. t ≤ n) (sym (turns_long (k + d))) (omega (arith, h, most)))
        ∙ later k d h))

    -- nor do any come behind its last
    pub turns_done : (k end turns : ℕ) (old new : List Rect) → k ≤ turns → (k < end → ⊥) → ((end ≡ turns) ⊎ (t ≤ end * each))
        → IsDrawn (part f t (flat_map draw (range_with_len 0 k))) old new
        → IsDrawn (part f t (flat_map draw (range_with_len 0 turns))) old new
    turns_done k end turns old new within ended behind h = cases behind where
      cases : ((end ≡ turns) ⊎ (t ≤ end * each)) → IsDrawn (part f t (flat_map draw (range_with_len 0 turns))) old new
      cases (inl e) = subst (λ n. IsDrawn (part f t (flat_map draw (range_with_len 0 n))) old new) (let same : k ≡ turns = omega (arith, within, ended, e) in same) h
      cases (inr past) =
          let most = times_more end k each (omega (arith, ended)) in
          let split : k + (turns - k) ≡ turns = omega (arith, within) in
          subst (λ n. IsDrawn (part f t (flat_map draw (range_with_len 0 n))) old new) split
          (rw (later k (turns - k) (behind_many t (k * each) (k * one) last_few (omega (arith, past, most)) (many k one each capped))) h)

    -- what's left of a stretch behind them
    pub turns_passed : (n passed g u : ℕ) → passed ≡ n * each → g ≡ f - passed → u ≡ t - passed
        → (g ≡ f - length (flat_map draw (range_with_len 0 n))) × (u ≡ t - length (flat_map draw (range_with_len 0 n)))
    turns_passed n passed g u is first last =
        let turns = many n one each capped in (
          first ∙ ap (λ x. f - x) is ∙ less_many f _ _ first_few turns ∙ ap (λ x. f - x) (sym (turns_long n)),
          last ∙ ap (λ x. t - x) is ∙ less_many t _ _ last_few turns ∙ ap (λ x. t - x) (sym (turns_long n)),
        )

-- ---- links of a cell, one after another

-- the stretch f up to t of the first k of a list is drawn, and what's left of it behind them is g up to u
pub record IsShared {X : Type 0} (draw : X → List Copy) (xs : List X) (k f t g u : ℕ) (old new : List Rect) : Type 0 where
  pub drawn : IsDrawn (part f t (flat_map draw (take k xs))) old new
  pub from : g ≡ f - length (flat_map draw (take k xs))
  pub to : u ≡ t - length (flat_map draw (take k xs))

pub none_shared : {X : Type 0} (draw : X → List Copy) (xs : List X) (f t g u : ℕ) (old : List Rect) → g ≡ f → u ≡ t → IsShared draw xs 0 f t g u old old
none_shared draw xs f t g u old first last = record {
  drawn = rw (part_before {X = Copy} f t [] (omega arith)) (nothing_drawn old);
  from = omega (arith, first);
  to = omega (arith, last);
}

pub next_shared : {X : Type 0} (draw : X → List Copy) (xs : List X) (k : ℕ) (d : X) (f t g u h v : ℕ) (old mid new : List Rect) → k < length xs
    → IsShared draw xs k f t g u old mid → IsDrawn (part g u (draw (get_or xs k d))) mid new
    → h ≡ g - length (draw (get_or xs k d)) → v ≡ u - length (draw (get_or xs k d)) → IsShared draw xs (k + 1) f t h v old new
next_shared draw xs k d f t g u h v old mid new within before next first last =
    let done = flat_map draw (take k xs) in
    let more = list_more draw xs k d within in
    let long : length (flat_map draw (take (k + 1) xs)) ≡ length done + length (draw (get_or xs k d)) = ap length more ∙ length-append done (draw (get_or xs k d)) in
    record {
      drawn = rw (ap (part f t) more ∙ part_joins f t done (draw (get_or xs k d)))
          (drawn_more (part f t done) (part (f - length done) (t - length done) (draw (get_or xs k d))) old mid new before.drawn
          (subst (λ cs. IsDrawn cs mid new) (same_part g u (f - length done) (t - length done) (draw (get_or xs k d)) before.from before.to) next));
      from = let left = before.from in omega (arith, first, left, long);
      to = let left = before.to in omega (arith, last, left, long);
    }

-- nothing of the stretch is left for the rest of the list
pub rest_shared : {X : Type 0} (draw : X → List Copy) (xs ys : List X) (k f t g u : ℕ) (old new : List Rect) → xs ≡ ys → u ≡ 0
    → IsShared draw xs k f t g u old new → IsDrawn (part f t (flat_map draw ys)) old new
rest_shared draw xs ys k f t g u old new same none shared =
    let all : flat_map draw ys ≡ flat_map draw (take k xs) ++ flat_map draw (drop k xs) =
    ap (flat_map draw) (sym same ∙ sym (take-append-drop k xs)) ∙ flat_map-append draw (take k xs) (drop k xs) in
    let short : t ≤ length (flat_map draw (take k xs)) = (let left = shared.to in omega (arith, left, none)) in
    rw (ap (part f t) all ∙ part_front f t (flat_map draw (take k xs)) (flat_map draw (drop k xs)) short) shared.drawn

pub all_shared : {X : Type 0} (draw : X → List Copy) (xs ys : List X) (k f t g u : ℕ) (old new : List Rect) → xs ≡ ys → (k < length xs → ⊥)
    → IsShared draw xs k f t g u old new → IsDrawn (part f t (flat_map draw ys)) old new
all_shared draw xs ys k f t g u old new same ended shared =
    subst (λ zs. IsDrawn (part f t (flat_map draw zs)) old new) (whole_flat xs ys k same ended) shared.drawn

-- ---- a cell

pub cell_shared : (cells : List Cell) (n i : ℕ) (cell : Cell) (at : Placement) (f t g u : ℕ) (old mid new : List Rect) → 0 < n → slice_get cells i ≡ Some cell
    → IsDrawn (part f t (flat_map (shape_copies at) (shapes_in cell))) old mid
    → g ≡ f - length (shapes_in cell) → u ≡ t - length (shapes_in cell)
    → IsDrawn (part g u (flat_map (link_copies at (copies (hierarchy cells) (n - 1))) cell.links.items)) mid new
    → IsDrawn (part f t (map (carry_copy at) (copies (hierarchy cells) n i))) old new
cell_shared cells n i cell at f t g u old mid new some is own first last links =
    let front = flat_map (shape_copies at) (shapes_in cell) in
    let back = flat_map (link_copies at (copies (hierarchy cells) (n - 1))) cell.links.items in
    let long = own_long at (shapes_in cell) in
    rw (ap (part f t) (all_copies cells n i cell at some is) ∙ part_joins f t front back)
    (drawn_more (part f t front) (part (f - length front) (t - length front) back) old mid new own
    (subst (λ cs. IsDrawn cs mid new) (same_part g u (f - length front) (t - length front) back (omega (arith, first, long)) (omega (arith, last, long))) links))

pub own_leave : (cells : List Cell) (n i : ℕ) (cell : Cell) (at : Placement) → 0 < n → slice_get cells i ≡ Some cell
    → (AllStayInRange (flat_map (shape_copies at) (shapes_in cell)) → ⊥) → AllStayInRange (map (carry_copy at) (copies (hierarchy cells) n i)) → ⊥
own_leave cells n i cell at some is leaves all =
    first_leaves (flat_map (shape_copies at) (shapes_in cell)) (flat_map (link_copies at (copies (hierarchy cells) (n - 1))) cell.links.items) leaves
    (subst (λ cs. AllStayInRange cs) (all_copies cells n i cell at some is) all)

-- ---- chunks of shapes, one after another

abbrev pub chunk_copies : Placement → Vec Shape → List Copy
chunk_copies at chunk = flat_map (shape_copies at) chunk.items

pub of_chunks : (at : Placement) (chunks : List (Vec Shape)) → flat_map (chunk_copies at) chunks ≡ flat_map (shape_copies at) (flat_map vec_items chunks)
of_chunks at [] = refl
of_chunks at (chunk ∷ chunks) = ap (λ cs. flat_map (shape_copies at) chunk.items ++ cs) (of_chunks at chunks) ∙ sym (flat_map-append (shape_copies at) chunk.items (flat_map vec_items chunks))

module _ (at : Placement) (chunks : List (Vec Shape)) (k : ℕ) (chunk : Vec Shape) (within : k < length chunks) (chunk_is : chunk ≡ get_or chunks k chunk) where
  pub chunk_shared : (f t g u h v : ℕ) (own : List Shape) (old mid new : List Rect) → IsShared (chunk_copies at) chunks k f t g u old mid → own ≡ part g u chunk.items
      → IsDrawn (flat_map (shape_copies at) own) mid new → h ≡ g - length chunk.items → v ≡ u - length chunk.items → IsShared (chunk_copies at) chunks (k + 1) f t h v old new
  chunk_shared f t g u h v own old mid new before own_is drawn first last =
      let long = own_long at chunk.items in
      next_shared (chunk_copies at) chunks k chunk f t g u h v old mid new within before
      (subst (λ r. IsDrawn (part g u (chunk_copies at r)) mid new) chunk_is (subst (λ cs. IsDrawn cs mid new) (ap (flat_map (shape_copies at)) own_is ∙ own_part at g u chunk.items) drawn))
      (subst (λ r. h ≡ g - length (chunk_copies at r)) chunk_is (first ∙ ap (λ n. g - n) (sym long)))
      (subst (λ r. v ≡ u - length (chunk_copies at r)) chunk_is (last ∙ ap (λ n. u - n) (sym long)))

  pub chunk_leaves : (g u : ℕ) (own : List Shape) → own ≡ part g u chunk.items → (AllStayInRange (flat_map (shape_copies at) own) → ⊥)
      → AllStayInRange (flat_map (shape_copies at) (flat_map vec_items chunks)) → ⊥
  chunk_leaves g u own own_is leaves all =
      next_leaves (chunk_copies at) chunks k chunk within
      (λ stay. leaves (subst AllStayInRange (sym (ap (flat_map (shape_copies at)) own_is ∙ own_part at g u chunk.items))
      (part_stays g u (chunk_copies at chunk) (subst (λ r. AllStayInRange (chunk_copies at r)) (sym chunk_is) stay))))
      (subst AllStayInRange (sym (of_chunks at chunks)) all)

pub all_chunks : (at : Placement) (chunks : List (Vec Shape)) (k f t g u : ℕ) (old new : List Rect) → (k < length chunks → ⊥) → IsShared (chunk_copies at) chunks k f t g u old new
    → IsDrawn (part f t (flat_map (shape_copies at) (flat_map vec_items chunks))) old new
    × ((g ≡ f - length (flat_map vec_items chunks)) × (u ≡ t - length (flat_map vec_items chunks)))
all_chunks at chunks k f t g u old new ended shared =
    let whole : take k chunks ≡ chunks = grind (arith, common_steps, ended) in
    let long : length (flat_map (chunk_copies at) (take k chunks)) ≡ length (flat_map vec_items chunks) =
    ap (λ rs. length (flat_map (chunk_copies at) rs)) whole ∙ ap length (of_chunks at chunks) ∙ own_long at (flat_map vec_items chunks) in (
      subst (λ cs. IsDrawn (part f t cs) old new) (of_chunks at chunks) (all_shared (chunk_copies at) chunks chunks k f t g u old new refl ended shared),
      (shared.from ∙ ap (λ n. f - n) long, shared.to ∙ ap (λ n. t - n) long),
    )

-- ---- stretches of all copies, put together

behind_drawn : (cs : List Copy) (before rects : List Rect) → IsDrawn cs [] rects → IsDrawn cs before (before ++ rects)
behind_drawn cs before rects h = record {
  inside = h.inside;
  added = λ x y. list_any-append (λ r. squares r x y) before rects ∙ ap (λ b. covered before x y || b) (h.added x y);
}

next_part : {X : Type 0} (k size : ℕ) (xs : List X) → part (k * size) (k * size + size) (drop size xs) ≡ part (suc k * size) (suc k * size + size) xs
next_part k size xs = by_drop (k * size) (k * size + size) size xs ∙ same_part _ _ _ _ xs (grind (arith, common_steps)) (grind (arith, common_steps)) where
  by_drop : {Y : Type 0} (f t n : ℕ) (ys : List Y) → part f t (drop n ys) ≡ part (n + f) (n + t) ys
  by_drop f t zero ys = same_part f t (0 + f) (0 + t) ys (omega arith) (omega arith)
  by_drop f t (suc n) [] = part_before f t [] (omega arith) ∙ sym (part_before (suc n + f) (suc n + t) [] (omega arith))
  by_drop f t (suc n) (y ∷ ys) =
      by_drop f t n ys ∙ same_part (suc (n + f)) (suc (n + t)) (suc n + f) (suc n + t) (y ∷ ys) (omega arith) (omega arith)

-- stretches of `size` copies each
pub parts_drawn : (size : ℕ) (parts : List (Vec Rect)) (cs : List Copy) → length cs ≤ length parts * size
    → ((k : ℕ) (d : Vec Rect) → k < length parts → IsDrawn (part (k * size) (k * size + size) cs) [] (get_or parts k d).items)
    → IsDrawn cs [] (flat_map vec_items parts)
parts_drawn size [] [] few each = nothing_drawn []
parts_drawn size [] (c ∷ cs) few each = absurd (omega (arith, few))
parts_drawn size (v ∷ parts) cs few each =
    subst (λ ds. IsDrawn ds [] (v.items ++ flat_map vec_items parts)) (take-append-drop size cs)
    (drawn_more (take size cs) (drop size cs) [] v.items (v.items ++ flat_map vec_items parts) (subst (λ ds. IsDrawn ds [] v.items) (same_part (0 * size) (0 * size + size) 0 size cs (grind (arith, common_steps)) (grind (arith, common_steps))) (each 0 v (omega arith)))
    (behind_drawn (drop size cs) v.items (flat_map vec_items parts)
    (parts_drawn size parts (drop size cs) (let long : length (drop size cs) ≡ length cs - size = grind (arith, common_steps) in let all = few in fewer long all)
    (λ k d within. subst (λ ds. IsDrawn ds [] (get_or parts k d).items) (sym (next_part k size cs)) (each (suc k) d (omega (arith, within)))))))
  where
    fewer : length (drop size cs) ≡ length cs - size → length cs ≤ suc (length parts) * size → length (drop size cs) ≤ length parts * size
    fewer long all = let one : suc (length parts) * size ≡ length parts * size + size = grind (arith, common_steps) in omega (arith, long, all, one)

-- the results of all of them
pub parts_joined : (number size : ℕ) (cs : List Copy) (parts : List (Vec Rect)) → 0 < size → number ≡ length cs → length parts ≡ div_ceil number size
    → ((k : ℕ) (d : Vec Rect) → k < div_ceil number size → IsDrawn (part (k * size) (k * size + size) cs) [] (get_or parts k d).items)
    → IsDrawn cs [] (flat_map vec_items parts)
parts_joined number size cs parts some all count each =
    parts_drawn size parts cs (rw (count, sym all) (div_ceil_times number size some).0) (λ k d within. each k d (rw count at within))
