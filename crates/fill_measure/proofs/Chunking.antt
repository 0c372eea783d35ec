-- Rectangles in chunks, and the lists of rows that the chunks give together.
use Rattle.std.proofs.Common.{◌≡◌, Bool, true, false, ℕ, ◌+◌, ◌<◌, ◌≤◌, ℤ, List, [], ◌∷◌, ◌++◌, ◌||◌, All, length, get_or, map, take, drop, Result, Ok, IfOk, arith, ap, subst, ◌∙◌, sym, refl}
use Rattle.std.specs.Borrow.{Bor}
use Rattle.std.specs.Global.{Vec}
use Rattle.std.specs.List.{flat_map, list_any, AllZip}
use Rattle.std.specs.Vec.{vec_items}
use Rattle.std.specs.declared.alloc.AllocError.{AllocError}
use Rattle.std.proofs.lemmas.Grind.{flat_map-append}
use Rattle.std.proofs.lemmas.List.{take_more, drop_all, append-nil, nil_from_length, get_or_default}
use Rattle.std.proofs.lemmas.List.Folds.{list_any-append, list_any_more}
use Rattle.std.proofs.lemmas.List.Elements.{All-cons}
use Rattle.fill_base.specs.declared.rect.Rect.{Rect}
use Rattle.fill_base.specs.Squares.{squares}
use Rattle.fill_region.specs.Squares.{covered}
use Rattle.fill_cells.proofs.Listing.{any_at, at_place}
use Rattle.fill_cells.proofs.Lists.{covered_pushed}
use Rattle.fill_cells.specs.Mesh.{covered_at, row_squares, gaps}
use Rattle.fill_measure.specs.declared.lists.Chunk.{Chunk}
use Rattle.fill_measure.specs.steps.Chunks.{AreChunkLists, IsChunk, covered_by_chunks, listed_by_chunks}

-- one chunk more, and all of them
pub part_more : (p : ℤ → ℤ → Bool) (done new : List (Bor (List Rect))) (chunk : Bor (List Rect)) (left rest : List Rect) → left ≡ chunk.now ++ rest → new ≡ done ++ chunk ∷ []
    → ((x y : ℤ) → (covered_by_chunks done x y || covered left x y) ≡ p x y) → (x y : ℤ) → (covered_by_chunks new x y || covered rest x y) ≡ p x y
part_more p done new chunk left rest left_is new_is before x y =
    ap (λ ps. covered_by_chunks ps x y || covered rest x y) new_is
    ∙ (ap (λ b. b || covered rest x y) (list_any-append (λ p. covered p.now x y) done (chunk ∷ []))
    ∙ (regroup (covered_by_chunks done x y) (covered chunk.now x y) (covered rest x y)
    ∙ (ap (λ b. covered_by_chunks done x y || b) (sym (list_any-append (λ r. squares r x y) chunk.now rest) ∙ ap (λ zs. covered zs x y) (sym left_is)) ∙ before x y)))
  where
    regroup : (a b c : Bool) → ((a || (b || false)) || c) ≡ (a || (b || c))
    regroup true b c = refl
    regroup false true c = refl
    regroup false false c = refl

pub part_last : (p : ℤ → ℤ → Bool) (done : List (Bor (List Rect))) (left : List Rect) → length left ≡ 0 → ((x y : ℤ) → (covered_by_chunks done x y || covered left x y) ≡ p x y) → (x y : ℤ) → covered_by_chunks done x y ≡ p x y
part_last p done left none before x y =
    sym (or_none (covered_by_chunks done x y)) ∙ (ap (λ zs. covered_by_chunks done x y || covered zs x y) (sym (nil_from_length left none)) ∙ before x y)
  where
    or_none : (a : Bool) → (a || false) ≡ a
    or_none true = refl
    or_none false = refl

-- one list more, and no list
pub list_more : (done new : List (Bor (List Rect))) (lists : List (Vec Rect)) (list : Vec Rect) (rects : List Rect) (n : ℕ) → n < length lists → list ≡ get_or lists n list → rects ≡ list.items
    → ((x y : ℤ) → covered_by_chunks done x y ≡ covered (flat_map vec_items (take n lists)) x y) → ((x y : ℤ) → covered_by_chunks new x y ≡ (covered_by_chunks done x y || covered rects x y))
    → (x y : ℤ) → covered_by_chunks new x y ≡ covered (flat_map vec_items (take (n + 1) lists)) x y
list_more done new lists list rects n n_in list_is rects_is before more x y =
    more x y
    ∙ (ap (λ b. b || covered rects x y) (before x y)
    ∙ (ap (λ zs. covered (flat_map vec_items (take n lists)) x y || covered zs x y) (rects_is ∙ sym (append-nil list.items))
    ∙ (sym (list_any-append (λ r. squares r x y) (flat_map vec_items (take n lists)) (list.items ++ []))
    ∙ ap (λ zs. covered zs x y) (sym (flat_map-append vec_items (take n lists) (list ∷ []))
    ∙ ap (λ ls. flat_map vec_items ls) (ap (λ l. take n lists ++ l ∷ []) list_is ∙ sym (take_more lists n list n_in))))))

-- the lists of one chunk more for a row
pub listed_more : (chunks : List Chunk) (chunk : Chunk) (old new : List Rect) (list : Vec ℕ) (places : List ℕ) (n j : ℕ) → n < length chunks → chunk ≡ get_or chunks n chunk → j < length chunk.rows.items
    → list ≡ get_or chunk.rows.items j list → places ≡ list.items → ((x y : ℤ) → covered new x y ≡ (covered old x y || covered_at chunk.rects.now places x y))
    → ((x y : ℤ) → covered old x y ≡ listed_by_chunks j (take n chunks) x y) → (x y : ℤ) → covered new x y ≡ listed_by_chunks j (take (n + 1) chunks) x y
listed_more chunks chunk old new list places n j n_in part_is j_in list_is places_is new_is before x y =
    new_is x y
    ∙ (ap (λ b. b || covered_at chunk.rects.now places x y) (before x y)
    ∙ (ap (λ b. listed_by_chunks j (take n chunks) x y || b) (ap (λ ps. covered_at chunk.rects.now ps x y) (places_is ∙ ap (λ (v : Vec ℕ). v.items) list_is)
    ∙ (sym (any_at (λ (v : Vec ℕ). covered_at chunk.rects.now v.items x y) chunk.rows.items j list j_in) ∙ ap holds part_is))
    ∙ sym (list_any_more holds chunks n chunk n_in)))
  where
    holds : Chunk → Bool
    holds p = list_any (λ row. covered_at p.rects.now row.items x y) (take 1 (drop j p.rows.items))

-- each chunk gave the lists of its rectangles
abbrev pub AreListed : List ℤ → List (Bor (List Rect)) → List (Result Chunk AllocError) → Type 0
AreListed up chunks made = AllZip (λ chunk one. IfOk one (IsChunk up chunk.now)) chunks made

-- its lists cover in a row what its rectangles do, so all do together
listed_is : (up : List ℤ) (j : ℕ) (d : ℤ) (x y : ℤ) → j < gaps up → row_squares (get_or up j d) (get_or up (j + 1) d) x y ≡ true
    → (chunks : List (Bor (List Rect))) (lists : List Chunk) → AreListed up chunks (map Ok lists) → listed_by_chunks j lists x y ≡ covered_by_chunks chunks x y
listed_is up j d x y j_in here [] [] are = refl
listed_is up j d x y j_in here [] (v ∷ vs) are = absurd are
listed_is up j d x y j_in here (s ∷ ss) [] are = absurd are
listed_is up j d x y j_in here (s ∷ ss) (v ∷ vs) are =
    let first = are.0 in
    let within : j < length v.rows.items = rw first.rows.count j_in in
    let row = at_place v.rows.items j within in
    ap (λ b. b || listed_by_chunks j vs x y) (any_at (λ (r : Vec ℕ). covered_at v.rects.now r.items x y) v.rows.items j row.0 within
    ∙ (ap (λ rs. covered_at rs (get_or v.rows.items j row.0).items x y) first.same ∙ first.rows.each j d row.0 j_in x y here))
    ∙ ap (λ b. covered s.now x y || b) (listed_is up j d x y j_in here ss vs are.1)

counts : (up : List ℤ) (chunks : List (Bor (List Rect))) (lists : List Chunk) → AreListed up chunks (map Ok lists) → All (λ chunk. length chunk.rows.items ≡ gaps up) lists
counts up [] [] are = λ k d lt. absurd (omega (arith, lt))
counts up [] (v ∷ vs) are = absurd are
counts up (s ∷ ss) [] are = absurd are
counts up (s ∷ ss) (v ∷ vs) are = All-cons (λ chunk. length chunk.rows.items ≡ gaps up) v vs are.0.rows.count (counts up ss vs are.1)

-- the lists of all chunks, where each chunk gave those of its rectangles
pub part_lists : (up : List ℤ) (rects : List Rect) (chunks : List (Bor (List Rect))) (made : List (Result Chunk AllocError)) (lists : List Chunk) → made ≡ map Ok lists → AreListed up chunks made
    → ((x y : ℤ) → covered_by_chunks chunks x y ≡ covered rects x y) → AreChunkLists up (covered rects) lists
part_lists up rects chunks made lists are listed whole =
    let each = subst (AreListed up chunks) are listed in
    record {
      count = counts up chunks lists each;
      each = λ j d j_in x y here. listed_is up j d x y j_in here chunks lists each ∙ whole x y;
    }

taken_more : (rects : List Rect) (places : List ℕ) (k : ℕ) → k < length places → (x y : ℤ)
    → covered_at rects (take (k + 1) places) x y ≡ (covered_at rects (take k places) x y || covered (take 1 (drop (get_or places k 0) rects)) x y)
taken_more rects places k k_in x y =
    list_any_more (λ n. covered (take 1 (drop n rects)) x y) places k (get_or places k 0) k_in
    ∙ ap (λ n. covered_at rects (take k places) x y || covered (take 1 (drop n rects)) x y) (get_or_default places k (get_or places k 0) 0 k_in)

-- one place more looked at, where there is a rectangle or none
pub put_more : (rects old row new : List Rect) (places : List ℕ) (k : ℕ) (r : Rect) → k < length places → get_or places k 0 < length rects → r ≡ get_or rects (get_or places k 0) r → new ≡ row ++ r ∷ []
    → ((x y : ℤ) → covered row x y ≡ (covered old x y || covered_at rects (take k places) x y)) → (x y : ℤ) → covered new x y ≡ (covered old x y || covered_at rects (take (k + 1) places) x y)
put_more rects old row new places k r k_in in_rects r_is new_is before x y =
    covered_pushed row new r new_is x y
    ∙ (ap (λ b. b || squares r x y) (before x y)
    ∙ (or_assoc (covered old x y) (covered_at rects (take k places) x y) (squares r x y)
    ∙ ap (λ b. covered old x y || b) (ap (λ b. covered_at rects (take k places) x y || b) (ap (λ q. squares q x y) r_is ∙ sym (any_at (λ q. squares q x y) rects (get_or places k 0) r in_rects)) ∙ sym (taken_more rects places k k_in x y))))
  where
    or_assoc : (a b c : Bool) → ((a || b) || c) ≡ (a || (b || c))
    or_assoc true b c = refl
    or_assoc false b c = refl

pub none_more : (rects old row : List Rect) (places : List ℕ) (k : ℕ) → k < length places → length rects ≤ get_or places k 0
    → ((x y : ℤ) → covered row x y ≡ (covered old x y || covered_at rects (take k places) x y)) → (x y : ℤ) → covered row x y ≡ (covered old x y || covered_at rects (take (k + 1) places) x y)
none_more rects old row places k k_in past before x y =
    before x y ∙ ap (λ b. covered old x y || b) (sym (taken_more rects places k k_in x y
    ∙ (ap (λ zs. covered_at rects (take k places) x y || covered (take 1 zs) x y) (drop_all (get_or places k 0) rects past) ∙ or_none (covered_at rects (take k places) x y))))
  where
    or_none : (a : Bool) → (a || false) ≡ a
    or_none true = refl
    or_none false = refl
