-- The chunks of a cell's elements, one after another.
use Rattle.std.proofs.Common.{◌≡◌, ℕ, zero, suc, ◌+◌, ◌-◌, ◌*◌, ◌<◌, ◌≤◌, ◌⊎◌, inl, inr, max, map, List, [], ◌∷◌, ◌++◌, length, take, drop, get_or, Result, Ok, Err, IfOk, IfErr, refl, sym, ap, subst, arith, ◌∙◌}
use Rattle.std.specs.Global.{Vec}
use Rattle.std.specs.Prelude.{slice_get, None}
use Rattle.std.specs.List.{flat_map, AllZip}
use Rattle.std.specs.Vec.{vec_items}
use Rattle.std.proofs.lemmas.List.{length-append, length-map, length-drop, append-nil, drop-drop, take-map, drop-map}
use Rattle.std.proofs.lemmas.List.Elements.{All-append}
use Rattle.std.proofs.lemmas.Option.{slice_get_within}
use Rattle.std.proofs.Math.Seq.{get_or-append_seam}
use Rattle.std.proofs.lemmas.Grind.{common_steps, flat_map-append}
use Rattle.fill_base.specs.declared.layer.Layer.{Layer}
use Rattle.rayon.specs.Lists.{chunks_from, chunks_of}
use Rattle.gds_grammar.specs.Values.{Shape as Element}
use Rattle.gds_cells.specs.Designs.{Entry}
use Rattle.gds_cells.specs.declared.cell.Chunk.{Chunk}
use Rattle.gds_cells.specs.declared.error.FlattenError.{FlattenError}
use Rattle.gds_cells.specs.declared.error.FlattenError.TheVariants.{Memory}
use Rattle.gds_cells.specs.declared.link.Link.{Link}
use Rattle.gds_cells.specs.declared.shape.Shape.{Shape}
use Rattle.gds_cells.specs.Designs.{element_fault, AreFine}
use Rattle.gds_cells.specs.steps.Built.{AreOf, IsChunk, IsFaulty, AreChunks, chunk_at}
use Rattle.gds_cells.proofs.Building.{joins}

-- ---- lists

pub take_on : {X : Type 0} (m s : ℕ) (xs : List X) → take (m + s) xs ≡ take m xs ++ take s (drop m xs)
take_on zero s xs = ap (λ n. take n xs) (let e : 0 + s ≡ s = omega arith in e)
take_on (suc m) s [] = grind (arith, common_steps)
take_on (suc m) s (x ∷ xs) = ap (λ n. take n (x ∷ xs)) (let e : suc m + s ≡ suc (m + s) = omega arith in e) ∙ ap (λ ys. x ∷ ys) (take_on m s xs)

get_on : {X : Type 0} (m i : ℕ) (xs : List X) → slice_get (drop m xs) i ≡ slice_get xs (m + i)
get_on zero i xs = ap (slice_get xs) (let e : i ≡ 0 + i = omega arith in e)
get_on (suc m) i [] = grind (arith, common_steps)
get_on (suc m) i (x ∷ xs) = get_on m i xs ∙ ap (slice_get (x ∷ xs)) (let e : suc (m + i) ≡ suc m + i = omega arith in e)

get_taken : {X : Type 0} (s i : ℕ) (xs : List X) → i < s → slice_get (take s xs) i ≡ slice_get xs i
get_taken zero i xs less = absurd (omega (arith, less))
get_taken (suc s) i [] less = refl
get_taken (suc s) zero (x ∷ xs) less = refl
get_taken (suc s) (suc i) (x ∷ xs) less = get_taken s i xs (omega (arith, less))

one_more : (k size : ℕ) → (k + 1) * size ≡ k * size + size
one_more k size = omega arith

-- ---- the next chunk

-- what the first chunks came to, `n` elements in all
pub record AreJoined (entries : List Entry) (layers : List Layer) (n : ℕ) (elements : List Element) (shapes : List (Vec Shape)) (links : List Link) : Type 0 where
  pub are : AreOf entries layers (take n elements) (flat_map vec_items shapes) links
  pub fine : AreFine layers (take n elements)

module _ (entries : List Entry) (layers : List Layer) (size : ℕ) (elements : List Element) (chunks : List (Result Chunk FlattenError))
    (are : AreChunks entries layers size elements chunks) where
  module _ (done rest : List (Result Chunk FlattenError)) (x : Result Chunk FlattenError) (parts : done ++ x ∷ rest ≡ chunks) where
    within : length done < length chunks
    within = let len : length chunks ≡ length done + suc (length rest) = ap length (sym parts) ∙ length-append done (x ∷ rest) in omega (arith, len)

    here : get_or chunks (length done) x ≡ x
    here = ap (λ xs. get_or xs (length done) x) (sym parts) ∙ get_or-append_seam done x rest x

    pub next_joined : (chunk : Chunk) (shapes more : List (Vec Shape)) (links longer : List Link) → x ≡ Ok chunk
        → AreJoined entries layers (length done * size) elements shapes links → more ≡ shapes ++ chunk.shapes ∷ [] → longer ≡ links ++ chunk.links.items
        → AreJoined entries layers ((length done + 1) * size) elements more longer
    next_joined chunk shapes more links longer is before more_is longer_is =
        let built : IsChunk entries layers (chunk_at size (length done) elements) chunk =
        subst (λ r. IfOk r (λ v. IsChunk entries layers (chunk_at size (length done) elements) v)) (here ∙ is) (are.built (length done) x within) in
        let fine : AreFine layers (chunk_at size (length done) elements) =
        subst (λ r. IfOk r (λ v. AreFine layers (chunk_at size (length done) elements))) (here ∙ is) (are.fine (length done) x within) in
        let taken : take ((length done + 1) * size) elements ≡ take (length done * size) elements ++ chunk_at size (length done) elements =
        ap (λ n. take n elements) (one_more (length done) size) ∙ take_on (length done * size) size elements in
        let drawn : flat_map vec_items (shapes ++ chunk.shapes ∷ []) ≡ flat_map vec_items shapes ++ chunk.shapes.items =
        flat_map-append vec_items shapes (chunk.shapes ∷ []) ∙ ap (λ ss. flat_map vec_items shapes ++ ss) (append-nil chunk.shapes.items) in
        record {
          are = rw (taken, more_is, drawn, longer_is) (joins layers entries (take (length done * size) elements) (chunk_at size (length done) elements)
              (flat_map vec_items shapes) chunk.shapes.items links chunk.links.items before.are built);
          fine = rw taken (All-append (λ e. element_fault layers e ≡ None) (take (length done * size) elements) (chunk_at size (length done) elements) before.fine fine);
        }

    pub chunk_refused : (e : FlattenError) → x ≡ Err e → AreFine layers (take (length done * size) elements) → (e ≡ Memory) ⊎ IsFaulty layers elements e
    chunk_refused e is before = cases (subst (λ r. IfErr r (λ f. (f ≡ Memory) ⊎ IsFaulty layers (chunk_at size (length done) elements) f)) (here ∙ is) (are.refused (length done) x within)) where
      cases : ((e ≡ Memory) ⊎ IsFaulty layers (chunk_at size (length done) elements) e) → (e ≡ Memory) ⊎ IsFaulty layers elements e
      cases (inl m) = inl m
      cases (inr fault) =
          let m = length done * size in
          let left = drop m elements in
          let inside = slice_get_within (take size left) fault.index fault.element fault.stands in
          let less : fault.index < size = grind (arith, common_steps, inside) in
          let shorter : take fault.index (take size left) ≡ take fault.index left = grind (arith, common_steps, less) in
          inr (record {
            index = m + fault.index;
            element = fault.element;
            stands = sym (get_on m fault.index elements) ∙ sym (get_taken size fault.index left less) ∙ fault.stands;
            faulty = fault.faulty;
            before = rw (take_on m fault.index elements) (All-append (λ e. element_fault layers e ≡ None) (take m elements) (take fault.index left)
                before (subst (λ xs. AreFine layers xs) shorter fault.before));
          })

  -- all chunks
  pub all_joined : (done : List (Result Chunk FlattenError)) (shapes : List (Vec Shape)) (links : List Link) → length done ≡ length chunks
      → AreJoined entries layers (length done * size) elements shapes links
      → AreOf entries layers elements (flat_map vec_items shapes) links × AreFine layers elements
  all_joined done shapes links came joined =
      let enough = are.all in
      let whole : take (length done * size) elements ≡ elements = let long : length elements ≤ length done * size = subst (λ n. length elements ≤ n * size) (sym came) enough in grind (arith, common_steps, long) in
      (subst (λ xs. AreOf entries layers xs (flat_map vec_items shapes) links) whole joined.are, subst (λ xs. AreFine layers xs) whole joined.fine)

-- ---- the chunks, as chunks of the elements

-- what came of each slice is what came of those elements
slices_at : {X Y : Type 0} (R : List X → Y → Type 0) (size fuel : ℕ) (xs : List X) (ys : List Y) → 0 < size → length xs ≤ fuel → AllZip R (chunks_from fuel size xs) ys
    → (length xs ≤ length ys * size) × ((k : ℕ) (d : Y) → k < length ys → R (take size (drop (k * size) xs)) (get_or ys k d))
slices_at R size zero [] [] some few all = (omega arith, λ k d lt. absurd (omega (arith, lt)))
slices_at R size zero [] (y ∷ ys) some few all = absurd all
slices_at R size zero (x ∷ xs) ys some few all = absurd (omega (arith, few))
slices_at R size (suc n) [] [] some few all = (omega arith, λ k d lt. absurd (omega (arith, lt)))
slices_at R size (suc n) [] (y ∷ ys) some few all = absurd all
slices_at R size (suc n) (x ∷ xs) [] some few all = absurd all
slices_at {Y = Y} R size (suc n) (x ∷ xs) (y ∷ ys) some few all =
    let long = length-drop size (x ∷ xs) in
    let rest = slices_at R size n (drop size (x ∷ xs)) ys some (omega (arith, long, few, some)) all.1 in
    (enough long rest.0, at rest.1)
  where
    enough : length (drop size (x ∷ xs)) ≡ length (x ∷ xs) - size → length (drop size (x ∷ xs)) ≤ length ys * size → length (x ∷ xs) ≤ length (y ∷ ys) * size
    enough long rest = let one : length (y ∷ ys) * size ≡ length ys * size + size = omega arith in omega (arith, long, rest, one)

    at : ((k : ℕ) (d : Y) → k < length ys → R (take size (drop (k * size) (drop size (x ∷ xs)))) (get_or ys k d)) → (k : ℕ) (d : Y) → k < length (y ∷ ys) → R (take size (drop (k * size) (x ∷ xs))) (get_or (y ∷ ys) k d)
    at others zero d lt = let begin : 0 ≡ 0 * size = omega arith in subst (λ m. R (take size (drop m (x ∷ xs))) y) begin all.0
    at others (suc k) d lt =
        let next : size + k * size ≡ suc k * size = omega arith in
        subst (λ zs. R (take size zs) (get_or ys k d)) (drop-drop (k * size) size (x ∷ xs) ∙ ap (λ m. drop m (x ∷ xs)) next) (others k d (omega (arith, lt)))

-- what was said of the elements of a slice is said of a chunk
chunk_said : {X : Type 0} (said : X → Element) (size k : ℕ) (xs : List X) → map said (take size (drop (k * size) xs)) ≡ chunk_at size k (map said xs)
chunk_said said size k xs = sym (ap (take size) (drop-map said (k * size) xs) ∙ take-map said size (drop (k * size) xs))

-- what a slice of elements came to
abbrev pub IsSliceChunk : {X : Type 0} → (X → Element) → List Entry → List Layer → List X → Result Chunk FlattenError → Type 0
IsSliceChunk said entries layers slice came =
    IfOk came (λ chunk. IsChunk entries layers (map said slice) chunk)
    × (IfOk came (λ chunk. AreFine layers (map said slice)) × IfErr came (λ e. (e ≡ Memory) ⊎ IsFaulty layers (map said slice) e))

pub chunks_are : {X : Type 0} (said : X → Element) (entries : List Entry) (layers : List Layer) (size : ℕ) (xs : List X) (chunks : List (Result Chunk FlattenError)) → 0 < size
    → AllZip (IsSliceChunk said entries layers) (chunks_of (max size 1) xs) chunks → AreChunks entries layers size (map said xs) chunks
chunks_are said entries layers size xs chunks some all =
    let only : max size 1 ≡ size = omega (arith, some) in
    let cut = slices_at (IsSliceChunk said entries layers) size (length xs) xs chunks some (omega arith) (subst (λ s. AllZip (IsSliceChunk said entries layers) (chunks_of s xs) chunks) only all) in
    record {
      all = rw (length-map xs said) cut.0;
      built = λ k d lt. subst (λ es. IfOk (get_or chunks k d) (λ chunk. IsChunk entries layers es chunk)) (chunk_said said size k xs) (cut.1 k d lt).0;
      fine = λ k d lt. subst (λ es. IfOk (get_or chunks k d) (λ chunk. AreFine layers es)) (chunk_said said size k xs) (cut.1 k d lt).1.0;
      refused = λ k d lt. subst (λ es. IfErr (get_or chunks k d) (λ e. (e ≡ Memory) ⊎ IsFaulty layers es e)) (chunk_said said size k xs) (cut.1 k d lt).1.1;
    }

-- where nothing is left, all have come
pub all_came : {X : Type 0} (done rest all : List X) (n : ℕ) → done ++ rest ≡ all → n ≡ length rest → n ≡ 0 → length done ≡ length all
all_came done rest all n parts left none = let len : length all ≡ length done + length rest = ap length (sym parts) ∙ length-append done rest in omega (arith, len, left, none)
