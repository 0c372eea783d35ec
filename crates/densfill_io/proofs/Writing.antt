-- One write more: what the slice behind `at` holds, and what two writes in a row append.
use Rattle.std.proofs.Common.{◌≡◌, ◌∙◌, ℕ, List, ◌++◌, Option, Some, None, ◌+◌, ◌-◌, ◌<◌, min, get_or, length, take, drop, append_assoc, length-drop, arith, ap, sym}
use Rattle.std.proofs.Math.Seq.{take-add, take-append-add, take-length}
use Rattle.std.proofs.lemmas.Grind.{flat_map-append}
use Rattle.std.proofs.lemmas.List.{at_drop_more, take-append-drop, take-append-le, take_min}
use Rattle.std.specs.Global.{Vec}
use Rattle.std.specs.List.{flat_map}
use Rattle.std.specs.Vec.{vec_items}
use Rattle.std.specs.Io.KnownBytes.{Appends}

-- the text from `at` to its end
slice_to_end : (at : ℕ) (text : List ℕ) → take (length text - at) (drop at text) ≡ drop at text
slice_to_end at text = rw (← length-drop at text) (take-length (drop at text))

-- the text up to `at`, and then so many bytes of what is left
pub take_further : (at count : ℕ) (text : List ℕ)
    → take at text ++ take count (take (length text - at) (drop at text)) ≡ take (at + count) text
take_further at count text = rw (slice_to_end at text) (sym (take-add at count text))

pub appends_more : (old mid new : Option (List ℕ)) (a b : List ℕ) → Appends old mid a → Appends mid new b → Appends old new (a ++ b)
appends_more None mid new a b first then = tt
appends_more (Some xs) None new a b first then = absurd first
appends_more (Some xs) (Some ys) None a b first then = absurd then
appends_more (Some xs) (Some ys) (Some zs) a b first then = then ∙ ap (λ l. l ++ b) first ∙ append_assoc xs a b

-- the texts before one of a list, and then so many bytes of that one, begin the whole
pub begins_texts : (texts : List (Vec ℕ)) (i k : ℕ) (v : Vec ℕ) → i < length texts → v ≡ get_or texts i v
    → flat_map vec_items (take i texts) ++ take k v.items ≡ take (length (flat_map vec_items (take i texts)) + min k (length v.items)) (flat_map vec_items texts)
begins_texts texts i k v lt is =
    let before = flat_map vec_items (take i texts) in
    let rest = flat_map vec_items (drop (i + 1) texts) in
    let whole : flat_map vec_items texts ≡ before ++ (v.items ++ rest) = ap (flat_map vec_items) (sym (take-append-drop i texts))
    ∙ (flat_map-append vec_items (take i texts) (drop i texts) ∙ ap (λ t. before ++ t) (at_drop_more (flat_map vec_items) texts i v lt ∙ ap (λ (x : Vec ℕ). x.items ++ rest) (sym is))) in
    sym (ap (take (length before + min k (length v.items))) whole
    ∙ (take-append-add before (v.items ++ rest) (min k (length v.items)) ∙ ap (λ t. before ++ t) (take-append-le (min k (length v.items)) v.items rest (omega arith) ∙ take_min k v.items)))
