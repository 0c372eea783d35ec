-- What two runs of changes do together.
use Rattle.std.proofs.Common.{◌≡◌, ◌∙◌, ◌++◌, ◌+◌, get_or, ◌&&◌, ◌||◌, ℕ, ℤ, Bool, true, false, not, List, [], ◌∷◌, Option, Some, None, take, drop, map, length, ◌<◌, arith, ap, refl, sym, if◌then◌else◌}
use Rattle.std.proofs.lemmas.List.{map-append, take-append-drop, take_more}
use Rattle.std.proofs.lemmas.List.Folds.{list_any-append}
use Rattle.fill_base.specs.declared.rect.Rect.{Rect}
use Rattle.fill_base.specs.Squares.{squares}
use Rattle.fill_text.specs.Script.{Change, change_of}
use Rattle.fill_text.specs.declared.script.Edit.{Edit}
use Rattle.fill_text.specs.declared.script.Edit.TheVariants as edit
use Rattle.fill_region.specs.Squares.{covered}
use Rattle.densfill_engine.specs.Metal.{AreAdded, is_added, is_cut, is_within, last_change, later, makes_metal}

later-assoc : (a b c : Option Bool) → later (later a b) c ≡ later a (later b c)
later-assoc None b c = refl
later-assoc (Some k) b c = refl

later-none : (a : Option Bool) → a ≡ later a None
later-none None = refl
later-none (Some k) = refl

last_change-append : (a b : List Change) (x y : ℤ) → last_change (a ++ b) x y ≡ later (last_change b x y) (last_change a x y)
unfolding last_change
last_change-append [] b x y = later-none (last_change b x y)
last_change-append (c ∷ a) b x y =
    ap (λ k. later k (if is_within c.rect x y then makes_metal c.kind else None)) (last_change-append a b x y)
    ∙ later-assoc (last_change b x y) (last_change a x y) (if is_within c.rect x y then makes_metal c.kind else None)

-- the last change of a run is that of its second part, or else of its first
pub last_change-split : (edits : List Edit) (k : ℕ) (x y : ℤ)
    → last_change (map change_of edits) x y ≡ later (last_change (map change_of (drop k edits)) x y) (last_change (map change_of (take k edits)) x y)
last_change-split edits k x y =
    ap (λ (l : List Edit). last_change (map change_of l) x y) (sym (take-append-drop k edits))
    ∙ ap (λ l. last_change l x y) (map-append change_of (take k edits) (drop k edits))
    ∙ last_change-append (map change_of (take k edits)) (map change_of (drop k edits)) x y

pub is_added-later : (a b : Option Bool) → is_added (later b a) ≡ (is_added a && not (is_cut b)) || is_added b
is_added-later None None = refl
is_added-later (Some true) None = refl
is_added-later (Some false) None = refl
is_added-later None (Some true) = refl
is_added-later (Some true) (Some true) = refl
is_added-later (Some false) (Some true) = refl
is_added-later None (Some false) = refl
is_added-later (Some true) (Some false) = refl
is_added-later (Some false) (Some false) = refl

pub is_cut-later : (a b : Option Bool) → is_cut (later b a) ≡ (is_cut a && not (is_added b)) || is_cut b
is_cut-later None None = refl
is_cut-later (Some true) None = refl
is_cut-later (Some false) None = refl
is_cut-later None (Some true) = refl
is_cut-later (Some true) (Some true) = refl
is_cut-later (Some false) (Some true) = refl
is_cut-later None (Some false) = refl
is_cut-later (Some true) (Some false) = refl
is_cut-later (Some false) (Some false) = refl

tested_add : (b : Bool) → b ≡ is_added (if b then Some true else None)
tested_add true = refl
tested_add false = refl

tested_cut : (b : Bool) → b ≡ is_cut (if b then Some false else None)
tested_cut true = refl
tested_cut false = refl

not_cut : (b : Bool) → false ≡ is_cut (if b then Some true else None)
not_cut true = refl
not_cut false = refl

not_added : (b : Bool) → false ≡ is_added (if b then Some false else None)
not_added true = refl
not_added false = refl

-- what one edit does with a square
pub add_metal : (change : Edit) (r : Rect) → change ≡ edit.Add r → (x y : ℤ) → squares r x y ≡ is_added (last_change (change_of change ∷ []) x y)
unfolding last_change
add_metal change r e x y = rw e (tested_add (squares r x y))

pub add_cut : (change : Edit) (r : Rect) → change ≡ edit.Add r → (x y : ℤ) → false ≡ is_cut (last_change (change_of change ∷ []) x y)
unfolding last_change
add_cut change r e x y = rw e (not_cut (squares r x y))

pub cut_metal : (change : Edit) (r : Rect) → change ≡ edit.Cut r → (x y : ℤ) → false ≡ is_added (last_change (change_of change ∷ []) x y)
unfolding last_change
cut_metal change r e x y = rw e (not_added (squares r x y))

pub cut_cut : (change : Edit) (r : Rect) → change ≡ edit.Cut r → (x y : ℤ) → squares r x y ≡ is_cut (last_change (change_of change ∷ []) x y)
unfolding last_change
cut_cut change r e x y = rw e (tested_cut (squares r x y))

tested_none : (b : Bool) (o : Option Bool) → (if b then o else o) ≡ o
tested_none true o = refl
tested_none false o = refl

pub keep_metal : (change : Edit) (r : Rect) → change ≡ edit.Keep r → (x y : ℤ) → false ≡ is_added (last_change (change_of change ∷ []) x y)
unfolding last_change
keep_metal change r e x y = rw (e, tested_none (squares r x y) None) refl

pub keep_cut : (change : Edit) (r : Rect) → change ≡ edit.Keep r → (x y : ℤ) → false ≡ is_cut (last_change (change_of change ∷ []) x y)
unfolding last_change
keep_cut change r e x y = rw (e, tested_none (squares r x y) None) refl

-- no edit does nothing
pub no_change : (edits : List Edit) → length edits < 1 → (x y : ℤ) → None ≡ last_change (map change_of edits) x y
unfolding last_change
no_change [] few x y = refl
no_change (e ∷ edits) few x y = absurd (omega arith)

-- two runs, one behind the other
pub joined_metal : (edits front back : List Edit) (k : ℕ) (x y : ℤ) (m first second cut : Bool) → front ≡ take k edits → back ≡ drop k edits
    → m ≡ (first && not cut) || second → first ≡ is_added (last_change (map change_of front) x y)
    → second ≡ is_added (last_change (map change_of back) x y) → cut ≡ is_cut (last_change (map change_of back) x y)
    → m ≡ is_added (last_change (map change_of edits) x y)
joined_metal edits front back k x y m first second cut f b e p q r =
    e ∙ rw (p, q, r, last_change-split edits k x y, ← f, ← b) (sym (is_added-later (last_change (map change_of front) x y) (last_change (map change_of back) x y)))

pub joined_cut : (edits front back : List Edit) (k : ℕ) (x y : ℤ) (m first second metal : Bool) → front ≡ take k edits → back ≡ drop k edits
    → m ≡ (first && not metal) || second → first ≡ is_cut (last_change (map change_of front) x y)
    → second ≡ is_cut (last_change (map change_of back) x y) → metal ≡ is_added (last_change (map change_of back) x y)
    → m ≡ is_cut (last_change (map change_of edits) x y)
joined_cut edits front back k x y m first second metal f b e p q r =
    e ∙ rw (p, q, r, last_change-split edits k x y, ← f, ← b) (sym (is_cut-later (last_change (map change_of front) x y) (last_change (map change_of back) x y)))

-- runs that only add
pub none_added : AreAdded [] []
unfolding last_change
none_added x y = refl

both_added : (b c : Bool) → later (if c then Some true else None) (if b then Some true else None) ≡ if (b || (c || false)) then Some true else None
both_added true true = refl
both_added true false = refl
both_added false true = refl
both_added false false = refl

added_by : (change : Edit) (r : Rect) → change ≡ edit.Add r → (x y : ℤ) → last_change (change_of change ∷ []) x y ≡ if squares r x y then Some true else None
unfolding last_change
added_by change r e x y = rw e refl

pub one_more_added : (edits : List Edit) (k : ℕ) (e : Edit) (r : Rect) (rects new : List Rect) → k < length edits → e ≡ get_or edits k e → e ≡ edit.Add r → new ≡ rects ++ r ∷ []
    → AreAdded (map change_of (take k edits)) rects → AreAdded (map change_of (take (k + 1) edits)) new
one_more_added edits k e r rects new lt item is joined added x y =
    let first = map change_of (take k edits) in
    let whole : map change_of (take (k + 1) edits) ≡ first ++ change_of e ∷ [] =
    ap (map change_of) (take_more edits k e lt ∙ ap (λ z. take k edits ++ z ∷ []) (sym item)) ∙ map-append change_of (take k edits) (e ∷ []) in
    ap (λ l. last_change l x y) whole ∙ (last_change-append first (change_of e ∷ []) x y
    ∙ (ap (λ l. later l (last_change first x y)) (added_by e r is x y) ∙ (ap (λ l. later (if squares r x y then Some true else None) l) (added x y)
    ∙ (both_added (covered rects x y) (squares r x y)
    ∙ ap (λ (b : Bool). if b then Some true else None) (sym (ap (λ l. covered l x y) joined ∙ list_any-append (λ q. squares q x y) rects (r ∷ [])))))))

kept_by : (change : Edit) (r : Rect) → change ≡ edit.Keep r → (x y : ℤ) → last_change (change_of change ∷ []) x y ≡ None
unfolding last_change
kept_by change r e x y = rw e (tested_none (squares r x y) None)

pub none_more_added : (edits : List Edit) (k : ℕ) (e : Edit) (r : Rect) (rects : List Rect) → k < length edits → e ≡ get_or edits k e → e ≡ edit.Keep r
    → AreAdded (map change_of (take k edits)) rects → AreAdded (map change_of (take (k + 1) edits)) rects
none_more_added edits k e r rects lt item is added x y =
    let first = map change_of (take k edits) in
    let whole : map change_of (take (k + 1) edits) ≡ first ++ change_of e ∷ [] =
    ap (map change_of) (take_more edits k e lt ∙ ap (λ z. take k edits ++ z ∷ []) (sym item)) ∙ map-append change_of (take k edits) (e ∷ []) in
    ap (λ l. last_change l x y) whole ∙ (last_change-append first (change_of e ∷ []) x y
    ∙ (ap (λ l. later l (last_change first x y)) (kept_by e r is x y) ∙ added x y))
