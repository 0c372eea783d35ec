-- The first of several faults, and how far a text has been found to have none.
use Rattle.std.proofs.Common.{◌≡◌, ◌⊎◌, ◌∙◌, ℕ, zero, suc, Bool, true, false, List, [], ◌∷◌, ◌++◌, get_or, Option, Some, None, Result, Ok, Err, append_assoc, inl, inr, refl, sym}
use Rattle.std.specs.Prelude.{find, if◌then◌else◌}
use Rattle.std.proofs.lemmas.List.{append-nil}
use Rattle.fill_base.specs.Sequence.{◌>>=◌}
use Rattle.fill_text.specs.Refusals.{Gives, each_fault, fault_unless, first_some, refused_or, seen}

pub first_stays : {E : Type 0} (a b : List (Option E)) (x : E) → first_some a ≡ Some x → first_some (a ++ b) ≡ Some x
first_stays [] b x e = cc e
first_stays (None ∷ a) b x e = first_stays a b x e
first_stays (Some y ∷ a) b x e = e

pub later_first : {E : Type 0} (a b : List (Option E)) → first_some a ≡ None → first_some (a ++ b) ≡ first_some b
later_first [] b e = refl
later_first (None ∷ a) b e = later_first a b e
later_first (Some y ∷ a) b e = cc e

pub none_in_both : {E : Type 0} (a b : List (Option E)) → first_some (a ++ b) ≡ None → (first_some a ≡ None) × (first_some b ≡ None)
none_in_both [] b e = (refl, e)
none_in_both (None ∷ a) b e = none_in_both a b e
none_in_both (Some y ∷ a) b e = cc e

pub not_refused : {A E : Type 0} (fault : Option E) (x y : A) → refused_or fault x ≡ Ok y → (fault ≡ None) × (x ≡ y)
not_refused None x y e = (refl, cc e)
not_refused (Some f) x y e = cc e

-- what was read is given, whatever is seen of it
pub gives_seen : {A B E : Type 0} (memory : E) (view : A → B) (r : Result A E) (read : Result B E) → seen view r ≡ read → Gives memory view r read
gives_seen memory view (Ok x) read e = sym e
gives_seen memory view (Err why) read e = inr (sym e)

-- faults that are asked for behind others
pub asked_in_turn : {A E : Type 0} (a : List (Option E)) (faults : A → List (Option E)) (x : A)
    → refused_or (first_some (a ++ faults x)) x ≡ (refused_or (first_some a) x >>= λ v. refused_or (first_some (faults v)) v)
asked_in_turn [] faults x = refl
asked_in_turn (None ∷ a) faults x = asked_in_turn a faults x
asked_in_turn (Some e ∷ a) faults x = refl

-- the same steps behind the same answer
pub same_behind : {A B E : Type 0} (r : Result A E) (f g : A → Result B E) → ((x : A) → f x ≡ g x) → (r >>= f) ≡ (r >>= g)
same_behind (Ok x) f g same = same x
same_behind (Err e) f g same = refl

-- what refuses a first answer refuses the whole
pub refused_before : {A B E : Type 0} (memory e : E) (first : Result A E) (next : A → Result B E) (whole : Result B E) → whole ≡ (first >>= next)
    → (e ≡ memory) ⊎ (first ≡ Err e) → (e ≡ memory) ⊎ (whole ≡ Err e)
refused_before memory e first next whole same (inl out) = inl out
refused_before memory e first next whole same (inr refused) = inr (same ∙ rw refused refl)

-- what is given behind a first answer is the whole
pub given_behind : {A B C E : Type 0} (memory : E) (view : C → B) (r : Result C E) (x : A) (first : Result A E) (next : A → Result B E) (whole : Result B E) → whole ≡ (first >>= next)
    → first ≡ Ok x → seen view r ≡ next x → Gives memory view r whole
given_behind memory view r x first next whole same is given = gives_seen memory view r whole (given ∙ sym (same ∙ rw is refl))

-- the first fault of the rows is that of the rest, for the rows before have none
pub record IsSoundUpTo {R E : Type 0} (fault : List R → R → Option E) (rows before rest : List R) : Type 0 where
  pub whole : before ++ rest ≡ rows
  pub same : first_some (each_fault fault [] rows) ≡ first_some (each_fault fault before rest)

pub at_start : {R E : Type 0} (fault : List R → R → Option E) (rows : List R) → IsSoundUpTo fault rows [] rows
at_start fault rows = record { whole = refl; same = refl }

pub one_more : {R E : Type 0} (fault : List R → R → Option E) (rows before : List R) (r : R) (more : List R)
    → IsSoundUpTo fault rows before (r ∷ more) → fault before r ≡ None → IsSoundUpTo fault rows (before ++ r ∷ []) more
one_more fault rows before r more sound e =
    record { whole = append_assoc before (r ∷ []) more ∙ sound.whole; same = sound.same ∙ rw e refl }

pub first_found : {R E : Type 0} (fault : List R → R → Option E) (rows before : List R) (r : R) (more : List R) (f : E)
    → IsSoundUpTo fault rows before (r ∷ more) → fault before r ≡ Some f → first_some (each_fault fault [] rows) ≡ Some f
first_found fault rows before r more f sound e = sound.same ∙ rw e refl

pub all_sound : {R E : Type 0} (fault : List R → R → Option E) (rows before rest : List R)
    → IsSoundUpTo fault rows before rest → rest ≡ [] → (first_some (each_fault fault [] rows) ≡ None) × (before ≡ rows)
all_sound fault rows before rest sound e = (sound.same ∙ rw e refl, sym (append-nil before) ∙ rw e at sound.whole)

pub unless_holds : {E : Type 0} (b : Bool) (e : E) → fault_unless b e ≡ None → b ≡ true
unless_holds true e none = refl
unless_holds false e none = cc none

pub first_none : {E : Type 0} (o : Option E) (more : List (Option E)) → first_some (o ∷ more) ≡ None → (o ≡ None) × (first_some more ≡ None)
first_none None more e = (refl, e)
first_none (Some f) more e = cc e

pub none_at : {E : Type 0} (faults : List (Option E)) (i : ℕ) → first_some faults ≡ None → get_or faults i None ≡ None
none_at [] i e = refl
none_at (None ∷ faults) zero e = refl
none_at (None ∷ faults) (suc i) e = none_at faults i e
none_at (Some f ∷ faults) i e = cc e

-- a record that `find` finds breaks no rule behind those before it
pub found_sound : {R E : Type 0} (fault : List R → R → Option E) (p : R → Bool) (before rest : List R) (r : R)
    → first_some (each_fault fault before rest) ≡ None → find p rest ≡ Some r → (earlier : List R) × (fault earlier r ≡ None)
found_sound fault p before [] r sound e = cc e
found_sound {R = R} fault p before (x ∷ rest) r sound e =
    let (this, later) = first_none (fault before x) (each_fault fault (before ++ x ∷ []) rest) sound in
    by (p x) e this (λ found. found_sound fault p (before ++ x ∷ []) rest r later found)
  where
    by : (b : Bool) → (if b then Some x else find p rest) ≡ Some r → fault before x ≡ None → (find p rest ≡ Some r → (earlier : List R) × (fault earlier r ≡ None))
        → (earlier : List R) × (fault earlier r ≡ None)
    by true e this later = let same : x ≡ r = cc e in (before, rw (← same) this)
    by false e this later = later e
