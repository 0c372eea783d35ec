-- One text has one reading.
use Rattle.std.proofs.Common.{◌≡◌, ℕ, ◌+◌, ◌-◌, ◌^◌, ◌<◌, ◌≤◌, List, [], ◌∷◌, ◌++◌, length, refl, sym, ap, subst, ◌∙◌, append_assoc, length-append, arith, inl, inr}
use Rattle.std.specs.Prelude.{◌⊎◌}
use Rattle.std.specs.List.{flat_map, AllByRecursion}
use Rattle.gds_record.specs.Records.{Rec, IsRecord, spelling, IsTruncated, IsBadLength}
use Rattle.gds_record.specs.Reading.{record_at}
use Rattle.gds_record.proofs.Spellings.{one_front, at_again, at_bad, at_short}
use Rattle.gds_grammar.specs.declared.error.Refusal.{Refusal}
use Rattle.gds_grammar.specs.declared.error.Refusal.TheVariants as refusals
use Rattle.gds_grammar.specs.declared.error.Cause.{Cause}
use Rattle.gds_grammar.specs.declared.error.Cause.TheVariants as causes
use Rattle.gds_grammar.specs.declared.error.Stop.{Stop}
use Rattle.gds_grammar.specs.declared.error.Stop.TheVariants as stops
use Rattle.gds_grammar.specs.declared.error.LibraryError.TheVariants as errors
use Rattle.gds_grammar.specs.Forms.{is_well}
use Rattle.gds_grammar.specs.Values.{Contents}
use Rattle.gds_grammar.specs.Grammar.{all_rules}
use Rattle.gds_grammar.specs.Machine.{State, Start, Done, fine, next_state, step, run}
use Rattle.gds_grammar.specs.steps.Reading.{Reaches, IsOpen, FailsAt, FailsLater, Fails, error_of}
use Rattle.gds_grammar.specs.Outcomes.{Spells, SoFar, LacksRecord, RefusesRecord, IsRefused}
use Rattle.gds_grammar.proofs.Runs.{fine_is, not_fine, only_true, bind_ok, run_append}
use Rattle.gds_grammar.proofs.Back.{run_is_library, library_runs}
use Rattle.gds_grammar.proofs.Why.{refused_at_the_first_lem}

-- of two lists of records at the front of one text, one begins the other
pub record Begins (xs ys : List Rec) (x y : List ℕ) : Type 0 where
  pub more : List Rec
  pub longer : ys ≡ xs ++ more
  pub left : x ≡ flat_map spelling more ++ y

pub one_begins : (xs ys : List Rec) (x y : List ℕ) → AllByRecursion IsRecord xs → AllByRecursion IsRecord ys → flat_map spelling xs ++ x ≡ flat_map spelling ys ++ y
    → Begins xs ys x y ⊎ Begins ys xs y x
one_begins [] ys x y fx fy e = inl (record { more = ys; longer = refl; left = e })
one_begins (a ∷ xs) [] x y fx fy e = inr (record { more = a ∷ xs; longer = refl; left = sym e })
one_begins (a ∷ xs) (b ∷ ys) x y fx fy e =
    let regrouped : spelling a ++ (flat_map spelling xs ++ x) ≡ spelling b ++ (flat_map spelling ys ++ y) =
    sym (append_assoc (spelling a) (flat_map spelling xs) x) ∙ e ∙ append_assoc (spelling b) (flat_map spelling ys) y in
    let p = one_front a b (flat_map spelling xs ++ x) (flat_map spelling ys ++ y) fx.0 fy.0 regrouped in
    let first : a ≡ b = p.0 in
    elim (one_begins xs ys x y fx.1 fy.1 p.1) [
      | inl q ↦ inl (record { more = q.more; longer = ap (λ r. r ∷ ys) (sym first) ∙ ap (λ rs. a ∷ rs) q.longer; left = q.left })
      | inr q ↦ inr (record { more = q.more; longer = ap (λ r. r ∷ xs) first ∙ ap (λ rs. b ∷ rs) q.longer; left = q.left })
    ]

-- nothing follows a library that has ended
ended_step : (v : Contents) (r : Rec) (t : State) → step all_rules (Done v) r ≡ fine t → ⊥
unfolding next_state
ended_step v r t e = let p = only_true (is_well r) (next_state all_rules (Done v) r) refusals.Unexpected t e in not_fine refusals.Unexpected t p.1

ended : (v : Contents) (t : State) (rs : List Rec) → run all_rules (Done v) rs ≡ fine t → Done v ≡ t
unfolding run
ended v t [] e = fine_is (Done v) t e
ended v t (r ∷ rs) e = let b = bind_ok (step all_rules (Done v) r) (λ u. run all_rules u rs) t e in absurd (ended_step v r b.0 b.1)

-- a run over a longer list goes on from the end of the shorter one
pub goes_on : (xs ys more : List Rec) (s t : State) → ys ≡ xs ++ more → run all_rules Start xs ≡ fine s → run all_rules Start ys ≡ fine t → run all_rules s more ≡ fine t
goes_on xs ys more s t e h k =
    let whole : run all_rules Start (xs ++ more) ≡ run all_rules s more = run_append all_rules Start xs more ∙ rw h refl in
    sym whole ∙ ap (run all_rules Start) (sym e) ∙ k

done_is : (v w : Contents) → Done v ≡ Done w → v ≡ w
done_is v w e = cc

-- two libraries at the front of one text say the same
pub one_value : (bytes rest : List ℕ) (v w : Contents) → Reaches bytes Start rest (Done v) → Spells bytes w → v ≡ w
one_value bytes rest v w h k =
    let runs = library_runs all_rules k.records w k.library in
    elim (one_begins h.taken k.records rest k.rest h.fit k.library.well.fit (sym h.parts ∙ k.parts)) [
      | inl q ↦ done_is v w (ended v (Done w) q.more (goes_on h.taken k.records q.more (Done v) (Done w) q.longer h.runs runs))
      | inr q ↦ sym (done_is w v (ended w (Done v) q.more (goes_on k.records h.taken q.more (Done w) (Done v) q.longer runs h.runs)))
    ]

pub spelled_once : (bytes : List ℕ) (one other : Contents) → Spells bytes one → Spells bytes other → one ≡ other
spelled_once bytes one other h k =
    one_value bytes h.rest one other (record { taken = h.records; fit = h.library.well.fit; parts = h.parts; runs = library_runs all_rules h.records one h.library }) k

-- where a record stands and is taken nothing fails
pub record_fails : (s t : State) (bytes : List ℕ) (r : Rec) (x : List ℕ) (cause : Cause) → IsRecord r → bytes ≡ spelling r ++ x → step all_rules s r ≡ fine t → FailsAt s bytes cause → ⊥
record_fails s t bytes r x causes.Truncated fits e h f =
    let short = (at_short bytes).1 f in
    let read = ap record_at e ∙ at_again r x fits in
    let both = sym short ∙ read in
    cc
record_fails s t bytes r x causes.BadLength fits e h f =
    let bad = (at_bad bytes).1 f in
    let read = ap record_at e ∙ at_again r x fits in
    let both = sym bad ∙ read in
    cc
record_fails s t bytes r x (causes.Refused d) fits e h f =
    let same = (one_front r f.faulty x f.rest fits f.fits (sym e ∙ f.parts)).0 in
    not_fine d t (sym f.refused ∙ ap (step all_rules s) (sym same) ∙ h)

fails_on : (at t : State) (rest y : List ℕ) (more : List Rec) (cause : Cause) → IsOpen at → AllByRecursion IsRecord more → rest ≡ flat_map spelling more ++ y → (w : Contents) → t ≡ Done w
    → run all_rules at more ≡ fine t → FailsAt at rest cause → ⊥
unfolding run
fails_on at t rest y [] cause unfinished fits e w is h f = unfinished w (fine_is at t h ∙ is)
fails_on at t rest y (r ∷ rs) cause unfinished fits e w is h f =
    let b = bind_ok (step all_rules at r) (λ u. run all_rules u rs) t h in
    record_fails at b.0 rest r (flat_map spelling rs ++ y) cause fits.0 (e ∙ append_assoc (spelling r) (flat_map spelling rs) y) b.1 f

pub all_of_second : (xs more ys : List Rec) → ys ≡ xs ++ more → AllByRecursion IsRecord ys → AllByRecursion IsRecord more
all_of_second xs more ys e h = second xs more (subst (AllByRecursion IsRecord) e h) where
  second : (xs more : List Rec) → AllByRecursion IsRecord (xs ++ more) → AllByRecursion IsRecord more
  second [] more h = h
  second (x ∷ xs) more h = second xs more h.1

-- a text that begins with a library has no fault
pub no_fault : (bytes : List ℕ) (cause : Cause) (left : ℕ) (w : Contents) → FailsLater bytes Start cause left → Spells bytes w → ⊥
no_fault bytes cause left w h k =
    let runs = library_runs all_rules k.records w k.library in
    let r = h.reached in
    elim (one_begins r.taken k.records h.rest k.rest r.fit k.library.well.fit (sym r.parts ∙ k.parts)) [
      | inl q ↦ fails_on h.at (Done w) h.rest k.rest q.more cause h.unfinished (all_of_second r.taken q.more k.records q.longer k.library.well.fit) q.left w refl
          (goes_on r.taken k.records q.more h.at (Done w) q.longer r.runs runs) h.fails
      | inr q ↦ h.unfinished w (sym (ended w h.at q.more (goes_on k.records r.taken q.more (Done w) h.at q.longer runs r.runs)))
    ]

-- ---- which error it is

pub many_bytes : (rs : List Rec) → length rs ≤ length (flat_map spelling rs)
many_bytes [] = omega arith
many_bytes (r ∷ rs) = omega (arith, many_bytes rs, length-append (spelling r) (flat_map spelling rs))

pub so_far : (bytes rest : List ℕ) (s : State) (h : Reaches bytes Start rest s) → IsOpen s → length bytes < 2 ^ 64 → SoFar bytes h.taken rest
so_far bytes rest s h unfinished lt =
    let size : length bytes ≡ length (flat_map spelling h.taken) + length rest = ap length h.parts ∙ length-append (flat_map spelling h.taken) rest in
    record {
      parts = h.parts;
      viable = refused_at_the_first_lem.taken h.taken s h.fit (omega (arith, many_bytes h.taken, size, lt)) h.runs;
      unfinished = λ value library. unfinished value (fine_is s (Done value) (sym h.runs ∙ library_runs all_rules h.taken value library));
    }

lacks : (bytes : List ℕ) (cause : Cause) (left : ℕ) (IsFault : List ℕ → Type 0) → (h : FailsLater bytes Start cause left) → length bytes < 2 ^ 64 → IsFault h.rest → LacksRecord bytes IsFault
lacks bytes cause left IsFault h lt f = record { records = h.reached.taken; rest = h.rest; so_far = so_far bytes h.rest h.at h.reached h.unfinished lt; fault = f }

refuses : (bytes : List ℕ) (e : Refusal) (left : ℕ) → FailsLater bytes Start (causes.Refused e) left → length bytes < 2 ^ 64 → RefusesRecord bytes e (length bytes - left)
refuses bytes e left h lt =
    let r = h.reached in
    let f = h.fails in
    let size : length bytes ≡ length (flat_map spelling r.taken) + length h.rest = ap length r.parts ∙ length-append (flat_map spelling r.taken) h.rest in
    let why = refused_at_the_first_lem.refused r.taken h.at f.faulty e r.fit f.fits r.runs f.refused in
    record {
      records = r.taken;
      faulty = f.faulty;
      rest = f.rest;
      so_far = subst (SoFar bytes r.taken) f.parts (so_far bytes h.rest h.at r h.unfinished lt);
      is_record = f.fits;
      refused = why.0;
      because = why.1;
      offset = omega (arith, size, h.here);
    }

pub is_refused : (bytes : List ℕ) (stop : Stop) → Fails bytes Start stop → length bytes < 2 ^ 64 → IsRefused bytes (error_of stop (length bytes))
is_refused bytes stops.Memory h lt = tt
is_refused bytes (stops.Fault causes.Truncated left) h lt = lacks bytes causes.Truncated left IsTruncated h lt h.fails
is_refused bytes (stops.Fault causes.BadLength left) h lt = lacks bytes causes.BadLength left IsBadLength h lt h.fails
is_refused bytes (stops.Fault (causes.Refused refusals.Unexpected) left) h lt = refuses bytes refusals.Unexpected left h lt
is_refused bytes (stops.Fault (causes.Refused refusals.BadXY) left) h lt = (length bytes - left, refuses bytes refusals.BadXY left h lt)
is_refused bytes (stops.Fault (causes.Refused refusals.NotClosed) left) h lt = (length bytes - left, refuses bytes refusals.NotClosed left h lt)
is_refused bytes (stops.Fault (causes.Refused refusals.DuplicateCell) left) h lt = (length bytes - left, refuses bytes refusals.DuplicateCell left h lt)

pub spells : (bytes rest : List ℕ) (v : Contents) → Reaches bytes Start rest (Done v) → Spells bytes v
spells bytes rest v h = record { records = h.taken; rest = rest; parts = h.parts; library = run_is_library all_rules h.taken v h.fit h.runs }

-- only want of memory keeps a library from being read
pub only_memory : (bytes : List ℕ) (stop : Stop) (w : Contents) → Fails bytes Start stop → Spells bytes w → error_of stop (length bytes) ≡ errors.Memory
only_memory bytes stops.Memory w h k = refl
only_memory bytes (stops.Fault cause left) w h k = absurd (no_fault bytes cause left w h k)
