-- A fault that is there is the one that is told: one text has one fault.
use Rattle.std.proofs.Common.{◌≡◌, ℕ, ◌+◌, ◌-◌, ◌^◌, ◌<◌, List, [], ◌∷◌, ◌++◌, length, Result, Ok, Err, refl, sym, ap, subst, ◌∙◌, append_assoc, length-append, arith, inl, inr}
use Rattle.std.specs.Prelude.{◌⊎◌}
use Rattle.std.specs.List.{flat_map, AllByRecursion}
use Rattle.gds_record.specs.Records.{Rec, IsRecord, spelling, IsTruncated, IsBadLength}
use Rattle.gds_record.specs.Reading.{record_at}
use Rattle.gds_record.proofs.Spellings.{one_front, at_again, at_bad, at_short}
use Rattle.gds_grammar.specs.declared.error.Refusal.{Refusal}
use Rattle.gds_grammar.specs.declared.error.Refusal.TheVariants as refusals
use Rattle.gds_grammar.specs.declared.error.Cause.{Cause}
use Rattle.gds_grammar.specs.declared.error.Cause.TheVariants as causes
use Rattle.gds_grammar.specs.declared.error.Stop.{Stop}
use Rattle.gds_grammar.specs.declared.error.Stop.TheVariants as stops
use Rattle.gds_grammar.specs.declared.error.LibraryError.{LibraryError}
use Rattle.gds_grammar.specs.declared.error.LibraryError.TheVariants as errors
use Rattle.gds_grammar.specs.Values.{Contents}
use Rattle.gds_grammar.specs.Grammar.{Rules, no_rules, points_alone, points_and_closing, all_rules, IsLibrary, IsViable}
use Rattle.gds_grammar.specs.Machine.{State, Start, Done, fine, refuse, step, run}
use Rattle.gds_grammar.specs.Laws.{IsWhy}
use Rattle.gds_grammar.specs.steps.Reading.{IsOpen, IsRefusedAt, FailsAt, FailsLater, Fails, error_of}
use Rattle.gds_grammar.specs.Outcomes.{Spells, SoFar, LacksRecord, RefusesRecord, IsFault}
use Rattle.gds_grammar.proofs.Runs.{fine_is, bind_ok, run_append}
use Rattle.gds_grammar.proofs.Back.{run_is_library, library_runs}
use Rattle.gds_grammar.proofs.Why.{all_append, IsLooser, run_looser, run_more, refused_at_the_first_lem, none_of_alone, alone_of_closing}
use Rattle.gds_grammar.proofs.Unique.{one_begins, goes_on, record_fails, all_of_second, no_fault, many_bytes}

-- ---- what keeps stricter rules keeps looser ones

looser_library : (σ ρ : Rules) → IsLooser σ ρ → (rs : List Rec) (v : Contents) → IsLibrary ρ rs v → IsLibrary σ rs v
looser_library σ ρ l rs v h = run_is_library σ rs v h.well.fit (run_looser σ ρ l Start (Done v) rs (library_runs ρ rs v h))

looser_viable : (σ ρ : Rules) → IsLooser σ ρ → (rs : List Rec) → IsViable ρ rs → IsViable σ rs
looser_viable σ ρ l rs h = record { more = h.more; value = h.value; library = looser_library σ ρ l (rs ++ h.more) h.value h.library }

none_from_alone : (rs : List Rec) → IsViable points_alone rs → IsViable no_rules rs
none_from_alone rs h = looser_viable no_rules points_alone none_of_alone rs h

alone_from_closing : (rs : List Rec) → IsViable points_and_closing rs → IsViable points_alone rs
alone_from_closing rs h = looser_viable points_alone points_and_closing alone_of_closing rs h

-- one list of records breaks one rule first
one_reason : (d e : Refusal) (rs : List Rec) → IsWhy d rs → IsWhy e rs → d ≡ e
one_reason refusals.Unexpected refusals.Unexpected rs h k = refl
one_reason refusals.BadXY refusals.BadXY rs h k = refl
one_reason refusals.NotClosed refusals.NotClosed rs h k = refl
one_reason refusals.DuplicateCell refusals.DuplicateCell rs h k = refl
one_reason refusals.Unexpected refusals.BadXY rs h k = absurd (h k.0)
one_reason refusals.Unexpected refusals.NotClosed rs h k = absurd (h (none_from_alone rs k.0))
one_reason refusals.Unexpected refusals.DuplicateCell rs h k = absurd (h (none_from_alone rs (alone_from_closing rs k.0)))
one_reason refusals.BadXY refusals.Unexpected rs h k = absurd (k h.0)
one_reason refusals.BadXY refusals.NotClosed rs h k = absurd (h.1 k.0)
one_reason refusals.BadXY refusals.DuplicateCell rs h k = absurd (h.1 (alone_from_closing rs k.0))
one_reason refusals.NotClosed refusals.Unexpected rs h k = absurd (k (none_from_alone rs h.0))
one_reason refusals.NotClosed refusals.BadXY rs h k = absurd (k.1 h.0)
one_reason refusals.NotClosed refusals.DuplicateCell rs h k = absurd (h.1 k.0)
one_reason refusals.DuplicateCell refusals.Unexpected rs h k = absurd (k (none_from_alone rs (alone_from_closing rs h.0)))
one_reason refusals.DuplicateCell refusals.BadXY rs h k = absurd (k.1 (alone_from_closing rs h.0))
one_reason refusals.DuplicateCell refusals.NotClosed rs h k = absurd (k.1 h.0)

-- ---- where the machine is behind viable records

first_of_all : (xs ys : List Rec) → AllByRecursion IsRecord (xs ++ ys) → AllByRecursion IsRecord xs
first_of_all [] ys h = tt
first_of_all (x ∷ xs) ys h = (h.0, first_of_all xs ys h.1)

behind : (bytes : List ℕ) (records : List Rec) (rest : List ℕ) → SoFar bytes records rest → (s : State) × (run all_rules Start records ≡ fine s) × AllByRecursion IsRecord records × IsOpen s
behind bytes records rest h =
    let v = h.viable in
    let whole = sym (run_append all_rules Start records v.more) ∙ library_runs all_rules (records ++ v.more) v.value v.library in
    let b = bind_ok (run all_rules Start records) (λ t. run all_rules t v.more) (Done v.value) whole in
    let fit = first_of_all records v.more v.library.well.fit in
    (b.0, b.1, fit, λ l e. h.unfinished l (run_is_library all_rules records l fit (b.1 ∙ ap fine e)))

lacks_fails : (bytes : List ℕ) (cause : Cause) (IsFaulty : List ℕ → Type 0) (h : LacksRecord bytes IsFaulty) → ((s : State) → IsFaulty h.rest → FailsAt s h.rest cause) → FailsLater bytes Start cause (length h.rest)
lacks_fails bytes cause IsFaulty h shows =
    let b = behind bytes h.records h.rest h.so_far in
    record {
      at = b.0;
      rest = h.rest;
      reached = record { taken = h.records; parts = h.so_far.parts; fit = b.2; runs = b.1 };
      unfinished = b.3;
      here = refl;
      fails = shows b.0 h.fault;
    }

-- the record after which nothing makes a library is refused, and for that reason
refused_there : (records : List Rec) (faulty : Rec) (rest : List ℕ) (why : Refusal) (s : State) → run all_rules Start records ≡ fine s → AllByRecursion IsRecord records → IsRecord faulty
    → length (records ++ faulty ∷ []) < 2 ^ 64 → (IsViable all_rules (records ++ faulty ∷ []) → ⊥) → IsWhy why (records ++ faulty ∷ [])
    → (r : Result State Refusal) → step all_rules s faulty ≡ r → IsRefusedAt s (spelling faulty ++ rest) why
refused_there records faulty rest why s runs fit fits lt refused because (Ok t) e =
    absurd (refused (refused_at_the_first_lem.taken (records ++ faulty ∷ []) t (all_append IsRecord records (faulty ∷ []) fit (fits, tt)) lt (run_more all_rules records s t faulty runs e)))
refused_there records faulty rest why s runs fit fits lt refused because (Err d) e =
    let reason = (refused_at_the_first_lem.refused records s faulty d fit fits runs e).1 in
    let same : d ≡ why = one_reason d why (records ++ faulty ∷ []) reason because in
    record { faulty = faulty; rest = rest; parts = refl; fits = fits; refused = e ∙ ap refuse same }

refuses_fails : (bytes : List ℕ) (why : Refusal) (at : ℕ) (h : RefusesRecord bytes why at) → length bytes < 2 ^ 64 → FailsLater bytes Start (causes.Refused why) (length (spelling h.faulty ++ h.rest))
refuses_fails bytes why at h lt =
    let b = behind bytes h.records (spelling h.faulty ++ h.rest) h.so_far in
    let size : length bytes ≡ length (flat_map spelling h.records) + length (spelling h.faulty ++ h.rest) =
    ap length h.so_far.parts ∙ length-append (flat_map spelling h.records) (spelling h.faulty ++ h.rest) in
    let few : length (h.records ++ h.faulty ∷ []) < 2 ^ 64 =
    omega (arith, many_bytes h.records, size, lt, length-append (spelling h.faulty) h.rest, length-append h.records (h.faulty ∷ [])) in
    record {
      at = b.0;
      rest = spelling h.faulty ++ h.rest;
      reached = record { taken = h.records; parts = h.so_far.parts; fit = b.2; runs = b.1 };
      unfinished = b.3;
      here = refl;
      fails = refused_there h.records h.faulty h.rest why b.0 b.1 b.2 h.is_record few h.refused h.because (step all_rules b.0 h.faulty) refl;
    }

-- ---- one text has one fault

one_cause : (s : State) (bytes : List ℕ) (c d : Cause) → FailsAt s bytes c → FailsAt s bytes d → c ≡ d
one_cause s bytes causes.Truncated causes.Truncated h k = refl
one_cause s bytes causes.BadLength causes.BadLength h k = refl
one_cause s bytes causes.Truncated causes.BadLength h k = let both = sym ((at_short bytes).1 h) ∙ (at_bad bytes).1 k in absurd cc
one_cause s bytes causes.BadLength causes.Truncated h k = let both = sym ((at_short bytes).1 k) ∙ (at_bad bytes).1 h in absurd cc
one_cause s bytes causes.Truncated (causes.Refused e) h k =
    let both = sym ((at_short bytes).1 h) ∙ ap record_at k.parts ∙ at_again k.faulty k.rest k.fits in absurd cc
one_cause s bytes causes.BadLength (causes.Refused e) h k =
    let both = sym ((at_bad bytes).1 h) ∙ ap record_at k.parts ∙ at_again k.faulty k.rest k.fits in absurd cc
one_cause s bytes (causes.Refused e) causes.Truncated h k =
    let both = sym ((at_short bytes).1 k) ∙ ap record_at h.parts ∙ at_again h.faulty h.rest h.fits in absurd cc
one_cause s bytes (causes.Refused e) causes.BadLength h k =
    let both = sym ((at_bad bytes).1 k) ∙ ap record_at h.parts ∙ at_again h.faulty h.rest h.fits in absurd cc
one_cause s bytes (causes.Refused d) (causes.Refused e) h k =
    let same = (one_front h.faulty k.faulty h.rest k.rest h.fits k.fits (sym h.parts ∙ k.parts)).0 in
    let both : refuse d ≡ refuse e = sym h.refused ∙ ap (step all_rules s) same ∙ k.refused in
    cc

fault_on : (at t : State) (rest y : List ℕ) (more : List Rec) (c d : Cause) → AllByRecursion IsRecord more → rest ≡ flat_map spelling more ++ y
    → run all_rules at more ≡ fine t → FailsAt at rest c → FailsAt t y d → (c ≡ d) × (length rest ≡ length y)
unfolding run
fault_on at t rest y [] c d fits e h f g =
    let here : FailsAt at rest d = subst (λ s. FailsAt s rest d) (sym (fine_is at t h)) (subst (λ b. FailsAt t b d) (sym e) g) in
    (one_cause at rest c d f here, ap length e)
fault_on at t rest y (r ∷ rs) c d fits e h f g =
    let b = bind_ok (step all_rules at r) (λ u. run all_rules u rs) t h in
    absurd (record_fails at b.0 rest r (flat_map spelling rs ++ y) c fits.0 (e ∙ append_assoc (spelling r) (flat_map spelling rs) y) b.1 f)

one_fault : (bytes : List ℕ) (c d : Cause) (m n : ℕ) → FailsLater bytes Start c m → FailsLater bytes Start d n → (c ≡ d) × (m ≡ n)
one_fault bytes c d m n h k =
    let a = h.reached in
    let b = k.reached in
    elim (one_begins a.taken b.taken h.rest k.rest a.fit b.fit (sym a.parts ∙ b.parts)) [
      | inl q ↦
          let p = fault_on h.at k.at h.rest k.rest q.more c d (all_of_second a.taken q.more b.taken q.longer b.fit) q.left (goes_on a.taken b.taken q.more h.at k.at q.longer a.runs b.runs) h.fails k.fails in
          (p.0, sym h.here ∙ p.1 ∙ k.here)
      | inr q ↦
          let p = fault_on k.at h.at k.rest h.rest q.more d c (all_of_second b.taken q.more a.taken q.longer a.fit) q.left (goes_on b.taken a.taken q.more k.at h.at q.longer b.runs a.runs) k.fails h.fails in
          (sym p.0, sym h.here ∙ sym p.1 ∙ k.here)
    ]

-- ---- the fault that an error tells of

record Tells (bytes : List ℕ) (e : LibraryError) : Type 0 where
  cause : Cause
  left : ℕ
  fails : FailsLater bytes Start cause left
  told : error_of (stops.Fault cause left) (length bytes) ≡ e

offset_is : (bytes : List ℕ) (why : Refusal) (at : ℕ) (h : RefusesRecord bytes why at) → length bytes - length (spelling h.faulty ++ h.rest) ≡ at
offset_is bytes why at h =
    let size : length bytes ≡ length (flat_map spelling h.records) + length (spelling h.faulty ++ h.rest) =
    ap length h.so_far.parts ∙ length-append (flat_map spelling h.records) (spelling h.faulty ++ h.rest) in
    omega (arith, size, h.offset)

tells : (bytes : List ℕ) (e : LibraryError) → length bytes < 2 ^ 64 → IsFault bytes e → Tells bytes e
tells bytes errors.Memory lt h = absurd h
tells bytes errors.Truncated lt h = record { cause = causes.Truncated; left = length h.rest; fails = lacks_fails bytes causes.Truncated IsTruncated h (λ s f. f); told = refl }
tells bytes errors.BadLength lt h = record { cause = causes.BadLength; left = length h.rest; fails = lacks_fails bytes causes.BadLength IsBadLength h (λ s f. f); told = refl }
tells bytes (errors.Unexpected at) lt h =
    record { cause = causes.Refused refusals.Unexpected; left = length (spelling h.faulty ++ h.rest); fails = refuses_fails bytes refusals.Unexpected at h lt; told = ap (λ n. errors.Unexpected n) (offset_is bytes refusals.Unexpected at h) }
tells bytes errors.BadXY lt h =
    record { cause = causes.Refused refusals.BadXY; left = length (spelling h.1.faulty ++ h.1.rest); fails = refuses_fails bytes refusals.BadXY h.0 h.1 lt; told = refl }
tells bytes errors.NotClosed lt h =
    record { cause = causes.Refused refusals.NotClosed; left = length (spelling h.1.faulty ++ h.1.rest); fails = refuses_fails bytes refusals.NotClosed h.0 h.1 lt; told = refl }
tells bytes errors.DuplicateCell lt h =
    record { cause = causes.Refused refusals.DuplicateCell; left = length (spelling h.1.faulty ++ h.1.rest); fails = refuses_fails bytes refusals.DuplicateCell h.0 h.1 lt; told = refl }

pub told : (bytes : List ℕ) (stop : Stop) (e : LibraryError) → length bytes < 2 ^ 64 → Fails bytes Start stop → IsFault bytes e
    → (error_of stop (length bytes) ≡ errors.Memory) ⊎ (error_of stop (length bytes) ≡ e)
told bytes stops.Memory e lt h f = inl refl
told bytes (stops.Fault cause left) e lt h f =
    let t = tells bytes e lt f in
    let same = one_fault bytes cause t.cause left t.left h t.fails in
    let P : Cause → Type 0 = λ c. error_of (stops.Fault c left) (length bytes) ≡ e in
    let Q : ℕ → Type 0 = λ m. error_of (stops.Fault t.cause m) (length bytes) ≡ e in
    inr (subst P (sym same.0) (subst Q (sym same.1) t.told))

pub no_fault_told : (bytes : List ℕ) (e : LibraryError) (w : Contents) → length bytes < 2 ^ 64 → Spells bytes w → IsFault bytes e → ⊥
no_fault_told bytes e w lt s f = let t = tells bytes e lt f in no_fault bytes t.cause t.left w t.fails s
