-- From place to place along the bytes.
use Rattle.std.proofs.Common.{◌≡◌, ℕ, ◌<◌, ◌≤◌, Bool, true, false, List, [], ◌∷◌, ◌++◌, length, Result, refl, sym, ap, subst, ◌∙◌, append_assoc, length-append, arith}
use Rattle.std.specs.Cmp.{first_so, second_so}
use Rattle.std.specs.List.{flat_map}
use Rattle.std.proofs.lemmas.List.{append-nil}
use Rattle.std.proofs.lemmas.Grind.{flat_map-append}
use Rattle.gds_record.specs.Records.{Rec, IsRecord, spelling}
use Rattle.gds_grammar.specs.declared.error.Refusal.{Refusal}
use Rattle.gds_grammar.specs.declared.error.Refusal.TheVariants.{Unexpected, DuplicateCell}
use Rattle.gds_grammar.specs.Forms.{is_well, IsWell, has_form, has_size, has_name_if_asked}
use Rattle.gds_grammar.specs.declared.error.Cause.{Cause}
use Rattle.gds_grammar.specs.declared.error.Cause.TheVariants as causes
use Rattle.gds_grammar.specs.declared.error.Stop.{Stop}
use Rattle.gds_grammar.specs.declared.error.Stop.TheVariants as stops
use Rattle.gds_grammar.specs.Grammar.{all_rules, has_name}
use Rattle.gds_record.specs.Numbers.{trimmed}
use Rattle.gds_grammar.specs.Machine.{State, Start, Headed, Dated, Between, Opened, Named, Body, Unlettered, Tail, Paired, fine, refuse, expect, behind_xy, next_state, step, run}
use Rattle.gds_grammar.specs.declared.element.ElementKind.{ElementKind}
use Rattle.gds_grammar.specs.Values.{Shape, Contents}
use Rattle.gds_record.specs.declared.kind.TheConstants as kinds
use Rattle.std.specs.Prelude.{◌&&◌}
use Rattle.std.proofs.lemmas.Bool.{eqb-true, eq-eqb}
use Rattle.gds_grammar.specs.steps.Reading.{Reaches, IsNext, IsNextOf, IsOpen, OnlyTakes, FailsAt, FailsLater, Fails, parts_state, cell_state}
use Rattle.gds_grammar.proofs.Runs.{apart, expected, run_append, run_one}
use Rattle.gds_grammar.proofs.Why.{all_append}

pub stays_put : (bytes : List ℕ) (s : State) → Reaches bytes s bytes s
unfolding run
stays_put bytes s = record { taken = []; parts = refl; fit = tt; runs = refl }

pub fails_here : (bytes : List ℕ) (s : State) (cause : Cause) (left : ℕ) → IsOpen s → length bytes ≡ left → FailsAt s bytes cause → FailsLater bytes s cause left
fails_here bytes s cause left open_state here h = record { at = s; rest = bytes; reached = stays_put bytes s; unfinished = open_state; here = here; fails = h }

step_of : (s : State) (r : Rec) (bytes rest : List ℕ) (to : Result State Refusal) → IsNext bytes r rest → next_state all_rules s r ≡ to → step all_rules s r ≡ to
step_of s r bytes rest to n h = rw n.well h

pub takes_one : (bytes rest : List ℕ) (r : Rec) (s t : State) → IsNext bytes r rest → next_state all_rules s r ≡ fine t → Reaches bytes s rest t
takes_one bytes rest r s t n h =
    record { taken = r ∷ []; parts = n.parts ∙ ap (λ x. x ++ rest) (sym (append-nil (spelling r))); fit = (n.fits, tt); runs = run_one all_rules s t r (step_of s r bytes rest (fine t) n h) }

pub refused_one : (bytes rest : List ℕ) (r : Rec) (s : State) (e : Refusal) (left : ℕ) → IsNext bytes r rest → IsOpen s → length bytes ≡ left → next_state all_rules s r ≡ refuse e → FailsLater bytes s (causes.Refused e) left
refused_one bytes rest r s e left n open_state here h =
    fails_here bytes s (causes.Refused e) left open_state here (record { faulty = r; rest = rest; parts = n.parts; fits = n.fits; refused = step_of s r bytes rest (refuse e) n h })

pub and_then : (a b c : List ℕ) (s t u : State) → Reaches a s b t → Reaches b t c u → Reaches a s c u
and_then a b c s t u h k = record {
  taken = h.taken ++ k.taken;
  parts = h.parts ∙ ap (λ x. flat_map spelling h.taken ++ x) k.parts ∙ sym (append_assoc (flat_map spelling h.taken) (flat_map spelling k.taken) c)
      ∙ ap (λ x. x ++ c) (sym (flat_map-append spelling h.taken k.taken));
  fit = all_append IsRecord h.taken k.taken h.fit k.fit;
  runs = run_append all_rules s h.taken k.taken ∙ rw h.runs k.runs;
}

pub fails_after : (a b : List ℕ) (s t : State) (e : Stop) → Reaches a s b t → Fails b t e → Fails a s e
fails_after a b s t stops.Memory h k = tt
fails_after a b s t (stops.Fault cause left) h k =
    record { at = k.at; rest = k.rest; reached = and_then a b k.rest s t k.at h k.reached; unfinished = k.unfinished; here = k.here; fails = k.fails }

pub shorter : (bytes rest : List ℕ) (r : Rec) → IsNext bytes r rest → length rest < length bytes
shorter bytes rest r n = rw n.parts (omega (arith, length-append (spelling r) rest))

pub badly_formed : (bytes rest : List ℕ) (r : Rec) (s : State) → IsOpen s → IsRecord r → bytes ≡ spelling r ++ rest → is_well r ≡ false → FailsLater bytes s (causes.Refused Unexpected) (length bytes)
badly_formed bytes rest r s open_state fits parts bad =
    fails_here bytes s (causes.Refused Unexpected) (length bytes) open_state refl (record { faulty = r; rest = rest; parts = parts; fits = fits; refused = rw bad refl })

-- ---- only a library that has ended is closed

pub open_start : IsOpen Start
open_start l e = absurd cc

pub open_headed : IsOpen Headed
open_headed l e = absurd cc

pub open_parts : (b : Bool) (dates : List ℕ) → IsOpen (parts_state b dates)
open_parts true dates l e = absurd cc
open_parts false dates l e = absurd cc

pub open_between : (x : Contents) → IsOpen (Between x)
open_between x l e = absurd cc

pub open_opened : (x : Contents) → IsOpen (Opened x)
open_opened x l e = absurd cc

pub open_body : (x : Contents) (n : List ℕ) (sh : List Shape) (o : ElementKind) (before : List Rec) → IsOpen (Body x n sh o before)
open_body x n sh o before l e = absurd cc

pub open_tail : (x : Contents) (n : List ℕ) (sh : List Shape) → IsOpen (Tail x n sh)
open_tail x n sh l e = absurd cc

pub open_paired : (x : Contents) (n : List ℕ) (sh : List Shape) → IsOpen (Paired x n sh)
open_paired x n sh l e = absurd cc

pub open_unlettered : (x : Contents) (n : List ℕ) (sh : List Shape) → IsOpen (Unlettered x n sh)
open_unlettered x n sh l e = absurd cc

-- ---- states that take one kind alone

only : (kind : ℕ) (r : Rec) (s : State) → (r.kind ≡ kind → ⊥) → expect kind r s ≡ refuse Unexpected
only kind r s other = rw (apart (λ k. k) r.kind kind other) refl

pub only_header : OnlyTakes Start kinds.HEADER
unfolding next_state
only_header r other = only kinds.HEADER r Headed other

pub only_bgnlib : OnlyTakes Headed kinds.BGNLIB
unfolding next_state
only_bgnlib r other = only kinds.BGNLIB r (Dated r.body) other

pub only_string : (l : Contents) (n : List ℕ) (sh : List Shape) → OnlyTakes (Unlettered l n sh) kinds.STRING
unfolding next_state
only_string l n sh r other = only kinds.STRING r (Tail l n sh) other

pub only_value : (l : Contents) (n : List ℕ) (sh : List Shape) → OnlyTakes (Paired l n sh) kinds.PROPVALUE
unfolding next_state
only_value l n sh r other = only kinds.PROPVALUE r (Tail l n sh) other

pub only_strname : (l : Contents) → OnlyTakes (Opened l) kinds.STRNAME
unfolding next_state
only_strname l r other = rw (apart (λ k. k) r.kind kinds.STRNAME other) refl

pub takes_only : (bytes body rest : List ℕ) (kind : ℕ) (s t : State) (n : IsNextOf bytes kind body rest) → next_state all_rules s n.first ≡ fine t → Reaches bytes s rest t
takes_only bytes body rest kind s t n h = takes_one bytes rest n.first s t n.next h

-- ---- how much data there is

pub well_size : (r : Rec) → IsWell r → has_size r.kind (length r.body) ≡ true
well_size r w =
    let both : (has_form r.kind r.form && has_size r.kind (length r.body)) ≡ true = first_so (has_form r.kind r.form && has_size r.kind (length r.body)) (has_name_if_asked r.kind r.body) w in
    second_so (has_form r.kind r.form) (has_size r.kind (length r.body)) both

size_at : (r : Rec) (kind : ℕ) → IsWell r → r.kind ≡ kind → has_size kind (length r.body) ≡ true
size_at r kind w e = subst (λ k. has_size k (length r.body) ≡ true) e (well_size r w)

pub size_24 : (r : Rec) → IsWell r → r.kind ≡ kinds.BGNLIB → length r.body ≡ 24
unfolding has_size
size_24 r w e = eqb-true (length r.body) 24 (size_at r kinds.BGNLIB w e)

pub size_16 : (r : Rec) → IsWell r → r.kind ≡ kinds.UNITS → length r.body ≡ 16
unfolding has_size
size_16 r w e = eqb-true (length r.body) 16 (size_at r kinds.UNITS w e)

-- ---- single records

reach_expected : (bytes body rest : List ℕ) (kind : ℕ) (s t : State) (n : IsNextOf bytes kind body rest) → next_state all_rules s n.first ≡ expect kind n.first t → Reaches bytes s rest t
reach_expected bytes body rest kind s t n h = takes_only bytes body rest kind s t n (h ∙ expected kind n.first t n.kind_is)

pub reach_headed : (bytes body rest : List ℕ) → IsNextOf bytes kinds.HEADER body rest → Reaches bytes Start rest Headed
unfolding next_state
reach_headed bytes body rest n = reach_expected bytes body rest kinds.HEADER Start Headed n refl

pub reach_dated : (bytes body rest : List ℕ) → IsNextOf bytes kinds.BGNLIB body rest → Reaches bytes Headed rest (Dated body)
unfolding next_state
reach_dated bytes body rest n = subst (λ b. Reaches bytes Headed rest (Dated b)) n.body_is (reach_expected bytes body rest kinds.BGNLIB Headed (Dated n.first.body) n refl)

pub reach_string : (bytes body rest : List ℕ) (l : Contents) (name : List ℕ) (sh : List Shape) → IsNextOf bytes kinds.STRING body rest → Reaches bytes (Unlettered l name sh) rest (Tail l name sh)
unfolding next_state
reach_string bytes body rest l name sh n = reach_expected bytes body rest kinds.STRING (Unlettered l name sh) (Tail l name sh) n refl

pub reach_value : (bytes body rest : List ℕ) (l : Contents) (name : List ℕ) (sh : List Shape) → IsNextOf bytes kinds.PROPVALUE body rest → Reaches bytes (Paired l name sh) rest (Tail l name sh)
unfolding next_state
reach_value bytes body rest l name sh n = reach_expected bytes body rest kinds.PROPVALUE (Paired l name sh) (Tail l name sh) n refl

pub dates_size : (bytes body rest : List ℕ) → IsNextOf bytes kinds.BGNLIB body rest → length body ≡ 24
dates_size bytes body rest n = ap length (sym n.body_is) ∙ size_24 n.first n.next.well n.kind_is

pub open_cell : (fresh : Bool) (x : Contents) (n : List ℕ) (sh : List Shape) → IsOpen (cell_state fresh x n sh)
open_cell true x n sh l e = absurd cc
open_cell false x n sh l e = absurd cc

pub tail_refused : (l : Contents) (n : List ℕ) (sh : List Shape) (r : Rec) → (r.kind ≡ kinds.PROPATTR → ⊥) → (r.kind ≡ kinds.ENDEL → ⊥) → next_state all_rules (Tail l n sh) r ≡ refuse Unexpected
unfolding next_state
tail_refused l n sh r a b = rw (apart (λ k. k) r.kind kinds.PROPATTR a, apart (λ k. k) r.kind kinds.ENDEL b) refl

-- what is left is no longer
pub no_longer : (bytes rest : List ℕ) (s t : State) → Reaches bytes s rest t → length rest ≤ length bytes
no_longer bytes rest s t h = rw h.parts (omega (arith, length-append (flat_map spelling h.taken) rest))

pub string_none : (b : Bool) (bytes : List ℕ) (l : Contents) (n : List ℕ) (sh : List Shape) → b ≡ false → Reaches bytes (behind_xy b l n sh) bytes (Tail l n sh)
string_none b bytes l n sh e = subst (λ c. Reaches bytes (behind_xy c l n sh) bytes (Tail l n sh)) (sym e) (stays_put bytes (Tail l n sh))

pub string_read : (b : Bool) (bytes body rest : List ℕ) (l : Contents) (n : List ℕ) (sh : List Shape) → b ≡ true → IsNextOf bytes kinds.STRING body rest → Reaches bytes (behind_xy b l n sh) rest (Tail l n sh)
string_read b bytes body rest l n sh e h = subst (λ c. Reaches bytes (behind_xy c l n sh) rest (Tail l n sh)) (sym e) (reach_string bytes body rest l n sh h)

pub string_fails : (b : Bool) (bytes : List ℕ) (l : Contents) (n : List ℕ) (sh : List Shape) (stop : Stop) → b ≡ true → Fails bytes (Unlettered l n sh) stop → Fails bytes (behind_xy b l n sh) stop
string_fails b bytes l n sh stop e h = subst (λ c. Fails bytes (behind_xy c l n sh) stop) (sym e) h

-- ---- cells

reads_name : (l : Contents) (r : Rec) → r.kind ≡ kinds.STRNAME → has_name l.cells (trimmed r.body) ≡ false → next_state all_rules (Opened l) r ≡ fine (Named l (trimmed r.body))
unfolding next_state
reads_name l r e fresh = rw (eq-eqb r.kind kinds.STRNAME e, fresh) refl

refuses_name : (l : Contents) (r : Rec) → r.kind ≡ kinds.STRNAME → has_name l.cells (trimmed r.body) ≡ true → next_state all_rules (Opened l) r ≡ refuse DuplicateCell
unfolding next_state
refuses_name l r e taken = rw (eq-eqb r.kind kinds.STRNAME e, taken) refl

pub name_fresh : (bytes body rest : List ℕ) (l : Contents) → IsNextOf bytes kinds.STRNAME body rest → has_name l.cells (trimmed body) ≡ false → Reaches bytes (Opened l) rest (Named l (trimmed body))
name_fresh bytes body rest l n fresh =
    subst (λ b. Reaches bytes (Opened l) rest (Named l (trimmed b))) n.body_is
    (takes_one bytes rest n.first (Opened l) (Named l (trimmed n.first.body)) n.next
    (reads_name l n.first n.kind_is (subst (λ b. has_name l.cells (trimmed b) ≡ false) (sym n.body_is) fresh)))

pub name_taken : (bytes body rest : List ℕ) (l : Contents) → IsNextOf bytes kinds.STRNAME body rest → has_name l.cells (trimmed body) ≡ true → FailsLater bytes (Opened l) (causes.Refused DuplicateCell) (length bytes)
name_taken bytes body rest l n taken =
    refused_one bytes rest n.first (Opened l) DuplicateCell (length bytes) n.next (open_opened l) refl
    (refuses_name l n.first n.kind_is (subst (λ b. has_name l.cells (trimmed b) ≡ true) (sym n.body_is) taken))

pub between_refused : (l : Contents) (r : Rec) → (r.kind ≡ kinds.BGNSTR → ⊥) → (r.kind ≡ kinds.ENDLIB → ⊥) → next_state all_rules (Between l) r ≡ refuse Unexpected
unfolding next_state
between_refused l r a b = rw (apart (λ k. k) r.kind kinds.BGNSTR a, apart (λ k. k) r.kind kinds.ENDLIB b) refl
