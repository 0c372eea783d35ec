-- Workers and an editor of a round, taken together.
use Rattle.std.proofs.Common.{◌≡◌, ◌∙◌, sym, ap, subst, arith, ℕ, zero, suc, ◌+◌, ◌*◌, ◌/◌, ◌<◌, ◌≤◌, ◌⊎◌, refl, inl, inr, List, [], ◌∷◌, ◌++◌, length, length-append, map, slice_index_or}
use Rattle.std.specs.Prelude.{◌≢◌, sum_by}
use Rattle.std.specs.List.{All}
use Rattle.std.proofs.lemmas.List.Elements.{All-head, All-tail}
use Rattle.std.proofs.lemmas.List.{get_or_append_left, get_or_push, length-map}
use Rattle.std.proofs.lemmas.List.Sums.{sum_by-cons, sum_by_push}
use Rattle.fill_raster.specs.Lattice.{Lattice, tiles}
use Rattle.fill_text.specs.Rules.{Values, raster_of}
use Rattle.fill_text.specs.declared.script.Edit.{Edit}
use Rattle.fill_job.specs.Plans.{plan_of}
use Rattle.fill_core.specs.Accounts.{Account, terms_of}
use Rattle.fill_core.specs.Shares.{Held}
use Rattle.fill_core.specs.Terms.{Terms}
use Rattle.fill_shared.specs.Passes.{calls_of, split_among, together}
use Rattle.fill_shared.specs.Rounds.{AreAnswered, HasEnded, HasRested, HasRun, HaveEnded, IsAnswered, IsRound, IsRoundWithEditor, start_of}
use Rattle.fill_shared.specs.steps.Rounds.{AreBeside, HasWorked, SeatsEnded}
use Rattle.fill_shared.specs.declared.worker.WorkEnd.{WorkEnd}
use Rattle.fill_shared.specs.declared.worker.WorkEnd.TheVariants.{Done, Tired, Full, Memory}

-- what holds of each worker's pass, of all together
pub worked_sums : {A B : Type 0} (f : A → Held) (h : B → Held) (most : ℕ) (xs : List A) (ys : List B) → length ys ≡ length xs
    → ((k : ℕ) (d : A) (e : B) → k < length xs → HasWorked most (f (slice_index_or xs k d)) (h (slice_index_or ys k e)))
    → (sum_by (λ y. (h y).parts) ys ≡ sum_by (λ x. (f x).parts) xs) × (sum_by (λ y. (h y).calls) ys ≤ sum_by (λ x. (f x).calls) xs + length xs * most)
worked_sums f h most [] [] count each = (refl, omega arith)
worked_sums f h most [] (y ∷ ys) count each = absurd (omega (arith, count))
worked_sums f h most (x ∷ xs) [] count each = absurd (omega (arith, count))
worked_sums f h most (x ∷ xs) (y ∷ ys) count each =
    let first = each 0 x y (omega arith) in
    let count' : length ys ≡ length xs = omega (arith, count) in
    let rest = worked_sums f h most xs ys count' (λ k d e lt. each (suc k) d e (omega (arith, lt))) in (
      sum_by-cons (λ b. (h b).parts) y ys ∙ (added _ _ _ _ first.parts rest.0 ∙ sym (sum_by-cons (λ a. (f a).parts) x xs)),
      omega (arith, sum_by-cons (λ b. (h b).calls) y ys, sum_by-cons (λ a. (f a).calls) x xs, first.calls, rest.1, more (length xs) most),
    )
  where
    added : (a b c d : ℕ) → a ≡ b → c ≡ d → a + c ≡ b + d
    added a b c d p q = omega (arith, p, q)

    more : (n m : ℕ) → suc n * m ≡ m + n * m
    more n m = omega arith

-- a worker has no more calls than turns
pub rested_few : (t : Terms) (limit from : ℕ) (held after : Held) (end : WorkEnd) → HasRested t limit from held after end → HasWorked limit held after
rested_few t limit from held after (Done version) r = record { parts = r.parts; calls = omega (arith, r.ends.0.1) }
rested_few t limit from held after Tired r = record { parts = r.parts; calls = omega (arith, r.ends) }
rested_few t limit from held after Full r = record { parts = r.parts; calls = omega (arith, r.ends.0.1) }
rested_few t limit from held after Memory r = record { parts = r.parts; calls = omega (arith, r.ends.1) }

pub map_sum : {B : Type 0} (f : B → Held) (n : Held → ℕ) (ys : List B) → sum_by n (map f ys) ≡ sum_by (λ y. n (f y)) ys
map_sum f n [] = refl
map_sum f n (y ∷ ys) = sum_by-cons n (f y) (map f ys) ∙ (ap (λ (k : ℕ). n (f y) + k) (map_sum f n ys) ∙ sym (sum_by-cons (λ z. n (f z)) y ys))

-- where no worker met want of memory, each ended in another way
all_ended : {A B : Type 0} (from : A → ℕ) (f : A → Held) (h : B → Held) (end : B → WorkEnd) (t : Terms) (limit : ℕ) (xs : List A) (ys : List B) → length ys ≡ length xs
    → ((k : ℕ) (d : A) (e : B) → k < length xs → HasRested t limit (from (slice_index_or xs k d)) (f (slice_index_or xs k d)) (h (slice_index_or ys k e)) (end (slice_index_or ys k e))) → All (λ y. end y ≢ Memory) ys
    → (k : ℕ) (d : A) (e : Held) → k < length xs → HasEnded t limit (from (slice_index_or xs k d)) (f (slice_index_or xs k d)) (slice_index_or (map h ys) k e)
all_ended from f h end t limit [] ys count each all k d e lt = absurd (omega (arith, lt))
all_ended from f h end t limit (x ∷ xs) [] count each all k d e lt = absurd (omega (arith, count))
all_ended from f h end t limit (x ∷ xs) (y ∷ ys) count each all zero d e lt = record { end = end y; rested = each 0 x y (omega arith); remembered = All-head (λ z. end z ≢ Memory) y ys all }
all_ended from f h end t limit (x ∷ xs) (y ∷ ys) count each all (suc k) d e lt =
    all_ended from f h end t limit xs ys (omega (arith, count)) (λ j a b l. each (suc j) a b (omega (arith, l))) (All-tail (λ z. end z ≢ Memory) y ys all) k d e (omega (arith, lt))

pub seats_ended : {A B : Type 0} (from : A → ℕ) (f : A → Held) (h : B → Held) (end : B → WorkEnd) (t : Terms) (limit : ℕ) (xs : List A) (ys : List B) (passes : List Held) → length ys ≡ length xs
    → ((k : ℕ) (d : A) (e : B) → k < length xs → HasRested t limit (from (slice_index_or xs k d)) (f (slice_index_or xs k d)) (h (slice_index_or ys k e)) (end (slice_index_or ys k e))) → passes ≡ map h ys → All (λ y. end y ≢ Memory) ys
    → SeatsEnded from f t limit xs passes
seats_ended from f h end t limit xs ys passes count each kept all =
    subst (SeatsEnded from f t limit xs) (sym kept) (length-map ys h ∙ count, all_ended from f h end t limit xs ys count each all)

index_map : {A : Type 0} (f : A → Held) (xs : List A) (k : ℕ) (d : A) (e : Held) → k < length xs → slice_index_or (map f xs) k e ≡ f (slice_index_or xs k d)
index_map f [] k d e lt = absurd (omega (arith, lt))
index_map f (x ∷ xs) zero d e lt = refl
index_map f (x ∷ xs) (suc k) d e lt = index_map f xs k d e (omega (arith, lt))

-- some element of a list that is long enough
some_of : {A : Type 0} (xs : List A) (k : ℕ) → k < length xs → A
some_of [] k lt = absurd (omega (arith, lt))
some_of (x ∷ xs) k lt = x

-- the seats are those of the passes, each at its worker's tile
pub have_ended : {A : Type 0} (from : A → ℕ) (f : A → Held) (t : Terms) (limit : ℕ) (seats : List A) (passes after : List Held) → map f seats ≡ passes
    → ((k : ℕ) (d : A) → k < length seats → from (slice_index_or seats k d) ≡ start_of t (length passes) k) → SeatsEnded from f t limit seats after → HaveEnded t limit passes after
have_ended from f t limit seats passes after kept starts ended =
    let count : length passes ≡ length seats = ap length (sym kept) ∙ length-map seats f in (
      ended.0 ∙ sym count,
      (λ k d e lt.
          let below : k < length seats = omega (arith, lt, count) in
          let x = some_of seats k below in
          let pass : f (slice_index_or seats k x) ≡ slice_index_or passes k d = sym (index_map f seats k x d below) ∙ ap (λ (ps : List Held). slice_index_or ps k d) kept in
          subst (λ (n : ℕ). HasEnded t limit n (slice_index_or passes k d) (slice_index_or after k e)) (starts k x below)
          (subst (λ (h : Held). HasEnded t limit (from (slice_index_or seats k x)) h (slice_index_or after k e)) pass (ended.1 k x e below))),
    )

-- how many tiles a book under the terms has
pub tiles_under : (t : Terms) (b a : Account) (v : Values) (r : Lattice) (n : ℕ) → terms_of a ≡ t → b ≡ a → v ≡ b.rules → r ≡ raster_of v.numbers → n ≡ tiles r → n ≡ tiles (plan_of t.rules).raster
tiles_under t b a v r n under same rules raster count =
    count ∙ ap tiles (raster ∙ ap (λ (w : Values). raster_of w.numbers) (rules ∙ (ap (λ (x : Account). x.rules) same ∙ ap (λ (u : Terms). u.rules) under)))

pub starts_at : (t : Terms) (workers k from count : ℕ) → from ≡ k * count / workers → count ≡ tiles (plan_of t.rules).raster → from ≡ start_of t workers k
starts_at t workers k from count at is = at ∙ ap (λ (n : ℕ). k * n / workers) is

pub round_of : {A : Type 0} (from : A → ℕ) (f : A → Held) (t : Terms) (workers limit : ℕ) (seats : List A) (held joined : Held) (passes after : List Held) → passes ≡ split_among held workers → map f seats ≡ passes
    → ((k : ℕ) (d : A) → k < length seats → from (slice_index_or seats k d) ≡ start_of t (length passes) k) → SeatsEnded from f t limit seats after → joined ≡ together after → IsRound t workers limit held joined
round_of from f t workers limit seats held joined passes after split kept starts ended is =
    record { rested = after; ended = subst (λ (ps : List Held). HaveEnded t limit ps after) split (have_ended from f t limit seats passes after kept starts ended); joined = is }

pub round_beside : {A : Type 0} (from : A → ℕ) (f : A → Held) (t : Terms) (edits : List Edit) (workers limit : ℕ) (seats : List A) (held editor joined : Held) (all passes after : List Held) → all ≡ split_among held (workers + 1) → all ≡ passes ++ editor ∷ []
    → map f seats ≡ passes → ((k : ℕ) (d : A) → k < length seats → from (slice_index_or seats k d) ≡ start_of t (length passes) k) → AreBeside from f t edits limit seats editor after → joined ≡ together after
    → IsRoundWithEditor t edits workers limit held joined
round_beside from f t edits workers limit seats held editor joined all passes after split popped kept starts beside is =
    let (rested, last, last_is, ended, edited) = beside in
    record {
      seats = passes;
      editor = editor;
      split = sym split ∙ popped;
      rested = rested;
      ended = have_ended from f t limit seats passes rested kept starts ended;
      last = last;
      edited = edited;
      joined = is ∙ ap together last_is;
    }

-- one seat more
pub seats_more : {A : Type 0} (f : A → ℕ) (h : ℕ → ℕ) (xs zs : List A) (y : A) (n : ℕ) → zs ≡ xs ++ y ∷ [] → length xs ≡ n → ((k : ℕ) (d : A) → k < length xs → f (slice_index_or xs k d) ≡ h k)
    → f y ≡ h n → (k : ℕ) (d : A) → k < n + 1 → f (slice_index_or zs k d) ≡ h k
seats_more f h xs zs y n is count before last k d lt = elim (below k n lt) [
  | inl e ↦ rw (is, get_or_push xs y d k (count ∙ sym e)) (last ∙ ap h (sym e))
  | inr l ↦ rw (is, get_or_append_left xs (y ∷ []) d k (omega (arith, l, count))) (before k d (omega (arith, l, count)))
]
  where
    below : (a b : ℕ) → a < b + 1 → (a ≡ b) ⊎ (a < b)
    below a b l = grind arith

-- a round has at most so many calls more
pub round_calls : (all rest : List Held) (editor : Held) (workers limit edits before seats count final : ℕ) → all ≡ rest ++ editor ∷ [] → length all ≡ workers + 1 → calls_of all ≡ before → seats ≡ calls_of rest
    → count ≡ length rest → final ≤ seats + editor.calls + (count * limit + edits) → final ≤ before + (workers * limit + edits)
round_calls all rest editor workers limit edits before seats count final is len sum some n le =
    let w : count ≡ workers = omega (arith, n, len, ap (λ (x : List Held). length x) is, length-append rest (editor ∷ [])) in
    let c : count * limit ≡ workers * limit = ap (λ (k : ℕ). k * limit) w in
    let s : calls_of all ≡ calls_of rest + editor.calls = ap calls_of is ∙ sum_by_push (λ (h : Held). h.calls) rest editor in
    omega (arith, c, s, sum, some, le)

-- one edit more was answered
pub answered_more : (t : Terms) (held next after : Held) (done : List Edit) (edit : Edit) → AreAnswered t held done next → IsAnswered t next edit after → AreAnswered t held (done ++ edit ∷ []) after
answered_more t held next after [] edit before last = (after, subst (λ (h : Held). IsAnswered t h edit after) before last, refl)
answered_more t held next after (first ∷ done) edit before last = (before.0, before.1, answered_more t before.0 next after done edit before.2 last)

-- the same run said of equal things
pub run_of : (t u : Terms) (edits : List Edit) (workers limit : ℕ) (h held : Held) (a b : Account) (k after : Held) → t ≡ u → h ≡ held → b ≡ a → after ≡ k → HasRun t edits workers limit h a k → HasRun u edits workers limit held b after
run_of t u edits workers limit h held a b k after te he be ae ran =
    subst (λ (x : Terms). HasRun x edits workers limit held b after) te
    (subst (λ (x : Held). HasRun t edits workers limit x b after) he (subst (λ (x : Account). HasRun t edits workers limit h x after) (sym be) (subst (HasRun t edits workers limit h a) (sym ae) ran)))
