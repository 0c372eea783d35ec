-- What edits and commits do with the account of a book, and how many tiles they leave.
use Rattle.std.proofs.Common.{◌≡◌, refl, ap, sym, subst, ◌∙◌, ℕ, zero, suc, ◌+◌, ◌*◌, ◌≤◌, ◌<◌, arith, inl, inr, Bool, true, false, not, ◌&&◌, ◌||◌, ◌==◌, [], ◌∷◌, ◌++◌, length, append_assoc, if◌then◌else◌}
use Rattle.std.specs.Prelude.{Option, Some}
use Rattle.std.proofs.lemmas.Bool.{cases_eq}
use Rattle.std.proofs.lemmas.Bool.Decides.{nat_tests}
use Rattle.std.proofs.lemmas.Grind.{flat_map-append}
use Rattle.std.proofs.lemmas.List.{append-nil, length-append, length-map, map-append}
use Rattle.fill_text.specs.Rules.{Values}
use Rattle.fill_job.specs.Plans.{Plan, plan_of}
use Rattle.fill_job.specs.ReadSets.{ReadSet, read_set}
use Rattle.fill_core.specs.Accounts.{Account, IsCommitted, state_of}
use Rattle.fill_core.specs.Histories.{edits_by, edits_in, events_in}
use Rattle.fill_core.specs.Machine.{State, step, with_tile}
use Rattle.fill_core.specs.Shares.{Held}
use Rattle.fill_core.specs.declared.book.BookError.{BookError}
use Rattle.fill_core.specs.declared.book.BookError.TheVariants as book
use Rattle.fill_core.specs.declared.event.Entry.{Entry}
use Rattle.fill_core.specs.declared.event.Event.TheVariants as event
use Rattle.fill_core.specs.declared.event.Reply.{Reply}
use Rattle.fill_core.specs.Tiles.{IsNext, next_tile}
use Rattle.fill_core.proofs.Searched.{next_first}
use Rattle.fill_core.proofs.Written.{state_with}
use Rattle.densfill_engine.specs.Faults.{book_fault}
use Rattle.densfill_engine.specs.Runs.{IsRun, IsTooShort, most_turns, tile_count}
use Rattle.densfill_engine.specs.declared.refusal.RunFault.TheVariants as run

-- ---- the history

pub run_unedited : (a b : Account) (turns : ℕ) → IsRun a b turns → edits_in (events_in b.history) ≡ edits_in (events_in a.history)
run_unedited a b turns run =
    ap edits_in run.events
    ∙ (flat_map-append edits_by (events_in a.history) run.commits ∙ (ap (λ l. edits_in (events_in a.history) ++ l) run.unedited ∙ append-nil (edits_in (events_in a.history))))

pub run_brief : (a b : Account) (turns : ℕ) → IsRun a b turns → length b.history ≤ length a.history + turns
run_brief a b turns run =
    few _ _ _ _ _ turns (length-map b.history (λ (x : Entry). x.event)) (ap length run.events ∙ length-append (events_in a.history) run.commits)
    (length-map a.history (λ (x : Entry). x.event)) run.brief
  where
    few : (eb hb ea ha c t : ℕ) → eb ≡ hb → eb ≡ ea + c → ea ≡ ha → c ≤ t → hb ≤ ha + t
    few eb hb ea ha c t e f g le = omega (arith, e, f, g, le)

pub no_run : (a : Account) → IsRun a a 0
no_run a = record { rules = refl; opening = refl; existing = refl; keep = refl; most = refl; commits = []; events = sym (append-nil (events_in a.history)); unedited = refl; brief = omega arith }

pub one_more : (a b c : Account) (k : ℕ) → IsRun a b k → IsRun b c 1 → IsRun a c (k + 1)
one_more a b c k first next = record {
  rules = next.rules ∙ first.rules;
  opening = next.opening ∙ first.opening;
  existing = next.existing ∙ first.existing;
  keep = next.keep ∙ first.keep;
  most = next.most ∙ first.most;
  commits = first.commits ++ next.commits;
  events = next.events ∙ (ap (λ l. l ++ next.commits) first.events ∙ append_assoc (events_in a.history) first.commits next.commits);
  unedited = flat_map-append edits_by first.commits next.commits ∙ (ap (λ l. l ++ edits_in next.commits) first.unedited ∙ next.unedited);
  brief = longer _ _ _ k (length-append first.commits next.commits) first.brief next.brief;
} where
  longer : (n m h k : ℕ) → n ≡ m + h → m ≤ k → h ≤ 1 → n ≤ k + 1
  longer n m h k e p q = omega (arith, e, p, q)

-- a commit is a run of one turn
pub one_commit : (a c : Account) (held after : Held) (version tile : ℕ) (read : ReadSet) (reply : Reply) → IsCommitted a c held after version tile read reply → IsRun a c 1
one_commit a c held after version tile read reply done =
    subst (λ (x : Account). IsRun a x 1) (sym done.writes.written) record {
      rules = refl;
      opening = refl;
      existing = refl;
      keep = refl;
      most = refl;
      commits = event.Commit version tile done.same ∷ [];
      events = map-append (λ (x : Entry). x.event) a.history (record { event = event.Commit version tile done.same; reply = reply } ∷ []);
      unedited = refl;
      brief = omega arith;
    }

-- ---- the state

-- a commit of the version, of a tile that isn't in, is accepted where what was read is the same
accepted : (version at : ℕ) (taken : Bool) → version ≡ at → taken ≡ false → ((version == at) && (not taken && true)) ≡ true
accepted version at taken e out = rw (e, out, same at) refl
  where
    same : (n : ℕ) → (n == n) ≡ true
    same n = grind (arith, nat_tests)

-- a proposal of the version, of what there is to read, brings its tile in
pub brings : (a c : Account) (held after : Held) (version tile t : ℕ) (read : ReadSet) (reply : Reply) → IsCommitted a c held after version tile read reply
    → version ≡ (state_of a).version → tile ≡ t → (state_of a).tiles_in t ≡ false → read ≡ read_set a.rules (state_of a).layers (state_of a).low t
    → state_of c ≡ with_tile (plan_of a.rules) (state_of a) t
brings a c held after version tile t read reply done at is out what =
    let s = state_of a in
    let out_it : s.tiles_in tile ≡ false = ap s.tiles_in is ∙ out in
    let same : done.same ≡ true = done.is_same.1 (at, out_it, what ∙ ap (read_set a.rules s.layers s.low) (sym is)) in
    ap state_of done.writes.written ∙ (state_with a (event.Commit version tile done.same) reply
    ∙ (ap (λ b. step (plan_of a.rules) s (event.Commit version tile b)) same
    ∙ (ap (λ b. if b then with_tile (plan_of a.rules) s tile else s) (accepted version s.version (s.tiles_in tile) at out_it)
    ∙ ap (with_tile (plan_of a.rules) s) is)))

-- ---- how many of the first tiles are not in

pub left : (ℕ → Bool) → ℕ → ℕ
left tiles_in zero = 0
left tiles_in (suc n) = left tiles_in n + (if tiles_in n then 0 else 1)

pub all_left : (f : ℕ → Bool) → ((tile : ℕ) → f tile ≡ false) → (n : ℕ) → left f n ≡ n
unfolding left
all_left f fresh zero = refl
all_left f fresh (suc n) = rw (fresh n) (one_on (left f n) n (all_left f fresh n))
  where
    one_on : (m n : ℕ) → m ≡ n → m + 1 ≡ suc n
    one_on m n e = omega (arith, e)

pub none_left : (f : ℕ → Bool) (n : ℕ) → left f n ≡ 0 → (t : ℕ) → t < n → f t ≡ true
unfolding left
none_left f zero e t lt = absurd (omega (arith, lt))
none_left f (suc n) e t lt = elim (cases_eq t n) [
  | inl is ↦ rw is (last (f n) (left f n) e)
  | inr other ↦ none_left f n (first (f n) (left f n) e) t (below t n lt other)
]
  where
    last : (b : Bool) (m : ℕ) → m + (if b then 0 else 1) ≡ 0 → b ≡ true
    last true m e = refl
    last false m e = absurd (omega (arith, e))

    first : (b : Bool) (m : ℕ) → m + (if b then 0 else 1) ≡ 0 → m ≡ 0
    first true m e = omega (arith, e)
    first false m e = absurd (omega (arith, e))

    below : (t n : ℕ) → t < suc n → (t ≡ n → ⊥) → t < n
    below t n lt other = grind (arith)

same_left : (f : ℕ → Bool) (tile n : ℕ) → n ≤ tile → left (λ t. f t || (t == tile)) n ≡ left f n
unfolding left
same_left f tile zero le = refl
same_left f tile (suc n) le = rw (same_left f tile n (less n tile le), other n tile le) (ap (λ b. left f n + (if b then 0 else 1)) (alone (f n)))
  where
    less : (n tile : ℕ) → suc n ≤ tile → n ≤ tile
    less n tile le = omega (arith, le)

    other : (n tile : ℕ) → suc n ≤ tile → (n == tile) ≡ false
    other n tile le = grind (arith, nat_tests)

    alone : (b : Bool) → (b || false) ≡ b
    alone true = refl
    alone false = refl

-- a tile that comes in is one less
pub one_less : (f : ℕ → Bool) (tile n : ℕ) → tile < n → f tile ≡ false → left (λ t. f t || (t == tile)) n + 1 ≡ left f n
unfolding left
one_less f tile zero lt out = absurd (omega (arith, lt))
one_less f tile (suc n) lt out = elim (cases_eq tile n) [
  | inl is ↦ here f tile n is out
  | inr other ↦ later f tile n (below tile n lt other) (one_less f tile n (below tile n lt other) out)
]
  where
    below : (t n : ℕ) → t < suc n → (t ≡ n → ⊥) → t < n
    below t n lt other = grind (arith)

    same : (n : ℕ) → (n == n) ≡ true
    same n = grind (arith, nat_tests)

    apart : (n tile : ℕ) → tile < n → (n == tile) ≡ false
    apart n tile lt = grind (arith, nat_tests)

    here : (f : ℕ → Bool) (tile n : ℕ) → tile ≡ n → f tile ≡ false → left (λ t. f t || (t == tile)) (suc n) + 1 ≡ left f (suc n)
    here f tile n is out =
        let gone : f n ≡ false = ap f (sym is) ∙ out in
        rw (same_left f tile n (omega (arith, is)), is, gone, same n) (one (left f n))
      where
        one : (m : ℕ) → (m + 0) + 1 ≡ m + 1
        one m = omega arith

    later : (f : ℕ → Bool) (tile n : ℕ) → tile < n → left (λ t. f t || (t == tile)) n + 1 ≡ left f n → left (λ t. f t || (t == tile)) (suc n) + 1 ≡ left f (suc n)
    later f tile n lt before = rw (apart n tile lt) (step (f n) (left (λ t. f t || (t == tile)) n) (left f n) before)
      where
        step : (b : Bool) (m k : ℕ) → m + 1 ≡ k → (m + (if (b || false) then 0 else 1)) + 1 ≡ k + (if b then 0 else 1)
        step true m k e = omega (arith, e)
        step false m k e = omega (arith, e)

-- where a tile is left after so many turns, there were fewer turns than tiles
pub turns_short : (f : ℕ → Bool) (n turns : ℕ) → left f n + turns ≡ n → (((t : ℕ) → t < n → f t ≡ true) → ⊥) → turns < n
turns_short f n turns e some = short (left f n) n turns e (λ none. some (none_left f n none))
  where
    short : (m n turns : ℕ) → m + turns ≡ n → (m ≡ 0 → ⊥) → turns < n
    short zero n turns e other = absurd (other refl)
    short (suc m) n turns e other = omega (arith, e)

-- only a full history is told as a fill that is not complete
pub full_of : (e : BookError) → book_fault e ≡ run.Unfinished → e ≡ book.HistoryFull
full_of book.HistoryFull is = refl
full_of book.Memory is = absurd (cc is)

-- and no error of a book is told as a run of many workers that was mixed up
pub own_fault : (e : BookError) → book_fault e ≡ run.Mixed → ⊥
own_fault book.HistoryFull is = cc is
own_fault book.Memory is = cc is

-- ---- turns, each of which brings a tile

pub none_brought : (f : ℕ → Bool) → ((tile : ℕ) → f tile ≡ false) → (n : ℕ) → left f n + 0 ≡ n
none_brought f fresh n = plus (left f n) n (all_left f fresh n)
  where
    plus : (m n : ℕ) → m ≡ n → m + 0 ≡ n
    plus m n e = omega (arith, e)

pub one_brought : (plan : Plan) (s t : State) (tile n k : ℕ) → t ≡ with_tile plan s tile → tile < n → s.tiles_in tile ≡ false → left s.tiles_in n + k ≡ n
    → left t.tiles_in n + (k + 1) ≡ n
one_brought plan s t tile n k is lt out before =
    ap (λ (u : State). left u.tiles_in n + (k + 1)) is ∙ further _ _ n k (one_less s.tiles_in tile n lt out) before
  where
    further : (m l n k : ℕ) → m + 1 ≡ l → l + k ≡ n → m + (k + 1) ≡ n
    further m l n k e before = omega (arith, e, before)

-- a history that is full while a tile is left has no room for the tiles
pub full_short : (a b : Account) (k tile : ℕ) (limit : Option ℕ) → IsRun a b k → left (state_of b).tiles_in (tile_count a.rules) + k ≡ tile_count a.rules
    → tile < tile_count a.rules → (state_of b).tiles_in tile ≡ false → length b.history ≡ b.most → IsTooShort a.rules limit (length a.history) a.most
full_short a b k tile limit run before lt out full =
    inr (more a.most b.most (length a.history) (length b.history) (tile_count a.rules) k (run_brief a b k run) run.most full (fewer (left (state_of b).tiles_in (tile_count a.rules)) _ k before some))
  where
    some : left (state_of b).tiles_in (tile_count a.rules) ≡ 0 → ⊥
    some none = absurd (let e : true ≡ false = sym (none_left (state_of b).tiles_in (tile_count a.rules) none tile lt) ∙ out in cc)

    fewer : (m n k : ℕ) → m + k ≡ n → (m ≡ 0 → ⊥) → k < n
    fewer zero n k e other = absurd (other refl)
    fewer (suc m) n k e other = omega (arith, e)

    more : (x y h m n k : ℕ) → m ≤ h + k → y ≡ x → m ≡ y → k < n → x < h + n
    more x y h m n k le most full lt = omega (arith, le, most, full, lt)

-- and where a tile is left after all turns, there are fewer turns than tiles
pub limit_short : (values : Values) (limit : Option ℕ) (turns k : ℕ) (f : ℕ → Bool) (history most : ℕ) → turns ≡ 2 * most_turns values limit → turns ≤ k
    → left f (tile_count values) + k ≡ tile_count values → (((t : ℕ) → t < tile_count values → f t ≡ true) → ⊥) → IsTooShort values limit history most
limit_short values limit turns k f history most are over before some = inl (fewer turns k _ _ over (turns_short f (tile_count values) k before some) are)
  where
    fewer : (t k n m : ℕ) → t ≤ k → k < n → t ≡ m → m < n
    fewer t k n m le lt e = omega (arith, le, lt, e)

-- the next tile of a book that was run so far
pub next_at : (a b : Account) (k from tile : ℕ) (next : Option ℕ) → IsRun a b k → next ≡ next_tile (tile_count b.rules) (state_of b).tiles_in from → next ≡ Some tile
    → IsNext (tile_count a.rules) (state_of b).tiles_in from tile
next_at a b k from tile next run first is =
    subst (λ (v : Values). IsNext (tile_count v) (state_of b).tiles_in from tile) run.rules (next_first (tile_count b.rules) (state_of b).tiles_in from tile (sym first ∙ is))
