-- What a book stores after an event, and that it keeps its account then.
use Rattle.std.proofs.Common.{◌≡◌, refl, ap, sym, subst, ◌∙◌, ℕ, ◌+◌, ◌≤◌, ℤ, pos, arith, [], ◌∷◌, ◌++◌, length, Bool, true, false, cond, ◌&&◌, ◌||◌, not}
use Rattle.std.specs.Prelude.{◌==◌}
use Rattle.std.proofs.Math.Path.{fun_ext}
use Rattle.std.proofs.lemmas.List.{length_push, map-append}
use Rattle.std.proofs.lemmas.List.Sums.{sum_by_push}
use Rattle.fill_state.specs.Layers.{Drawn, in_layer}
use Rattle.fill_region.specs.Runs.{holds}
use Rattle.fill_raster.specs.Lattice.{Lattice}
use Rattle.fill_raster.specs.Marks.{Marked, is_marked}
use Rattle.fill_raster.proofs.Points.{or_no}
use Rattle.fill_text.specs.Rules.{Values}
use Rattle.fill_text.specs.declared.script.Edit.{Edit}
use Rattle.fill_job.specs.Basis.{windows_in}
use Rattle.fill_job.specs.Plans.{Plan, IsPlan, PointSet, drawn_squares, low_windows, plan_of, wanted}
use Rattle.fill_job.specs.ReadSets.{ReadSet, wanted_of}
use Rattle.fill_job.proofs.ReadSets.{same_wanted}
use Rattle.fill_core.specs.Accounts.{Account, IsSame, state_of, with_entry}
use Rattle.fill_core.specs.Boxes.{count_places, with_boxes}
use Rattle.fill_core.specs.Histories.{placed_by, placed_in, replies_in, withdrawn_by, withdrawn_in}
use Rattle.fill_core.specs.Machine.{State, commit_reply, commit_step, edit_reply, edit_step, fill_after, is_accepted, keep_after, layers_after, metal_after, newly_placed, reply_of, step, withdrawn_places}
use Rattle.fill_core.specs.Shares.{Totals, counted, totals_of}
use Rattle.fill_core.specs.declared.event.Entry.{Entry}
use Rattle.fill_core.specs.declared.event.Event.{Event}
use Rattle.fill_core.specs.declared.event.Event.TheVariants as event
use Rattle.fill_core.specs.declared.event.Reply.{Reply}
use Rattle.fill_core.specs.declared.event.Reply.TheVariants.{Placed, Withdrawn}
use Rattle.fill_core.proofs.Counts.{balanced}
use Rattle.fill_core.proofs.Replays.{same_state}
use Rattle.fill_core.proofs.Written.{state_with, legal_with}
use Rattle.fill_state.specs.Filling.{is_filled, left_by}
use Rattle.fill_book.specs.Keeping.{Keeps, state_by, stored_layers}
use Rattle.fill_state.specs.Pieces.{ArePieces}
use Rattle.fill_state.specs.Tiles.{is_in}
use Rattle.fill_book.specs.declared.stored.Change.{Change}
use Rattle.fill_book.specs.declared.stored.Stored.{Stored}

-- ---- a commit

-- where `same` holds the marked places are filled and the tile is in; all else is as before
pub record IsTakenIn (s n : Stored) (same : Bool) (tile : ℕ) (m : Marked) (placed : ℕ) : Type 0 where
  pub drawn : n.drawn ≡ s.drawn
  pub keep : n.keep ≡ s.keep
  pub pieces : n.pieces ≡ s.pieces
  pub existing_pieces : n.existing_pieces ≡ s.existing_pieces
  pub keep_pieces : n.keep_pieces ≡ s.keep_pieces
  pub low : n.low ≡ s.low
  pub version : n.version ≡ s.version
  pub raster : n.filled.raster ≡ s.filled.raster
  pub bits : length n.tiles ≡ length s.tiles
  pub filled : (i j : ℤ) → is_filled n.filled i j ≡ is_filled s.filled i j || (same && is_marked m i j)
  pub tiles : (t : ℕ) → is_in n.tiles t ≡ is_in s.tiles t || (same && (t == tile))
  pub placed_is : count_places s.filled.raster (is_filled n.filled) ≡ count_places s.filled.raster (is_filled s.filled) + placed

nat_same : (m n : ℕ) → m ≡ n → (m == n) ≡ true
nat_same m n e = grind (arith, e)

-- what is the same is accepted, and nothing else
pub accepted : (rules : Values) (base : PointSet) (s : Stored) (version tile : ℕ) (read : ReadSet) (same : Bool) → IsSame rules (state_by base s) version tile read same → is_accepted (state_by base s) version tile same ≡ same
accepted rules base s version tile read true is = let h = is.0 refl in rw (nat_same version s.version h.0, h.1) refl
accepted rules base s version tile read false is = none (version == s.version) (not (is_in s.tiles tile))
  where
    none : (a b : Bool) → a && (b && false) ≡ false
    none true true = refl
    none true false = refl
    none false b = refl

-- the marks of a proposal that is the same are wanted
pub wanted_marks : (rules : Values) (base : PointSet) (s : Stored) (version tile : ℕ) (read : ReadSet) (m : Marked) → IsPlan (plan_of rules) → IsSame rules (state_by base s) version tile read true
    → ((i j : ℤ) → is_marked m i j ≡ wanted_of read tile i j) → (i j : ℤ) → is_marked m i j ≡ wanted (plan_of rules) (stored_layers s) (windows_in s.low) tile i j
wanted_marks rules base s version tile read m plan is marked i j =
    let h = is.0 refl in
    marked i j ∙ (ap (λ (r : ReadSet). wanted_of r tile i j) h.2 ∙ ap (λ (p : PointSet). p i j) (same_wanted rules (stored_layers s) (windows_in s.low) tile plan))

pub committed : (rules : Values) (base : PointSet) (s n : Stored) (version tile : ℕ) (read : ReadSet) (same : Bool) (m : Marked) (placed : ℕ) → IsPlan (plan_of rules) → IsSame rules (state_by base s) version tile read same
    → ((i j : ℤ) → is_marked m i j ≡ wanted_of read tile i j) → IsTakenIn s n same tile m placed → state_by base n ≡ commit_step (plan_of rules) (state_by base s) version tile same
committed rules base s n version tile read true m placed plan is marked taken =
    rw (accepted rules base s version tile read true is)
    (same_state (state_by base n) _ (λ x y. ap (λ (d : Drawn). in_layer d.metal x y) taken.drawn) (λ x y. ap (λ (d : Drawn). holds d.existing x y) taken.drawn) (λ x y. ap (λ b. in_layer b x y) taken.keep)
    (λ i j. taken.filled i j ∙ ap (λ b. is_filled s.filled i j || b) (wanted_marks rules base s version tile read m plan is marked i j))
    taken.version (λ a b. ap (λ l. windows_in l a b) taken.low) taken.tiles (λ i j. refl))
committed rules base s n version tile read false m placed plan is marked taken =
    rw (accepted rules base s version tile read false is)
    (same_state (state_by base n) (state_by base s) (λ x y. ap (λ (d : Drawn). in_layer d.metal x y) taken.drawn) (λ x y. ap (λ (d : Drawn). holds d.existing x y) taken.drawn) (λ x y. ap (λ b. in_layer b x y) taken.keep)
    (λ i j. taken.filled i j ∙ or_no (is_filled s.filled i j))
    taken.version (λ a b. ap (λ l. windows_in l a b) taken.low) (λ t. taken.tiles t ∙ or_no (is_in s.tiles t)) (λ i j. refl))

-- where it isn't the same, nothing is placed
pub none_placed : (s n : Stored) (tile : ℕ) (m : Marked) (placed : ℕ) → IsTakenIn s n false tile m placed → placed ≡ 0
none_placed s n tile m placed taken =
    let still : is_filled n.filled ≡ is_filled s.filled = fun_ext (λ i. fun_ext (λ j. taken.filled i j ∙ or_no (is_filled s.filled i j))) in
    no_more _ _ placed (ap (count_places s.filled.raster) still) taken.placed_is
  where
    no_more : (c n p : ℕ) → n ≡ c → n ≡ c + p → p ≡ 0
    no_more c n p e h = omega (arith, e, h)

less_same : (c n p k : ℕ) → n ≡ c + p → n + 0 ≡ c + k → p ≡ k
less_same c n p k e h = omega (arith, e, h)

-- the answer to a commit is the step's
pub answered : (rules : Values) (base : PointSet) (s n : Stored) (version tile : ℕ) (read : ReadSet) (same : Bool) (m : Marked) (placed : ℕ) (refusal : Reply) → IsPlan (plan_of rules) → s.filled.raster ≡ (plan_of rules).raster
    → IsSame rules (state_by base s) version tile read same → ((i j : ℤ) → is_marked m i j ≡ wanted_of read tile i j) → IsTakenIn s n same tile m placed
    → refusal ≡ commit_reply (plan_of rules) (state_by base s) version tile false
    → cond same (Placed placed) refusal ≡ commit_reply (plan_of rules) (state_by base s) version tile same
answered rules base s n version tile read false m placed refusal plan raster is marked taken refused = refused
answered rules base s n version tile read true m placed refusal plan raster is marked taken refused =
    let h = is.0 refl in
    let reply : commit_reply (plan_of rules) (state_by base s) version tile true ≡ Placed (newly_placed (plan_of rules) (state_by base s) tile) = rw (nat_same version s.version h.0, h.1) refl in
    let after = committed rules base s n version tile read true m placed plan is marked taken in
    let count = balanced (plan_of rules) (state_by base s) (event.Commit version tile true) in
    let sum : count_places (plan_of rules).raster (is_filled n.filled) + 0 ≡ count_places (plan_of rules).raster (is_filled s.filled) + newly_placed (plan_of rules) (state_by base s) tile =
    ap (λ (f : PointSet). count_places (plan_of rules).raster f + 0) (ap (λ (q : State). q.fill) after) ∙ (rw reply at count) in
    let counted_on : count_places (plan_of rules).raster (is_filled n.filled) ≡ count_places (plan_of rules).raster (is_filled s.filled) + placed =
    subst (λ (r : Lattice). count_places r (is_filled n.filled) ≡ count_places r (is_filled s.filled) + placed) raster taken.placed_is in
    ap Placed (less_same (count_places (plan_of rules).raster (is_filled s.filled)) (count_places (plan_of rules).raster (is_filled n.filled)) placed (newly_placed (plan_of rules) (state_by base s) tile) counted_on sum) ∙ sym reply

-- ---- an edit

-- what is drawn and the low windows are those of the change, its places are emptied, and the next version has no tile
pub record IsChanged (s n : Stored) (c : Change) (withdrawn : ℕ) : Type 0 where
  pub drawn : n.drawn ≡ c.drawn
  pub keep : n.keep ≡ c.keep
  pub pieces : n.pieces ≡ c.pieces
  pub existing_pieces : n.existing_pieces ≡ s.existing_pieces
  pub keep_pieces : n.keep_pieces ≡ c.keep_pieces
  pub low : n.low ≡ c.low
  pub version : n.version ≡ s.version + 1
  pub raster : n.filled.raster ≡ s.filled.raster
  pub bits : length n.tiles ≡ length s.tiles
  pub filled : (i j : ℤ) → is_filled n.filled i j ≡ left_by s.filled c.out i j
  pub tiles : (t : ℕ) → is_in n.tiles t ≡ false
  pub withdrawn_is : count_places s.filled.raster (is_filled s.filled) ≡ count_places s.filled.raster (is_filled n.filled) + withdrawn

-- the change is that of the edit
pub record IsOf (plan : Plan) (s : Stored) (edit : Edit) (c : Change) : Type 0 where
  pub metal : (x y : ℤ) → in_layer c.drawn.metal x y ≡ metal_after edit (in_layer s.drawn.metal) x y
  pub existing : c.drawn.existing ≡ s.drawn.existing
  pub keep : (x y : ℤ) → in_layer c.keep x y ≡ keep_after edit (in_layer s.keep) x y
  pub pieces : ArePieces plan.raster plan.spacing (metal_after edit (in_layer s.drawn.metal)) c.pieces.items
  pub keep_pieces : ArePieces plan.raster (pos 0) (keep_after edit (in_layer s.keep)) c.keep_pieces.items
  pub filled : (i j : ℤ) → left_by s.filled c.out i j ≡ fill_after plan edit (is_filled s.filled) i j
  pub low : (a b : ℕ) → windows_in c.low a b ≡ low_windows plan (with_boxes plan (drawn_squares (layers_after edit (stored_layers s))) (fill_after plan edit (is_filled s.filled))) a b

pub edited : (plan : Plan) (base : PointSet) (s n : Stored) (edit : Edit) (c : Change) (withdrawn : ℕ) → IsOf plan s edit c → IsChanged s n c withdrawn
    → state_by (fill_after plan edit (is_filled s.filled)) n ≡ edit_step plan (state_by base s) edit
edited plan base s n edit c withdrawn of is =
    same_state (state_by (fill_after plan edit (is_filled s.filled)) n) (edit_step plan (state_by base s) edit)
    (λ x y. ap (λ (d : Drawn). in_layer d.metal x y) is.drawn ∙ of.metal x y) (λ x y. ap (λ (d : Drawn). holds d.existing x y) is.drawn ∙ ap (λ b. holds b x y) of.existing) (λ x y. ap (λ b. in_layer b x y) is.keep ∙ of.keep x y) (λ i j. is.filled i j ∙ of.filled i j) is.version
    (λ a b. ap (λ l. windows_in l a b) is.low ∙ of.low a b) is.tiles (λ i j. refl)

pub withdrawn_is : (plan : Plan) (base : PointSet) (s n : Stored) (edit : Edit) (c : Change) (withdrawn : ℕ) → s.filled.raster ≡ plan.raster → IsOf plan s edit c → IsChanged s n c withdrawn
    → Withdrawn withdrawn ≡ edit_reply plan (state_by base s) edit
withdrawn_is plan base s n edit c withdrawn raster of is =
    let after = edited plan base s n edit c withdrawn of is in
    let count = balanced plan (state_by base s) (event.Edit edit) in
    let sum : count_places plan.raster (is_filled n.filled) + withdrawn_places plan (state_by base s) edit ≡ count_places plan.raster (is_filled s.filled) + 0 =
    ap (λ (f : PointSet). count_places plan.raster f + withdrawn_places plan (state_by base s) edit) (ap (λ (q : State). q.fill) after) ∙ count in
    let counted_on : count_places plan.raster (is_filled s.filled) ≡ count_places plan.raster (is_filled n.filled) + withdrawn =
    subst (λ (r : Lattice). count_places r (is_filled s.filled) ≡ count_places r (is_filled n.filled) + withdrawn) raster is.withdrawn_is in
    ap Withdrawn (rest (count_places plan.raster (is_filled s.filled)) (count_places plan.raster (is_filled n.filled)) withdrawn (withdrawn_places plan (state_by base s) edit) counted_on sum)
  where
    rest : (c n w k : ℕ) → c ≡ n + w → n + k ≡ c + 0 → w ≡ k
    rest c n w k e h = omega (arith, e, h)

-- ---- the account after an event

-- the numbers of a history with one entry more
pub totals_with : (a : Account) (e : Event) (reply : Reply) → totals_of (with_entry a e reply).history ≡ counted (totals_of a.history) (placed_by reply) (withdrawn_by reply)
totals_with a e reply =
    let replies : replies_in (with_entry a e reply).history ≡ replies_in a.history ++ reply ∷ [] = map-append (λ (x : Entry). x.reply) a.history (record { event = e; reply = reply } ∷ []) in
    let calls : length (with_entry a e reply).history ≡ length a.history + 1 = length_push a.history (record { event = e; reply = reply }) in
    let placed : placed_in (replies_in (with_entry a e reply).history) ≡ placed_in (replies_in a.history) + placed_by reply = ap placed_in replies ∙ sum_by_push placed_by (replies_in a.history) reply in
    let withdrawn : withdrawn_in (replies_in (with_entry a e reply).history) ≡ withdrawn_in (replies_in a.history) + withdrawn_by reply = ap withdrawn_in replies ∙ sum_by_push withdrawn_by (replies_in a.history) reply in
    λ k. record { calls = calls k; placed = placed k; withdrawn = withdrawn k }

-- what is stored after an event, with the numbers of the ledgers
pub record IsNext (a : Account) (t u : Totals) (s n : Stored) (e : Event) (reply : Reply) : Type 0 where
  pub state : step (plan_of a.rules) (state_of a) e ≡ state_by (step (plan_of a.rules) (state_of a) e).base n
  pub raster : n.filled.raster ≡ s.filled.raster
  pub bits : length n.tiles ≡ length s.tiles
  pub pieces : ArePieces (plan_of a.rules).raster (plan_of a.rules).spacing (in_layer n.drawn.metal) n.pieces.items
  pub existing_pieces : ArePieces (plan_of a.rules).raster (plan_of a.rules).fill_spacing (holds n.drawn.existing) n.existing_pieces.items
  pub keep_pieces : ArePieces (plan_of a.rules).raster (pos 0) (in_layer n.keep) n.keep_pieces.items
  pub version : n.version ≤ s.version + 1
  pub answer : reply ≡ reply_of (plan_of a.rules) (state_of a) e
  pub totals : u ≡ counted t (placed_by reply) (withdrawn_by reply)

pub keeps_next : (a : Account) (t u : Totals) (s n : Stored) (e : Event) (reply : Reply) → Keeps a t s → (length a.history ≡ a.most → ⊥) → IsNext a t u s n e reply → Keeps (with_entry a e reply) u n
keeps_next a t u s n e reply keeps room next =
    let after = state_with a e reply in
    let calls : length (with_entry a e reply).history ≡ length a.history + 1 = length_push a.history (record { event = e; reply = reply }) in
    record {
      plan = keeps.plan;
      fits = record { raster = next.raster ∙ keeps.fits.raster; tiles = next.bits ∙ keeps.fits.tiles; pieces = next.pieces; existing_pieces = next.existing_pieces; keep_pieces = next.keep_pieces };
      state = after ∙ (next.state ∙ ap (λ (b : State). state_by b.base n) (sym after));
      legal = legal_with a e reply keeps.legal next.answer;
      version = rw calls (one_on n.version s.version (length a.history) next.version keeps.version);
      room = rw calls (one_in (length a.history) a.most keeps.room room);
      most = keeps.most;
      totals = next.totals ∙ (ap (λ (q : Totals). counted q (placed_by reply) (withdrawn_by reply)) keeps.totals ∙ sym (totals_with a e reply));
    }
  where
    one_on : (n s l : ℕ) → n ≤ s + 1 → s ≤ l → n ≤ l + 1
    one_on n s l h k = omega (arith, h, k)

    one_in : (l m : ℕ) → l ≤ m → (l ≡ m → ⊥) → l + 1 ≤ m
    one_in l m h other = grind (arith, h, other)
