-- What a book's type says of its account: what is read of it, and that each event keeps it.
use Rattle.std.proofs.Common.{◌≡◌, refl, ap, sym, subst, ◌∙◌, ℕ, ◌+◌, ◌≤◌, ◌<◌, ◌^◌, ℤ, pos, arith, inl, inr, List, [], length, Bool, true, false, ◌||◌, ◌↔◌, cond, Option, None, Some, IfSome}
use Rattle.std.specs.Prelude.{IsTrue, ◌==◌}
use Rattle.std.proofs.lemmas.Bool.{and_parts, cases_Bool}
use Rattle.fill_state.specs.Layers.{Drawn, Layered, in_layer, is_drawn}
use Rattle.fill_region.specs.Runs.{Sides, holds}
use Rattle.fill_area.specs.Density.{window_area}
use Rattle.fill_raster.specs.Lattice.{Lattice, in_tile}
use Rattle.fill_raster.specs.Marks.{Marked, is_marked}
use Rattle.fill_text.specs.Rules.{Values}
use Rattle.fill_text.specs.declared.script.Edit.{Edit}
use Rattle.fill_job.specs.Basis.{layers_in, layers_of, windows_in}
use Rattle.fill_job.specs.Plans.{Layers, Plan, IsPlan, PointSet, drawn_squares, plan_of}
use Rattle.fill_job.specs.ReadSets.{ReadSet, read_set, wanted_of}
use Rattle.fill_job.specs.declared.shared.Pieces.{Pieces}
use Rattle.fill_core.specs.Accounts.{Account, IsKeeping, IsSame, state_of, with_entry}
use Rattle.fill_core.specs.Boxes.{no_places, total_in, with_boxes}
use Rattle.fill_core.specs.Histories.{placed_by, withdrawn_by}
use Rattle.fill_core.specs.Machine.{State, commit_reply, fill_after, keep_after, layers_after, metal_after, opening, replay_from, replies_from, reply_of, step}
use Rattle.fill_core.specs.Shares.{Held, Totals, counted, moved_by, totals_of}
use Rattle.fill_core.specs.declared.event.Event.{Event}
use Rattle.fill_core.specs.declared.event.Event.TheVariants as event
use Rattle.fill_core.specs.declared.event.Reply.{Reply}
use Rattle.fill_core.specs.declared.event.Reply.TheVariants.{Placed, Withdrawn}
use Rattle.fill_core.proofs.Written.{keeping_of}
use Rattle.fill_state.specs.Filling.{KeepsClear, is_filled, left_by, drawn_or_box}
use Rattle.fill_book.specs.Keeping.{Fits, Keeps, state_by, stored_layers}
use Rattle.fill_state.specs.Pieces.{ArePieces}
use Rattle.fill_book.specs.Standing.{squares_in}
use Rattle.fill_book.specs.declared.stored.Change.{Change}
use Rattle.fill_book.specs.declared.stored.Stored.{Stored}
use Rattle.fill_book.proofs.BoxParts.{same_squares}
use Rattle.fill_book.proofs.Kept.{IsChanged, IsOf, IsTakenIn, answered, committed, edited, keeps_next, none_placed, withdrawn_is}
use Rattle.fill_book.proofs.Measured.{clear_after, clear_commit, clear_now, clear_same, same_set}
use Rattle.fill_core.proofs.Replays.{no_boxes}

-- ---- what is read

pub at_view : {a b : Account} {t : Totals} {s : Stored} → Keeps a t s → a ≡ b → Keeps b t s
at_view {a} {b} {t} {s} keeps same = subst (λ (k : Account). Keeps k t s) same keeps

pub keeping : {a : Account} {t : Totals} {s : Stored} → Keeps a t s → IsKeeping a
keeping {a} {t} {s} keeps = keeping_of a keeps.plan keeps.legal keeps.room keeps.most

pub clear_stored : {a : Account} {t : Totals} {s : Stored} → Keeps a t s → KeepsClear s.filled.raster (is_filled s.filled) (is_drawn s.drawn)
clear_stored {a} {t} {s} keeps =
    clear_same (plan_of a.rules).raster s.filled.raster (is_filled s.filled) (is_filled s.filled) (is_drawn s.drawn) (is_drawn s.drawn)
    keeps.fits.raster (λ i j. refl) (λ x y. refl) (clear_now a s (state_of a).base keeps.plan keeps.state)

-- what is drawn, as it is stored
drawn_stored : {a : Account} {t : Totals} {s : Stored} → Keeps a t s → drawn_squares (state_of a).layers ≡ is_drawn s.drawn
drawn_stored {a} {t} {s} keeps = ap (λ (q : State). drawn_squares q.layers) keeps.state

-- the areas of what is stored
pub total_is : {a : Account} {t : Totals} {s : Stored} → Keeps a t s → (m n : ℕ) → window_area (squares_in s) (plan_of a.rules).windows m n ≡ total_in (plan_of a.rules) (drawn_squares (state_of a).layers) (state_of a).fill m n
total_is {a} {t} {s} keeps m n =
    let plan = plan_of a.rules in
    let drawn = drawn_stored keeps in
    let fill : (state_of a).fill ≡ is_filled s.filled = ap (λ (q : State). q.fill) keeps.state in
    ap (λ r. window_area (drawn_or_box r (is_filled s.filled) (is_drawn s.drawn)) plan.windows m n) keeps.fits.raster
    ∙ (ap (λ (f : PointSet). total_in plan (is_drawn s.drawn) f m n) (sym fill) ∙ ap (λ (f : PointSet). total_in plan f (state_of a).fill m n) (sym drawn))

pub drawn_is : {a : Account} {t : Totals} {s : Stored} → Keeps a t s → (m n : ℕ) → window_area (is_drawn s.drawn) (plan_of a.rules).windows m n ≡ window_area (drawn_squares (state_of a).layers) (plan_of a.rules).windows m n
drawn_is {a} {t} {s} keeps m n = ap (λ (f : PointSet). window_area f (plan_of a.rules).windows m n) (sym (drawn_stored keeps))

pub clear_by_edit : {a : Account} {t : Totals} {s : Stored} → Keeps a t s → (edit : Edit) → KeepsClear (plan_of a.rules).raster (fill_after (plan_of a.rules) edit (is_filled s.filled)) (drawn_squares (layers_after edit (stored_layers s)))
clear_by_edit {a} {t} {s} keeps edit = clear_after a s (state_of a).base edit keeps.plan keeps.state

-- ---- the ledgers have room

pub placed_room : {a : Account} {t : Totals} {s : Stored} → Keeps a t s → (n : ℕ) → n < 2 ^ 32 → t.placed + n < 2 ^ 64
placed_room {a} {t} {s} keeps n few = room t.placed (totals_of a.history).placed n (ap (λ (q : Totals). q.placed) keeps.totals) (keeping keeps).placed few
  where
    room : (t p n : ℕ) → t ≡ p → p ≤ 2 ^ 56 → n < 2 ^ 32 → t + n < 2 ^ 64
    room t p n e most few = omega (arith, e, most, few)

pub withdrawn_room : {a : Account} {t : Totals} {s : Stored} → Keeps a t s → (n : ℕ) → n < 2 ^ 32 → t.withdrawn + n < 2 ^ 64
withdrawn_room {a} {t} {s} keeps n few = room t.withdrawn (totals_of a.history).withdrawn n (ap (λ (q : Totals). q.withdrawn) keeps.totals) (keeping keeps).withdrawn few
  where
    room : (t p n : ℕ) → t ≡ p → p ≤ 2 ^ 56 → n < 2 ^ 32 → t + n < 2 ^ 64
    room t p n e most few = omega (arith, e, most, few)

pub none_few : 0 < 2 ^ 32
none_few = omega arith

pub not_full : {a b : Account} → a ≡ b → (full : Bool) → (IsTrue full ↔ (length b.history ≡ b.most)) → full ≡ false → length a.history ≡ a.most → ⊥
not_full {a} {b} same full is no_more at =
    let all : full ≡ true = is.1 (subst (λ (k : Account). length k.history ≡ k.most) same at) in
    let e : true ≡ false = sym all ∙ no_more in cc

-- ---- each event keeps the account

stored_next : (plan : Plan) (e : Event) (s q : State) (b : PointSet) (n : Stored) → s ≡ q → state_by b n ≡ step plan q e → step plan s e ≡ state_by (step plan s e).base n
stored_next plan e s q b n same next =
    let at_q : step plan q e ≡ state_by (step plan q e).base n = sym next ∙ ap (λ (c : PointSet). state_by c n) (ap (λ (r : State). r.base) next) in
    subst (λ (r : State). step plan r e ≡ state_by (step plan r e).base n) (sym same) at_q

-- the pieces that are stored are those that were found, of the metal that is stored
pieces_kept : (r : Lattice) (d : ℤ) (p : PointSet) (layer : Layered) (pieces : List (List Sides)) (m : Layered) (v : List (List Sides)) → layer ≡ m → pieces ≡ v → ((x y : ℤ) → in_layer m x y ≡ p x y) → ArePieces r d p v → ArePieces r d (in_layer layer) pieces
pieces_kept r d p layer pieces m v metal same is are =
    subst (λ (b : Layered). ArePieces r d (in_layer b) pieces) (sym metal) (subst (λ (l : List (List Sides)). ArePieces r d (in_layer m) l) (sym same) (subst (λ (q : PointSet). ArePieces r d q v) (sym (same_set (in_layer m) p is)) are))

existing_kept : (r : Lattice) (d : ℤ) (existing was : List Sides) (pieces v : List (List Sides)) → existing ≡ was → pieces ≡ v → ArePieces r d (holds was) v → ArePieces r d (holds existing) pieces
existing_kept r d existing was pieces v same at are = subst (λ (b : List Sides). ArePieces r d (holds b) pieces) (sym same) (subst (λ (l : List (List Sides)). ArePieces r d (holds was) l) (sym at) are)

pub edit_answer : {a : Account} {t : Totals} {s : Stored} → Keeps a t s → (n : Stored) (edit : Edit) (c : Change) (withdrawn : ℕ) → IsOf (plan_of a.rules) s edit c → IsChanged s n c withdrawn
    → Withdrawn withdrawn ≡ reply_of (plan_of a.rules) (state_of a) (event.Edit edit)
edit_answer {a} {t} {s} keeps n edit c withdrawn of is =
    withdrawn_is (plan_of a.rules) (state_of a).base s n edit c withdrawn keeps.fits.raster of is
    ∙ ap (λ (q : State). reply_of (plan_of a.rules) q (event.Edit edit)) (sym keeps.state)

pub keeps_edit : {a : Account} {t : Totals} {s : Stored} → Keeps a t s → (u : Totals) (n : Stored) (edit : Edit) (c : Change) (withdrawn : ℕ) → (length a.history ≡ a.most → ⊥) → IsOf (plan_of a.rules) s edit c → IsChanged s n c withdrawn
    → u ≡ counted t 0 withdrawn → Keeps (with_entry a (event.Edit edit) (Withdrawn withdrawn)) u n
keeps_edit {a} {t} {s} keeps u n edit c withdrawn room of is noted =
    let plan = plan_of a.rules in let base = (state_of a).base in
    keeps_next a t u s n (event.Edit edit) (Withdrawn withdrawn) keeps room (record {
      state = stored_next plan (event.Edit edit) (state_of a) (state_by base s) (fill_after plan edit (is_filled s.filled)) n keeps.state (edited plan base s n edit c withdrawn of is);
      raster = is.raster;
      bits = is.bits;
      pieces = pieces_kept plan.raster plan.spacing (metal_after edit (in_layer s.drawn.metal)) n.drawn.metal n.pieces.items c.drawn.metal c.pieces.items (ap (λ (d : Drawn). d.metal) is.drawn) (ap (λ v. v.items) is.pieces) of.metal of.pieces;
      existing_pieces = existing_kept plan.raster plan.fill_spacing n.drawn.existing s.drawn.existing n.existing_pieces.items s.existing_pieces.items (ap (λ (d : Drawn). d.existing) is.drawn ∙ of.existing) (ap (λ v. v.items) is.existing_pieces) keeps.fits.existing_pieces;
      keep_pieces = pieces_kept plan.raster (pos 0) (keep_after edit (in_layer s.keep)) n.keep n.keep_pieces.items c.keep c.keep_pieces.items is.keep (ap (λ v. v.items) is.keep_pieces) of.keep of.keep_pieces;
      version = one_more n.version s.version is.version;
      answer = edit_answer keeps n edit c withdrawn of is;
      totals = noted;
    })
  where
    one_more : (n s : ℕ) → n ≡ s + 1 → n ≤ s + 1
    one_more n s e = omega (arith, e)

-- what a proposal that is the same says
pub record IsBrought (rules : Values) (s : Stored) (version tile : ℕ) (read : ReadSet) (same : Bool) (m : Marked) : Type 0 where
  pub is_same : IsSame rules (state_by no_places s) version tile read same
  pub marked : (i j : ℤ) → is_marked m i j ≡ wanted_of read tile i j

-- its marks are of its tile
pub marks_in_tile : (rules : Values) (s : Stored) (version tile : ℕ) (read : ReadSet) (same : Bool) (m : Marked) → Fits (plan_of rules) s → IsBrought rules s version tile read same m
    → same ≡ true → (i j : ℤ) → is_marked m i j ≡ true → in_tile s.filled.raster tile i j ≡ true
marks_in_tile rules s version tile read same m fits is all i j h =
    let t = is.is_same.0 all in
    let wanted : wanted_of (read_set rules (stored_layers s) (windows_in s.low) tile) tile i j ≡ true = ap (λ (r : ReadSet). wanted_of r tile i j) (sym t.2) ∙ (sym (is.marked i j) ∙ h) in
    rw fits.raster (and_parts (in_tile (plan_of rules).raster tile i j) _ wanted).0

pub commit_answer : {a : Account} {t : Totals} {s : Stored} → Keeps a t s → (n : Stored) (version tile : ℕ) (read : ReadSet) (same : Bool) (m : Marked) (placed : ℕ) (refusal : Reply) → IsBrought a.rules s version tile read same m → IsTakenIn s n same tile m placed
    → refusal ≡ commit_reply (plan_of a.rules) (state_by no_places s) version tile false
    → cond same (Placed placed) refusal ≡ reply_of (plan_of a.rules) (state_of a) (event.Commit version tile same)
commit_answer {a} {t} {s} keeps n version tile read same m placed refusal is taken refused =
    answered a.rules (state_of a).base s n version tile read same m placed refusal keeps.plan keeps.fits.raster is.is_same is.marked taken refused
    ∙ ap (λ (q : State). reply_of (plan_of a.rules) q (event.Commit version tile same)) (sym keeps.state)

pub keeps_commit : {a : Account} {t : Totals} {s : Stored} → Keeps a t s → (u : Totals) (n : Stored) (version tile : ℕ) (read : ReadSet) (same : Bool) (m : Marked) (placed : ℕ) (reply : Reply) → (length a.history ≡ a.most → ⊥)
    → IsBrought a.rules s version tile read same m → IsTakenIn s n same tile m placed → reply ≡ reply_of (plan_of a.rules) (state_of a) (event.Commit version tile same)
    → u ≡ counted t (placed_by reply) (withdrawn_by reply) → Keeps (with_entry a (event.Commit version tile same) reply) u n
keeps_commit {a} {t} {s} keeps u n version tile read same m placed reply room is taken answer noted =
    let plan = plan_of a.rules in let base = (state_of a).base in
    keeps_next a t u s n (event.Commit version tile same) reply keeps room (record {
      state = stored_next plan (event.Commit version tile same) (state_of a) (state_by base s) base n keeps.state (committed a.rules base s n version tile read same m placed keeps.plan is.is_same is.marked taken);
      raster = taken.raster;
      bits = taken.bits;
      pieces = pieces_kept plan.raster plan.spacing (in_layer s.drawn.metal) n.drawn.metal n.pieces.items s.drawn.metal s.pieces.items (ap (λ (d : Drawn). d.metal) taken.drawn) (ap (λ v. v.items) taken.pieces) (λ x y. refl) keeps.fits.pieces;
      existing_pieces = existing_kept plan.raster plan.fill_spacing n.drawn.existing s.drawn.existing n.existing_pieces.items s.existing_pieces.items (ap (λ (d : Drawn). d.existing) taken.drawn) (ap (λ v. v.items) taken.existing_pieces) keeps.fits.existing_pieces;
      keep_pieces = pieces_kept plan.raster (pos 0) (in_layer s.keep) n.keep n.keep_pieces.items s.keep s.keep_pieces.items taken.keep (ap (λ v. v.items) taken.keep_pieces) (λ x y. refl) keeps.fits.keep_pieces;
      version = same_version n.version s.version taken.version;
      answer = answer;
      totals = noted;
    })
  where
    same_version : (n s : ℕ) → n ≡ s → n ≤ s + 1
    same_version n s e = omega (arith, e)

-- a refusal counts nothing
refusal_counts : (plan : Plan) (s : State) (version tile : ℕ) → (placed_by (commit_reply plan s version tile false) ≡ 0) × (withdrawn_by (commit_reply plan s version tile false) ≡ 0)
refusal_counts plan s version tile = elim (cases_Bool (version == s.version)) [
  | inr other ↦ (rw other refl, rw other refl)
  | inl at ↦ elim (cases_Bool (s.tiles_in tile)) [
    | inl already ↦ (rw (at, already) refl, rw (at, already) refl)
    | inr out ↦ (rw (at, out) refl, rw (at, out) refl)
  ]
]

-- so the numbers that a commit is noted with are those of its reply
pub commit_counts : (plan : Plan) (s n : Stored) (version tile : ℕ) (same : Bool) (m : Marked) (placed : ℕ) (refusal reply : Reply) → IsTakenIn s n same tile m placed → refusal ≡ commit_reply plan (state_by no_places s) version tile false
    → reply ≡ cond same (Placed placed) refusal → (placed ≡ placed_by reply) × (0 ≡ withdrawn_by reply)
commit_counts plan s n version tile true m placed refusal reply taken refused is = (sym (ap placed_by is), sym (ap withdrawn_by is))
commit_counts plan s n version tile false m placed refusal reply taken refused is =
    let none = refusal_counts plan (state_by no_places s) version tile in let reply_is = is ∙ refused in
    (none_placed s n tile m placed taken ∙ (sym none.0 ∙ sym (ap placed_by reply_is)), sym none.1 ∙ sym (ap withdrawn_by reply_is))

-- what a commit found, did and answered
pub record IsDone (a : Account) (s n : Stored) (version tile : ℕ) (read : ReadSet) (same : Bool) (m : Marked) (placed : ℕ) (reply : Reply) : Type 0 where
  pub brought : IsBrought a.rules s version tile read same m
  pub taken : IsTakenIn s n same tile m placed
  pub answer : reply ≡ reply_of (plan_of a.rules) (state_of a) (event.Commit version tile same)
  pub counts : (placed ≡ placed_by reply) × (0 ≡ withdrawn_by reply)

pub commit_done : {a : Account} {t : Totals} {s : Stored} → Keeps a t s → (n : Stored) (version tile : ℕ) (read : ReadSet) (same : Bool) (m : Marked) (placed : ℕ) (refusal reply : Reply) → IsBrought a.rules s version tile read same m → IsTakenIn s n same tile m placed
    → ((plan : Plan) → refusal ≡ commit_reply plan (state_by no_places s) version tile false) → reply ≡ cond same (Placed placed) refusal → IsDone a s n version tile read same m placed reply
commit_done {a} {t} {s} keeps n version tile read same m placed refusal reply is taken refused answer = record {
  brought = is;
  taken = taken;
  answer = answer ∙ commit_answer keeps n version tile read same m placed refusal is taken (refused (plan_of a.rules));
  counts = commit_counts (plan_of a.rules) s n version tile same m placed refusal reply taken (refused (plan_of a.rules)) answer;
}

pub counted_as : (t u : Totals) (p q w v : ℕ) → u ≡ counted t p w → p ≡ q → w ≡ v → u ≡ counted t q v
counted_as t u p q w v is placed withdrawn = rw (placed, withdrawn) at is

pub moved_as : (h k : Held) (p q w v : ℕ) → k ≡ moved_by h p w → p ≡ q → w ≡ v → k ≡ moved_by h q v
moved_as h k p q w v is placed withdrawn = rw (placed, withdrawn) at is

-- what was found of the stored state holds of the account's
pub same_now : {a b : Account} {t : Totals} {s : Stored} → Keeps a t s → a ≡ b → (version tile : ℕ) (read : ReadSet) (same : Bool) → IsSame a.rules (state_by no_places s) version tile read same → IsSame b.rules (state_of b) version tile read same
same_now {a} {b} {t} {s} keeps at version tile read same is =
    subst (λ (k : Account). IsSame k.rules (state_of k) version tile read same) at (subst (λ (q : State). IsSame a.rules q version tile read same) (sym keeps.state) is)

-- the book opens
pub keeps_opening : (rules : Values) (metal existing keep : List Sides) (most : ℕ) (t : Totals) (s : Stored) → IsPlan (plan_of rules) → Fits (plan_of rules) s → state_by no_places s ≡ opening (plan_of rules) (layers_in metal existing keep) → most ≤ 2 ^ 32
    → t ≡ record { calls = 0; placed = 0; withdrawn = 0 } → Keeps (record { rules = rules; opening = metal; existing = existing; keep = keep; history = []; most = most }) t s
unfolding replay_from replies_from
keeps_opening rules metal existing keep most t s plan fits state bound none =
    record {
      plan = plan;
      fits = fits;
      state = sym state;
      legal = refl;
      version = at_first s.version (ap (λ (q : State). q.version) state);
      room = least most;
      most = bound;
      totals = none;
    }
  where
    at_first : (v : ℕ) → v ≡ 0 → v ≤ 0
    at_first v e = omega (arith, e)

    least : (n : ℕ) → 0 ≤ n
    least n = omega arith

pub if_some : {X : Type 0} {P : X → Type 0} (o : Option X) → ((x : X) → o ≡ Some x → P x) → IfSome o P
if_some None h = tt
if_some (Some x) h = h x refl

-- what was brought keeps clear of what is drawn
pub clear_by_commit : {a : Account} {t : Totals} {s : Stored} → Keeps a t s → (version tile : ℕ) (read : ReadSet) (same : Bool) (m : Marked) → IsBrought a.rules s version tile read same m → same ≡ true
    → KeepsClear s.filled.raster (λ i j. is_filled s.filled i j || is_marked m i j) (is_drawn s.drawn)
clear_by_commit {a} {t} {s} keeps version tile read same m is all =
    let marks = (λ (i j : ℤ). is_filled s.filled i j || is_marked m i j) in
    clear_same (plan_of a.rules).raster s.filled.raster marks marks (is_drawn s.drawn) (is_drawn s.drawn) keeps.fits.raster (λ i j. refl) (λ x y. refl)
    (clear_commit a s (state_of a).base version tile read m keeps.plan keeps.state (subst (λ (b : Bool). IsSame a.rules (state_by no_places s) version tile read b) all is.is_same) is.marked)

-- what is measured at the opening is what is drawn
pub design_drawn : (design : Pieces) (metal existing drawn region : List Sides) → metal ≡ design.metal → existing ≡ design.fill → ((x y : ℤ) → holds drawn x y ≡ holds metal x y || holds existing x y) → region ≡ drawn
    → holds region ≡ drawn_squares (layers_of design)
design_drawn design metal existing drawn region metal_is existing_is both same =
    ap (λ (b : List Sides). holds b) same ∙ same_set (holds drawn) (drawn_squares (layers_of design))
    (λ x y. both x y ∙ (ap (λ (b : List Sides). holds b x y || holds existing x y) metal_is ∙ ap (λ (b : List Sides). holds design.metal x y || holds b x y) existing_is))

-- the first squares are those of the design
pub opening_squares : (rules : Values) (s : Stored) (layers : Layers) → Fits (plan_of rules) s → state_by no_places s ≡ opening (plan_of rules) layers → (is_drawn s.drawn ≡ drawn_squares layers) × (squares_in s ≡ drawn_squares layers)
opening_squares rules s layers fits state =
    let plan = plan_of rules in
    let drawn : is_drawn s.drawn ≡ drawn_squares layers = ap (λ (q : State). drawn_squares q.layers) state in
    let fill : is_filled s.filled ≡ no_places = ap (λ (q : State). q.fill) state in (
      drawn,
      ap (λ r. drawn_or_box r (is_filled s.filled) (is_drawn s.drawn)) fits.raster
          ∙ (ap (λ (f : PointSet). with_boxes plan (is_drawn s.drawn) f) fill ∙ (ap (λ (f : PointSet). with_boxes plan f no_places) drawn ∙ no_boxes plan (drawn_squares layers))),
    )

-- what tells the areas of a change tells those of what is stored after it
pub changed_stands : (P : PointSet → PointSet → Type 0) (s n : Stored) (c : Change) (withdrawn : ℕ) → IsChanged s n c withdrawn → P (is_drawn c.drawn) (drawn_or_box s.filled.raster (left_by s.filled c.out) (is_drawn c.drawn)) → P (is_drawn n.drawn) (squares_in n)
changed_stands P s n c withdrawn is stands =
    let same : drawn_or_box s.filled.raster (left_by s.filled c.out) (is_drawn n.drawn) ≡ squares_in n = same_squares s.filled.raster n.filled.raster (left_by s.filled c.out) (is_filled n.filled) (is_drawn n.drawn) is.raster is.filled in
    subst (λ (p : PointSet). P (is_drawn n.drawn) p) same (subst (λ (b : Drawn). P (is_drawn b) (drawn_or_box s.filled.raster (left_by s.filled c.out) (is_drawn b))) (sym is.drawn) stands)

-- what is stored is what there is to read
pub read_now : {a b : Account} {t : Totals} {s : Stored} → Keeps a t s → a ≡ b → (rules : Values) (tile : ℕ) → rules ≡ a.rules → read_set rules (stored_layers s) (windows_in s.low) tile ≡ read_set b.rules (state_of b).layers (state_of b).low tile
read_now {a} {b} {t} {s} keeps at rules tile same =
    subst (λ (k : Account). read_set rules (stored_layers s) (windows_in s.low) tile ≡ read_set k.rules (state_of k).layers (state_of k).low tile) at
    (ap (λ (v : Values). read_set v (stored_layers s) (windows_in s.low) tile) same ∙ ap (λ (q : State). read_set a.rules q.layers q.low tile) (sym keeps.state))
