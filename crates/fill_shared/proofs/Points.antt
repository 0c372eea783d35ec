-- What a call tells of the book under the lock, of which the caller's pass is one.
use Rattle.std.proofs.Common.{◌≡◌, ◌∙◌, sym, ap, subst, arith, ℕ, ◌+◌, ◌^◌, ◌<◌, ◌≤◌, ℤ, pos, None, Some, IfOk, length}
use Rattle.std.specs.Prelude.{Option, Result}
use Rattle.std.proofs.lemmas.Result.{IfOk-weaker}
use Rattle.fill_area.specs.Grid.{Grid}
use Rattle.fill_raster.specs.Lattice.{tiles}
use Rattle.fill_raster.proofs.Tiling.{tiles_few}
use Rattle.fill_text.specs.declared.script.Edit.{Edit}
use Rattle.fill_job.specs.Plans.{drawn_squares, plan_of}
use Rattle.fill_job.specs.declared.job.Job.{Job}
use Rattle.fill_core.specs.Accounts.{Account, IsEdited, IsKeeping, state_of, terms_of}
use Rattle.fill_core.specs.Boxes.{count_places, total_in}
use Rattle.fill_core.specs.Shares.{Held, IsWhole, IsWithin, totals_of}
use Rattle.fill_core.specs.Terms.{Terms}
use Rattle.fill_core.specs.Tiles.{next_tile}
use Rattle.fill_core.specs.declared.book.BookError.{BookError}
use Rattle.fill_core.specs.declared.event.Reply.{Reply}
use Rattle.fill_core.proofs.Searched.{next_first, next_none}
use Rattle.fill_shared.specs.Passes.{HasCounted}
use Rattle.fill_shared.specs.Sharing.{AtSomePoint, IsCompleteAt, IsFull, IsLook, IsSeen}
use Rattle.fill_shared.specs.Working.{Ends, IsNext, Stops}
use Rattle.fill_shared.specs.declared.worker.WorkEnd.TheVariants.{Full}
use Rattle.fill_shared.specs.declared.shared.Look.TheVariants.{Work}

-- the book before the call keeps what every book keeps, and has at least the caller's events
pub record IsPoint (t : Terms) (a : Account) (held : Held) : Type 0 where
  pub keeping : IsKeeping a
  pub under : terms_of a ≡ t
  pub within : IsWithin held (totals_of a.history)

pub edited_at : (t : Terms) (r : Result Reply BookError) (a b d : Account) (h k m : Held) (edit : Edit) → IsPoint t a h → (b ≡ a) × (k ≡ h) → IfOk r (λ reply. IsEdited b d k m edit reply)
    → IfOk r (λ reply. AtSomePoint t h.calls (λ x. (y : Account) × IsEdited x y h m edit reply))
edited_at t r a b d h k m edit at same written =
    IfOk-weaker r _ _ (λ reply w. (a, at.keeping, at.under, at.within.calls, (d, subst (λ (z : Account). IsEdited z d h m edit reply) same.0 (subst (λ (z : Held). IsEdited b d z m edit reply) same.1 w)))) written

pub complete_at : (t : Terms) (a b : Account) (h : Held) (from version : ℕ) (r : Option ℕ) → IsPoint t a h → b ≡ a → r ≡ next_tile (tiles (plan_of b.rules).raster) (state_of b).tiles_in from → r ≡ None → version ≡ (state_of b).version
    → AtSomePoint t h.calls (IsCompleteAt version)
complete_at t a b h from version r at same first none is =
    (a, at.keeping, at.under, at.within.calls, subst (IsCompleteAt version) same ((next_none (tiles (plan_of b.rules).raster) (state_of b).tiles_in from).0 (sym first ∙ none), is))

-- the total of a window that the book's rules have
pub seen_at : (t : Terms) (a b : Account) (h : Held) (m n : ℕ) (windows : Grid) (columns rows version events : ℕ) (total : ℤ) → IsPoint t a h → b ≡ a → windows ≡ (plan_of b.rules).windows → columns ≡ windows.across.count → rows ≡ windows.up.count → m < columns → n < rows
    → version ≡ (state_of b).version → events ≡ length b.history → total ≡ pos (total_in (plan_of b.rules) (drawn_squares (state_of b).layers) (state_of b).fill m n)
    → AtSomePoint t h.calls (λ k. IsSeen k m n (Some (record { version = version; events = events; total = total })))
seen_at t a b h m n windows columns rows version events total at same windows_is columns_is rows_is column row version_is events_is total_is =
    let across : m < (plan_of b.rules).windows.across.count = subst (λ (w : Grid). m < w.across.count) windows_is (rw columns_is at column) in
    let up : n < (plan_of b.rules).windows.up.count = subst (λ (w : Grid). n < w.up.count) windows_is (rw rows_is at row) in
    (a, at.keeping, at.under, at.within.calls, subst (λ (k : Account). IsSeen k m n (Some (record { version = version; events = events; total = total }))) same ((across, up), version_is, events_is, total_is))

-- a pass with all parts has counted all that happened
pub counted_all : (a b : Account) (pass : Held) → IsKeeping a → b ≡ a → pass.parts ≡ 1024 → (pass.parts ≡ 1024 → IsWhole pass (totals_of a.history)) → HasCounted b pass
counted_all a b pass keeping same all whole =
    let w = whole all in
    rw same (record { all = all; whole = w; calls = w.calls; boxes = ap (λ (n : ℕ). count_places (plan_of a.rules).raster (state_of a).fill + n) w.withdrawn ∙ (keeping.count ∙ sym w.placed) })

-- the tile of a job is one of few
pub few_tiles : (a : Account) (from tile : ℕ) → IsKeeping a → next_tile (tiles (plan_of a.rules).raster) (state_of a).tiles_in from ≡ Some tile → tile + 1 < 2 ^ 32
few_tiles a from tile keeping next =
    let few : tiles (plan_of a.rules).raster ≤ 16777216 = tiles_few (plan_of a.rules).raster keeping.plan.raster in
    let exists : tile < tiles (plan_of a.rules).raster = (next_first (tiles (plan_of a.rules).raster) (state_of a).tiles_in from tile next).exists in
    omega arith

pub job_few : (t : Terms) (held from n : ℕ) (job : Job) → n ≡ job.tile → AtSomePoint t held (λ a. IsLook a from (Work job)) → n + 1 < 2 ^ 32
job_few t held from n job is p =
    let few : p.4.0 + 1 < 2 ^ 32 = few_tiles p.0 from p.4.0 p.1 p.4.1 in
    let e : n ≡ p.4.0 = is ∙ p.4.2.tile_is in
    omega arith

-- a turn into a full history is no call, and found a tile
pub full_turn : (t : Terms) (from : ℕ) (job : Job) (h k m : Held) → k ≡ h → m ≡ k → AtSomePoint t h.calls (λ a. IsLook a from (Work job)) → AtSomePoint t k.calls IsFull → (m ≡ h) × Ends t 1 h m Full × Stops t from h Full
full_turn t from job h k m e f look p =
    let s : m ≡ h = f ∙ e in
    let n : m.calls ≡ h.calls = ap (λ (x : Held). x.calls) s in
    let next : AtSomePoint t h.calls (IsNext from look.4.0) = (look.0, look.1, look.2, look.3, look.4.1) in
    (s, ((omega arith, omega arith), subst (λ (x : Held). AtSomePoint t x.calls IsFull) (sym f) p), ((look.4.0, next), subst (λ (x : Held). AtSomePoint t x.calls IsFull) e p))
