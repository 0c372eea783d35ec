-- Turns of a worker, one more at a time.
use Rattle.std.proofs.Common.{◌≡◌, ◌∙◌, ap, sym, subst, refl, arith, ℕ, suc, ◌+◌, ◌<◌}
use Rattle.fill_job.specs.Basis.{read_by}
use Rattle.fill_job.specs.ReadSets.{ReadSet, read_set}
use Rattle.fill_job.specs.declared.job.Job.{Job}
use Rattle.fill_core.specs.Accounts.{Account, IsCommitted, state_of}
use Rattle.fill_core.specs.Shares.{Held}
use Rattle.fill_core.specs.Terms.{Terms}
use Rattle.fill_core.specs.declared.event.Reply.{Reply}
use Rattle.fill_shared.specs.Sharing.{AtSomePoint, IsLook}
use Rattle.fill_shared.specs.Working.{AreTurns, HasBrought, HasTurned, IsBrought, IsOver, Stops}
use Rattle.fill_shared.specs.declared.shared.Look.TheVariants.{Work}
use Rattle.fill_shared.specs.declared.worker.WorkEnd.{WorkEnd}
use Rattle.fill_shared.specs.declared.worker.WorkEnd.TheVariants.{Done, Tired, Full, Memory}

-- some account was answered so
abbrev pub IsWritten : Terms → Held → Held → ℕ → ℕ → ReadSet → Reply → Type 0
IsWritten t held after version tile read reply = AtSomePoint t held.calls (λ b. (c : Account) × IsCommitted b c held after version tile read reply)

-- what was looked up, proposed and committed is what was to be read
pub brought : (t : Terms) (a : Account) (held k after : Held) (from version tile : ℕ) (read : ReadSet) (job : Job) (reply : Reply) → k ≡ held → (look : IsLook a from (Work job))
    → version ≡ job.version → tile ≡ job.tile → read ≡ read_by job.basis → IsWritten t k after version tile read reply → IsBrought t look.0 held after a
brought t a held k after from version tile read job reply same look v u r w =
    let s = state_of a in
    let version_is : version ≡ s.version = v ∙ look.2.version in
    let tile_is : tile ≡ look.0 = u ∙ look.2.tile_is in
    let read_is : read ≡ read_set a.rules s.layers s.low look.0 = r ∙ look.2.read in
    let here : IsWritten t held after s.version look.0 (read_set a.rules s.layers s.low look.0) reply =
    subst (λ (x : ℕ). IsWritten t held after x look.0 (read_set a.rules s.layers s.low look.0) reply) version_is
    (subst (λ (x : ℕ). IsWritten t held after version x (read_set a.rules s.layers s.low look.0) reply) tile_is
    (subst (λ (x : ReadSet). IsWritten t held after version tile x reply) read_is (subst (λ (x : Held). IsWritten t x after version tile read reply) same w))) in
    (here.0, here.1, here.2, here.3, (here.4.0, reply, here.4.1))

pub turned : (t : Terms) (held k after : Held) (from n version tile : ℕ) (read : ReadSet) (job : Job) (reply : Reply) → k ≡ held → n ≡ job.tile → AtSomePoint t held.calls (λ a. IsLook a from (Work job))
    → version ≡ job.version → tile ≡ job.tile → read ≡ read_by job.basis → IsWritten t k after version tile read reply → HasTurned t from held (n + 1) after
turned t held k after from n version tile read job reply same is p v u r w = record {
  tile = p.4.0;
  brought = (p.0, p.1, p.2, p.3, (p.4.1, brought t p.0 held k after from version tile read job reply same p.4 v u r w));
  behind = ap (λ (m : ℕ). m + 1) (is ∙ p.4.2.tile_is);
}

pub none_yet : (t : Terms) (from : ℕ) (held : Held) → AreTurns t 0 from held from held
unfolding AreTurns
none_yet t from held = (refl, refl)

pub one_more : (t : Terms) (n from : ℕ) (held : Held) (f : ℕ) (h : Held) (next : ℕ) (after : Held) → AreTurns t n from held f h → HasTurned t f h next after → AreTurns t (n + 1) from held next after
unfolding AreTurns
one_more t n from held f h next after before last =
    let e : suc n ≡ n + 1 = omega arith in
    subst (λ (k : ℕ). AreTurns t k from held next after) e (f, h, before, last)

pub stopped : (t : Terms) (limit from turns : ℕ) (held : Held) (next : ℕ) (then after : Held) (end : WorkEnd) → turns < limit → AreTurns t turns from held next then → after ≡ then → Stops t next then end → HasBrought t limit from held after end
stopped t limit from turns held next then after end below answered same stops = record {
  turns = turns;
  next = next;
  answered = subst (AreTurns t turns from held next) (sym same) answered;
  over = subst (λ (h : Held). IsOver t limit turns next h end) (sym same) (over end stops);
}
  where
    over : (end : WorkEnd) → Stops t next then end → IsOver t limit turns next then end
    over (Done version) s = (below, s)
    over Tired s = absurd s
    over Full s = (below, s)
    over Memory s = below
