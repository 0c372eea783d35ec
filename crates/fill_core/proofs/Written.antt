-- An account after one more entry, and what every account keeps.
use Rattle.std.proofs.Common.{◌≡◌, ap, sym, ◌∙◌, ℕ, ◌*◌, ◌^◌, ◌≤◌, arith, [], ◌∷◌, ◌++◌, length}
use Rattle.std.proofs.lemmas.List.{map-append, length-map}
use Rattle.fill_job.specs.Plans.{plan_of}
use Rattle.fill_core.specs.Accounts.{opening_of, with_entry}
use Rattle.fill_core.specs.Histories.{events_in, placed_in, replies_in, withdrawn_in}
use Rattle.fill_core.specs.Laws.{EntryIsAStep, AnswersStayLegal, LegalAccountsKeep}
use Rattle.fill_core.specs.Machine.{replay, replies}
use Rattle.fill_core.specs.declared.event.Entry.{Entry}
use Rattle.fill_core.proofs.Counts.{count_placed, sums_bounded}
use Rattle.fill_core.proofs.Replays.{replay_push, replies_push}
use Rattle.fill_core.proofs.Sound.{replay_sound}

-- the state after one more entry is the next one
pub state_with : EntryIsAStep
state_with a e reply =
    ap (λ es. replay (plan_of a.rules) (opening_of a) es) (map-append (λ (x : Entry). x.event) a.history (record { event = e; reply = reply } ∷ []))
    ∙ replay_push (plan_of a.rules) (opening_of a) (events_in a.history) e

-- the replies stay those of the replay where the last one is
pub legal_with : AnswersStayLegal
legal_with a e reply legal answer =
    let plan = plan_of a.rules in let layers = opening_of a in
    let heads : replies_in (with_entry a e reply).history ≡ replies_in a.history ++ reply ∷ [] = map-append (λ (x : Entry). x.reply) a.history (record { event = e; reply = reply } ∷ []) in
    let events : events_in (with_entry a e reply).history ≡ events_in a.history ++ e ∷ [] = map-append (λ (x : Entry). x.event) a.history (record { event = e; reply = reply } ∷ []) in
    heads ∙ (ap (λ rs. rs ++ reply ∷ []) legal ∙ (ap (λ r. replies plan layers (events_in a.history) ++ r ∷ []) answer ∙ (sym (replies_push plan layers (events_in a.history) e) ∙ ap (replies plan layers) (sym events))))

-- what a legal history of rules that make a plan keeps
pub keeping_of : LegalAccountsKeep
keeping_of a is legal room most =
    let plan = plan_of a.rules in let layers = opening_of a in let events = events_in a.history in
    let bounds = sums_bounded plan layers events is in
    let n : length events ≡ length a.history = length-map a.history (λ (x : Entry). x.event) in
    record {
      plan = is;
      sound = replay_sound plan layers events is;
      legal = legal;
      count = rw (legal) (count_placed plan layers events);
      room = room;
      most = most;
      placed = rw (legal) (few (placed_in (replies plan layers events)) (length events) (length a.history) a.most bounds.0 n room most);
      withdrawn = rw (legal) (few (withdrawn_in (replies plan layers events)) (length events) (length a.history) a.most bounds.1 n room most);
    }
  where
    few : (t n k m : ℕ) → t ≤ 16777216 * n → n ≡ k → k ≤ m → m ≤ 2 ^ 32 → t ≤ 2 ^ 56
    few t n k m le e room most = omega (arith, le, e, room, most)
