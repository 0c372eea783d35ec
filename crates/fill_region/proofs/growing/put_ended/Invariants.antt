use Rattle.std.proofs.Common.{ℤ, ◌<ℤ◌, Bool, take}
use Rattle.std.specs.Prelude.{All}
use Rattle.fill_region.specs.Steps.{MeetAt, AreEnded}
use Rattle.fill_region.proofs.Searching.{IsBefore}
use Rattle.fill_region.proofs.growing.put_ended.Given as goal

abbrev pub invariant-lower : goal.invariant-lower
invariant-lower l = IsBefore l.upper l.place l.lower l.rect-index
    × ((p : ℤ → ℤ → Bool) (at : ℤ) → MeetAt p at l.lower l.upper → AreEnded p l.lower l.upper (take l.rect-index l.lower) l.fn.ended.items l.ended.items)
    × ((line : ℤ) → All (λ r. r.y2 <ℤ line) l.lower → All (λ r. r.y2 <ℤ line) l.fn.ended.items → All (λ r. r.y2 <ℤ line) l.ended.items)
