use Rattle.std.proofs.Common.{◌≡◌, refl, ap, Err, ℕ, ◌≤◌, length, arith}
use Rattle.std.proofs.lemmas.Result.{err_from_is_err_and}
use Rattle.densfill_io.specs.Taps.{under}
use Rattle.densfill_engine.specs.Joining.{IsPartTaken, IsUntaken}
use Rattle.densfill_engine.specs.declared.refusal.InputFault.TheVariants.{Refused, Unread}
use Rattle.densfill_engine.proofs.Checking.{of_taken}
use Rattle.densfill_engine.proofs.Joined.{unread}
use Rattle.densfill_engine.proofs.joining.join_part.Goals as goal

no_more : (n m : ℕ) → m ≡ n → m ≤ 2147483648 → n ≤ 2147483648
no_more n m e h = omega (arith, e, h)

pub returns-in_err-parts-clause-refused : goal.returns-in_err-parts-clause-refused
returns-in_err-parts-clause-refused g c =
    let p = err_from_is_err_and c.from_residual-in_err-parts.result c.from_residual-in_err-parts.ensures.1 in
    let items = c.in_ok-bytes.bytes.items in
    rw (p.1, p.2)
    (of_taken (g.P.Read.remaining (under c.args.tap.now)) items items (λ bytes. IsUntaken c.args.parts bytes (Refused c.in_err-parts.field-0.0)) c.in_ok-bytes.ensures.bytes refl
    (no_more (length items) c.in_ok-bytes.bytes.len c.in_ok-bytes.bytes.ok.0 c.in_ok-bytes.ensures.short, rw c.deref.ensures.value at c.in_err-parts.ensures.refused))

pub returns-clause-taken : goal.returns-clause-taken
returns-clause-taken g c =
    let items = c.in_ok-bytes.bytes.items in
    let t = rw c.deref.ensures.value at c.in_ok-parts.ensures.taken in
    of_taken (g.P.Read.remaining (under c.args.tap.now)) items items (λ bytes. IsPartTaken c.args.parts c.in_ok-parts.parts bytes) c.in_ok-bytes.ensures.bytes refl
    (record { short = no_more (length items) c.in_ok-bytes.bytes.len c.in_ok-bytes.bytes.ok.0 c.in_ok-bytes.ensures.short; design = t.0; first = t.1; taken = t.2 })

pub returns-in_err-bytes-clause-refused : goal.returns-in_err-bytes-clause-refused
returns-in_err-bytes-clause-refused g c =
    let p = err_from_is_err_and c.from_residual.result c.from_residual.ensures.1 in
    rw (p.1, p.2) (unread c.args.parts (g.P.Read.remaining (under c.args.tap.now)) c.in_err-bytes.field-0.0 (Unread c.in_err-bytes.field-0.0) refl (λ e. c.in_err-bytes.ensures.long (ap Err e)))
