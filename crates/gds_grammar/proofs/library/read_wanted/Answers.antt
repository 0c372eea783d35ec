use Rattle.std.proofs.Common.{◌≡◌, ◌<◌, ◌^◌, length, sym, ap, subst, ◌∙◌, arith}
use Rattle.gds_grammar.specs.Layers.{kept}
use Rattle.gds_grammar.specs.steps.Keeping.{keeps}
use Rattle.gds_grammar.specs.Outcomes.{IsRefused}
use Rattle.gds_grammar.proofs.Unique.{spells, one_value, only_memory, is_refused}
use Rattle.std.specs.Prelude.{◌⊎◌}
use Rattle.gds_grammar.specs.declared.error.LibraryError.{LibraryError}
use Rattle.gds_grammar.specs.declared.error.LibraryError.TheVariants.{Memory}
use Rattle.gds_grammar.proofs.Exact.{told, no_fault_told}
use Rattle.gds_grammar.proofs.library.read_wanted.Goals as goal

pub returns-in-Ok-clause-ok : goal.returns-in-Ok-clause-ok
returns-in-Ok-clause-ok c =
    let led = c.in-Ok.ensures.found in
    (led.contents, spells c.args.bytes.now _ led.contents led.reached, sym led.kept_are)

pub returns-in-Ok-clause-only : goal.returns-in-Ok-clause-only
returns-in-Ok-clause-only c = λ value s.
    let led = c.in-Ok.ensures.found in
    sym led.kept_are ∙ ap (kept (keeps c.args.wanted)) (one_value c.args.bytes.now _ led.contents value led.reached s)

pub returns-in-Err-clause-only : goal.returns-in-Err-clause-only
returns-in-Err-clause-only c = λ value s. c.error_of.ensures ∙ only_memory c.args.bytes.now c.in-Err.stop value c.in-Err.ensures.refused s

pub returns-in-Err-clause-refused : goal.returns-in-Err-clause-refused
returns-in-Err-clause-refused c =
    let few : length c.args.bytes.now < 2 ^ 64 = omega arith in
    subst (IsRefused c.args.bytes.now) (sym c.error_of.ensures) (is_refused c.args.bytes.now c.in-Err.stop c.in-Err.ensures.refused few)

pub returns-in-Ok-clause-exact : goal.returns-in-Ok-clause-exact
returns-in-Ok-clause-exact c = λ e fault.
    let few : length c.args.bytes.now < 2 ^ 64 = omega arith in
    let led = c.in-Ok.ensures.found in
    no_fault_told c.args.bytes.now e led.contents few (spells c.args.bytes.now _ led.contents led.reached) fault

pub returns-in-Err-clause-exact : goal.returns-in-Err-clause-exact
returns-in-Err-clause-exact c = λ e fault.
    let few : length c.args.bytes.now < 2 ^ 64 = omega arith in
    let Told : LibraryError → Type 0 = λ told. (told ≡ Memory) ⊎ (told ≡ e) in
    subst Told (sym c.error_of.ensures) (told c.args.bytes.now c.in-Err.stop e few c.in-Err.ensures.refused fault)
