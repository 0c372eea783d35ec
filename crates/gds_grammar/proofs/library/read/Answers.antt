use Rattle.std.proofs.Common.{Bool, [], map, ap, sym, subst}
use Rattle.std.proofs.lemmas.Result.{err_from_is_err_and}
use Rattle.gds_grammar.specs.Values.{cell_of, contents_of}
use Rattle.gds_grammar.specs.Machine.{Start, Between}
use Rattle.gds_grammar.specs.steps.Reading.{Reaches, after_cell}
use Rattle.gds_grammar.proofs.Paths.{and_then, fails_after}
use Rattle.gds_grammar.proofs.library.read.Goals as goal

pub cells-init : goal.cells-init
cells-init c = record {
  contents = record { dates = c.in_ok-dates.field-0-0.dates; units = c.in_ok-dates.field-0-0.units; cells = [] };
  kept_are = ap (λ cells. record { dates = c.in_ok-dates.field-0-0.dates; units = c.in_ok-dates.field-0-0.units; cells = cells }) (sym (ap (map cell_of) c.with_hasher.ensures.empty));
  reached = c.in_ok-dates.ensures.found;
}

pub returns-in_err-ended-clause-refused : goal.returns-in_err-ended-clause-refused
returns-in_err-ended-clause-refused c =
    let p = err_from_is_err_and c.from_residual-in_err-ended.result c.from_residual-in_err-ended.ensures.1 in
    let w = c.cells.invariant in
    rw (p.1, p.2) (fails_after c.args.bytes.now c.cells.rest.now Start (Between w.contents) _ w.reached (c.in_err-ended.ensures.refused w.contents w.kept_are))

pub returns-then-ended-clause-found : goal.returns-then-ended-clause-found
returns-then-ended-clause-found c =
    let w = c.cells.invariant in
    let here = Between w.contents in
    let led = c.in_ok-ended.ensures.found w.contents w.kept_are in
    record {
      contents = led.contents;
      kept_are = led.kept_are;
      reached = and_then c.args.bytes.now c.cells.rest.now c.in_ok-ended.after.now Start here _ w.reached
          (subst (λ (b : Bool). Reaches c.cells.rest.now here c.in_ok-ended.after.now (after_cell b led.contents)) c.if-ended.true led.reached);
    }

pub cells-preserved : goal.cells-preserved
cells-preserved c =
    let w = c.cells.invariant in
    let here = Between w.contents in
    let led = c.in_ok-ended.ensures.found w.contents w.kept_are in
    record {
      contents = led.contents;
      kept_are = led.kept_are;
      reached = and_then c.args.bytes.now c.cells.rest.now c.in_ok-ended.after.now Start here _ w.reached
          (subst (λ (b : Bool). Reaches c.cells.rest.now here c.in_ok-ended.after.now (after_cell b led.contents)) c.if-ended.false led.reached);
    }
