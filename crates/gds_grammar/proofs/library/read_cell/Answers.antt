use Rattle.std.proofs.Common.{◌≡◌, ℕ, Bool, true, false, List, [], map, sym, ap, ◌∙◌, arith}
use Rattle.std.proofs.lemmas.Result.{err_from_is_err_and}
use Rattle.fill_base.specs.declared.layer.Layer.{Layer}
use Rattle.gds_record.specs.Numbers.{trimmed}
use Rattle.gds_grammar.specs.Values.{Cell, Contents, cell_of, shape_of, contents_of}
use Rattle.gds_grammar.specs.Layers.{kept_cell, kept}
use Rattle.gds_grammar.specs.Grammar.{has_name}
use Rattle.gds_grammar.specs.Machine.{Opened, Named, Between, with_cell}
use Rattle.gds_grammar.specs.steps.Keeping.{keeps}
use Rattle.gds_grammar.proofs.Keeping.{name_kept, cell_kept}
use Rattle.gds_grammar.proofs.Paths.{and_then, fails_after, open_opened, only_strname, name_fresh, name_taken, no_longer, shorter}
use Rattle.gds_grammar.proofs.library.read_cell.Goals as goal

-- the name is looked up among the cells that are kept
looked_up : (keep : Layer → Bool) (l m : Contents) (n name : List ℕ) (b found : Bool) → kept keep l ≡ m → n ≡ name → found ≡ has_name m.cells n → found ≡ b → has_name l.cells name ≡ b
looked_up keep l m n name b found same named is e =
    sym (name_kept keep l.cells name) ∙ ap (λ x. has_name x.cells name) same ∙ ap (has_name m.cells) (sym named) ∙ sym is ∙ e

pub returns-in_err-body-clause-refused : goal.returns-in_err-body-clause-refused
returns-in_err-body-clause-refused c =
    let p = err_from_is_err_and c.from_residual.result c.from_residual.ensures.1 in
    rw (p.1, p.2) (λ l same. c.in_err-body.ensures.refused (Opened l) (open_opened l) (only_strname l))

pub returns-then-has_cell-clause-refused : goal.returns-then-has_cell-clause-refused
returns-then-has_cell-clause-refused c =
    rw c.refused.ensures (λ l same.
    let taken = looked_up (keeps c.args.wanted) l (contents_of c.args.library.now) _ (trimmed c.in_ok-body.body.now) true _ same c.name-cell.ensures c.has_cell.ensures c.if-has_cell.true in
    name_taken c.args.bytes.now _ _ l c.in_ok-body.ensures.found taken)

pub returns-in_err-elements-clause-refused : goal.returns-in_err-elements-clause-refused
returns-in_err-elements-clause-refused c =
    let p = err_from_is_err_and c.from_residual-in_err-elements.result c.from_residual-in_err-elements.ensures.1 in
    let n = trimmed c.in_ok-body.body.now in
    rw (p.1, p.2) (λ l same.
    let fresh = looked_up (keeps c.args.wanted) l (contents_of c.args.library.now) _ n false _ same c.name-cell.ensures c.has_cell.ensures c.if-has_cell.false in
    fails_after c.args.bytes.now c.in_ok-body.after.now (Opened l) (Named l n) _ (name_fresh c.args.bytes.now _ _ l c.in_ok-body.ensures.found fresh) (c.in_err-elements.ensures.refused l n))

pub returns-clause-found : goal.returns-clause-found
returns-clause-found c = λ l same.
    let library = c.args.library.now in
    let n = trimmed c.in_ok-body.body.now in
    let all = c.in_ok-elements.ensures.found in
    let fresh = looked_up (keeps c.args.wanted) l (contents_of c.args.library.now) _ n false _ same c.name-cell.ensures c.has_cell.ensures c.if-has_cell.false in
    record {
      contents = with_cell l n all.0;
      kept_are = cell_kept (keeps c.args.wanted) l n c.in_ok-cell.cell.items library.dates library.units all.0 (map shape_of c.in_ok-elements.elements.items) (map cell_of library.cells.entries) _ same
          (c.in_ok-cell.ensures.items ∙ c.name-cell.ensures) all.1 c.in_ok-add_cell.ensures;
      reached = and_then c.args.bytes.now c.in_ok-body.after.now c.in_ok-elements.rest.now (Opened l) (Named l n) (Between (with_cell l n all.0))
          (name_fresh c.args.bytes.now _ _ l c.in_ok-body.ensures.found fresh) (all.2 l n);
    }

no_contents : Contents
no_contents = record { dates = []; units = []; cells = [] }

pub returns-clause-shorter : goal.returns-clause-shorter
returns-clause-shorter c =
    let first = c.in_ok-body.ensures.found in
    omega (arith, shorter c.args.bytes.now c.in_ok-body.after.now first.first first.next, no_longer c.in_ok-body.after.now c.in_ok-elements.rest.now _ _ (c.in_ok-elements.ensures.found.2 no_contents []))
